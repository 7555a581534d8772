-- The variables of a query's tokens are those of its tree.
use Rattle.std.proofs.Common.{◌≡◌, ℕ, Bool, true, false, cond, ◌&&◌, ◌==◌, List, [], ◌∷◌, ◌++◌, map, Some, refl, sym, ap, ◌∙◌, append_assoc, append-nil}
use Rattle.std.specs.Prelude.{codes}
use Rattle.std.proofs.lemmas.Bool.{and_parts, or_parts}
use Rattle.tb_token.specs.grammar.Grammar.{Tok, Expression, one, both, either, maybe, many, has}
use Rattle.tb_token.specs.grammar.Sentences.{Tree, leaf, pair, first, second, Derives}
use Rattle.tb_token.specs.grammar.LL1.{are_apart}
use Rattle.tb_token.proofs.grammar.TerminalLaws.{none-true, has-left, has-right, apart-none}
use Rattle.tb_token.specs.tokens.Lexemes.{terminal_of}
use Rattle.tb_token.specs.grammar.Terminals.{keyword, sign, name, string, comma}
use Rattle.tb_token.specs.grammar.Patterns.{literal}
use Rattle.tb_token.specs.grammar.Paths.{step, steps, longpath, path, operand}
use Rattle.tb_token.specs.grammar.Results.{cons, braced, attr, piece, cons_rest, back}
use Rattle.tb_token.specs.grammar.Queries.{rules, query, flwor, bind, clause, where_part, group, key, order}
use Rattle.tb_token.specs.grammar.Queries as part
use Rattle.tb_token.specs.declared.lexer.token.Kind.TheVariants.{Word}
use Rattle.tb_token.specs.tokens.TerminalNames as terminals
use Rattle.tb_pattern.proofs.PartLaws.{Of, of_one, of_both, of_first, of_second, of_nothing, of_put, of_none, of_more, of_rule, derived-of, lacks}
use Rattle.tb_flwor.specs.Variables.{is_variable, binds, bound, is_known, begins_path, repeated_behind, unknown_behind}
use Rattle.tb_flwor.specs.Returned.{tokens_of}
use Rattle.tb_flwor.specs.Events as event
use Rattle.tb_flwor.specs.Events.{Event, names_of, unknown_after, repeated_after, used, owned, bound_by, in_path, in_own_path, in_longpath, in_operand, in_bind, in_binds, in_clause, in_clauses, in_right, in_cond, in_more_conds, in_conds, in_group, in_key, in_more_keys, in_keys, in_braced, in_content, in_attrs, in_cons, in_cons_rest, in_tail, in_pieces, in_piece, in_back, in_flwor, VariablesAgree}
use Rattle.tb_flwor.proofs.TokenLaws.{tokens-derived, swapped, has-one, second-of}

-- the events of tokens, where the token before them has this terminal

abbrev use_at : ℕ → Tok → Event
use_at b t = cond (begins_path b) (event.owns t) (event.uses t)

abbrev event_at : ℕ → Tok → List Tok → Event
event_at b t s = cond (binds s) (event.binds t) (use_at b t)

abbrev raw : ℕ → List Tok → List Event
raw b [] = []
raw b (t ∷ s) = cond (is_variable t.terminal) (event_at b t s ∷ raw t.terminal s) (raw t.terminal s)

-- What the tokens say is what their events do.

bound-by : (v k p : Bool) (t : Tok) (s : List Tok) → bound s ≡ names_of (raw t.terminal s)
    → cond (v && k) (t.bytes ∷ bound s) (bound s) ≡ names_of (cond v (cond k (event.binds t) (cond p (event.owns t) (event.uses t)) ∷ raw t.terminal s) (raw t.terminal s))
bound-by true true p t s h = ap (λ ns. t.bytes ∷ ns) h
bound-by true false true t s h = h
bound-by true false false t s h = h
bound-by false k p t s h = h

raw-bound : (b : ℕ) (s : List Tok) → bound s ≡ names_of (raw b s)
raw-bound b [] = refl
raw-bound b (t ∷ s) = bound-by (is_variable t.terminal) (binds s) (begins_path b) t s (raw-bound t.terminal s)

repeated-by : (v k p : Bool) (known : List (List ℕ)) (t : Tok) (s : List Tok) → ((ns : List (List ℕ)) → repeated_behind ns s ≡ repeated_after ns (raw t.terminal s))
    → cond (v && k) (cond (is_known known t.bytes) (Some t.number) (repeated_behind (known ++ t.bytes ∷ []) s)) (repeated_behind known s)
    ≡ repeated_after known (cond v (cond k (event.binds t) (cond p (event.owns t) (event.uses t)) ∷ raw t.terminal s) (raw t.terminal s))
repeated-by true true p known t s h = ap (λ o. cond (is_known known t.bytes) (Some t.number) o) (h (known ++ t.bytes ∷ []))
repeated-by true false true known t s h = h known
repeated-by true false false known t s h = h known
repeated-by false k p known t s h = h known

raw-repeated : (b : ℕ) (known : List (List ℕ)) (s : List Tok) → repeated_behind known s ≡ repeated_after known (raw b s)
raw-repeated b known [] = refl
raw-repeated b known (t ∷ s) = repeated-by (is_variable t.terminal) (binds s) (begins_path b) known t s (λ ns. raw-repeated t.terminal ns s)

unknown-by : (v k p : Bool) (known : List (List ℕ)) (t : Tok) (s : List Tok) → ((ns : List (List ℕ)) → unknown_behind t.terminal ns s ≡ unknown_after ns (raw t.terminal s))
    → cond v (cond k (unknown_behind t.terminal (known ++ t.bytes ∷ []) s) (cond (is_known (cond p (event.before_last known) known) t.bytes) (unknown_behind t.terminal known s) (Some t.number)))
    (unknown_behind t.terminal known s) ≡ unknown_after known (cond v (cond k (event.binds t) (cond p (event.owns t) (event.uses t)) ∷ raw t.terminal s) (raw t.terminal s))
unknown-by true true p known t s h = h (known ++ t.bytes ∷ [])
unknown-by true false true known t s h = ap (λ o. cond (is_known (event.before_last known) t.bytes) o (Some t.number)) (h known)
unknown-by true false false known t s h = ap (λ o. cond (is_known known t.bytes) o (Some t.number)) (h known)
unknown-by false k p known t s h = h known

raw-unknown : (b : ℕ) (known : List (List ℕ)) (s : List Tok) → unknown_behind b known s ≡ unknown_after known (raw b s)
raw-unknown b known [] = refl
raw-unknown b known (t ∷ s) = unknown-by (is_variable t.terminal) (binds s) (begins_path b) known t s (λ ns. raw-unknown t.terminal ns s)

-- Trees part by part.

-- the first token is a variable
abbrev var_first : List Tok → Bool
var_first [] = false
var_first (t ∷ s) = is_variable t.terminal

-- no variable comes next, and nothing before which one is bound
abbrev Free : List Tok → Type 0
Free s = (var_first s ≡ false) × (binds s ≡ false)

raw-before : (b : ℕ) (s : List Tok) → begins_path b ≡ false → raw b s ≡ raw 0 s
raw-before b [] e = refl
raw-before b (t ∷ s) e = ap (λ p. cond (is_variable t.terminal) (cond (binds s) (event.binds t) (cond p (event.owns t) (event.uses t)) ∷ raw t.terminal s) (raw t.terminal s)) e

raw-any : (b : ℕ) (s : List Tok) → var_first s ≡ false → raw b s ≡ raw 0 s
raw-any b [] e = refl
raw-any b (t ∷ s) e = ap (λ x. cond x (event_at b t s ∷ raw t.terminal s) (raw t.terminal s)) e ∙ sym (ap (λ x. cond x (event_at 0 t s ∷ raw t.terminal s) (raw t.terminal s)) e)

abbrev vars : List ℕ
vars = terminals.VARIABLE ∷ []

abbrev openers : List ℕ
openers = terminals.IN ∷ terminals.ASSIGN ∷ []

abbrev binders : List ℕ
binders = terminals.IN ∷ terminals.ALLOWING ∷ terminals.ASSIGN ∷ []

no-variable : (c : List ℕ) (t : Tok) → are_apart c vars ≡ true → has c t.terminal ≡ true → is_variable t.terminal ≡ false
no-variable c t apart h = swapped t.terminal terminals.VARIABLE ∙ (or_parts (terminals.VARIABLE == t.terminal) false (apart-none c vars t.terminal apart h)).0

free-at : (c : List ℕ) (t : Tok) (s : List Tok) → are_apart c vars ≡ true → are_apart c binders ≡ true → has c t.terminal ≡ true → Free (t ∷ s)
free-at c t s apart other h = (no-variable c t apart h, apart-none c binders t.terminal other h)

-- a token that is no variable, nor one behind which a path begins
lead : (c : List ℕ) (t : Tok) (s : List Tok) → are_apart c vars ≡ true → are_apart c openers ≡ true → has c t.terminal ≡ true → raw 0 (t ∷ s) ≡ raw 0 s
lead c t s apart other h =
    ap (λ x. cond x (event_at 0 t s ∷ raw t.terminal s) (raw t.terminal s)) (no-variable c t apart h) ∙ raw-before t.terminal s (apart-none c openers t.terminal other h)

-- Trees without variables.

quiet-first : {p : Expression} {v : Tree} → Of p v → lacks vars p ≡ true → (rest : List Tok) → var_first rest ≡ false → var_first (tokens_of v ++ rest) ≡ false
quiet-first (of_one {c = c} {t = t} h) e rest f = no-variable c t e h
quiet-first (of_both {p = p} {q = q} {v = v} {w = w} g h) e rest f =
    let parts = and_parts (lacks vars p) (lacks vars q) e in
    ap var_first (append_assoc (tokens_of v) (tokens_of w) rest) ∙ quiet-first g parts.0 (tokens_of w ++ rest) (quiet-first h parts.1 rest f)
quiet-first (of_first {p = p} {q = q} g) e rest f = quiet-first g (and_parts (lacks vars p) (lacks vars q) e).0 rest f
quiet-first (of_second {p = p} {q = q} g) e rest f = quiet-first g (and_parts (lacks vars p) (lacks vars q) e).1 rest f
quiet-first of_nothing e rest f = f
quiet-first (of_put g) e rest f = quiet-first g e rest f
quiet-first of_none e rest f = f
quiet-first (of_more {v = v} {w = w} g h) e rest f =
    ap var_first (append_assoc (tokens_of v) (tokens_of w) rest) ∙ quiet-first g e (tokens_of w ++ rest) (quiet-first h e rest f)
quiet-first (of_rule h g) e rest f = none-true false refl e

quiet : {p : Expression} {v : Tree} → Of p v → lacks vars p ≡ true → (rest : List Tok) → var_first rest ≡ false → raw 0 (tokens_of v ++ rest) ≡ raw 0 rest
quiet (of_one {c = c} {t = t} h) e rest f =
    ap (λ x. cond x (event_at 0 t rest ∷ raw t.terminal rest) (raw t.terminal rest)) (no-variable c t e h) ∙ raw-any t.terminal rest f
quiet (of_both {p = p} {q = q} {v = v} {w = w} g h) e rest f =
    let parts = and_parts (lacks vars p) (lacks vars q) e in
    ap (raw 0) (append_assoc (tokens_of v) (tokens_of w) rest) ∙ quiet g parts.0 (tokens_of w ++ rest) (quiet-first h parts.1 rest f) ∙ quiet h parts.1 rest f
quiet (of_first {p = p} {q = q} g) e rest f = quiet g (and_parts (lacks vars p) (lacks vars q) e).0 rest f
quiet (of_second {p = p} {q = q} g) e rest f = quiet g (and_parts (lacks vars p) (lacks vars q) e).1 rest f
quiet of_nothing e rest f = refl
quiet (of_put g) e rest f = quiet g e rest f
quiet of_none e rest f = refl
quiet (of_more {v = v} {w = w} g h) e rest f =
    ap (raw 0) (append_assoc (tokens_of v) (tokens_of w) rest) ∙ quiet g e (tokens_of w ++ rest) (quiet-first h e rest f) ∙ quiet h e rest f
quiet (of_rule h g) e rest f = none-true false refl e

-- Trees with variables.

abbrev Has : List Event → Tree → Type 0
Has es v = (rest : List Tok) → Free rest → raw 0 (tokens_of v ++ rest) ≡ es ++ raw 0 rest

-- directly behind IN or `:=`
abbrev HasOwn : List Event → Tree → Type 0
HasOwn es v = (b : ℕ) (rest : List Tok) → begins_path b ≡ true → Free rest → raw b (tokens_of v ++ rest) ≡ es ++ raw 0 rest

-- a tree's tokens are free where those behind it are
abbrev IsFree : Tree → Type 0
IsFree v = (rest : List Tok) → Free rest → Free (tokens_of v ++ rest)

has-pair : (es fs : List Event) (v w : Tree) → Has es v → Has fs w → IsFree w → Has (es ++ fs) (pair v w)
has-pair es fs v w f g free rest e =
    ap (raw 0) (append_assoc (tokens_of v) (tokens_of w) rest) ∙ f (tokens_of w ++ rest) (free rest e) ∙ ap (λ x. es ++ x) (g rest e) ∙ sym (append_assoc es fs (raw 0 rest))

more-free : {v : Tree} → Of (many step) v → IsFree v
more-free of_none rest e = e
more-free (of_more {w = w} (of_both {w = n} (of_one {c = c} {t = t} h) n_is) g) rest e = free-at c t ((tokens_of n ++ tokens_of w) ++ rest) refl refl h

steps-free : {v : Tree} → Of steps v → IsFree v
steps-free (of_both {w = w} (of_both {w = n} (of_one {c = c} {t = t} h) n_is) g) rest e = free-at c t ((tokens_of n ++ tokens_of w) ++ rest) refl refl h

-- the variable itself
used-here : (c : List ℕ) (t : Tok) (s : List Tok) → (is_variable t.terminal ≡ true) → binds s ≡ false → raw 0 (t ∷ s) ≡ event.uses t ∷ raw t.terminal s
used-here c t s e f =
    ap (λ x. cond x (event_at 0 t s ∷ raw t.terminal s) (raw t.terminal s)) e ∙ ap (λ x. cond x (event.binds t) (event.uses t) ∷ raw t.terminal s) f

is-var : (t : Tok) → has (terminals.VARIABLE ∷ []) t.terminal ≡ true → is_variable t.terminal ≡ true
is-var t h = has-one terminals.VARIABLE t.terminal ∙ h

var-behind : (t : Tok) → has (terminals.VARIABLE ∷ []) t.terminal ≡ true → begins_path t.terminal ≡ false
var-behind t h = apart-none (terminals.VARIABLE ∷ []) openers t.terminal refl h

path-has : {v : Tree} → Of path v → Has (in_path v) v
path-has (of_first f) rest e = quiet f refl rest e.0
path-has (of_second (of_both {w = w} (of_one {c = c} {t = t} h) g)) rest e =
    let free = more-free g rest e in
    used-here c t (tokens_of w ++ rest) (is-var t h) free.1 ∙ ap (λ x. event.uses t ∷ x) (raw-before t.terminal (tokens_of w ++ rest) (var-behind t h) ∙ quiet g refl rest e.0)

owned-here : (b : ℕ) (t : Tok) (s : List Tok) → begins_path b ≡ true → is_variable t.terminal ≡ true → binds s ≡ false → raw b (t ∷ s) ≡ event.owns t ∷ raw t.terminal s
owned-here b t s p e f =
    ap (λ x. cond x (event_at b t s ∷ raw t.terminal s) (raw t.terminal s)) e ∙ ap (λ x. cond x (event.binds t) (use_at b t) ∷ raw t.terminal s) f
    ∙ ap (λ x. cond x (event.owns t) (event.uses t) ∷ raw t.terminal s) p

own-path : {v : Tree} → Of path v → HasOwn (in_own_path v) v
own-path (of_first {v = v} f) b rest p e = raw-any b (tokens_of v ++ rest) (quiet-first f refl rest e.0) ∙ quiet f refl rest e.0
own-path (of_second (of_both {w = w} (of_one {t = t} h) g)) b rest p e =
    let free = more-free g rest e in
    owned-here b t (tokens_of w ++ rest) p (is-var t h) free.1 ∙ ap (λ x. event.owns t ∷ x) (raw-before t.terminal (tokens_of w ++ rest) (var-behind t h) ∙ quiet g refl rest e.0)

own-longpath : {v : Tree} → Of longpath v → HasOwn (in_longpath v) v
own-longpath (of_both {v = first d} {w = w} (of_first f) g) b rest p e =
    let apart = append_assoc (tokens_of d) (tokens_of w) rest in
    let steps_free = quiet-first g refl rest e.0 in
    ap (raw b) apart ∙ raw-any b (tokens_of d ++ (tokens_of w ++ rest)) (quiet-first f refl (tokens_of w ++ rest) steps_free) ∙ quiet f refl (tokens_of w ++ rest) steps_free ∙ quiet g refl rest e.0
own-longpath (of_both {w = w} (of_second (of_one {t = t} h)) g) b rest p e =
    let free = steps-free g rest e in
    owned-here b t (tokens_of w ++ rest) p (is-var t h) free.1 ∙ ap (λ x. event.owns t ∷ x) (raw-before t.terminal (tokens_of w ++ rest) (var-behind t h) ∙ quiet g refl rest e.0)

-- a token that leads to the rest of a tree
lead-pair : (es : List Event) (c : List ℕ) (t : Tok) (w : Tree) → are_apart c vars ≡ true → are_apart c openers ≡ true → has c t.terminal ≡ true → Has es w → Has es (pair (leaf t) w)
lead-pair es c t w apart other h f rest e = lead c t (tokens_of w ++ rest) apart other h ∙ f rest e

free-first : (c : List ℕ) (t : Tok) (w : Tree) → are_apart c vars ≡ true → are_apart c binders ≡ true → has c t.terminal ≡ true → IsFree (pair (leaf t) w)
free-first c t w apart other h rest e = free-at c t (tokens_of w ++ rest) apart other h

free-leaf : (c : List ℕ) (t : Tok) → are_apart c vars ≡ true → are_apart c binders ≡ true → has c t.terminal ≡ true → IsFree (leaf t)
free-leaf c t apart other h rest e = free-at c t rest apart other h

free-pair : (v w : Tree) → IsFree v → IsFree w → IsFree (pair v w)
free-pair v w f g rest e =
    let inner = f (tokens_of w ++ rest) (g rest e) in
    let apart = append_assoc (tokens_of v) (tokens_of w) rest in
    (ap var_first apart ∙ inner.0, ap binds apart ∙ inner.1)

-- no variable behind the tree
has-then : {q : Expression} (es : List Event) (v w : Tree) → Has es v → Of q w → lacks vars q ≡ true → IsFree w → Has es (pair v w)
has-then es v w f g e free rest r =
    ap (raw 0) (append_assoc (tokens_of v) (tokens_of w) rest) ∙ f (tokens_of w ++ rest) (free rest r) ∙ ap (λ x. es ++ x) (quiet g e rest r.0)

one-free : {c : List ℕ} {v : Tree} → Of (one c) v → are_apart c vars ≡ true → are_apart c binders ≡ true → IsFree v
one-free (of_one {c = c} {t = t} h) apart other = free-leaf c t apart other h

operand-has : {v : Tree} → Of operand v → Has (in_operand v) v
operand-has (of_first f) = path-has f
operand-has (of_second (of_both {w = b} (of_one {c = c} {t = t} h) (of_both {w = p} (of_one {c = d} {t = u} k) (of_both {v = v} {w = z} f g)))) =
    lead-pair (in_path v) c t b refl refl h (lead-pair (in_path v) d u p refl refl k (has-then (in_path v) v z (path-has f) g refl (one-free g refl refl)))

-- Bindings.

bound-here : (t : Tok) (s : List Tok) → has (terminals.VARIABLE ∷ []) t.terminal ≡ true → binds s ≡ true → raw 0 (t ∷ s) ≡ event.binds t ∷ raw 0 s
bound-here t s h f =
    ap (λ x. cond x (event_at 0 t s ∷ raw t.terminal s) (raw t.terminal s)) (is-var t h) ∙ ap (λ x. cond x (event.binds t) (event.uses t) ∷ raw t.terminal s) f
    ∙ ap (λ x. event.binds t ∷ x) (raw-before t.terminal s (var-behind t h))

-- a keyword or sign behind which the path of a binding begins
own-here : (es : List Event) (c : List ℕ) (t : Tok) (w : Tree) → are_apart c vars ≡ true → (has c t.terminal ≡ true → begins_path t.terminal ≡ true) → has c t.terminal ≡ true → HasOwn es w
    → (rest : List Tok) → Free rest → raw 0 (t ∷ tokens_of w ++ rest) ≡ es ++ raw 0 rest
own-here es c t w apart opens h f rest e =
    ap (λ x. cond x (event_at 0 t (tokens_of w ++ rest) ∷ raw t.terminal (tokens_of w ++ rest)) (raw t.terminal (tokens_of w ++ rest))) (no-variable c t apart h) ∙ f t.terminal rest (opens h) e

abbrev in_terminal : List ℕ
in_terminal = terminals.IN ∷ []

abbrev assign_terminal : List ℕ
assign_terminal = terminals.ASSIGN ∷ []

abbrev allowing_terminal : List ℕ
allowing_terminal = terminals.ALLOWING ∷ []

in-opens : (x : ℕ) → has in_terminal x ≡ true → has openers x ≡ true
in-opens x h = has-left in_terminal assign_terminal x h

assign-opens : (x : ℕ) → has assign_terminal x ≡ true → has openers x ≡ true
assign-opens x h = has-right in_terminal assign_terminal x h

in-binds : (x : ℕ) → has in_terminal x ≡ true → has binders x ≡ true
in-binds x h = has-left in_terminal (terminals.ALLOWING ∷ assign_terminal) x h

assign-binds : (x : ℕ) → has assign_terminal x ≡ true → has binders x ≡ true
assign-binds x h = has-right (terminals.IN ∷ allowing_terminal) assign_terminal x h

allowing-binds : (x : ℕ) → has allowing_terminal x ≡ true → has binders x ≡ true
allowing-binds x h = has-right in_terminal (terminals.ALLOWING ∷ assign_terminal) x (has-left allowing_terminal assign_terminal x h)

bind-has : {v : Tree} → Of bind v → Has (in_bind v) v
bind-has (of_both (of_one {t = x} h) (of_both of_nothing (of_both {w = p} (of_one {t = i} k) f))) rest e =
    bound-here x (i ∷ tokens_of p ++ rest) h (in-binds i.terminal k) ∙ ap (λ z. event.binds x ∷ z) (own-here (in_longpath p) in_terminal i p refl (in-opens i.terminal) k (own-longpath f) rest e)
bind-has (of_both (of_one {t = x} h) (of_both (of_put (of_both (of_one {t = a} l) (of_one {c = d} {t = m} n))) (of_both {w = p} (of_one {t = i} k) f))) rest e =
    bound-here x (a ∷ m ∷ i ∷ tokens_of p ++ rest) h (allowing-binds a.terminal l)
    ∙ ap (λ z. event.binds x ∷ z) (lead allowing_terminal a (m ∷ i ∷ tokens_of p ++ rest) refl refl l ∙ lead d m (i ∷ tokens_of p ++ rest) refl refl n
    ∙ own-here (in_longpath p) in_terminal i p refl (in-opens i.terminal) k (own-longpath f) rest e)

-- `:=` and a path behind a variable
assigned : (es : List Event) (x i : Tok) (p : Tree) → has (terminals.VARIABLE ∷ []) x.terminal ≡ true → has assign_terminal i.terminal ≡ true → HasOwn es p
    → Has (event.binds x ∷ es) (pair (leaf x) (pair (leaf i) p))
assigned es x i p h k f rest e =
    bound-here x (i ∷ tokens_of p ++ rest) h (assign-binds i.terminal k) ∙ ap (λ z. event.binds x ∷ z) (own-here es assign_terminal i p refl (assign-opens i.terminal) k f rest e)

comma-bind : {v : Tree} → Of (many (both comma bind)) v → IsFree v
comma-bind of_none = λ rest e. e
comma-bind (of_more {w = w} (of_both {w = b} (of_one {c = c} {t = t} h) g) k) = λ rest e. free-at c t ((tokens_of b ++ tokens_of w) ++ rest) refl refl h

more-binds : {v : Tree} → Of (many (both comma bind)) v → Has (in_binds v) v
more-binds of_none = λ rest e. refl
more-binds (of_more {w = w} (of_both {w = b} (of_one {c = c} {t = t} h) g) k) =
    has-pair (in_bind b) (in_binds w) (pair (leaf t) b) w (lead-pair (in_bind b) c t b refl refl h (bind-has g)) (more-binds k) (comma-bind k)

clause-has : {v : Tree} → Of clause v → Has (in_clause v) v
clause-has (of_first (of_both {w = l} (of_one {c = c} {t = t} h) (of_both {v = b} {w = w} g k))) =
    lead-pair (in_bind b ++ in_binds w) c t (pair b w) refl refl h (has-pair (in_bind b) (in_binds w) b w (bind-has g) (more-binds k) (comma-bind k))
clause-has (of_second (of_both (of_one {c = c} {t = t} h) (of_both (of_one {t = x} k) (of_both {w = p} (of_one {t = i} l) f)))) =
    lead-pair (event.binds x ∷ in_longpath p) c t (pair (leaf x) (pair (leaf i) p)) refl refl h (assigned (in_longpath p) x i p k l (own-longpath f))

clause-free : {v : Tree} → Of clause v → IsFree v
clause-free (of_first (of_both {w = w} (of_one {c = c} {t = t} h) g)) = free-first c t w refl refl h
clause-free (of_second (of_both {w = w} (of_one {c = c} {t = t} h) g)) = free-first c t w refl refl h

clauses-free : {v : Tree} → Of (many clause) v → IsFree v
clauses-free of_none = λ rest e. e
clauses-free (of_more {v = v} {w = w} f g) = free-pair v w (clause-free f) (clauses-free g)

more-clauses : {v : Tree} → Of (many clause) v → Has (in_clauses v) v
more-clauses of_none = λ rest e. refl
more-clauses (of_more {v = v} {w = w} f g) = has-pair (in_clause v) (in_clauses w) v w (clause-has f) (more-clauses g) (clauses-free g)

-- Conditions.

right-has : {v : Tree} → Of (either operand literal) v → Has (in_right v) v
right-has (of_first f) = operand-has f
right-has (of_second f) = λ rest e. quiet f refl rest e.0

cond-has : {v : Tree} → Of part.cond v → Has (in_cond v) v
cond-has (of_both {v = l} f (of_both {w = r} (of_one {c = c} {t = t} h) g)) =
    has-pair (in_operand l) (in_right r) l (pair (leaf t) r) (operand-has f) (lead-pair (in_right r) c t r refl refl h (right-has g)) (free-first c t r refl refl h)

abbrev and_cond : Expression
and_cond = both (keyword (codes "AND")) part.cond

conds-free : {v : Tree} → Of (many and_cond) v → IsFree v
conds-free of_none = λ rest e. e
conds-free (of_more {w = w} (of_both {w = b} (of_one {c = c} {t = t} h) g) k) = λ rest e. free-at c t ((tokens_of b ++ tokens_of w) ++ rest) refl refl h

more-conds : {v : Tree} → Of (many and_cond) v → Has (in_more_conds v) v
more-conds of_none = λ rest e. refl
more-conds (of_more {w = w} (of_both {w = b} (of_one {c = c} {t = t} h) g) k) =
    has-pair (in_cond b) (in_more_conds w) (pair (leaf t) b) w (lead-pair (in_cond b) c t b refl refl h (cond-has g)) (more-conds k) (conds-free k)

where-has : {v : Tree} → Of (maybe where_part) v → Has (in_conds v) v
where-has of_nothing = λ rest e. refl
where-has (of_put (of_both (of_one {c = c} {t = t} h) (of_both {v = b} {w = w} g k))) =
    lead-pair (in_cond b ++ in_more_conds w) c t (pair b w) refl refl h (has-pair (in_cond b) (in_more_conds w) b w (cond-has g) (more-conds k) (conds-free k))

where-free : {v : Tree} → Of (maybe where_part) v → IsFree v
where-free of_nothing = λ rest e. e
where-free (of_put (of_both {w = w} (of_one {c = c} {t = t} h) g)) = free-first c t w refl refl h

-- Groups and keys.

group-has : {v : Tree} → Of (maybe group) v → Has (in_group v) v
group-has of_nothing = λ rest e. refl
group-has (of_put (of_both (of_one {c = c} {t = t} h) (of_both (of_one {c = d} {t = u} k) (of_both (of_one {t = x} l) (of_both {w = p} (of_one {t = i} m) f))))) =
    lead-pair (event.binds x ∷ in_own_path p) c t (pair (leaf u) (pair (leaf x) (pair (leaf i) p))) refl refl h
    (lead-pair (event.binds x ∷ in_own_path p) d u (pair (leaf x) (pair (leaf i) p)) refl refl k (assigned (in_own_path p) x i p l m (own-path f)))

group-free : {v : Tree} → Of (maybe group) v → IsFree v
group-free of_nothing = λ rest e. e
group-free (of_put (of_both {w = w} (of_one {c = c} {t = t} h) g)) = free-first c t w refl refl h

direction-free : {v : Tree} → Of (maybe (one (map (terminal_of Word) (codes "ASCENDING" ∷ codes "DESCENDING" ∷ [])))) v → IsFree v
direction-free of_nothing = λ rest e. e
direction-free (of_put f) = one-free f refl refl

key-has : {v : Tree} → Of key v → Has (in_key v) v
key-has (of_both {v = o} {w = d} f g) = has-then (in_operand o) o d (operand-has f) g refl (direction-free g)

keys-free : {v : Tree} → Of (many (both comma key)) v → IsFree v
keys-free of_none = λ rest e. e
keys-free (of_more {w = w} (of_both {w = b} (of_one {c = c} {t = t} h) g) k) = λ rest e. free-at c t ((tokens_of b ++ tokens_of w) ++ rest) refl refl h

more-keys : {v : Tree} → Of (many (both comma key)) v → Has (in_more_keys v) v
more-keys of_none = λ rest e. refl
more-keys (of_more {w = w} (of_both {w = b} (of_one {c = c} {t = t} h) g) k) =
    has-pair (in_key b) (in_more_keys w) (pair (leaf t) b) w (lead-pair (in_key b) c t b refl refl h (key-has g)) (more-keys k) (keys-free k)

order-has : {v : Tree} → Of (maybe order) v → Has (in_keys v) v
order-has of_nothing = λ rest e. refl
order-has (of_put (of_both (of_one {c = c} {t = t} h) (of_both (of_one {c = d} {t = u} l) (of_both {v = b} {w = w} g k)))) =
    lead-pair (in_key b ++ in_more_keys w) c t (pair (leaf u) (pair b w)) refl refl h
    (lead-pair (in_key b ++ in_more_keys w) d u (pair b w) refl refl l (has-pair (in_key b) (in_more_keys w) b w (key-has g) (more-keys k) (keys-free k)))

order-free : {v : Tree} → Of (maybe order) v → IsFree v
order-free of_nothing = λ rest e. e
order-free (of_put (of_both {w = w} (of_one {c = c} {t = t} h) g)) = free-first c t w refl refl h

-- Constructors: whatever comes behind.

abbrev Ends : List Event → Tree → Type 0
Ends es v = (rest : List Tok) → raw 0 (tokens_of v ++ rest) ≡ es ++ raw 0 rest

ends-pair : (es fs : List Event) (v w : Tree) → Ends es v → Ends fs w → Ends (es ++ fs) (pair v w)
ends-pair es fs v w f g rest =
    ap (raw 0) (append_assoc (tokens_of v) (tokens_of w) rest) ∙ f (tokens_of w ++ rest) ∙ ap (λ x. es ++ x) (g rest) ∙ sym (append_assoc es fs (raw 0 rest))

ends-lead : (es : List Event) (c : List ℕ) (t : Tok) (w : Tree) → are_apart c vars ≡ true → are_apart c openers ≡ true → has c t.terminal ≡ true → Ends es w → Ends es (pair (leaf t) w)
ends-lead es c t w apart other h f rest = lead c t (tokens_of w ++ rest) apart other h ∙ f rest

one-ends : {c : List ℕ} {v : Tree} → Of (one c) v → are_apart c vars ≡ true → are_apart c openers ≡ true → Ends [] v
one-ends (of_one {c = c} {t = t} h) apart other rest = lead c t rest apart other h

-- a name, whatever keyword it is, where no variable follows
name-lead : (es : List Event) (c : List ℕ) (t : Tok) (w : Tree) → are_apart c vars ≡ true → has c t.terminal ≡ true → ((rest : List Tok) → var_first (tokens_of w ++ rest) ≡ false) → Ends es w
    → Ends es (pair (leaf t) w)
name-lead es c t w apart h none f rest =
    ap (λ x. cond x (event_at 0 t (tokens_of w ++ rest) ∷ raw t.terminal (tokens_of w ++ rest)) (raw t.terminal (tokens_of w ++ rest))) (no-variable c t apart h)
    ∙ raw-any t.terminal (tokens_of w ++ rest) (none rest) ∙ f rest

closed-has : {c : List ℕ} (es : List Event) (v w : Tree) → Has es v → Of (one c) w → are_apart c vars ≡ true → are_apart c openers ≡ true → are_apart c binders ≡ true → Ends es (pair v w)
closed-has es v w f (of_one {c = c} {t = t} h) apart other third rest =
    ap (raw 0) (append_assoc (tokens_of v) (t ∷ []) rest) ∙ f (t ∷ rest) (free-at c t rest apart third h) ∙ ap (λ x. es ++ x) (lead c t rest apart other h)

braced-ends : {v : Tree} → Of braced v → Ends (in_braced v) v
braced-ends (of_both (of_one {c = c} {t = t} h) (of_both {v = o} {w = z} f g)) =
    ends-lead (in_operand o) c t (pair o z) refl refl h (closed-has (in_operand o) o z (operand-has f) g refl refl refl)

content-ends : {v : Tree} → Of (either string braced) v → Ends (in_content v) v
content-ends (of_first f) = one-ends f refl refl
content-ends (of_second f) = braced-ends f

attrs-ends : {v : Tree} → Of (many attr) v → Ends (in_attrs v) v
attrs-ends of_none = λ rest. refl
attrs-ends (of_more {w = w} (of_both (of_one {c = c} {t = t} h) (of_both {w = b} (of_one {c = d} {t = u} k) f)) g) =
    ends-pair (in_content b) (in_attrs w) (pair (leaf t) (pair (leaf u) b)) w
    (name-lead (in_content b) c t (pair (leaf u) b) refl h (λ rest. no-variable d u refl k) (ends-lead (in_content b) d u b refl refl k (content-ends f))) (attrs-ends g)

attrs-first : {v : Tree} → Of (many attr) v → (rest : List Tok) → var_first rest ≡ false → var_first (tokens_of v ++ rest) ≡ false
attrs-first of_none = λ rest e. e
attrs-first (of_more (of_both (of_one {c = c} {t = t} h) f) g) = λ rest e. no-variable c t refl h

-- behind the tree one without variables
ends-then : (es : List Event) (v w : Tree) → Ends es v → Ends [] w → Ends es (pair v w)
ends-then es v w f g rest =
    ap (raw 0) (append_assoc (tokens_of v) (tokens_of w) rest) ∙ f (tokens_of w ++ rest) ∙ ap (λ x. es ++ x) (g rest)

abbrev tail : Expression
tail = either (sign (codes "/>")) (both (sign (codes ">")) (both (many piece) (both (sign (codes "</")) (both name (sign (codes ">"))))))

tail-first : {v : Tree} → Of tail v → (rest : List Tok) → var_first (tokens_of v ++ rest) ≡ false
tail-first (of_first (of_one {c = c} {t = t} h)) rest = no-variable c t refl h
tail-first (of_second (of_both (of_one {c = c} {t = t} h) f)) rest = no-variable c t refl h

one-first : {c : List ℕ} {v : Tree} → Of (one c) v → are_apart c vars ≡ true → (rest : List Tok) → var_first (tokens_of v ++ rest) ≡ false
one-first (of_one {c = c} {t = t} h) apart rest = no-variable c t apart h

-- "</" NAME ">"
end-tag : {v : Tree} → Of (both (sign (codes "</")) (both name (sign (codes ">")))) v → Ends [] v
end-tag (of_both (of_one {c = c} {t = t} h) (of_both {w = z} (of_one {c = d} {t = u} k) f)) =
    ends-lead [] c t (pair (leaf u) z) refl refl h (name-lead [] d u z refl k (one-first f refl) (one-ends f refl refl))

mutual
  cons-ends : {v : Tree} → Of cons v → Ends (in_cons v) v
  cons-ends (of_rule {c = c} {t = t} {v = r} h f) = ends-lead (in_cons_rest r) c t r refl refl h (rest-ends f)

  rest-ends : {v : Tree} → Of cons_rest v → Ends (in_cons_rest v) v
  rest-ends (of_both (of_one {c = c} {t = t} h) (of_both {v = a} {w = z} f g)) =
      name-lead (in_attrs a ++ in_tail z) c t (pair a z) refl h
      (λ rest. ap var_first (append_assoc (tokens_of a) (tokens_of z) rest) ∙ attrs-first f (tokens_of z ++ rest) (tail-first g rest))
      (ends-pair (in_attrs a) (in_tail z) a z (attrs-ends f) (tail-ends g))

  tail-ends : {v : Tree} → Of tail v → Ends (in_tail v) v
  tail-ends (of_first f) = one-ends f refl refl
  tail-ends (of_second (of_both (of_one {c = c} {t = t} h) (of_both {v = ps} {w = z} f g))) =
      ends-lead (in_pieces ps) c t (pair ps z) refl refl h (ends-then (in_pieces ps) ps z (pieces-ends f) (end-tag g))

  pieces-ends : {v : Tree} → Of (many piece) v → Ends (in_pieces v) v
  pieces-ends of_none = λ rest. refl
  pieces-ends (of_more {v = v} {w = w} f g) = ends-pair (in_piece v) (in_pieces w) v w (piece-ends f) (pieces-ends g)

  piece-ends : {v : Tree} → Of piece v → Ends (in_piece v) v
  piece-ends (of_first f) = cons-ends f
  piece-ends (of_second f) = content-ends f

back-has : {v : Tree} → Of back v → Has (in_back v) v
back-has (of_first f) = path-has f
back-has (of_second f) = λ rest e. cons-ends f rest

-- A whole query of clauses.

flwor-has : {v : Tree} → Of flwor v → Has (in_flwor v) v
flwor-has (of_both {v = c} c_is (of_both {v = m} m_is (of_both {v = w} w_is (of_both {v = g} g_is (of_both {v = o} o_is (of_both {w = b} (of_one {c = r} {t = t} h) b_is)))))) =
    let returned = pair (leaf t) b in
    let free_r : IsFree returned = free-first r t b refl refl h in
    let free_o : IsFree (pair o returned) = free-pair o returned (order-free o_is) free_r in
    let free_g : IsFree (pair g (pair o returned)) = free-pair g (pair o returned) (group-free g_is) free_o in
    let free_w : IsFree (pair w (pair g (pair o returned))) = free-pair w (pair g (pair o returned)) (where-free w_is) free_g in
    let free_m : IsFree (pair m (pair w (pair g (pair o returned)))) = free-pair m (pair w (pair g (pair o returned))) (clauses-free m_is) free_w in
    let es_o : List Event = in_keys o ++ in_back b in
    let es_g : List Event = in_group g ++ es_o in
    let es_w : List Event = in_conds w ++ es_g in
    let es_m : List Event = in_clauses m ++ es_w in
    has-pair (in_clause c) es_m c (pair m (pair w (pair g (pair o returned)))) (clause-has c_is)
    (has-pair (in_clauses m) es_w m (pair w (pair g (pair o returned))) (more-clauses m_is)
    (has-pair (in_conds w) es_g w (pair g (pair o returned)) (where-has w_is)
    (has-pair (in_group g) es_o g (pair o returned) (group-has g_is)
    (has-pair (in_keys o) (in_back b) o returned (order-has o_is) (lead-pair (in_back b) r t b refl refl h (back-has b_is)) free_r) free_o) free_g) free_w) free_m

flwor-events : (s : List Tok) (v : Tree) → Derives rules (query ∷ []) (second v ∷ []) s → raw 0 s ≡ in_flwor v
flwor-events s v d = ap (raw 0) (tokens-derived d) ∙ flwor-has (second-of (derived-of d).0) [] (refl, refl) ∙ append-nil (in_flwor v)

pub variables-agree : VariablesAgree
variables-agree = record {
  names = λ s v d. raw-bound 0 s ∙ ap names_of (flwor-events s v d);
  unknown = λ s v d.
      raw-unknown terminals.FOR [] s ∙ ap (unknown_after []) (raw-before terminals.FOR s refl ∙ flwor-events s v d);
  repeated = λ s v d. raw-repeated 0 [] s ∙ ap (repeated_after []) (flwor-events s v d);
}
