-- The tokens behind the keyword RETURN are those of what the tree returns: in the clauses before it every
-- other such keyword is a name, directly behind an axis or `@`.
use Rattle.std.proofs.Common.{◌≡◌, ℕ, true, false, cond, ◌&&◌, ◌||◌, ◌==◌, not, List, [], ◌∷◌, ◌++◌, refl, ap, ◌∙◌, append_assoc, append-nil}
use Rattle.std.specs.Prelude.{codes}
use Rattle.std.proofs.lemmas.Bool.{and_parts, or_parts}
use Rattle.tb_token.specs.grammar.Grammar.{Tok, Expression, both, either, maybe, many, has}
use Rattle.tb_token.specs.grammar.Sentences.{Tree, leaf, pair}
use Rattle.tb_token.specs.grammar.LL1.{are_apart}
use Rattle.tb_token.proofs.grammar.TerminalLaws.{none-true, and-false, has-left, has-right, apart-none}
use Rattle.tb_token.specs.grammar.Terminals.{keyword, comma}
use Rattle.tb_token.specs.grammar.Patterns.{test, literal}
use Rattle.tb_token.specs.grammar.Paths.{step, steps, longpath, path, operand}
use Rattle.tb_token.specs.grammar.Queries.{rules, query, flwor, bind, clause, where_part, group, key, order}
use Rattle.tb_token.specs.grammar.Queries as part
use Rattle.tb_token.specs.tokens.TerminalNames as terminals
use Rattle.tb_pattern.specs.BuiltParts.{attribute}
use Rattle.tb_pattern.proofs.PartLaws.{Of, of_one, of_both, of_first, of_second, of_nothing, of_put, of_none, of_more, of_rule, derived-of, lacks}
use Rattle.tb_flwor.specs.Constructors.{before_name, behind_return, results}
use Rattle.tb_flwor.specs.Returned.{tokens_of, back_tree, ResultsAgree}
use Rattle.tb_flwor.proofs.TokenLaws.{tokens-derived, swapped, has-one, second-of}

-- Before a name every keyword is a name.

abbrev name_signs : List ℕ
name_signs = terminals.SLASH ∷ terminals.DOUBLE_SLASH ∷ terminals.AT ∷ []

abbrev special : List ℕ
special = terminals.RETURN ∷ name_signs

same-before : (b : ℕ) (s : List Tok) → before_name b ≡ false → behind_return b s ≡ behind_return 0 s
same-before b [] e = refl
same-before b (t ∷ s) e = ap (λ x. cond (t.terminal == terminals.RETURN && not x) s (behind_return t.terminal s)) e

-- the reading goes on behind the tree as if it had not been there
abbrev Calm : Tree → Type 0
Calm v = (rest : List Tok) → behind_return 0 (tokens_of v ++ rest) ≡ behind_return 0 rest

-- so it does where the tree stands directly behind an axis or `@`
abbrev CalmName : Tree → Type 0
CalmName v = (b : ℕ) (rest : List Tok) → before_name b ≡ true → behind_return b (tokens_of v ++ rest) ≡ behind_return 0 rest

calm-pair : (v w : Tree) → Calm v → Calm w → Calm (pair v w)
calm-pair v w f g rest = ap (behind_return 0) (append_assoc (tokens_of v) (tokens_of w) rest) ∙ f (tokens_of w ++ rest) ∙ g rest

-- a token that is neither the keyword nor a sign before names
calm-leaf : (c : List ℕ) (t : Tok) → are_apart c special ≡ true → has c t.terminal ≡ true → Calm (leaf t)
calm-leaf c t apart h rest =
    let none = or_parts (terminals.RETURN == t.terminal) (has name_signs t.terminal) (apart-none c special t.terminal apart h) in
    let other = swapped t.terminal terminals.RETURN ∙ none.0 in
    ap (λ x. cond (x && true) rest (behind_return t.terminal rest)) other ∙ same-before t.terminal rest none.1

quiet : {p : Expression} {v : Tree} → Of p v → lacks special p ≡ true → Calm v
quiet (of_one {c = c} {t = t} h) e = calm-leaf c t e h
quiet (of_both {p = p} {q = q} {v = v} {w = w} f g) e =
    let parts = and_parts (lacks special p) (lacks special q) e in
    calm-pair v w (quiet f parts.0) (quiet g parts.1)
quiet (of_first {p = p} {q = q} f) e = quiet f (and_parts (lacks special p) (lacks special q) e).0
quiet (of_second {p = p} {q = q} f) e = quiet f (and_parts (lacks special p) (lacks special q) e).1
quiet of_nothing e = λ rest. refl
quiet (of_put f) e = quiet f e
quiet of_none e = λ rest. refl
quiet (of_more {v = v} {w = w} f g) e = calm-pair v w (quiet f e) (quiet g e)
quiet (of_rule h f) e = none-true false refl e

-- a name, whatever keyword it is
name-leaf : (c : List ℕ) (t : Tok) → are_apart c name_signs ≡ true → has c t.terminal ≡ true → CalmName (leaf t)
name-leaf c t apart h b rest e =
    ap (λ x. cond (t.terminal == terminals.RETURN && not x) rest (behind_return t.terminal rest)) e
    ∙ ap (λ x. cond x rest (behind_return t.terminal rest)) (and-false (t.terminal == terminals.RETURN))
    ∙ same-before t.terminal rest (apart-none c name_signs t.terminal apart h)

-- a sign before a name, and what stands behind it
sign-leaf : (c : List ℕ) (t : Tok) (w : Tree) → (has c t.terminal ≡ true → has name_signs t.terminal ≡ true) → are_apart c (terminals.RETURN ∷ []) ≡ true → has c t.terminal ≡ true → CalmName w
    → (b : ℕ) (rest : List Tok) → behind_return b (t ∷ tokens_of w ++ rest) ≡ behind_return 0 rest
sign-leaf c t w among apart h is b rest =
    let none = or_parts (terminals.RETURN == t.terminal) false (flip) in
    let other = swapped t.terminal terminals.RETURN ∙ none.0 in
    ap (λ x. cond (x && not (before_name b)) (tokens_of w ++ rest) (behind_return t.terminal (tokens_of w ++ rest))) other
    ∙ is t.terminal rest (among h)
  where
    flip : (terminals.RETURN == t.terminal || false) ≡ false
    flip = apart-none c (terminals.RETURN ∷ []) t.terminal apart h

attribute-name : {v : Tree} → Of attribute v → CalmName v
attribute-name (of_first (of_one {c = c} {t = t} h)) = name-leaf c t refl h
attribute-name (of_second (of_one {c = c} {t = t} h)) = name-leaf c t refl h

test-name : {v : Tree} → Of test v → CalmName v
test-name (of_first (of_one {c = c} {t = t} h)) = name-leaf c t refl h
test-name (of_second (of_first (of_one {c = c} {t = t} h))) = name-leaf c t refl h
test-name (of_second (of_second (of_first (of_both {w = w} (of_one {c = c} {t = t} h) n)))) =
    λ b rest e. sign-leaf c t w (λ f. has-right (terminals.SLASH ∷ terminals.DOUBLE_SLASH ∷ []) c t.terminal f) refl h (attribute-name n) b rest
test-name (of_second (of_second (of_second (of_one {c = c} {t = t} h)))) = name-leaf c t refl h

step-calm : {v : Tree} → Of step v → Calm v
step-calm (of_both {w = w} (of_one {c = c} {t = t} h) n) = λ rest. sign-leaf c t w (λ f. has-left c (terminals.AT ∷ []) t.terminal f) refl h (test-name n) 0 rest

more-steps : {v : Tree} → Of (many step) v → Calm v
more-steps of_none = λ rest. refl
more-steps (of_more {v = v} {w = w} f g) = calm-pair v w (step-calm f) (more-steps g)

steps-calm : {v : Tree} → Of steps v → Calm v
steps-calm (of_both {v = v} {w = w} f g) = calm-pair v w (step-calm f) (more-steps g)

path-calm : {v : Tree} → Of path v → Calm v
path-calm (of_first (of_both {v = v} {w = w} f g)) = calm-pair v w (quiet f refl) (steps-calm g)
path-calm (of_second (of_both {v = v} {w = w} f g)) = calm-pair v w (quiet f refl) (more-steps g)

longpath-calm : {v : Tree} → Of longpath v → Calm v
longpath-calm (of_both {v = v} {w = w} f g) = calm-pair v w (quiet f refl) (steps-calm g)

operand-calm : {v : Tree} → Of operand v → Calm v
operand-calm (of_first f) = path-calm f
operand-calm (of_second (of_both {v = a} {w = b} f (of_both {v = o} {w = c} g (of_both {v = p} {w = e} h k)))) =
    calm-pair a b (quiet f refl) (calm-pair o c (quiet g refl) (calm-pair p e (path-calm h) (quiet k refl)))

bind-calm : {v : Tree} → Of bind v → Calm v
bind-calm (of_both {v = a} {w = b} f (of_both {v = o} {w = c} g (of_both {v = p} {w = e} h k))) =
    calm-pair a b (quiet f refl) (calm-pair o c (quiet g refl) (calm-pair p e (quiet h refl) (longpath-calm k)))

more-binds : {v : Tree} → Of (many (both comma bind)) v → Calm v
more-binds of_none = λ rest. refl
more-binds (of_more {w = w} (of_both {v = a} {w = b} f g) k) = calm-pair (pair a b) w (calm-pair a b (quiet f refl) (bind-calm g)) (more-binds k)

clause-calm : {v : Tree} → Of clause v → Calm v
clause-calm (of_first (of_both {v = a} {w = b} f (of_both {v = c} {w = e} g k))) = calm-pair a b (quiet f refl) (calm-pair c e (bind-calm g) (more-binds k))
clause-calm (of_second (of_both {v = a} {w = b} f (of_both {v = o} {w = c} g (of_both {v = p} {w = e} h k)))) =
    calm-pair a b (quiet f refl) (calm-pair o c (quiet g refl) (calm-pair p e (quiet h refl) (longpath-calm k)))

more-clauses : {v : Tree} → Of (many clause) v → Calm v
more-clauses of_none = λ rest. refl
more-clauses (of_more {v = v} {w = w} f g) = calm-pair v w (clause-calm f) (more-clauses g)

right-calm : {v : Tree} → Of (either operand literal) v → Calm v
right-calm (of_first f) = operand-calm f
right-calm (of_second f) = quiet f refl

cond-calm : {v : Tree} → Of part.cond v → Calm v
cond-calm (of_both {v = a} {w = b} f (of_both {v = c} {w = e} g k)) = calm-pair a b (operand-calm f) (calm-pair c e (quiet g refl) (right-calm k))

more-conds : {v : Tree} → Of (many (both (keyword (codes "AND")) part.cond)) v → Calm v
more-conds of_none = λ rest. refl
more-conds (of_more {w = w} (of_both {v = a} {w = b} f g) k) = calm-pair (pair a b) w (calm-pair a b (quiet f refl) (cond-calm g)) (more-conds k)

where-calm : {v : Tree} → Of (maybe where_part) v → Calm v
where-calm of_nothing = λ rest. refl
where-calm (of_put (of_both {v = a} {w = b} f (of_both {v = c} {w = e} g k))) = calm-pair a b (quiet f refl) (calm-pair c e (cond-calm g) (more-conds k))

group-calm : {v : Tree} → Of (maybe group) v → Calm v
group-calm of_nothing = λ rest. refl
group-calm (of_put (of_both {v = a} {w = b} f (of_both {v = c} {w = e} g (of_both {v = m} {w = n} h (of_both {v = i} {w = j} k l))))) =
    calm-pair a b (quiet f refl) (calm-pair c e (quiet g refl) (calm-pair m n (quiet h refl) (calm-pair i j (quiet k refl) (path-calm l))))

key-calm : {v : Tree} → Of key v → Calm v
key-calm (of_both {v = a} {w = b} f g) = calm-pair a b (operand-calm f) (quiet g refl)

more-keys : {v : Tree} → Of (many (both comma key)) v → Calm v
more-keys of_none = λ rest. refl
more-keys (of_more {w = w} (of_both {v = a} {w = b} f g) k) = calm-pair (pair a b) w (calm-pair a b (quiet f refl) (key-calm g)) (more-keys k)

order-calm : {v : Tree} → Of (maybe order) v → Calm v
order-calm of_nothing = λ rest. refl
order-calm (of_put (of_both {v = a} {w = b} f (of_both {v = c} {w = e} g (of_both {v = m} {w = n} h k)))) =
    calm-pair a b (quiet f refl) (calm-pair c e (quiet g refl) (calm-pair m n (key-calm h) (more-keys k)))

-- The keyword RETURN itself, behind all of these.

return-here : (t : Tok) (s : List Tok) → (t.terminal == terminals.RETURN) ≡ true → behind_return 0 (t ∷ s) ≡ s
return-here t s e = ap (λ x. cond (x && true) s (behind_return t.terminal s)) e

skip : (v : Tree) (u rest : List Tok) → Calm v → behind_return 0 ((tokens_of v ++ u) ++ rest) ≡ behind_return 0 (u ++ rest)
skip v u rest calm = ap (behind_return 0) (append_assoc (tokens_of v) u rest) ∙ calm (u ++ rest)

flwor-results : {v : Tree} → Of flwor v → results (tokens_of v ++ []) ≡ tokens_of (back_tree v)
flwor-results (of_both {v = c} c_is (of_both {v = m} m_is (of_both {v = w} w_is (of_both {v = g} g_is (of_both {v = o} o_is (of_both {w = b} (of_one {t = t} h) b_is)))))) =
    let returned = t ∷ tokens_of b in
    let ordered = tokens_of o ++ returned in
    let grouped = tokens_of g ++ ordered in
    let kept = tokens_of w ++ grouped in
    let others = tokens_of m ++ kept in
    same-before terminals.FOR ((tokens_of c ++ others) ++ []) refl ∙ skip c others [] (clause-calm c_is) ∙ skip m kept [] (more-clauses m_is) ∙ skip w grouped [] (where-calm w_is)
    ∙ skip g ordered [] (group-calm g_is) ∙ skip o returned [] (order-calm o_is)
    ∙ return-here t (tokens_of b ++ []) (has-one terminals.RETURN t.terminal ∙ h) ∙ append-nil (tokens_of b)

-- so it is of every query of clauses
pub results-agree : ResultsAgree
results-agree s v d = ap results (tokens-derived d) ∙ flwor-results (second-of (derived-of d).0)
