-- A script that can be run has few commands; and `check` prints one text of a script.
use Rattle.std.proofs.lemmas.Bool.{false≢true}
use Rattle.std.proofs.Common.{◌≡◌, ℕ, Bool, true, false, ◌+◌, ◌*◌, ◌≤◌, List, [], ◌∷◌, ◌++◌, length, refl, sym, ap, ap₂, ◌∙◌, subst, arith, append-nil, append_assoc}
use Rattle.std.specs.List.{AllByRecursion}
use Rattle.tb_script.specs.declared.command.Command.{Command}
use Rattle.tb_script.specs.declared.command.Command.TheVariants.{Load, Query, Tell, Hear}
use Rattle.tb_top.specs.Check.{IsRefusal, AreLines, AreRefusals, IsCheck, query_refusal, counts_of, commands_count, queries_of, queries_in}
use Rattle.tb_top.specs.Pieces.{Grows}
use Rattle.tb_top.specs.Outputs.{Passes}
use Rattle.tb_top.specs.Single.{IsBuilt}
use Rattle.tb_script.specs.Runnable.{HasBodyThatFits}
use Rattle.tb_flwor.proofs.OneFault.{fault-once}

pub commands-few : (css : List (List Command)) → AllByRecursion (λ cs. length cs ≤ 10000) css → commands_count css ≤ 10000 * length css
commands-few [] all = omega arith
commands-few (cs ∷ css) all = let more = commands-few css all.1 in let one = all.0 in omega arith

queries-few : (cs : List Command) → queries_of cs ≤ length cs
queries-few [] = omega arith
queries-few (Load name lines ∷ cs) = let more = queries-few cs in omega arith
queries-few (Query text ∷ cs) = let more = queries-few cs in omega arith
queries-few (Tell mark name ∷ cs) = let more = queries-few cs in omega arith
queries-few (Hear mark name ∷ cs) = let more = queries-few cs in omega arith

pub queries_in-few : (css : List (List Command)) → queries_in css ≤ commands_count css
queries_in-few [] = omega arith
queries_in-few (cs ∷ css) = let more = queries_in-few css in let one = queries-few cs in omega arith

-- lines that were added, and those that were added behind them
lines-next : {X : Type 0} (Is : ℕ → X → List ℕ → Type 0) (number : ℕ) (x : X) (xs : List X) (old mid new : List ℕ) → Grows old mid (Is number x) → Grows mid new (AreLines Is (number + 1) xs)
    → Grows old new (AreLines Is number (x ∷ xs))
lines-next Is number x xs old mid new one rest =
    (one.0 ++ rest.0, (one.0, rest.0, (one.1, rest.1, refl)), rest.2 ∙ ap (λ t. t ++ rest.0) one.2 ∙ append_assoc old one.0 rest.0)

-- the lines of one that stands first, and those of the others
pub lines-more : {X : Type 0} (Is : ℕ → X → List ℕ → Type 0) (number : ℕ) (x : X) (xs ys : List X) (old mid new : List ℕ) → xs ≡ x ∷ ys → Grows old mid (Is number x) → Grows mid new (AreLines Is (number + 1) ys)
    → Grows old new (AreLines Is number xs)
lines-more Is number x xs ys old mid new is one rest = subst (λ zs. Grows old new (AreLines Is number zs)) (sym is) (lines-next Is number x ys old mid new one rest)

-- nothing is added for no others
pub lines-end : {X : Type 0} (Is : ℕ → X → List ℕ → Type 0) (number : ℕ) (xs : List X) (text : List ℕ) → xs ≡ [] → Grows text text (AreLines Is number xs)
lines-end Is number xs text is = subst (λ zs. Grows text text (AreLines Is number zs)) (sym is) ([], refl, sym (append-nil text))

lines-once : {X : Type 0} (Is : ℕ → X → List ℕ → Type 0) → ((number : ℕ) (x : X) (a b : List ℕ) → Is number x a → Is number x b → a ≡ b)
    → (number : ℕ) (xs : List X) (a b : List ℕ) → AreLines Is number xs a → AreLines Is number xs b → a ≡ b
lines-once Is once number [] a b one two = one ∙ sym two
lines-once Is once number (x ∷ xs) a b one two =
    one.2.2 ∙ ap₂ (λ s t. s ++ t) (once number x one.0 two.0 one.2.0 two.2.0) (lines-once Is once (number + 1) xs one.1 two.1 one.2.1 two.2.1) ∙ sym two.2.2

refusal-once : (session number : ℕ) (c : Command) (a b : List ℕ) → IsRefusal session number c a → IsRefusal session number c b → a ≡ b
refusal-once session number (Load name lines) a b one two = one ∙ sym two
refusal-once session number (Query text) a b one two = one.2 ∙ ap (query_refusal session number) (fault-once text one.0 two.0 one.1 two.1) ∙ sym two.2
refusal-once session number (Tell mark name) a b one two = one ∙ sym two
refusal-once session number (Hear mark name) a b one two = one ∙ sym two

-- What `check` prints of a script is one text: a query has one fault, or none.
pub check-unique : (css : List (List Command)) (a b : List ℕ) → IsCheck css a → IsCheck css b → a ≡ b
check-unique css a b one two =
    one.2
    ∙ ap (λ lines. lines ++ counts_of css)
    (lines-once AreRefusals (λ session cs x y p q. lines-once (IsRefusal session) (refusal-once session) 1 cs x y p q) 1 css one.0 two.0 one.1 two.1)
    ∙ sym two.2

-- where nothing is left to give, the list is empty
pub none-left : {X : Type 0} (xs : List X) (n : ℕ) → n ≡ length xs → n ≡ 0 → xs ≡ []
none-left [] n e none = refl
none-left (x ∷ xs) n e none = absurd (omega (arith, e, none))

-- Where the text grows by the refusals of the commands that are left, it has grown by all; they fit, and have
-- numbers; all are built exactly where these are.
abbrev pub Left : ℕ → ℕ → List ℕ → List ℕ → List Command → List Command → Type 0
Left session number initial text all cs =
    ((new : List ℕ) → Grows text new (AreLines (IsRefusal session) (number + 1) cs) → Grows initial new (AreRefusals session all))
    × AllByRecursion HasBodyThatFits cs
    × (number + length cs ≤ length all)
    × (AllByRecursion IsBuilt cs → AllByRecursion IsBuilt all)
    × (AllByRecursion IsBuilt all → AllByRecursion IsBuilt cs)

pub left-more : (session number : ℕ) (initial text mid : List ℕ) (all cs rest : List Command) (c : Command) → cs ≡ c ∷ rest → Left session number initial text all cs
    → IsBuilt c → Grows text mid (IsRefusal session (number + 1) c) → Left session (number + 1) initial mid all rest
left-more session number initial text mid all cs rest c next left built own = (
  λ new more. left.0 new (lines-more (IsRefusal session) (number + 1) c cs rest text mid new next own more),
  (subst (AllByRecursion HasBodyThatFits) next left.1).1,
  omega (arith, left.2, ap length next),
  λ behind. left.3 (subst (AllByRecursion IsBuilt) (sym next) (built, behind)),
  λ whole. (subst (AllByRecursion IsBuilt) next (left.4 whole)).1,
)

-- what passes, and what doesn't
pub passed : (b : Bool) (P Q : Type 0) → b ≡ true → Passes b P Q → P × Q
passed true P Q e passes = passes
passed false P Q e passes = absurd (false≢true e)

pub failed : (b : Bool) (P Q : Type 0) → b ≡ false → Passes b P Q → P → ⊥
failed false P Q e fails = fails
failed true P Q e fails = absurd (false≢true (sym e))
