-- Names each once, and the set of those that were seen.
use Rattle.std.proofs.Common.{◌≡◌, ℕ, Bool, true, false, ◌||◌, cond, if◌then◌else◌, List, [], ◌∷◌, ◌++◌, Bor, refl, sym, ap, ◌∙◌}
use Rattle.std.specs.List.{list_any, Contains}
use Rattle.std.specs.Str.{bytes_eq}
use Rattle.std.specs.Ordering.{nat_cmp, is_eq}
use Rattle.std.specs.Cmp.Lexicographic.{slice_cmp}
use Rattle.std.proofs.lemmas.Cmp.{nat_list_eq_equiv}
use Rattle.std.proofs.lemmas.List.Folds.{list_any-append}
use Rattle.std.proofs.lemmas.Map.Steps.{list_any_congr}
use Rattle.std.proofs.lemmas.Map.Text.{is_eq-slice_cmp}
use Rattle.std.proofs.lemmas.Map.Views.{list_any-from_Contains, Contains-from_any}
use Rattle.std.proofs.lemmas.Slice.Eq.{bytes_eq-Decides}
use Rattle.tb_query.specs.Lists.{with_once}
use Rattle.tb_query.specs.Names.{names_once}
use Rattle.tb_query.specs.Lent.{lent, IsNoted}
use Rattle.tb_query.proofs.OnceLaws.{any-once}

or-cond : (a c : Bool) → (a || (c || false)) ≡ cond c true a
or-cond true true = refl
or-cond true false = refl
or-cond false true = refl
or-cond false false = refl

-- a name is among names with one more behind them where it is that one, or among them
pub any-behind : (name one : List ℕ) (names : List (List ℕ))
    → list_any (bytes_eq name) (names ++ one ∷ []) ≡ cond (bytes_eq one name) true (list_any (bytes_eq name) names)
any-behind name one names =
    list_any-append (bytes_eq name) names (one ∷ [])
    ∙ ap (λ b. list_any (bytes_eq name) names || (b || false)) (nat_list_eq_equiv.symm name one)
    ∙ or-cond (list_any (bytes_eq name) names) (bytes_eq one name)

-- a key of a set is equal to the name
abbrev pub among : List (Bor (List ℕ)) → List ℕ → Bool
among keys name = list_any (λ k. is_eq (slice_cmp nat_cmp name k.now)) keys

pub among-lent : (name : List ℕ) (keys : List (Bor (List ℕ))) → among keys name ≡ list_any (bytes_eq name) (lent keys)
among-lent name [] = refl
among-lent name (k ∷ keys) = ap (λ b. b || among keys name) (is_eq-slice_cmp name k.now) ∙ ap (λ b. bytes_eq name k.now || b) (among-lent name keys)

-- A set that the name was put into has the names with that one.

same-step : (k q : List ℕ) (out : List (List ℕ)) (c : Bool) → bytes_eq k q ≡ c → list_any (bytes_eq k) out ≡ true
    → list_any (bytes_eq q) out ≡ cond c true (list_any (bytes_eq q) out)
same-step k q out true same there = sym (list_any_congr nat_list_eq_equiv k q out same) ∙ there
same-step k q out false same there = refl

once-step : (k q : List ℕ) (out : List (List ℕ)) (b : Bool) → list_any (bytes_eq k) out ≡ b
    → list_any (bytes_eq q) (if b then out else out ++ k ∷ []) ≡ cond (bytes_eq k q) true (list_any (bytes_eq q) out)
once-step k q out true there = same-step k q out (bytes_eq k q) refl there
once-step k q out false there = any-behind q k out

pub noted-once : (keys more : List (Bor (List ℕ))) (out : List (List ℕ)) (key : Bor (List ℕ)) → IsNoted keys out
    → ((q : Bor (List ℕ)) → among more q.now ≡ cond (is_eq (slice_cmp nat_cmp key.now q.now)) true (among keys q.now))
    → IsNoted more (with_once bytes_eq out key.now)
noted-once keys more out key noted updates q =
    updates q ∙ ap (λ b. cond b true (among keys q.now)) (is_eq-slice_cmp key.now q.now)
    ∙ ap (λ a. cond (bytes_eq key.now q.now) true a) (noted q) ∙ sym (once-step key.now q.now out (list_any (bytes_eq key.now) out) refl)

-- a name is among names exactly where it is among them once
pub contains-once : (names : List (List ℕ)) (name : List ℕ) → Contains names name → Contains (names_once names) name
contains-once names name has =
    Contains-from_any (λ x y e. (bytes_eq-Decides x y).0 e) name (names_once names)
    (any-once bytes_eq nat_list_eq_equiv name names ∙ list_any-from_Contains nat_list_eq_equiv name names has)
