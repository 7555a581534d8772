-- Where each name is bound once and before its use, so is each number.
use Rattle.std.proofs.Common.{◌≡◌, ℕ, zero, suc, ◌+◌, ◌-◌, ◌<◌, Bool, true, false, cond, List, [], ◌∷◌, ◌++◌, map, length, take, Option, Some, None, refl, sym, ap, ◌∙◌, subst, arith, append_assoc, length-append}
use Rattle.std.specs.Prelude.{⊤}
use Rattle.std.specs.Str.{bytes_eq}
use Rattle.std.proofs.lemmas.Bool.{or_parts}
use Rattle.std.proofs.lemmas.Option.{none-some}
use Rattle.std.proofs.lemmas.Slice.Eq.{bytes_eq-Decides}
use Rattle.tb_token.specs.tokens.Lexemes.{place_in}
use Rattle.tb_query.specs.Actions.{Action, binds, takes, makes}
use Rattle.tb_query.specs.Plannable.{StartsBefore, AreBound}
use Rattle.tb_query.specs.declared.path.Start.{Start}
use Rattle.tb_query.specs.declared.path.Start.TheVariants.{Document, Var}
use Rattle.tb_flwor.specs.Events as event
use Rattle.tb_flwor.specs.Events.{Event, names_of, before_last, unknown_after, repeated_after}
use Rattle.tb_flwor.specs.Value.{BoundNames}
use Rattle.tb_flwor.specs.Variables.{is_known}
use Rattle.tb_flwor.proofs.FitsLaws.{Said, bound, own, used, said, said_from, numbered}

-- Where n variables are bound: each binding has the next number, each use one that is bound, and in its
-- own path not that one.
abbrev pub AreSaid : ℕ → List Said → Type 0
AreSaid n [] = ⊤
AreSaid n (bound var ∷ said) = (var ≡ n) × AreSaid (n + 1) said
AreSaid n (own var ∷ said) = (var < n - 1) × AreSaid n said
AreSaid n (used var ∷ said) = (var < n) × AreSaid n said

-- a known name has a place among them, whatever comes behind
place-known : (ns more : List (List ℕ)) (b : List ℕ) → is_known ns b ≡ true → place_in b (ns ++ more) < length ns
place-known [] more b e = absurd (let g : ◌≡◌ {A = Bool} true false = sym e in cc)
place-known (n ∷ ns) more b e = by (bytes_eq b n) refl (λ f. place-known ns more b f)
  where
    by : (is : Bool) → bytes_eq b n ≡ is → (is_known ns b ≡ true → place_in b (ns ++ more) < length ns) → place_in b (n ∷ (ns ++ more)) < suc (length ns)
    by true at rest = rw at (omega arith)
    by false at rest =
        let less = rest (rw at at e) in
        rw at (omega (arith, less))

-- a name that isn't known has the place behind them, where it comes next
place-new : (ns more : List (List ℕ)) (b : List ℕ) → is_known ns b ≡ false → place_in b (ns ++ b ∷ more) ≡ length ns
place-new [] more b e = ap (λ is. cond is 0 (1 + place_in b more)) ((bytes_eq-Decides b b).1 refl)
place-new (n ∷ ns) more b e =
    let parts = or_parts (bytes_eq b n) (is_known ns b) e in
    let rest = place-new ns more b parts.1 in
    ap (λ is. cond is 0 (1 + place_in b (ns ++ b ∷ more))) parts.0 ∙ (omega (arith, rest))

-- a name among the first k has a place below k
place-among : (k : ℕ) (ns more : List (List ℕ)) (b : List ℕ) → is_known (take k ns) b ≡ true → place_in b (ns ++ more) < k
place-among zero ns more b e = absurd (let g : ◌≡◌ {A = Bool} true false = sym e in cc)
place-among (suc k) [] more b e = absurd (let g : ◌≡◌ {A = Bool} true false = sym e in cc)
place-among (suc k) (n ∷ ns) more b e = by (bytes_eq b n) refl (λ f. place-among k ns more b f)
  where
    by : (is : Bool) → bytes_eq b n ≡ is → (is_known (take k ns) b ≡ true → place_in b (ns ++ more) < k) → place_in b (n ∷ (ns ++ more)) < suc k
    by true at rest = rw at (omega arith)
    by false at rest =
        let less = rest (rw at at e) in
        rw at (omega (arith, less))

known-true : (o : Option ℕ) (is : Bool) (n : ℕ) → cond is o (Some n) ≡ None → (is ≡ true) × (o ≡ None)
known-true o true n e = (refl, e)
known-true o false n e = absurd (none-some n (sym e))

known-false : (o : Option ℕ) (is : Bool) (n : ℕ) → cond is (Some n) o ≡ None → (is ≡ false) × (o ≡ None)
known-false o true n e = absurd (none-some n (sym e))
known-false o false n e = (refl, e)

-- what events say, where these names are bound so far and all that are bound are these
pub says : (names ns : BoundNames) (es : List Event) → names ≡ ns ++ names_of es → unknown_after ns es ≡ None → repeated_after ns es ≡ None
    → AreSaid (length ns) (map (numbered names) es)
says names ns [] are known once = tt
says names ns (event.binds t ∷ es) are known once =
    let new = known-false (repeated_after (ns ++ t.bytes ∷ []) es) (is_known ns t.bytes) t.number once in
    let at : place_in t.bytes names ≡ length ns = ap (place_in t.bytes) are ∙ place-new ns (names_of es) t.bytes new.0 in
    let more : names ≡ (ns ++ t.bytes ∷ []) ++ names_of es = are ∙ sym (append_assoc ns (t.bytes ∷ []) (names_of es)) in
    let longer : length (ns ++ t.bytes ∷ []) ≡ length ns + 1 = length-append ns (t.bytes ∷ []) in
    (at, subst (λ n. AreSaid n (map (numbered names) es)) longer (says names (ns ++ t.bytes ∷ []) es more known new.1))
says names ns (event.owns t ∷ es) are known once =
    let old = known-true (unknown_after ns es) (is_known (before_last ns) t.bytes) t.number known in
    (subst (λ all. place_in t.bytes all < length ns - 1) (sym are) (place-among (length ns - 1) ns (names_of es) t.bytes old.0), says names ns es are old.1 once)
says names ns (event.uses t ∷ es) are known once =
    let old = known-true (unknown_after ns es) (is_known ns t.bytes) t.number known in
    (subst (λ all. place_in t.bytes all < length ns) (sym are) (place-known ns (names_of es) t.bytes old.0), says names ns es are old.1 once)

-- and so actions are bound that say so
uses-bound : (n : ℕ) (start : Start) (rest : List Said) → AreSaid n (said_from used start ++ rest) → StartsBefore n start × AreSaid n rest
uses-bound n (Document name) rest are = (tt, are)
uses-bound n (Var var) rest are = are

owns-bound : (n : ℕ) (start : Start) (rest : List Said) → AreSaid (n + 1) (said_from own start ++ rest) → StartsBefore n start × AreSaid (n + 1) rest
owns-bound n (Document name) rest are = (tt, are)
owns-bound n (Var var) rest are = let less = are.0 in (omega (arith, less), are.1)

pub bound-of : (n : ℕ) (xs : List Action) → AreSaid n (said xs) → AreBound n xs
bound-of n [] are = tt
bound-of n (binds var path ∷ xs) are =
    let parts = owns-bound n path.start (said xs) are.1 in
    (are.0, parts.0, bound-of (n + 1) xs parts.1)
bound-of n (takes path ∷ xs) are = let parts = uses-bound n path.start (said xs) are in (parts.0, bound-of n xs parts.1)
bound-of n (makes name attributes ∷ xs) are = bound-of n xs are
