-- Borrowed names, and the names that are known in a path.
use Rattle.std.proofs.Common.{◌≡◌, ℕ, ◌-◌, Bool, true, false, ◌||◌, not, cond, List, [], ◌∷◌, ◌++◌, length, take, Bor, refl, sym, ap, ◌∙◌}
use Rattle.std.specs.List.{list_any}
use Rattle.std.specs.Str.{bytes_eq}
use Rattle.std.specs.Ordering.{nat_cmp, is_eq}
use Rattle.std.specs.Cmp.Lexicographic.{slice_cmp}
use Rattle.std.proofs.lemmas.List.{length-map, take-map}
use Rattle.std.proofs.lemmas.List.Folds.{list_any-append}
use Rattle.std.proofs.lemmas.Map.Text.{is_eq-slice_cmp}
use Rattle.tb_flwor.specs.Variables.{begins_path, known_behind}
use Rattle.tb_query.specs.Lent.{lent}
use Rattle.tb_query.proofs.NamesLaws.{any-behind, among, among-lent}
use Rattle.tb_flwor.specs.Borrowed.{AreAlike}

pub lent-known : (before : ℕ) (names : List (Bor (List ℕ))) (few : ℕ) → begins_path before ≡ true → few ≡ length names - 1
    → lent (take few names) ≡ known_behind before (lent names)
lent-known before names few begins is =
    let size : length (lent names) ≡ length names = length-map names (λ name. name.now) in
    rw (begins, size, is) (sym (take-map (λ name. name.now) (length names - 1) names))

-- a set that a name was put into has the names with that one
pub added-alike : (keys more : List (Bor (List ℕ))) (key : Bor (List ℕ))
    → ((name : Bor (List ℕ)) → among more name.now ≡ cond (is_eq (slice_cmp nat_cmp key.now name.now)) true (among keys name.now))
    → AreAlike (lent more) (lent keys ++ key.now ∷ [])
added-alike keys more key updates name =
    sym (among-lent name more) ∙ updates (record { ref_ptr = key.ref_ptr; now = name })
    ∙ ap (λ b. cond b true (among keys name)) (is_eq-slice_cmp key.now name)
    ∙ ap (λ a. cond (bytes_eq key.now name) true a) (among-lent name keys)
    ∙ sym (any-behind name key.now (lent keys))

-- names that are alike are so with one more
pub alike-behind : (some others : List (List ℕ)) (one : List ℕ) → AreAlike some others → AreAlike (some ++ one ∷ []) (others ++ one ∷ [])
alike-behind some others one alike name =
    list_any-append (bytes_eq name) some (one ∷ []) ∙ ap (λ b. b || list_any (bytes_eq name) (one ∷ [])) (alike name)
    ∙ sym (list_any-append (bytes_eq name) others (one ∷ []))

not-not : (b : Bool) → not (not b) ≡ b
not-not true = refl
not-not false = refl

-- a name that was not new to a set is among its names
pub old-among : (keys : List (Bor (List ℕ))) (key : Bor (List ℕ)) (new : Bool) → new ≡ not (among keys key.now)
    → not new ≡ list_any (bytes_eq key.now) (lent keys)
old-among keys key new is = ap not is ∙ not-not (among keys key.now) ∙ among-lent key.now keys
