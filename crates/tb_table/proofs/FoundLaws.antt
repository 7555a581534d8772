-- The document that `find` gives the number of is the one that the meaning of queries has by that name.
use Rattle.std.proofs.Common.{◌≡◌, ℕ, suc, ◌+◌, ◌<◌, Bool, true, false, not, cond, nat_lt, List, [], ◌∷◌, length, Option, Some, None, position, refl, ap, ◌∙◌, arith}
use Rattle.std.specs.List.{position_or_len, slice_get}
use Rattle.std.specs.Option.{option_map}
use Rattle.std.specs.Str.{bytes_eq}
use Rattle.std.proofs.lemmas.Bool.{ltb-true, ltb-false}
use Rattle.std.proofs.lemmas.List.{length-map}
use Rattle.std.proofs.lemmas.Option.{slice_get_past}
use Rattle.tb_tree.specs.Documents.{found}
use Rattle.tb_tree.specs.View.{plain_of}
use Rattle.tb_tree.specs.declared.node.Node.{Node}
use Rattle.tb_table.specs.Documents.{names_of, roots_of, docs_of}

abbrev Named : Type 0
Named = List ℕ × Node

place-is : (b : Bool) (i k : ℕ) → cond b (Some i) None ≡ Some k → (b ≡ true) × (i ≡ k)
place-is true i k e = (refl, cc)
place-is false i k e = absurd (let g : ◌≡◌ {A = Option ℕ} None (Some k) = e in cc)

no-place : (b : Bool) (i : ℕ) → cond b (Some i) None ≡ None → b ≡ false
no-place true i e = absurd (let g : ◌≡◌ {A = Option ℕ} (Some i) None = e in cc)
no-place false i e = refl

-- by the place of the first document of the name
found-at : (name : List ℕ) (ds : List Named) → found name (docs_of ds) ≡ option_map plain_of (slice_get (roots_of ds) (position_or_len (bytes_eq name) (names_of ds)))
found-at name [] = refl
found-at name (d ∷ ds) = at (bytes_eq name d.0) (found-at name ds)
  where
    at : (b : Bool) → found name (docs_of ds) ≡ option_map plain_of (slice_get (roots_of ds) (position_or_len (bytes_eq name) (names_of ds)))
        → cond b (Some (plain_of d.1)) (found name (docs_of ds)) ≡ option_map plain_of (slice_get (d.1 ∷ roots_of ds) (cond (not b) (1 + position_or_len (bytes_eq name) (names_of ds)) 0))
    at true behind = refl
    at false behind =
        behind ∙ ap (λ k. option_map plain_of (slice_get (d.1 ∷ roots_of ds) k)) (let g : suc (position_or_len (bytes_eq name) (names_of ds)) ≡ 1 + position_or_len (bytes_eq name) (names_of ds) = omega arith in g)

pub found-within : (name : List ℕ) (ds : List Named) (k : ℕ) → position (bytes_eq name) (names_of ds) ≡ Some k → k < length ds
found-within name ds k is =
    let p = place-is (nat_lt (position_or_len (bytes_eq name) (names_of ds)) (length (names_of ds))) _ k is in
    omega (arith, ltb-true _ _ p.0, p.1, length-map ds (λ (d : Named). d.0))

pub found-some : (name : List ℕ) (ds : List Named) (k : ℕ) (root : Node) → position (bytes_eq name) (names_of ds) ≡ Some k → slice_get (roots_of ds) k ≡ Some root
    → found name (docs_of ds) ≡ Some (plain_of root)
found-some name ds k root is there =
    let p = place-is (nat_lt (position_or_len (bytes_eq name) (names_of ds)) (length (names_of ds))) _ k is in
    found-at name ds ∙ ap (λ i. option_map plain_of (slice_get (roots_of ds) i)) p.1 ∙ ap (option_map plain_of) there

pub found-none : (name : List ℕ) (ds : List Named) → position (bytes_eq name) (names_of ds) ≡ None → found name (docs_of ds) ≡ None
found-none name ds none =
    let past = ltb-false _ _ (no-place (nat_lt (position_or_len (bytes_eq name) (names_of ds)) (length (names_of ds))) _ none) in
    found-at name ds
    ∙ ap (option_map plain_of)
    (slice_get_past (roots_of ds) (position_or_len (bytes_eq name) (names_of ds)) (omega (arith, past, length-map ds (λ (d : Named). d.0), length-map ds (λ (d : Named). d.1))))
