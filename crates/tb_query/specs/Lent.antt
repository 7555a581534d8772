-- How the program keeps names: borrowed from a query, and in a set.
use Rattle.std.specs.Prelude.{◌≡◌, ℕ, List, map}
use Rattle.std.specs.Borrow.{Bor}
use Rattle.std.specs.List.{list_any}
use Rattle.std.specs.Str.{bytes_eq}
use Rattle.std.specs.Ordering.{nat_cmp, is_eq}
use Rattle.std.specs.Cmp.Lexicographic.{slice_cmp}

-- the names themselves
abbrev pub lent : List (Bor (List ℕ)) → List (List ℕ)
lent names = map (λ name. name.now) names

-- the keys of a set are these names
abbrev pub IsNoted : List (Bor (List ℕ)) → List (List ℕ) → Type 0
IsNoted keys names =
    (name : Bor (List ℕ))
    → list_any (λ k. is_eq (slice_cmp nat_cmp name.now k.now)) keys
    ≡ list_any (bytes_eq name.now) names
