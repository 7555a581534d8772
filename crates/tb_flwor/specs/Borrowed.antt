-- How the program keeps names: borrowed from a query, and perhaps in another order.
use Rattle.std.specs.Prelude.{◌≡◌, ℕ, List, reverse}
use Rattle.std.specs.Borrow.{Bor}
use Rattle.std.specs.List.{list_any}
use Rattle.std.specs.Str.{bytes_eq}
use Rattle.tb_query.specs.Lent.{lent}

-- the names themselves, the last one first
abbrev pub last_first : List (Bor (List ℕ)) → List (List ℕ)
last_first names = reverse (lent names)

-- the same names are among both
abbrev pub AreAlike : List (List ℕ) → List (List ℕ) → Type 0
AreAlike some others =
    (name : List ℕ) → list_any (bytes_eq name) some ≡ list_any (bytes_eq name) others
