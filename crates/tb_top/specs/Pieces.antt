-- A text in pieces, and one that grows: words of private clauses.
use Rattle.std.specs.Prelude.{◌≡◌, ℕ, List, ◌++◌}
use Rattle.std.specs.List.{flat_map}
use Rattle.std.proofs.Common.{Vec, Global}
use Rattle.tb_top.specs.declared.pieces.Pieces as code

-- the pieces, one behind the other
abbrev pub joined : List (Vec ℕ Global) → List ℕ
joined pieces = flat_map (λ piece. piece.items) pieces

abbrev pub text_in : code.Pieces → List ℕ
text_in p = joined p.whole.items ++ p.last.items

-- the text has grown, and this holds of what was added
abbrev pub Grows : List ℕ → List ℕ → (List ℕ → Type 0) → Type 0
Grows old new P = (more : List ℕ) × P more × (new ≡ old ++ more)
