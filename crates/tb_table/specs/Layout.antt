-- How the cells of a column lie in memory.
use Rattle.std.specs.Prelude.{◌≤◌, ◌-◌, ◌==◌, ℕ, if◌then◌else◌, List, [], ◌∷◌, Some, None, map, take, drop, length, nat_lt, All}
use Rattle.tb_table.specs.declared.node_ref.NodeRef.{NodeRef}
use Rattle.tb_table.specs.declared.cell.Cell.{Cell}
use Rattle.tb_table.specs.declared.cell.Cell.TheVariants.{Nodes, Value}
use Rattle.tb_table.specs.declared.parts.Span.{Span}
use Rattle.tb_table.specs.declared.parts.Parts.{Parts}
use Rattle.tb_table.specs.declared.parts.Parts.TheVariants.{Single, Lists, Values, Mixed}

-- the items of a span
abbrev pub span_of : {A : Type 0} → List A → Span → List A
span_of xs s = take (s.end - s.first) (drop s.first xs)

abbrev pub single : NodeRef → Cell
single u = Nodes (if u.node == 0 then [] else u ∷ [])

abbrev pub listed : List NodeRef → Span → Cell
listed nodes s = Nodes (span_of nodes s)

abbrev pub valued : List ℕ → Span → Cell
valued bytes s = Value (if nat_lt s.end s.first then None else Some (span_of bytes s))

abbrev pub cells_of : Parts → List Cell
cells_of (Single nodes) = map single nodes.items
cells_of (Lists spans nodes) = map (listed nodes.items) spans.items
cells_of (Values spans bytes) = map (valued bytes.items) spans.items
cells_of (Mixed cells) = cells.items

-- the spans end within so many items
abbrev pub AreWithin : ℕ → List Span → Type 0
AreWithin n spans = All (λ s. s.end ≤ n) spans

abbrev pub IsWithin : Parts → Type 0
IsWithin (Single nodes) = Unit {0}
IsWithin (Lists spans nodes) = AreWithin (length nodes.items) spans.items
IsWithin (Values spans bytes) = AreWithin (length bytes.items) spans.items
IsWithin (Mixed cells) = Unit {0}
