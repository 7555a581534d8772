-- Plans that can be evaluated: what each operator looks at is there.
use Rattle.std.specs.Prelude.{◌≡◌, ◌⊎◌, ℕ, ◌+◌, ◌<◌, IsTrue, List, [], ◌∷◌, ◌++◌, length, map, flat_map, ⊤}
use Rattle.std.specs.List.{AllByRecursion}
use Rattle.tb_tree.specs.Names.{is_name}
use Rattle.tb_tree.specs.Sound.{are_different}
use Rattle.tb_tree.specs.declared.against.Against.{Against}
use Rattle.tb_tree.specs.declared.against.Against.TheVariants as against
use Rattle.tb_tree.specs.declared.shape.Shape.{Shape}
use Rattle.tb_tree.specs.declared.shape.Shape.TheVariants.{Nodes, Elem}
use Rattle.tb_tree.specs.declared.shape.ShapeElem.{ShapeElem, fold-ShapeElem}
use Rattle.tb_tree.specs.declared.shape.ShapePart.TheOpen.{ShapeElem-F, ShapePart-F}
use Rattle.tb_tree.specs.declared.shape.ShapeContent.{ShapeContent}
use Rattle.tb_tree.specs.declared.shape.ShapeContent.TheVariants as content
use Rattle.tb_pattern.specs.declared.pattern.Pattern.{Pattern}
use Rattle.tb_query.specs.declared.path.Step.{Step}
use Rattle.tb_tlc.specs.declared.plan.ColumnStart.{ColumnStart}
use Rattle.tb_tlc.specs.declared.plan.ColumnStart.TheVariants.{Document, Column}
use Rattle.tb_tlc.specs.declared.plan.Op.{Op}
use Rattle.tb_tlc.specs.declared.plan.Op.TheVariants.{Match, Select, Filter, ValueJoin, Group, Aggregate, Order, Project, Distinct, Construct}

-- the column is there, and there is a step from a document
abbrev pub StartStands : ℕ → ColumnStart → List Step → Type 0
StartStands n (Document name) steps = 0 < length steps
StartStands n (Column c) steps = c < n

abbrev pub AgainstStands : ℕ → Against → Type 0
AgainstStands n (against.Column c) = c < n
AgainstStands n (against.Number k) = ⊤
AgainstStands n (against.Text bytes) = ⊤

-- An operator can stand where the table has n columns. `Match` and `Construct` stand in their own places.
abbrev pub OpStands : ℕ → Op → Type 0
OpStands n (Match pattern) = ⊥
OpStands n (Select start steps mark) = StartStands n start steps
OpStands n (Filter left op right) = (left < n) × AgainstStands n right
OpStands n (ValueJoin left right) = (left < n) × (right < n)
OpStands n (Group key) = key < n
OpStands n (Aggregate from kind) = from < n
OpStands n (Order keys) = AllByRecursion (λ k. k.column < n) keys
OpStands n (Project columns) = AllByRecursion (λ c. c < n) columns
OpStands n Distinct = ⊤
OpStands n (Construct shape) = ⊥

-- how many columns the table has then
abbrev pub width_after : ℕ → Op → ℕ
width_after n (Select start steps mark) = n + 1
width_after n (Group key) = n + 1
width_after n (Aggregate from kind) = n + 1
width_after n (Project columns) = length columns
width_after n _ = n

-- each operator can stand, and the table has fewer than 2^32 columns after it
abbrev pub OpsStand : ℕ → List Op → Type 0
OpsStand n [] = ⊤
OpsStand n (op ∷ ops) =
    OpStands n op × (width_after n op < 4294967296) × OpsStand (width_after n op) ops

abbrev pub width_of : ℕ → List Op → ℕ
width_of n [] = n
width_of n (op ∷ ops) = width_of (width_after n op) ops

-- what a shape needs: columns, and elements by their names and those of their attributes
pub data Need : Type 0 where
  column : ℕ → Need
  an_element : List ℕ → List (List ℕ) → Need

abbrev pub needs_of_content : ShapeContent → List Need
needs_of_content (content.Text bytes) = []
needs_of_content (content.Column c) = column c ∷ []

abbrev pub elem_needs : ShapeElem-F (List Need) (List Need) → List Need
elem_needs e =
    an_element e.name (map (λ a. a.name) e.attrs)
    ∷ (flat_map (λ a. needs_of_content a.from) e.attrs ++ flat_map (λ needs. needs) e.parts)

abbrev pub part_needs : ShapePart-F (List Need) (List Need) → List Need
part_needs (ShapePart-F.Elem needs) = needs
part_needs (ShapePart-F.Content c) = needs_of_content c

abbrev pub needs_of_elem : ShapeElem → List Need
needs_of_elem = fold-ShapeElem (List Need) (List Need) part_needs elem_needs

abbrev pub needs_of : Shape → List Need
needs_of (Nodes c) = column c ∷ []
needs_of (Elem e) = needs_of_elem e

-- The column is there; or the names are names, and those of the attributes differ.
abbrev pub NeedStands : ℕ → Need → Type 0
NeedStands n (column c) = c < n
NeedStands n (an_element name attributes) =
    IsTrue (is_name name) × AllByRecursion (λ a. IsTrue (is_name a)) attributes
    × IsTrue (are_different attributes)

-- operators that make rows, and one `Construct` behind them
pub record MakesTrees (ops : List Op) : Type 0 where
  pub before : List Op
  pub shape : Shape
  pub are : ops ≡ before ++ Construct shape ∷ []
  pub stand : OpsStand 0 before
  pub needs : AllByRecursion (NeedStands (width_of 0 before)) (needs_of shape)

-- a pattern alone
pub record IsAlone (ops : List Op) : Type 0 where
  pub pattern : Pattern
  pub are : ops ≡ Match pattern ∷ []

abbrev pub IsWellFormed : List Op → Type 0
IsWellFormed ops = IsAlone ops ⊎ MakesTrees ops
