-- What a plan means over documents: its operators one after the other, from the table with one row and no
-- column. `None` says that a sum is past the range of signed numbers of 128 bits.
use Rattle.std.specs.Prelude.{ℕ, List, [], ◌∷◌, Option, Some, option_map, option_and_then}
use Rattle.tb_tree.specs.Documents.{Docs, found}
use Rattle.tb_tree.specs.Plain.{Plain}
use Rattle.tb_tree.specs.Rows.{Row, first_rows}
use Rattle.tb_pattern.specs.View.{edges_of}
use Rattle.tb_query.specs.Answer.{match_trees, counted}
use Rattle.tb_query.specs.Operators.{filtered, value_joined, grouped_rows, aggregated, ordered_rows, projected, distinct}
use Rattle.tb_query.specs.Selected.{ColumnFrom, of_document, of_column, selected}
use Rattle.tb_query.specs.Shapes.{constructed}
use Rattle.tb_tlc.specs.declared.plan.ColumnStart.{ColumnStart}
use Rattle.tb_tlc.specs.declared.plan.ColumnStart.TheVariants.{Document, Column}
use Rattle.tb_tlc.specs.declared.plan.Op.{Op}
use Rattle.tb_tlc.specs.declared.plan.Op.TheVariants.{Match, Select, Filter, ValueJoin, Group, Aggregate, Order, Project, Distinct, Construct}

-- where a new column starts
abbrev pub column_from : ColumnStart → ColumnFrom
column_from (Document name) = of_document name
column_from (Column n) = of_column n

-- the trees that the rows come to
abbrev pub trees_after : Docs → List Op → List Row → Option (List Plain)
trees_after docs [] rows = Some []
trees_after docs (Match pattern ∷ ops) rows =
    Some (match_trees (edges_of pattern.edges) (found pattern.document docs))
trees_after docs (Select start steps mark ∷ ops) rows =
    trees_after docs ops (selected docs (column_from start) steps mark rows)
trees_after docs (Filter left op right ∷ ops) rows = trees_after docs ops (filtered left op right rows)
trees_after docs (ValueJoin left right ∷ ops) rows = trees_after docs ops (value_joined left right rows)
trees_after docs (Group key ∷ ops) rows = trees_after docs ops (grouped_rows key rows)
trees_after docs (Aggregate from kind ∷ ops) rows =
    option_and_then (trees_after docs ops) (aggregated from kind rows)
trees_after docs (Order keys ∷ ops) rows = trees_after docs ops (ordered_rows keys rows)
trees_after docs (Project columns ∷ ops) rows = trees_after docs ops (projected columns rows)
trees_after docs (Distinct ∷ ops) rows = trees_after docs ops (distinct rows)
trees_after docs (Construct shape ∷ ops) rows = Some (constructed shape rows)

-- the trees of a plan
abbrev pub plan_trees : Docs → List Op → Option (List Plain)
plan_trees docs ops = trees_after docs ops first_rows

-- how many trees, and their printed lines
abbrev pub meaning : Docs → List Op → Option (ℕ × List ℕ)
meaning docs ops = option_map counted (plan_trees docs ops)
