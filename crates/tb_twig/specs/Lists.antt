-- The lists of nodes with which matching begins: for each pattern node those that meet its test and conditions.
use Rattle.std.specs.Prelude.{ℕ, Bool, List, [], map, filter, slice_index_or}
use Rattle.std.specs.List.{list_all}
use Rattle.tb_tree.specs.Plain.{Plain}
use Rattle.tb_tree.specs.Nodes.{node_at}
use Rattle.tb_tree.specs.Value.{value_of}
use Rattle.tb_span.specs.declared.item.Item.{Item}
use Rattle.tb_label.specs.Rows.{listed}
use Rattle.tb_label.specs.Comparands.{stands_to}
use Rattle.tb_label.specs.declared.comparand.Comparand as comparand
use Rattle.tb_label.specs.declared.comparand.Comparand.TheVariants as comparands
use Rattle.tb_pattern.specs.Plain.{PlainPattern, matching}
use Rattle.tb_pattern.specs.Conditions.{all_hold}
use Rattle.tb_pattern.specs.declared.cond.Cond.{Cond}
use Rattle.tb_pattern.specs.declared.cond.Literal.{Literal}
use Rattle.tb_pattern.specs.declared.cond.Literal.TheVariants.{Number, Text}
use Rattle.tb_twig.specs.Branches.{Branch, test_of}
use Rattle.tb_twig.specs.declared.branch.Branch as code
use Rattle.tb_twig.specs.declared.condition.Condition.{Condition}
use Rattle.tb_twig.specs.declared.nodes.Nodes.{Nodes}
use Rattle.tb_twig.specs.declared.nodes.Nodes.TheVariants.{Lent, Kept}

abbrev pub items_in : Nodes → List Item
items_in (Lent items) = items.now
items_in (Kept items) = items.items

-- the list of pattern node x
abbrev pub list_at : List Nodes → ℕ → List Item
list_at lists x = slice_index_or (map items_in lists) x []

-- an edge without the pattern at its lower end
abbrev pub branch_of : Branch → code.Branch
branch_of s = record { up = s.up; axis = s.axis; mark = s.mark }

-- the conditions of a pattern node
abbrev pub conds_of : PlainPattern → List Cond
conds_of (matching test conds whole edges) = conds

-- the items of the nodes that meet the test and the conditions of a pattern node
abbrev pub holding : Plain → List Cond → List Item → List Item
holding root conds items = filter (λ i. all_hold conds (value_of (node_at root i.node))) items

abbrev pub first_list : Plain → PlainPattern → List Item
first_list root to = holding root (conds_of to) (listed (test_of to) root)

-- a condition that is prepared for many values
abbrev pub comparand_of : Literal → comparand.Comparand
comparand_of (Number n) = comparands.Number n
comparand_of (Text text) = comparands.Bytes text

abbrev pub prepared : Cond → Condition
prepared cond = record { op = cond.op; with = comparand_of cond.with }

-- whether all of them hold for a value
abbrev pub all_stand : List Condition → List ℕ → Bool
all_stand conds value = list_all (λ cond. stands_to cond.op value cond.with) conds
