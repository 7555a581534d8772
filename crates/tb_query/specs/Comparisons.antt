-- Which tuples the conditions of a query keep.
use Rattle.std.specs.Prelude.{ℕ, Bool, true, false, not, ◌||◌, if◌then◌else◌, List, [], ◌∷◌, ◌++◌, Option, Some, option_map, option_and_then, filter}
use Rattle.std.specs.List.{list_any}
use Rattle.tb_tree.specs.Numbers.{Numbered}
use Rattle.tb_number.specs.Comparison.{holds}
use Rattle.tb_number.specs.Values.{value_cmp}
use Rattle.tb_number.specs.declared.op.CmpOp.{CmpOp}
use Rattle.tb_number.specs.declared.agg.AggKind.{AggKind}
use Rattle.tb_number.specs.declared.agg.AggKind.TheVariants.{Sum}
use Rattle.tb_pattern.specs.Conditions.{stands}
use Rattle.tb_pattern.specs.declared.cond.Literal as literal
use Rattle.tb_tree.specs.Documents.{Docs}
use Rattle.tb_query.specs.Tuples.{Tuple, Lets, nodes_in, standing}
use Rattle.tb_query.specs.Operands.{operand_values}
use Rattle.tb_query.specs.declared.path.Path.{Path}
use Rattle.tb_query.specs.declared.operand.Operand as operand
use Rattle.tb_query.specs.declared.operand.Operand.TheVariants.{Nodes, Agg}
use Rattle.tb_query.specs.declared.operand.Comparison.{Comparison}
use Rattle.tb_query.specs.declared.operand.Right.{Right}
use Rattle.tb_query.specs.declared.operand.Right.TheVariants.{Operand, Literal}

-- some value of the left and some value of the right stand so
abbrev pub some_stand : CmpOp → List (List ℕ) → List (List ℕ) → Bool
some_stand op left right = list_any (λ a. list_any (λ b. holds op (value_cmp a b)) right) left

-- some value of the left stands so to the literal
abbrev pub some_stand_to : CmpOp → List (List ℕ) → literal.Literal → Bool
some_stand_to op left to = list_any (λ a. stands op a to) left

-- Whether a comparison holds, once its left operand is taken. The right one is taken in any case.
abbrev pub right_stands : (Path → List Numbered) → CmpOp → List (List ℕ) → Right → Option Bool
right_stands nodes op left (Operand right) =
    option_map (some_stand op left) (operand_values nodes right)
right_stands nodes op left (Literal to) = Some (some_stand_to op left to)

-- whether a comparison holds, where each path has these nodes
abbrev pub comparison_holds : (Path → List Numbered) → Comparison → Option Bool
comparison_holds nodes c =
    option_and_then (λ left. right_stands nodes c.op left c.right) (operand_values nodes c.left)

-- whether a sum is taken
abbrev pub is_sum : AggKind → Bool
is_sum Sum = true
is_sum _ = false

-- an operand is a sum
abbrev pub takes_sum : operand.Operand → Bool
takes_sum (Nodes path) = false
takes_sum (Agg kind path) = is_sum kind

-- a literal takes none
abbrev pub right_takes_sum : Right → Bool
right_takes_sum (Operand right) = takes_sum right
right_takes_sum (Literal to) = false

-- a comparison takes a sum on either side
abbrev pub has_sum : Comparison → Bool
has_sum c = takes_sum c.left || right_takes_sum c.right

-- those without a sum in written order, and then those with one, in written order
abbrev pub as_tested : List Comparison → List Comparison
as_tested conds = filter (λ c. not (has_sum c)) conds ++ filter has_sum conds

-- whether all hold; behind one that fails none is tested
abbrev pub all_tested : (Path → List Numbered) → List Comparison → Option Bool
all_tested nodes [] = Some true
all_tested nodes (c ∷ conds) =
    option_and_then (λ held. if held then all_tested nodes conds else Some false)
    (comparison_holds nodes c)

-- the nodes of a path in a tuple
abbrev pub nodes_at : Docs → Lets → Tuple → Path → List Numbered
nodes_at docs lets tuple path = nodes_in docs (standing lets path) tuple

-- the tuple, where the conditions hold for it
abbrev pub passing : Docs → Lets → List Comparison → Tuple → Option (List Tuple)
passing docs lets conds tuple =
    option_map (λ held. if held then tuple ∷ [] else [])
    (all_tested (nodes_at docs lets tuple) (as_tested conds))
