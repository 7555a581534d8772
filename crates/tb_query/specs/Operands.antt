-- The values of operands. What may be past the range of signed numbers of 128 bits is an `Option`,
-- and `None` says that it is.
use Rattle.std.specs.Prelude.{ℕ, List, [], ◌∷◌, ℤ, pos, Option, Some, None, option_map, option_to_list, map, fold, filter_map, length}
use Rattle.std.specs.Int.{int_min, int_max}
use Rattle.tb_tree.specs.Numbers.{Numbered}
use Rattle.tb_tree.specs.Value.{value_of}
use Rattle.tb_number.specs.Reading.{integer_of}
use Rattle.tb_number.specs.Canonical.{canonical_text}
use Rattle.tb_number.specs.Range.{running_sum}
use Rattle.tb_number.specs.declared.agg.AggKind.{AggKind}
use Rattle.tb_number.specs.declared.agg.AggKind.TheVariants.{Count, Sum, Min, Max}
use Rattle.tb_query.specs.declared.path.Path.{Path}
use Rattle.tb_query.specs.declared.operand.Operand.{Operand}
use Rattle.tb_query.specs.declared.operand.Operand.TheVariants.{Nodes, Agg}

-- the values of nodes, in order
abbrev pub values : List Numbered → List (List ℕ)
values nodes = map (λ u. value_of u.node) nodes

-- the first of some values, or no value
abbrev pub first_of : List (List ℕ) → Option (List ℕ)
first_of [] = None
first_of (v ∷ vs) = Some v

-- the numbers of the values that are integer texts, in order; all others are passed over
abbrev pub numbers_of : List (List ℕ) → List ℤ
numbers_of vs = filter_map integer_of vs

-- the least and the greatest number, or none where there is no number
abbrev pub least : List ℤ → Option ℤ
least [] = None
least (n ∷ ns) = Some (fold int_min n ns)

-- the greatest number, or none where there is no number
abbrev pub greatest : List ℤ → Option ℤ
greatest [] = None
greatest (n ∷ ns) = Some (fold int_max n ns)

-- An aggregate of values has one value or none. A sum may be past the range.
abbrev pub aggregate : AggKind → List (List ℕ) → Option (Option (List ℕ))
aggregate Count vs = Some (Some (canonical_text (pos (length vs))))
aggregate Sum vs = option_map (λ n. Some (canonical_text n)) (running_sum (numbers_of vs))
aggregate Min vs = Some (option_map canonical_text (least (numbers_of vs)))
aggregate Max vs = Some (option_map canonical_text (greatest (numbers_of vs)))

-- The values of an operand, where each path has these nodes.
abbrev pub operand_values : (Path → List Numbered) → Operand → Option (List (List ℕ))
operand_values nodes (Nodes path) = Some (values (nodes path))
operand_values nodes (Agg kind path) =
    option_map option_to_list (aggregate kind (values (nodes path)))
