-- The order of groups.
use Rattle.std.specs.Prelude.{ℕ, Bool, if◌then◌else◌, List, ◌∷◌, Option, option_map}
use Rattle.std.specs.Ordering.{ordering_then, ordering_reverse}
use Rattle.std.specs.declared.cmp.Ordering.{Ordering}
use Rattle.std.specs.declared.cmp.Ordering.TheVariants.{Equal}
use Rattle.tb_tree.specs.Numbers.{Numbered}
use Rattle.tb_number.specs.Keys.{key_cmp}
use Rattle.tb_query.specs.Lists.{all_given}
use Rattle.tb_query.specs.Operands.{operand_values, first_of}
use Rattle.tb_query.specs.declared.path.Path.{Path}
use Rattle.tb_query.specs.declared.clause.Key.{Key}

-- one key of a group: its first value or none, and whether its order is turned round
pub record SortValue : Type 0 where
  pub value : Option (List ℕ)
  pub descending : Bool

-- the order of keys, turned round where it is descending
abbrev pub sort_cmp : SortValue → SortValue → Ordering
sort_cmp a b =
    if a.descending then ordering_reverse (key_cmp a.value b.value) else key_cmp a.value b.value

-- key after key
abbrev pub sort_values_cmp : List SortValue → List SortValue → Ordering
sort_values_cmp (a ∷ left) (b ∷ right) = ordering_then (sort_cmp a b) (sort_values_cmp left right)
sort_values_cmp _ _ = Equal

-- the keys of a group, where each path has these nodes
abbrev pub sort_value : (Path → List Numbered) → Key → Option SortValue
sort_value nodes key =
    option_map (λ vs. record { value = first_of vs; descending = key.descending })
    (operand_values nodes key.operand)

-- an item with its keys
abbrev pub keyed :
    {A : Type 0} → (A → Path → List Numbered) → List Key → A → Option (List SortValue × A)
keyed nodes keys x = option_map (λ vs. (vs, x)) (all_given (sort_value (nodes x)) keys)
