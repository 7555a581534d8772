-- A page and how many trees are on it.
use Rattle.std.specs.Prelude.{ℕ, ◌+◌, ◌-◌, ◌^◌, min, List, [], ◌∷◌}
use Rattle.tb_tree.specs.Plain.{Plain}
use Rattle.tb_tree.specs.Pages.{Page, with_node}

pub record Told : Type 0 where
  pub page : Page
  pub trees : ℕ

abbrev pub told : Page → ℕ → Told
told page trees = record { page = page; trees = trees }

-- one tree more: the count stays at the greatest number of 64 bits
abbrev pub with_tree : Told → Plain → Told
with_tree t tree = told (with_node t.page tree) (min (t.trees + 1) (2 ^ 64 - 1))

-- trees more, one after the other
abbrev pub with_trees : Told → List Plain → Told
with_trees t [] = t
with_trees t (tree ∷ trees) = with_trees (with_tree t tree) trees
