-- How a matched node's tree begins and ends on a page.
use Rattle.std.specs.Prelude.{Bool, ◌∷◌}
use Rattle.tb_tree.specs.Plain.{Plain, elem, attr, text}
use Rattle.tb_tree.specs.Printed.{start_line, end_line, attribute_lines}
use Rattle.tb_tree.specs.Pages.{Page, with_lines, with_text, with_nodes}
use Rattle.tb_pattern.specs.WitnessTree.{own}

-- all that stands before the offered trees
abbrev pub begun : Bool → Plain → Page → Page
begun whole (elem name kids) p =
    with_nodes (with_lines (with_lines p (attribute_lines (own whole (elem name kids)))) (start_line name)) (own whole (elem name kids))
begun whole (attr name value) p = with_nodes (with_lines p (start_line (64 ∷ name))) (own whole (attr name value))
begun whole (text value) p = with_text p value

-- the end behind them
abbrev pub finished : Plain → Page → Page
finished (elem name kids) p = with_lines p (end_line name)
finished (attr name value) p = with_lines p (end_line (64 ∷ name))
finished (text value) p = p
