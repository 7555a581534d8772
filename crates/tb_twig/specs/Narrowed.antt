-- What the join of an edge finds by numbers of nodes, and what it leaves of its two lists.
use Rattle.std.specs.Prelude.{ℕ, Bool, true, false, not, nat_eq, List, map, filter, flat_map}
use Rattle.std.specs.List.{list_any}
use Rattle.tb_span.specs.Lists.{is_related}
use Rattle.tb_span.specs.declared.item.Axis.{Axis}
use Rattle.tb_span.specs.declared.item.Item.{Item}
use Rattle.tb_pattern.specs.declared.pattern.Mark.{Mark}
use Rattle.tb_pattern.specs.declared.pattern.Mark.TheVariants.{One, Optional, Some, Any}
use Rattle.tb_twig.specs.declared.link.Link.{Link}

abbrev pub link : ℕ → ℕ → Link
link n m = record { above = n; below = m }

-- the links from an item to those of the list that it has on the axis
abbrev pub links_under : Axis → List Item → Item → List Link
links_under axis d x = map (λ y. link x.node y.node) (filter (λ y. is_related axis x.label y.label) d)

-- all links between two lists, by the upper node and then by the lower one
abbrev pub links_between : Axis → List Item → List Item → List Link
links_between axis a d = flat_map (links_under axis d) a

-- some link leads from, or to, the node of this number
abbrev pub leads_from : List Link → ℕ → Bool
leads_from links n = list_any (λ link. nat_eq link.above n) links

abbrev pub leads_to : List Link → ℕ → Bool
leads_to links n = list_any (λ link. nat_eq link.below n) links

-- whether a node has what an edge of this mark asks for, where it has something, or nothing, below it
abbrev pub is_met : Mark → Bool → Bool
is_met One some = some
is_met Optional some = true
is_met Some some = some
is_met Any some = true

-- whether it asks for something
abbrev pub asks : Mark → Bool
asks mark = not (is_met mark false)

-- The lower list keeps what a link leads to, and the upper one what has what the mark asks for.
abbrev pub lower_left : List Link → List Item → List Item
lower_left links d = filter (λ i. leads_to links i.node) d

abbrev pub upper_left : Mark → List Link → List Item → List Item
upper_left mark links a = filter (λ i. is_met mark (leads_from links i.node)) a
