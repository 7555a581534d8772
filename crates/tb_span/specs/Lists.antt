-- Lists of items, as structural joins take them.
use Rattle.std.specs.Prelude.{◌+◌, ◌<◌, Bool, ◌&&◌, nat_lt, nat_eq, List, All, AllPairs}
use Rattle.tb_span.specs.Span.{Span, Nests}
use Rattle.tb_span.specs.declared.item.Axis.{Axis}
use Rattle.tb_span.specs.declared.item.Axis.TheVariants.{Child, Descendant}
use Rattle.tb_span.specs.declared.item.Item.{Item}

-- whether a node with the first label has the one with the second on the axis
abbrev pub is_related : Axis → Span → Span → Bool
is_related Descendant u v = nat_lt u.start v.start && nat_lt v.end u.end
is_related Child u v = nat_lt u.start v.start && nat_lt v.end u.end && nat_eq (u.level + 1) v.level

-- starts rise strictly
abbrev pub IsSortedByStart : List Item → Type 0
IsSortedByStart xs = AllPairs (λ x y. x.label.start < y.label.start) xs

-- any two items of the two lists nest
abbrev pub Nest : List Item → List Item → Type 0
Nest xs ys = All (λ x. All (λ y. Nests x.label y.label) ys) xs

-- two lists that can be joined: each sorted by start, and together they nest
pub record AreJoinable (ancestors descendants : List Item) : Type 0 where
  pub ancestors_sorted : IsSortedByStart ancestors
  pub descendants_sorted : IsSortedByStart descendants
  pub ancestors_nest : Nest ancestors ancestors
  pub descendants_nest : Nest descendants descendants
  pub both_nest : Nest ancestors descendants
