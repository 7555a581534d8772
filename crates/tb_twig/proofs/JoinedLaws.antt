-- What a structural join by ancestor is as links, and where its pairs lie.
use Rattle.std.proofs.Common.{◌≡◌, ◌<◌, List, length, map, sym, ap, ◌∙◌, subst}
use Rattle.std.proofs.lemmas.List.Elements.{All-weaker}
use Rattle.tb_span.specs.Seeds.{all_of}
use Rattle.tb_span.specs.declared.item.Axis.{Axis}
use Rattle.tb_span.specs.declared.item.Item.{Item}
use Rattle.tb_span.specs.declared.item.Pair.{Pair}
use Rattle.tb_stackjoin.specs.Pairs.{pairs_by_ancestor}
use Rattle.tb_stackjoin.proofs.ListedLaws.{IsRelatedPair}
use Rattle.tb_stackjoin.proofs.OwnLaws.{by_ancestor-related}
use Rattle.tb_stackjoin.proofs.ItemLaws.{joined}
use Rattle.tb_twig.specs.Narrowed.{link, links_between}
use Rattle.tb_twig.specs.Hits.{link_at, AreWithin}
use Rattle.tb_twig.specs.declared.link.Link.{Link}

pub within-above : (axis : Axis) (a d : List Item) (pairs : List Pair) → pairs ≡ pairs_by_ancestor axis a d (all_of d) → AreWithin (λ p. p.a) (length a) pairs
within-above axis a d pairs is =
    subst (AreWithin (λ p. p.a) (length a)) (sym is)
    (All-weaker (IsRelatedPair axis a d (all_of d)) (λ p. p.a < length a) (λ p r. r.ancestor) (pairs_by_ancestor axis a d (all_of d)) (by_ancestor-related axis a d (all_of d)))

pub within-below : (axis : Axis) (a d : List Item) (pairs : List Pair) → pairs ≡ pairs_by_ancestor axis a d (all_of d) → AreWithin (λ p. p.d) (length d) pairs
within-below axis a d pairs is =
    subst (AreWithin (λ p. p.d) (length d)) (sym is)
    (All-weaker (IsRelatedPair axis a d (all_of d)) (λ p. p.d < length d) (λ p r. r.below) (pairs_by_ancestor axis a d (all_of d)) (by_ancestor-related axis a d (all_of d)))

pub links-are : (axis : Axis) (a d : List Item) (pairs : List Pair) (links : List Link) → pairs ≡ pairs_by_ancestor axis a d (all_of d) → links ≡ map (link_at a d) pairs → links ≡ links_between axis a d
links-are axis a d pairs links is are = are ∙ ap (map (link_at a d)) is ∙ joined (λ x y. link x.node y.node) axis a d
