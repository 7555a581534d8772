-- A node more, with its kids built from the extents inside its own.
use Rattle.std.proofs.Common.{◌≡◌, ◌+◌, ◌-◌, ◌<◌, ◌≤◌, length, take, drop, refl, ap, sym, ◌∙◌, subst, arith, length-take, length-drop}
use Rattle.std.proofs.lemmas.List.{nil_from_length}
use Rattle.tb_tree.specs.Extents.{named}
use Rattle.tb_tree.proofs.BuiltLaws.{IsBuilt, built-more, built-all, no_extent}
use Rattle.tb_tree.proofs.built.+nodes_of.Goals as goal

pub nodes_of-requires : goal.nodes_of-requires
nodes_of-requires t c =
    let most : length c.args.extents.now ≡ t = c.decreases in
    let here : length c.prefix.result.now < t =
    omega (arith, most, c.nodes.invariant.within, c.in-len1-up.len_at_least, ap length c.prefix.ensures, length-take c.saturating_sub-below.result c.suffix-behind.result.now, ap length c.suffix-behind.ensures, length-drop 1 c.nodes.rest.now) in
    (here, tt)

pub nodes-preserved : goal.nodes-preserved
nodes-preserved t c =
    let rest = c.nodes.rest.now in
    let below = c.saturating_sub-below.result in
    let some : 1 ≤ length rest = c.in-len1-up.len_at_least in
    record {
      within = omega (arith, c.nodes.invariant.within, ap length c.suffix-rest.ensures, length-drop below c.suffix-behind.result.now, ap length c.suffix-behind.ensures, length-drop 1 rest);
      built = λ level ks are.
          subst (λ n. IsBuilt c.args.source.now.text.now (named c.args.source.now.elements.now c.args.source.now.attributes.now) c.suffix-rest.result.now (n + 1) level c.push.new.self.items ks) (sym c.last_of-last.ensures.is)
          (built-more c.args.source.now.text.now (named c.args.source.now.elements.now c.args.source.now.attributes.now) rest no_extent c.nodes.number level below c.saturating_add.result
          c.nodes.nodes.items c.push.new.self.items c.in_ok-kids.kids.items c.in_ok-node_by.field-0 c.prefix.result.now c.suffix-rest.result.now ks some (λ x. refl) (λ x. refl)
          (omega (arith, c.last_of-last.ensures)) (c.saturating_sub-below.ensures ∙ ap (λ l. l - c.nodes.number) c.last_of-last.ensures.is) c.saturating_add.ensures
          (c.prefix.ensures ∙ ap (take below) c.suffix-behind.ensures) (c.suffix-rest.ensures ∙ ap (drop below) c.suffix-behind.ensures) c.in_ok-kids.ensures c.in_ok-node_by.ensures c.in_ok-push.ensures.items (c.nodes.invariant.built level ks are));
    }

pub returns : goal.returns
returns t c = λ level ks are.
    built-all _ _ _ _ level _ ks (nil_from_length c.nodes.rest.now (omega (arith, c.in_default.len_below))) (c.nodes.invariant.built level ks are)
