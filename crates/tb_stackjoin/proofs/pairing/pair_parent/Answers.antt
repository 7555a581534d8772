use Rattle.std.proofs.Common.{◌≡◌, ◌+◌, ◌-◌, ◌++◌, ◌∙◌, sym, ap, subst, length, take, map, append-nil}
use Rattle.std.proofs.lemmas.Bool.{iff_false}
use Rattle.tb_span.specs.Span.{Span}
use Rattle.tb_span.specs.Seeds.{label_at}
use Rattle.tb_stackjoin.specs.Pairs.{pair}
use Rattle.tb_tree.proofs.lists.Parts.{last-split}
use Rattle.tb_stackjoin.proofs.PairLaws.{parent-top, parent-none}
use Rattle.tb_stackjoin.proofs.pairing.pair_parent.Goals as goal

pub returns-in_ok-push-clause-pairs : goal.returns-in_ok-push-clause-pairs
returns-in_ok-push-clause-pairs g c =
    let a = c.args.a.now in
    let stack = c.args.stack.now in
    let top = c.in-Some.top.now in
    let v = c.args.label.now in
    let parts = last-split stack top c.in-Some.ensures.item.3.0 c.in-Some.ensures.item.1 in
    let next : (label_at a top).level + 1 ≡ v.level = subst (λ (u : Span). u.level + 1 ≡ v.level) c.label_of.ensures.is (c.is_level_below.ensures.tells.0 c.if-is_level_below.true) in
    c.in_ok-push.ensures.items
    ∙ ap (λ xs. c.args.pairs.now.items ++ map (λ i. pair i c.args.place) xs) (sym (parent-top a (length a) stack (take (length stack - 1) stack) top v parts c.requires.stacked c.requires.above next))

pub returns-else-is_level_below-clause-pairs : goal.returns-else-is_level_below-clause-pairs
returns-else-is_level_below-clause-pairs g c =
    let a = c.args.a.now in
    let stack = c.args.stack.now in
    let top = c.in-Some.top.now in
    let v = c.args.label.now in
    let parts = last-split stack top c.in-Some.ensures.item.3.0 c.in-Some.ensures.item.1 in
    let none : (label_at a top).level + 1 ≡ v.level → ⊥ = λ e. iff_false c.is_level_below.ensures.tells c.if-is_level_below.false (subst (λ (u : Span). u.level + 1 ≡ v.level) (sym c.label_of.ensures.is) e) in
    sym (append-nil c.args.pairs.now.items)
    ∙ ap (λ xs. c.args.pairs.now.items ++ map (λ i. pair i c.args.place) xs) (sym (parent-none a (length a) stack (take (length stack - 1) stack) top v parts c.requires.stacked c.requires.above none))
