use Rattle.std.proofs.Common.{◌≡◌, ◌++◌, sym, subst, map, filter, OnOk}
use Rattle.tb_span.specs.Lists.{is_related}
use Rattle.tb_span.specs.Seeds.{label_at}
use Rattle.tb_stackjoin.specs.Pairs.{pair}
use Rattle.tb_stackjoin.proofs.PairLaws.{all_related}
use Rattle.tb_stackjoin.proofs.pairing.pair_all.Goals as goal

pub returns-in-Descendant-clause-pairs : goal.returns-in-Descendant-clause-pairs
returns-in-Descendant-clause-pairs g c =
    let a = c.args.a.now in
    let v = c.args.label.now in
    let had = c.args.pairs.now.items in
    let all = subst (λ xs. OnOk c.pair_each.result (c.pair_each.new.pairs.items ≡ had ++ map (λ i. pair i c.args.place) xs)) (sym (all_related a c.args.stack.now v c.requires.above)) c.pair_each.ensures in
    subst (λ axis. OnOk c.pair_each.result (c.pair_each.new.pairs.items ≡ had ++ map (λ i. pair i c.args.place) (filter (λ i. is_related axis (label_at a i) v) c.args.stack.now))) (sym c.in-Descendant.is) all
