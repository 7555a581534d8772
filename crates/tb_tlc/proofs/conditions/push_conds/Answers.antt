use Rattle.std.proofs.Common.{◌++◌, ◌+◌, not, sym, ap, ◌∙◌, arith, append_assoc}
use Rattle.std.specs.List.{filter}
use Rattle.tb_query.specs.Comparisons.{has_sum}
use Rattle.tb_tlc.specs.Planned.{conds_ops, conds_width}
use Rattle.tb_tlc.specs.Scopes.{seen}
use Rattle.tb_tlc.proofs.WidthLaws.{conds_width-append, conds_ops-append}
use Rattle.tb_tlc.proofs.conditions.push_conds.Goals as goal

pub push_plain-requires : goal.push_plain-requires
push_plain-requires c =
    let both = conds_width-append (filter (λ k. not (has_sum k)) c.args.conds.now) (filter has_sum c.args.conds.now) in
    let narrow = c.requires.narrow in
    record { narrow = omega (arith, both, narrow) }

pub push_sums-requires : goal.push_sums-requires
push_sums-requires c =
    let both = conds_width-append (filter (λ k. not (has_sum k)) c.args.conds.now) (filter has_sum c.args.conds.now) in
    let narrow = c.requires.narrow in
    let next = c.in_ok-next.ensures.next in
    record { narrow = omega (arith, both, narrow, next) }

pub returns-clause-ops : goal.returns-clause-ops
returns-clause-ops c =
    let plain = filter (λ k. not (has_sum k)) c.args.conds.now in
    let sums = filter has_sum c.args.conds.now in
    let s = seen c.args.scope.now in
    c.in_ok-next-2.ensures.ops
    ∙ ap (λ ops. ops ++ conds_ops s c.in_ok-next.next sums) c.in_ok-next.ensures.ops
    ∙ ap (λ n. c.args.ops.now.items ++ conds_ops s c.args.start plain ++ conds_ops s n sums) c.in_ok-next.ensures.next
    ∙ append_assoc c.args.ops.now.items (conds_ops s c.args.start plain) (conds_ops s (c.args.start + conds_width plain) sums)
    ∙ ap (λ ops. c.args.ops.now.items ++ ops) (sym (conds_ops-append s c.args.start plain sums))

pub returns-clause-next : goal.returns-clause-next
returns-clause-next c =
    let both = conds_width-append (filter (λ k. not (has_sum k)) c.args.conds.now) (filter has_sum c.args.conds.now) in
    let first = c.in_ok-next.ensures.next in
    let second = c.in_ok-next-2.ensures.next in
    omega (arith, both, first, second)
