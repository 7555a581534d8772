-- The next command's refusal stands before those of the commands behind it, whatever the command is.
use Rattle.std.proofs.Common.{◌+◌, sym, subst}
use Rattle.std.specs.List.{AllByRecursion}
use Rattle.std.specs.Vec.Iter.{into_iter_items}
use Rattle.tb_top.specs.Check.{IsRefusal}
use Rattle.tb_top.specs.Single.{IsBuilt}
use Rattle.tb_top.proofs.CheckLaws.{lines-end, none-left, left-more, passed, failed}
use Rattle.tb_top.proofs.check.push_refusals_of.Goals as goal

pub commands-preserved : goal.commands-preserved
commands-preserved c =
    let passes = passed c.in_ok-built.built _ _ c.if-not-built.false c.in_ok-built.ensures in
    left-more c.args.session c.commands.number c.args.text.now.items c.commands.text.items c.push_refusal.new.text.items c.args.commands.items
    (into_iter_items c.commands.command-iterator) (into_iter_items c.next.new.self) c.in-Some.command c.in-Some.ensures.steps.0 c.commands.invariant passes.0 passes.1

pub commands-preserved-else-not-built : goal.commands-preserved-else-not-built
commands-preserved-else-not-built c =
    let passes = passed c.in_ok-built.built _ _ c.if-not-built.false c.in_ok-built.ensures in
    left-more c.args.session c.commands.number c.args.text.now.items c.commands.text.items c.push_refusal.new.text.items c.args.commands.items
    (into_iter_items c.commands.command-iterator) (into_iter_items c.next.new.self) c.in-Some.command c.in-Some.ensures.steps.0 c.commands.invariant passes.0 passes.1

pub commands-preserved-else-not-built-2 : goal.commands-preserved-else-not-built-2
commands-preserved-else-not-built-2 c =
    let passes = passed c.in_ok-built.built _ _ c.if-not-built.false c.in_ok-built.ensures in
    left-more c.args.session c.commands.number c.args.text.now.items c.commands.text.items c.push_refusal.new.text.items c.args.commands.items
    (into_iter_items c.commands.command-iterator) (into_iter_items c.next.new.self) c.in-Some.command c.in-Some.ensures.steps.0 c.commands.invariant passes.0 passes.1

pub returns-then-not-built : goal.returns-then-not-built
returns-then-not-built c whole =
    failed c.in_ok-built.built _ _ c.if-not-built.true c.in_ok-built.ensures (subst (AllByRecursion IsBuilt) c.in-Some.ensures.steps.0 (c.commands.invariant.4 whole)).0

pub returns : goal.returns
returns c =
    let it = c.commands.command-iterator in
    let left = c.commands.invariant in
    let none = none-left (into_iter_items it) it.rest.len it.rest.ok.0 c.in-None.ensures.steps.0 in
    (left.3 (subst (AllByRecursion IsBuilt) (sym none) tt), left.0 c.commands.text.items (lines-end (IsRefusal c.args.session) (c.commands.number + 1) (into_iter_items it) c.commands.text.items none))
