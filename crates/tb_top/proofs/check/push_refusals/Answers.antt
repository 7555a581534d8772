-- The next session's refusals stand before those of the sessions behind it.
use Rattle.std.proofs.Common.{◌≡◌, ◌+◌, List, ◌∷◌, [], map, length, sym, ap, ◌∙◌, subst, arith}
use Rattle.std.specs.List.{AllByRecursion}
use Rattle.std.specs.Vec.Iter.{into_iter_items}
use Rattle.tb_script.specs.Runnable.{HasBodyThatFits}
use Rattle.tb_script.specs.declared.command.Command.{Command}
use Rattle.tb_script.specs.declared.command.Script.{Script}
use Rattle.tb_top.specs.Check.{AreRefusals}
use Rattle.tb_top.specs.Single.{IsBuilt}
use Rattle.tb_top.proofs.CheckLaws.{lines-more, lines-end, none-left, passed, failed}
use Rattle.tb_top.proofs.check.push_refusals.Goals as goal

abbrev commands : List Script → List (List Command)
commands ss = map (λ s. s.commands.items) ss

pub sessions-preserved : goal.sessions-preserved
sessions-preserved c =
    let ss = into_iter_items c.sessions.script-iterator in
    let rest = into_iter_items c.next.new.self in
    let script = c.in-Some.script in
    let next : ss ≡ script ∷ rest = c.in-Some.ensures.steps.0 in
    let rows : commands ss ≡ script.commands.items ∷ commands rest = ap commands next in
    let passes = passed c.in_ok-built.built _ _ c.if-not-built.false c.in_ok-built.ensures in (
      λ new more.
          c.sessions.invariant.0 new
          (lines-more AreRefusals (c.sessions.session + 1) script.commands.items (commands ss) (commands rest) c.sessions.text.items c.push_refusals_of.new.text.items new rows passes.1 more),
      (subst (AllByRecursion (AllByRecursion HasBodyThatFits)) rows c.sessions.invariant.1).1,
      omega (arith, c.sessions.invariant.2, ap length next),
      λ behind. c.sessions.invariant.3 (subst (AllByRecursion (AllByRecursion IsBuilt)) (sym rows) (passes.0, behind)),
      λ whole. (subst (AllByRecursion (AllByRecursion IsBuilt)) rows (c.sessions.invariant.4 whole)).1,
    )

pub returns-then-not-built : goal.returns-then-not-built
returns-then-not-built c whole =
    let rows = ap commands c.in-Some.ensures.steps.0 in
    failed c.in_ok-built.built _ _ c.if-not-built.true c.in_ok-built.ensures (subst (AllByRecursion (AllByRecursion IsBuilt)) rows (c.sessions.invariant.4 whole)).0

pub returns : goal.returns
returns c =
    let it = c.sessions.script-iterator in
    let none = none-left (into_iter_items it) it.rest.len it.rest.ok.0 c.in-None.ensures.steps.0 in
    let rows : commands (into_iter_items it) ≡ [] = ap commands none in
    (c.sessions.invariant.3 (subst (AllByRecursion (AllByRecursion IsBuilt)) (sym rows) tt), c.sessions.invariant.0 c.sessions.text.items (lines-end AreRefusals (c.sessions.session + 1) (commands (into_iter_items it)) c.sessions.text.items rows))
