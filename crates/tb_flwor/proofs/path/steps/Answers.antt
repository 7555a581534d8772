-- Steps are built one after the other.
use Rattle.std.proofs.Common.{sym, ◌∙◌}
use Rattle.tb_token.specs.grammar.Paths.{step}
use Rattle.tb_flwor.specs.Value.{more_steps}
use Rattle.tb_pattern.proofs.RunLaws.{list-start}
use Rattle.tb_flwor.proofs.PathLaws.{steps-next, steps-end}
use Rattle.tb_flwor.proofs.path.steps.Goals as goal

pub steps-init : goal.steps-init
steps-init c = list-start step more_steps c.push.new.self.items c.in_ok-first.left.now

pub steps-preserved : goal.steps-preserved
steps-preserved c =
    rw c.in_ok-push-2.ensures.items
    (steps-next c.push.new.self.items c.steps.found.items c.in_ok-next.next c.in_ok-first.left.now c.steps.left.now c.in_ok-next.rest.now
    (sym c.begins.ensures ∙ c.steps-test.true) c.steps.invariant c.in_ok-next.ensures.built c.in_ok-next.ensures.shorter)

pub returns-clause-built : goal.returns-clause-built
returns-clause-built c =
    rw c.from_vec.ensures
    (steps-end c.in_ok-first.first c.steps.found.items c.args.tokens.now c.in_ok-first.left.now c.steps.left.now (sym c.begins.ensures ∙ c.steps-test.false)
    c.in_ok-first.ensures.built (rw (c.in_ok-push.ensures.items, c.new-found.ensures.items) at c.steps.invariant))
