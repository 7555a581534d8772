-- The commands are done in the order of the rounds, each taken out of the script when its turn comes.
use Rattle.std.proofs.Common.{◌≡◌, ◌+◌, List, [], ◌∷◌, take, drop, get_or, IsSome, sym, ◌∙◌, subst}
use Rattle.std.proofs.lemmas.List.{take_more, drop_more, take_all}
use Rattle.tb_script.specs.declared.turnstep.Turnstep.{Turnstep}
use Rattle.tb_script.specs.Runnable.{commands_in}
use Rattle.tb_script.specs.Schedule.{schedule_of}
use Rattle.tb_top.specs.Running.{progress_of}
use Rattle.tb_top.specs.Single.{IsTranscript}
use Rattle.tb_top.proofs.DoneLaws.{Done, done-start, done-more, done-run, done-transcript}
use Rattle.tb_top.proofs.RunLaws.{run-built}
use Rattle.tb_top.proofs.EndLaws.{ended-done, ended-unbuilt, built-at}
use Rattle.tb_top.proofs.ReadyLaws.{Goes, goes-start, goes-ready, goes-more}
use Rattle.tb_top.proofs.TakenLaws.{AreApart, AreLeft, order-apart, start-left, taken-left}
use Rattle.tb_top.proofs.single.transcript.Goals as goal

abbrev first : Turnstep
first = record { session = 0; command = 0 }

pub steps-init : goal.steps-init
steps-init g c =
    let w = c.args.w in
    let start = c.in_ok-running.ensures in
    let items = c.deref-step-items.ensures.value ∙ c.in_ok-steps.ensures in (
      subst (Done w []) (sym start) (done-start w),
      subst (λ (s : List Turnstep). Goes w s (progress_of c.in_ok-running.running)) (sym items) (subst (Goes w (schedule_of (commands_in w))) (sym start) (goes-start w c.requires.runnable)),
      start-left w c.deref-step-items.result.now,
      subst AreApart (sym items) (order-apart w c.requires.runnable),
    )

pub steps-preserved : goal.steps-preserved
steps-preserved g c =
    let w = c.args.w in
    let steps = c.deref-step-items.result.now in
    let i = c.steps.step-index in
    let step = get_or steps i first in
    let p = progress_of c.steps.running in
    let q = progress_of c.act.new.self in
    let next = drop_more steps i first c.steps-test.true in
    let goes = subst (λ (s : List Turnstep). Goes w s p) next c.steps.invariant.1 in
    let left = subst (AreLeft w c.steps.left) next c.steps.invariant.2 in
    let apart = subst AreApart next c.steps.invariant.3 in
    let is = sym left.0 ∙ c.take_command-command.ensures.taken in
    let does = ended-done c.in_ok-done.done step c.take_command-command.result p q c.if-not-done.false c.in_ok-done.ensures in (
      subst (λ (s : List Turnstep). Done w s q) (sym (take_more steps i first c.steps-test.true)) (done-more w (take i steps) p q step _ c.steps.invariant.0 is (goes-ready w (drop (i + 1) steps) p step _ goes is).0.session does),
      goes-more w (drop (i + 1) steps) p q step _ goes is does,
      taken-left w c.steps.left c.take_command-command.new.w step _ (drop (i + 1) steps) c.take_command-command.ensures apart.0 left.1,
      apart.1,
    )

pub take_command-command-requires : goal.take_command-command-requires
take_command-command-requires g c =
    let w = c.args.w in
    let next = drop_more c.deref-step-items.result.now c.steps.step-index first c.steps-test.true in
    let goes = subst (λ (s : List Turnstep). Goes w s (progress_of c.steps.running)) next c.steps.invariant.1 in
    let left = subst (AreLeft w c.steps.left) next c.steps.invariant.2 in
    subst IsSome (sym left.0) goes.here.0

pub act-requires-clause-stands : goal.act-requires-clause-stands
act-requires-clause-stands g c κs within =
    let w = c.args.w in
    let steps = c.deref-step-items.result.now in
    let i = c.steps.step-index in
    let p = progress_of c.steps.running in
    let next = drop_more steps i first c.steps-test.true in
    let goes = subst (λ (s : List Turnstep). Goes w s p) next c.steps.invariant.1 in
    let left = subst (AreLeft w c.steps.left) next c.steps.invariant.2 in
    (goes-ready w (drop (i + 1) steps) p (get_or steps i first) _ goes (sym left.0 ∙ c.take_command-command.ensures.taken)).0

pub act-requires-clause-ready : goal.act-requires-clause-ready
act-requires-clause-ready g c κs within =
    let w = c.args.w in
    let steps = c.deref-step-items.result.now in
    let i = c.steps.step-index in
    let p = progress_of c.steps.running in
    let next = drop_more steps i first c.steps-test.true in
    let goes = subst (λ (s : List Turnstep). Goes w s p) next c.steps.invariant.1 in
    let left = subst (AreLeft w c.steps.left) next c.steps.invariant.2 in
    (goes-ready w (drop (i + 1) steps) p (get_or steps i first) _ goes (sym left.0 ∙ c.take_command-command.ensures.taken)).1

pub returns : goal.returns
returns g c =
    let w = c.args.w in
    let steps = c.deref-step-items.result.now in
    let items = c.deref-step-items.ensures.value ∙ c.in_ok-steps.ensures in
    let p = progress_of c.steps.running in
    let whole : take c.steps.step-index steps ≡ schedule_of (commands_in w) = take_all c.steps.step-index steps c.steps-test.false ∙ items in
    let done = subst (λ (s : List Turnstep). Done w s p) whole c.steps.invariant.0 in
    (run-built w done.ds c.requires.runnable (done-run w p done) done.built, subst (IsTranscript w) (sym c.in_ok-pieces.ensures) (done-transcript w p done))

pub returns-then-not-done : goal.returns-then-not-done
returns-then-not-done g c =
    let w = c.args.w in
    let next = drop_more c.deref-step-items.result.now c.steps.step-index first c.steps-test.true in
    let left = subst (AreLeft w c.steps.left) next c.steps.invariant.2 in
    let is = sym left.0 ∙ c.take_command-command.ensures.taken in
    λ built. ended-unbuilt c.in_ok-done.done _ c.take_command-command.result _ _ c.if-not-done.true c.in_ok-done.ensures (built-at (commands_in w) _ c.take_command-command.result built is)
