use Rattle.std.proofs.Common.{List, map, ap, ◌∙◌}
use Rattle.tb_script.specs.Rounds.{numbered}
use Rattle.tb_script.specs.Runnable.{commands_in}
use Rattle.tb_script.specs.declared.command.Script.{Script}
use Rattle.tb_script.proofs.BeginLaws.{begins}
use Rattle.tb_script.proofs.order.start.Goals as goal

pub returns : goal.returns
returns c =
    let left = c.in_ok-rests_of.ensures ∙ ap (λ (ss : List Script). map (numbered 0) (map (λ s. s.commands.items) ss)) c.deref.ensures.value in
    begins (commands_in c.args.w.now) c.args.w.now.marks _ c.requires left c.in_ok-untold.ensures c.in_ok-no_waiters.ensures c.new.ensures.items c.all.ensures
