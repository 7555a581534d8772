-- The commands so far are done, and those that are left can be done and stand in what is left of the script.
use Rattle.std.proofs.Common.{take, drop}
use Rattle.tb_top.specs.Running.{progress_of}
use Rattle.tb_top.proofs.DoneLaws.{Done}
use Rattle.tb_top.proofs.ReadyLaws.{Goes}
use Rattle.tb_top.proofs.TakenLaws.{AreApart, AreLeft}
use Rattle.tb_top.proofs.single.transcript.Given as goal

abbrev pub invariant-steps : goal.invariant-steps
invariant-steps g l =
    Done l.fn.w (take l.step-index l.step-items) (progress_of l.running)
    × Goes l.fn.w (drop l.step-index l.step-items) (progress_of l.running)
    × AreLeft l.fn.w l.left (drop l.step-index l.step-items)
    × AreApart (drop l.step-index l.step-items)
