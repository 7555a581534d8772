use Rattle.std.proofs.Common.{◌≡◌, ◌++◌, drop}
use Rattle.tb_tlc.proofs.shared.copy_steps.Given as goal

-- the copies so far, with the steps that are left, make the whole
abbrev pub invariant-steps : goal.invariant-steps
invariant-steps l = l.copies.items ++ drop l.step-index l.steps ≡ l.steps
