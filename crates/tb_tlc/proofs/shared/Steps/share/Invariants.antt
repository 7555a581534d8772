use Rattle.std.proofs.Common.{◌≡◌, ◌++◌, drop}
use Rattle.tb_tlc.specs.Shared.{parts_of}
use Rattle.tb_tlc.proofs.shared.Steps.share.Given as goal

-- the steps so far, with those of the parts that are left, make the whole
abbrev pub invariant-parts : goal.invariant-parts
invariant-parts l = parts_of l.parts.items ++ parts_of (drop l.part-index l.part-items) ≡ l.self
