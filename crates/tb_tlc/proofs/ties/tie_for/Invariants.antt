use Rattle.std.proofs.Common.{◌≡◌, drop}
use Rattle.std.specs.List.{find}
use Rattle.tb_tlc.specs.Ties.{leads_to}
use Rattle.tb_tlc.proofs.ties.tie_for.Given as goal

-- none so far leads to the variable
abbrev pub invariant-ties : goal.invariant-ties
invariant-ties l = find (leads_to l.columns l.var l.later) (drop l.tie-index l.all) ≡ find (leads_to l.columns l.var l.later) l.all
