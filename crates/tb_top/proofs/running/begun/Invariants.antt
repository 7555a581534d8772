use Rattle.std.proofs.Common.{◌≡◌, map}
use Rattle.std.specs.List.{range_with_len}
use Rattle.tb_top.specs.Running.{begun}
use Rattle.tb_top.proofs.running.begun.Given as goal

-- each part so far has its first line
abbrev pub invariant-sessions : goal.invariant-sessions
invariant-sessions l = map (λ part. part.items) l.parts.items ≡ map begun (range_with_len 0 l.session)
