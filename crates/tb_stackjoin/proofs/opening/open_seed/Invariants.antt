use Rattle.std.proofs.Common.{◌≡◌, map, take}
use Rattle.std.specs.List.{range_with_len}
use Rattle.tb_span.specs.Seeds.{range}
use Rattle.tb_stackjoin.specs.Reaches.{opened}
use Rattle.tb_stackjoin.proofs.opening.open_seed.Given as goal

-- the places so far
abbrev pub invariant-seed : goal.invariant-seed
invariant-seed l = record {
  reaches : l.reaches.items ≡ map (λ i. opened (range l.lo l.hi) i l.lo) (take l.number l.seed);
  stack : l.stack.items ≡ range_with_len 0 l.number;
}
