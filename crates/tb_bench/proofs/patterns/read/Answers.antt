-- A pattern that is read has few edges.
use Rattle.tb_plan.proofs.CountLaws.{read-few}
use Rattle.tb_bench.proofs.patterns.read.Goals as goal

pub returns-in-Ok-read_pattern : goal.returns-in-Ok-read_pattern
returns-in-Ok-read_pattern c = read-few _ c.in-Ok-read_pattern.pattern c.in-Ok-read_pattern.ensures
