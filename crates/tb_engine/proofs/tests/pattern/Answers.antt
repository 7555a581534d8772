use Rattle.tb_plan.proofs.CountLaws.{read-few}
use Rattle.tb_engine.proofs.tests.pattern.Goals as goal

pub returns-in-Ok-read_pattern : goal.returns-in-Ok-read_pattern
returns-in-Ok-read_pattern c = record { few = read-few _ c.in-Ok-read_pattern.p c.in-Ok-read_pattern.ensures }
