-- Which settings joins can be run by.
use Rattle.std.specs.Prelude.{◌≤◌}
use Rattle.tb_parjoin.specs.declared.settings.Settings.{Settings}

-- from 1 to 16 workers, and pieces of one descendant or more
pub record AreAllowed (settings : Settings) : Type 0 where
  pub some : 1 ≤ settings.workers
  pub few : settings.workers ≤ 16
  pub grain : 1 ≤ settings.grain
