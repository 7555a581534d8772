-- What the program keeps of variables while it plans.
use Rattle.tb_tlc.specs.declared.scope.Scope as kept
use Rattle.tb_tlc.specs.Planned.{Scope}

-- as the definitions have it
abbrev pub seen : kept.Scope → Scope
seen s = record { lets = s.lets.items; columns = s.columns.items }
