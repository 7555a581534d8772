-- The plan of a query.
use Rattle.std.specs.Prelude.{ℕ, ◌+◌, ◌*◌, List, [], ◌∷◌, length}
use Rattle.tb_query.specs.Comparisons.{as_tested}
use Rattle.tb_query.specs.Parts.{back_of}
use Rattle.tb_query.specs.declared.query.Flwor as flwor
use Rattle.tb_query.specs.declared.query.Query.{Query}
use Rattle.tb_query.specs.declared.query.Query.TheVariants.{Match, Flwor}
use Rattle.tb_tlc.specs.declared.plan.Op.{Op}
use Rattle.tb_tlc.specs.declared.plan.Op.TheVariants as op
use Rattle.tb_tlc.specs.Planned.{conds_width, keys_width}
use Rattle.tb_tlc.specs.Returned.{back_width, planned_flwor}

-- a pattern is alone in its plan
abbrev pub translated : Query → List Op
translated (Match p) = op.Match p ∷ []
translated (Flwor q) = planned_flwor q

-- the most columns that a query of clauses can have
abbrev pub most_columns : flwor.Flwor → ℕ
most_columns q =
    3 * length q.clauses
    + (conds_width (as_tested q.conds) + (2 + (keys_width q.keys + back_width (back_of q.back))))
