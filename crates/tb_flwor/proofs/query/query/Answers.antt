-- The keyword MATCH begins a query of a pattern, and any other token one of clauses.
use Rattle.std.proofs.Common.{sym, ◌∙◌}
use Rattle.tb_flwor.proofs.QueryBuilding.{match-asks, flwor-asks}
use Rattle.tb_flwor.proofs.query.query.Goals as goal

pub returns-then-is_match : goal.returns-then-is_match
returns-then-is_match c = match-asks c.args.tokens.now c.in_ok-pattern.field-0 (sym c.is_match.ensures ∙ c.if-is_match.true) c.in_ok-pattern.ensures

pub returns : goal.returns
returns c =
    flwor-asks c.args.names.now c.args.tokens.now c.in_ok-query.field-0-1.now c.in_ok-query.query (sym c.is_match.ensures ∙ c.if-is_match.false)
    c.requires c.in_ok-query.ensures
