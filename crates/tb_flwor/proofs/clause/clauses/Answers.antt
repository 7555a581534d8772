-- Clauses are built one after the other.
use Rattle.std.proofs.Common.{sym, ◌∙◌}
use Rattle.tb_flwor.proofs.ClauseLaws.{clauses-start, clauses-next, clauses-end}
use Rattle.tb_flwor.proofs.clause.clauses.Goals as goal

pub clauses-init : goal.clauses-init
clauses-init c = clauses-start c.args.names.now c.in_ok-found.found.items c.in_ok-found.left.now

pub clauses-preserved : goal.clauses-preserved
clauses-preserved c =
    rw c.in_ok-append.ensures.items
    (clauses-next c.args.names.now c.in_ok-found.found.items c.clauses.found.items c.in_ok-more.more.items c.in_ok-found.left.now c.clauses.left.now c.in_ok-more.rest.now
    (sym c.begins.ensures ∙ c.clauses-test.true) c.clauses.invariant c.in_ok-more.ensures.built c.in_ok-more.ensures.shorter)

pub returns : goal.returns
returns c =
    rw c.from_vec.ensures
    (clauses-end c.args.names.now c.in_ok-found.found.items c.clauses.found.items c.args.tokens.now c.in_ok-found.left.now c.clauses.left.now (sym c.begins.ensures ∙ c.clauses-test.false)
    c.in_ok-found.ensures.built c.clauses.invariant)
