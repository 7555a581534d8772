-- Behind IN and `:=` all names but the last are known.
use Rattle.std.proofs.Common.{sym, ◌∙◌}
use Rattle.tb_flwor.proofs.NameLaws.{lent-known}
use Rattle.tb_flwor.proofs.variables.known_behind.Goals as goal

pub returns-then-has : goal.returns-then-has
returns-then-has c =
    lent-known c.args.before c.args.names.now c.saturating_sub.result (sym c.has.ensures ∙ c.if-has.true) c.saturating_sub.ensures
