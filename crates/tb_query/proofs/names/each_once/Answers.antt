-- No name is left, so the names so far are all.
use Rattle.std.proofs.Common.{◌≡◌, [], drop, sym, ap, ◌∙◌, arith}
use Rattle.std.specs.List.{fold}
use Rattle.std.proofs.lemmas.List.{drop_all}
use Rattle.std.specs.Str.{bytes_eq}
use Rattle.std.proofs.lemmas.Cmp.{nat_list_eq_equiv}
use Rattle.tb_query.specs.Lists.{with_once}
use Rattle.tb_query.specs.Lent.{lent}
use Rattle.tb_query.proofs.OnceLaws.{once-fold}
use Rattle.tb_query.proofs.names.each_once.Goals as goal

pub returns : goal.returns
returns c =
    let done : drop c.names.name-index c.args.names.now ≡ [] = drop_all c.names.name-index c.args.names.now (omega (arith, c.names-test.false)) in
    ap (λ left. fold (with_once bytes_eq) c.names.once.items (lent left)) (sym done) ∙ c.names.invariant.whole ∙ once-fold bytes_eq nat_list_eq_equiv [] (lent c.args.names.now)
