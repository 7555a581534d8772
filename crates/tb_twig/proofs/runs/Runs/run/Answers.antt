-- The run from where the links of the node begin.
use Rattle.std.proofs.Common.{◌-◌, nat_eq, length, drop, take, ap, ◌∙◌}
use Rattle.std.specs.List.{prefix_len}
use Rattle.std.proofs.lemmas.List.{take_rest}
use Rattle.tb_twig.specs.Links.{leading_from}
use Rattle.tb_twig.specs.declared.link.Link.{Link}
use Rattle.tb_twig.proofs.RunLaws.{run-is}
use Rattle.tb_twig.proofs.runs.Runs.run.Goals as goal

pub returns : goal.returns
returns c =
    let links = c.of-links.result.now in
    let i = c.start-from.result in
    let leads = λ (l : Link). nat_eq l.above c.args.n in
    ap (λ k. take k (take (length links - i) (drop i links))) c.run_len.ensures
    ∙ ap (λ xs. take (prefix_len leads xs) xs) (take_rest links i)
    ∙ run-is c.args.n links i c.start-from.ensures.point c.of-links.ensures.rise c.start-from.ensures.within
    ∙ ap (leading_from c.args.n) c.of-links.ensures.are
