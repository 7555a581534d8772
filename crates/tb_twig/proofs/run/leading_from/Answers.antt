-- The run from the first link that leads from n or a later node.
use Rattle.std.proofs.Common.{◌-◌, nat_eq, length, drop, take, ap, ◌∙◌}
use Rattle.std.specs.List.{prefix_len}
use Rattle.std.proofs.lemmas.List.{take_rest}
use Rattle.tb_twig.specs.declared.link.Link.{Link}
use Rattle.tb_twig.proofs.RunLaws.{run-is}
use Rattle.tb_twig.proofs.run.leading_from.Goals as goal

pub returns : goal.returns
returns c =
    let links = c.args.links.now in
    let i = c.start_of.result in
    let leads = λ (l : Link). nat_eq l.above c.args.n in
    ap (λ k. take k (take (length links - i) (drop i links))) c.run_len.ensures
    ∙ ap (λ xs. take (prefix_len leads xs) xs) (take_rest links i)
    ∙ run-is c.args.n links i c.start_of.ensures.point c.requires c.start_of.ensures.within
