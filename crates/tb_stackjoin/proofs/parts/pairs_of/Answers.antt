use Rattle.std.proofs.Common.{◌-◌, take, drop, ap₂, ◌∙◌, arith}
use Rattle.tb_stackjoin.proofs.OwnLaws.{own-bounds, own-part}
use Rattle.tb_stackjoin.proofs.parts.pairs_of.Goals as goal

pub slice_bounds-result-count : goal.slice_bounds-result-count
slice_bounds-result-count c = omega (arith, own-bounds c.args.ancestor c.args.pairs.now c.requires.rises, c.start_of.ensures, c.end_of.ensures)

pub slice_bounds-result-start : goal.slice_bounds-result-start
slice_bounds-result-start c = omega (arith, own-bounds c.args.ancestor c.args.pairs.now c.requires.rises, c.start_of.ensures, c.end_of.ensures)

pub returns : goal.returns
returns c =
    ap₂ (λ end start. take (end - start) (drop start c.args.pairs.now)) c.end_of.ensures c.start_of.ensures
    ∙ own-part c.args.ancestor c.args.pairs.now c.requires.rises
