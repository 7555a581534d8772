-- A text more is pushed, until none is left.
use Rattle.tb_tree.proofs.PieceLaws.{pushed-more, pushed-all}
use Rattle.tb_tree.proofs.pieces.push_texts.Goals as goal

pub texts-preserved : goal.texts-preserved
texts-preserved c = λ values told.
    pushed-more c.args.text.now c.texts.rest.now c.in-Some.behind.now c.in-Some.extent _ c.texts.value.items c.push_unescaped.new.out.items c.raw_behind.result.now c.in_ok-push_unescaped.field-0 values c.in-Some.ensures
    c.raw_behind.ensures c.in_ok-push_unescaped.ensures (c.texts.invariant values told)

pub returns : goal.returns
returns c = λ values told. pushed-all c.args.text.now c.texts.rest.now _ _ values c.in_default.ensures (c.texts.invariant values told)
