-- The next token is that of a path, or `<`.
use Rattle.std.proofs.Common.{sym, ◌∙◌}
use Rattle.tb_flwor.proofs.ConsLaws.{back-path, back-cons}
use Rattle.tb_flwor.proofs.back.back.Goals as goal

pub returns-then-begins : goal.returns-then-begins
returns-then-begins c =
    back-path c.args.names.now c.in_ok-path.path c.args.tokens.now c.in_ok-path.left.now (sym c.begins.ensures ∙ c.if-begins.true) c.in_ok-path.ensures.built

pub returns : goal.returns
returns c =
    back-cons c.args.names.now c.in_ok-inner.inner c.args.tokens.now c.in_ok-inner.left.now (sym c.begins.ensures ∙ c.if-begins.false)
    (rw c.behind.ensures at c.in_ok-inner.ensures.built)
