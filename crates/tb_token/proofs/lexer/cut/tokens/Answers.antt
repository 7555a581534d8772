-- Each turn takes a blank or a token, and what is left is cut from there on.
use Rattle.std.proofs.Common.{◌∙◌, sym, arith, append_assoc, append-nil, None, []}
use Rattle.tb_token.proofs.lexing.CutLaws.{rise-of_cut}
use Rattle.tb_token.proofs.lexing.PlaceLaws.{blank-cut, token-within, token-cut, end-cut}
use Rattle.tb_token.proofs.lexer.cut.tokens.Goals as goal

pub tokens-preserved-then-is_blank : goal.tokens-preserved-then-is_blank
tokens-preserved-then-is_blank c = record {
  within = omega arith;
  so_far = λ ts f d. c.tokens.invariant.so_far ts f
      (blank-cut c.args.text.now c.tokens.at ts f (omega arith) (sym c.is_blank.ensures ∙ c.if-is_blank.true) d);
}

pub tokens-preserved : goal.tokens-preserved
tokens-preserved c =
    let text = c.args.text.now in
    let t = c.in_ok-token.token in
    record {
      within = token-within text c.tokens.at [] None t c.in_ok-token.ensures;
      so_far = λ ts f d. rw (c.in_ok-push.ensures.items, append_assoc)
          (c.tokens.invariant.so_far _ f (token-cut text c.tokens.at ts f t c.in_ok-token.ensures d));
    }

pub returns-clause-cut : goal.returns-clause-cut
returns-clause-cut c =
    rw append-nil at (c.tokens.invariant.so_far [] None (end-cut c.args.text.now c.tokens.at (omega arith)))

pub returns-clause-rise : goal.returns-clause-rise
returns-clause-rise c =
    let cut = rw append-nil at (c.tokens.invariant.so_far [] None (end-cut c.args.text.now c.tokens.at (omega arith))) in
    rise-of_cut c.args.text.now c.tokens.found.items None cut
