-- Tokens of a cut rise and their numbers are digits; without fault they are built.
use Rattle.std.proofs.Common.{◌≡◌, ◌∙◌, ap, length, None, arith}
use Rattle.tb_token.specs.tokens.Lexemes.{toks_of}
use Rattle.tb_token.proofs.lexing.CutLaws.{rise-of_cut}
use Rattle.tb_token.proofs.lexing.DigitLaws.{digits-of_cut}
use Rattle.tb_token.proofs.lexing.LexemeLaws.{rise-few, toks-length}
use Rattle.std.specs.Prelude.{Ok}
use Rattle.tb_flwor.specs.Built.{Asks}
use Rattle.tb_flwor.specs.Calls.{Checks}
use Rattle.tb_flwor.proofs.PlannableLaws.{read-plannable}
use Rattle.tb_flwor.proofs.QueryBuilding.{query-comes}
use Rattle.tb_flwor.proofs.query.read_query.Goals as goal

pub lexemes-requires-clause-rise : goal.lexemes-requires-clause-rise
lexemes-requires-clause-rise c = rw c.as_slice.ensures.value (rise-of_cut c.args.text.now c.in_ok-tokens.tokens.items None c.in_ok-tokens.ensures.1)

pub check-requires : goal.check-requires
check-requires c =
    let text = c.args.text.now in
    let cut = c.in_ok-tokens.tokens.items in
    let same =
    ap length (c.as_slice-2.ensures.value ∙ c.in_ok-lexemes.ensures) ∙ ap (λ ts. length (toks_of text ts)) c.as_slice.ensures.value in
    let few = rise-few 0 (length text) cut (rise-of_cut text cut None c.in_ok-tokens.ensures.1) in
    let short = c.in_ok-tokens.ensures.0 in
    omega (arith, toks-length 1 text cut)

pub returns-clause-reads : goal.returns-clause-reads
returns-clause-reads c =
    let text = c.args.text.now in
    let cut = c.in_ok-tokens.tokens.items in
    let s = toks_of text cut in
    let lexemes_are : c.in_ok-lexemes.lexemes.items ≡ s = c.in_ok-lexemes.ensures ∙ ap (λ ts. toks_of text ts) c.as_slice.ensures.value in
    let checked : Checks s (Ok c.in_ok-names.names) = rw (c.as_slice-2.ensures.value, lexemes_are) at c.in_ok-names.ensures in
    let asks : Asks s c.in_ok-query.field-0 = rw (c.as_slice-3.ensures.value, lexemes_are) at c.in_ok-query.ensures in
    let digits = digits-of_cut text cut None c.in_ok-tokens.ensures.1 in
    (cut, (c.in_ok-tokens.ensures, (checked.0, asks (query-comes s checked.0.0 checked.0.1 digits))))

pub returns-clause-plannable : goal.returns-clause-plannable
returns-clause-plannable c = read-plannable c.args.text.now c.in_ok-query.field-0 (returns-clause-reads c)
