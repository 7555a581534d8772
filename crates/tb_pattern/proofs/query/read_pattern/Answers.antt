-- Tokens of a cut rise and their numbers are digits; without fault they are built.
use Rattle.std.proofs.Common.{◌∙◌, ap, length, None, arith}
use Rattle.tb_token.specs.tokens.Lexemes.{toks_of}
use Rattle.tb_token.proofs.lexing.CutLaws.{rise-of_cut}
use Rattle.tb_token.proofs.lexing.DigitLaws.{digits-of_cut}
use Rattle.tb_token.proofs.lexing.LexemeLaws.{rise-few, toks-length}
use Rattle.tb_pattern.specs.BuiltParts.{Asks}
use Rattle.tb_pattern.specs.Faults.{HasNoFault}
use Rattle.tb_pattern.proofs.QueryBuilding.{match-comes}
use Rattle.tb_pattern.proofs.query.read_pattern.Goals as goal

pub lexemes-requires-clause-rise : goal.lexemes-requires-clause-rise
lexemes-requires-clause-rise c = rise-of_cut c.args.text.now c.args.tokens.now None c.requires.cut

pub check_match-requires : goal.check_match-requires
check_match-requires c =
    let same = ap length (c.as_slice.ensures.value ∙ c.in_ok-lexemes.ensures) in
    let few = rise-few 0 (length c.args.text.now) c.args.tokens.now (rise-of_cut c.args.text.now c.args.tokens.now None c.requires.cut) in
    let short = c.requires.short in
    omega (arith, toks-length 1 c.args.text.now c.args.tokens.now)

pub returns : goal.returns
returns c =
    let same = c.as_slice-2.ensures.value ∙ c.in_ok-lexemes.ensures in
    let fine : HasNoFault (toks_of c.args.text.now c.args.tokens.now) = rw (c.as_slice.ensures.value, c.in_ok-lexemes.ensures) at c.in_ok-check_match.ensures in
    let asks : Asks (toks_of c.args.text.now c.args.tokens.now) c.in_ok-pattern.field-0 = rw same at c.in_ok-pattern.ensures in
    (fine, asks (match-comes (toks_of c.args.text.now c.args.tokens.now) fine (digits-of_cut c.args.text.now c.args.tokens.now None c.requires.cut)))
