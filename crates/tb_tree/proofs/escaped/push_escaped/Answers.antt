-- Runs of plain bytes and the escapes between them make the escaped value.
use Rattle.std.proofs.Common.{◌≡◌, ◌++◌, sym, ap, ◌∙◌, append_assoc}
use Rattle.tb_tree.specs.Printed.{escaped, escaped_byte}
use Rattle.tb_tree.specs.Written.{CutsEscape}
use Rattle.tb_tree.proofs.PrintLaws.{grown, written_more, escaped-plain, escaped-cut, cut-told, told-more}
use Rattle.tb_tree.proofs.escaped.push_escaped.Goals as goal

pub runs-preserved : goal.runs-preserved
runs-preserved c =
    let cut : CutsEscape c.runs.rest.now c.in-Some.run'.now c.in-Some.byte c.in-Some.behind.now = c.in-Some.ensures in
    let more = c.in-Some.run'.now ++ escaped_byte c.in-Some.byte in
    let is : c.push_escape.new.out.items ≡ c.runs.out.items ++ more =
    c.in_ok-push_escape.ensures.escaped ∙ ap (λ l. l ++ escaped_byte c.in-Some.byte) c.in_ok-extend_from_slice.ensures.items
    ∙ append_assoc c.runs.out.items c.in-Some.run'.now (escaped_byte c.in-Some.byte) in
    record {
      whole = c.in_ok-rest.ensures.escaped ∙ written_more c.runs.out.items _ _ more _ (escaped c.in-Some.behind.now) is (escaped-cut c.runs.rest.now c.in-Some.run'.now c.in-Some.behind.now c.in-Some.byte cut) c.runs.invariant.whole;
      told = told-more c.runs.told _ _ (cut-told c.runs.rest.now c.in-Some.run'.now c.in-Some.behind.now c.in-Some.byte cut) c.runs.invariant.told;
      prefix =
          let first = grown c.args.out.now.items c.runs.out.items c.push_escape.new.out.items more c.runs.invariant.prefix is in
          let then = c.push_escapes.ensures.prefix in
          grown c.args.out.now.items c.push_escape.new.out.items c.push_escapes.new.out.items then.0 first then.1;
    }

pub returns-clause-escaped : goal.returns-clause-escaped
returns-clause-escaped c =
    c.in_ok-extend_from_slice-2.ensures.items ∙ ap (λ l. c.runs.out.items ++ l) (sym (escaped-plain c.runs.rest.now c.in_default.ensures)) ∙ c.runs.invariant.whole
