-- A block of plain bytes more.
use Rattle.std.proofs.Common.{◌≡◌, ◌+◌, ◌-◌, true, take, drop, refl, sym, ap, ◌∙◌, arith}
use Rattle.std.specs.List.{list_all}
use Rattle.tb_tree.specs.Written.{is_plain}
use Rattle.tb_tree.proofs.PrintLaws.{plain-block}
use Rattle.tb_tree.proofs.escaped.plain_blocks.Goals as goal

pub steps-preserved : goal.steps-preserved
steps-preserved c =
    let bytes = c.args.bytes.now in
    let at = c.steps.at in
    let block : list_all is_plain (take 64 (drop at bytes)) ≡ true =
    ap (λ n. list_all is_plain (take n (drop at bytes))) (let e : 64 ≡ at + 64 - at = omega arith in e) ∙ sym c.are_plain.ensures ∙ c.if-not-are_plain.false in
    record {
      within = omega (arith, c.steps-test.true);
      plain = plain-block bytes at 64 (at + 64) refl c.steps.invariant.plain block;
    }
