-- The lines passed go into the body, and the first line `.` ends it.
use Rattle.std.proofs.Common.{◌+◌, ◌-◌, length, take, sym, ap, ◌∙◌, arith, false, true, ◌++◌}
use Rattle.tb_script.specs.Lines.{whole_lines}
use Rattle.tb_script.specs.Entries.{no_body, load_body, entry, entries}
use Rattle.tb_script.specs.declared.entry.Said.TheVariants.{Load}
use Rattle.tb_script.proofs.BodyLaws.{prefix_more, passed_more, body_more, body_ends}
use Rattle.tb_script.proofs.body.load_body.Goals as goal
use Rattle.tb_tree.proofs.lists.Parts.{prefix_is}

pub lines-preserved : goal.lines-preserved
lines-preserved c =
    let bytes = c.args.bytes.now in
    let p = c.in-Some.ensures in
    let cut = c.in-Some-next_whole.ensures in
    let before = take (length bytes - length c.lines.rest.now) bytes in
    let dotted = passed_more bytes before c.lines.rest.now p.passed c.in-Some.dotted.now c.lines.invariant.joined p.joined in
    let whole = prefix_more bytes (before ++ p.passed) c.in-Some.dotted.now _ dotted cut in
    let prefix = prefix_is bytes _ c.in-Some-next_whole.behind.now whole in
    record {
      joined = whole ∙ ap (λ f. f ++ c.in-Some-next_whole.behind.now) (sym prefix);
      numbers = omega (arith, c.lines.invariant.numbers, p.numbers, cut.shorter);
      later = omega (arith, c.lines.invariant.later, p.later);
      same = λ at name.
          c.lines.invariant.same at name
          ∙ p.same at name before
          ∙ body_more at c.in-Some.at name (before ++ p.passed) c.in-Some.dotted.now _ cut (sym c.if-is_dot.ensures)
          ∙ ap (λ f. entries (load_body at name f) (c.in-Some.at + 1) (whole_lines c.in-Some-next_whole.behind.now)) (sym prefix);
    }

pub unreachable-requires : goal.unreachable-requires
unreachable-requires c = let none = ap length c.in_default-next_whole.ensures in absurd (omega (arith, none, c.in-Some.ensures.some))

pub returns-then-is_dot : goal.returns-then-is_dot
returns-then-is_dot c =
    let bytes = c.args.bytes.now in
    let p = c.in-Some.ensures in
    let cut = c.in-Some-next_whole.ensures in
    let before = take (length bytes - length c.lines.rest.now) bytes in
    let dotted = passed_more bytes before c.lines.rest.now p.passed c.in-Some.dotted.now c.lines.invariant.joined p.joined in
    λ at name.
    record {
      entries_are = c.lines.invariant.same at name
          ∙ p.same at name before
          ∙ body_ends at c.in-Some.at name (before ++ p.passed) c.in-Some.dotted.now _ cut (sym c.if-is_dot.ensures)
          ∙ ap (λ f. entry at (Load name f true) ++ entries no_body (c.in-Some.at + 1) (whole_lines c.in-Some-next_whole.behind.now)) (sym (prefix_is bytes (before ++ p.passed) c.in-Some.dotted.now dotted));
      numbers = omega (arith, c.lines.invariant.numbers, p.numbers, cut.shorter);
      later = omega (arith, c.lines.invariant.later, p.later);
    }

pub returns : goal.returns
returns c =
    let bytes = c.args.bytes.now in
    let before = take (length bytes - length c.lines.rest.now) bytes in
    λ at name.
    record {
      entries_are = c.lines.invariant.same at name
          ∙ c.in_default.ensures at name before
          ∙ ap (λ f. entry at (Load name f false)) (sym c.lines.invariant.joined);
      numbers = omega (arith, c.lines.invariant.numbers);
      later = c.lines.invariant.later;
    }
