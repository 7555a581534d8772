-- The bytes before the line go into the body, and their line ends are counted.
use Rattle.std.proofs.Common.{◌≡◌, ℕ, ◌+◌, ◌<◌, ◌≤◌, Bool, List, ◌++◌, length, take, drop, count_by, sym, ap, ◌∙◌, arith, take-append-drop}
use Rattle.std.proofs.lemmas.List.{length-take, length-drop}
use Rattle.memchr.specs.Find.{is_byte, places}
use Rattle.memchr.proofs.lemmas.CallerLemmas.{length-places, length-places-le}
use Rattle.tb_script.specs.Lines.{whole_lines}
use Rattle.tb_script.specs.Entries.{load_body, entries}
use Rattle.tb_script.proofs.DotLaws.{passed-behind, passed-whole}
use Rattle.tb_script.proofs.body.next_dotted.Goals as goal

-- no more than there are bytes before the line
few : (test : ℕ → Bool) (bytes : List ℕ) (at n : ℕ) → at < length bytes → n ≡ length (places test (take at bytes)) → n ≤ at
few test bytes at n within e = omega (arith, within, e, length-places-le test (take at bytes), length-take at bytes)

pub returns-in-None : goal.returns-in-None
returns-in-None c = λ at name kept. passed-whole c.args.bytes.now c.in-None.ensures at c.args.number name kept

pub overflow_cast-passed : goal.overflow_cast-passed
overflow_cast-passed c =
    let within = c.in-Some.ensures.0 in
    let n = few (is_byte c.new.result.needle1) c.args.bytes.now c.in-Some.at c.count-passed.result within c.count-passed.ensures in
    omega (arith, n, within, c.requires.numbers)

pub overflow_add-result : goal.overflow_add-result
overflow_add-result c =
    let within = c.in-Some.ensures.0 in
    let n = few (is_byte c.new.result.needle1) c.args.bytes.now c.in-Some.at c.count-passed.result within c.count-passed.ensures in
    omega (arith, n, within, c.requires.numbers)

pub returns-in-Some : goal.returns-in-Some
returns-in-Some c =
    let bytes = c.args.bytes.now in
    let at = c.in-Some.at in
    let found = c.in-Some.ensures in
    let n = few (is_byte c.new.result.needle1) bytes at c.count-passed.result found.0 c.count-passed.ensures in
    let count : c.count-passed.result ≡ count_by (is_byte 10) (take at bytes) = c.count-passed.ensures ∙ length-places (is_byte c.new.result.needle1) (take at bytes) ∙ ap (λ t. count_by t (take at bytes)) c.new.ensures in
    let rest = c.behind.ensures in
    let long = ap length rest ∙ length-drop at bytes in
    record {
      passed = take at bytes;
      joined = sym (take-append-drop at bytes) ∙ ap (λ r. take at bytes ++ r) (sym rest);
      same = λ load name kept.
          ap (λ bs. entries (load_body load name kept) c.args.number (whole_lines bs)) (sym (take-append-drop at bytes))
          ∙ passed-behind (take at bytes) (drop at bytes) found.1 found.2 load c.args.number name kept
          ∙ ap (λ m. entries (load_body load name (kept ++ take at bytes)) (c.args.number + m) (whole_lines (drop at bytes))) (sym count)
          ∙ ap (λ r. entries (load_body load name (kept ++ take at bytes)) (c.args.number + c.count-passed.result) (whole_lines r)) (sym rest);
      some = omega (arith, long, found.0);
      numbers = omega (arith, long, found.0, n);
      later = omega arith;
    }
