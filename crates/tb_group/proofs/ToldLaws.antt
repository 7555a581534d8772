-- Spans tell the same of bytes that have grown, and what was appended.
use Rattle.std.proofs.Common.{◌≡◌, ℕ, ◌-◌, ◌≤◌, Bool, true, false, cond, nat_lt, List, [], ◌∷◌, ◌++◌, map, length, take, drop, Some, None, refl, sym, ap, ap₂, ◌∙◌, arith, append-nil}
use Rattle.std.proofs.Math.Seq.{drop-append_seam, take-length}
use Rattle.std.proofs.lemmas.Bool.Decides.{nat_tests}
use Rattle.std.proofs.lemmas.Bool.{ltb-false}
use Rattle.std.proofs.lemmas.List.{length-append, drop-append-le, take-append-le, length-drop}
use Rattle.tb_tree.proofs.lists.Maps.{map_same}
use Rattle.tb_table.specs.declared.parts.Span.{Span}
use Rattle.tb_table.specs.Layout.{span_of, AreWithin}
use Rattle.tb_group.specs.Told.{value_at, IsTold, text_behind}

kept-by : (bytes more : List ℕ) (s : Span) (b : Bool) → nat_lt s.end s.first ≡ b → s.end ≤ length bytes
    → cond b None (Some (span_of (bytes ++ more) s)) ≡ cond b None (Some (span_of bytes s))
kept-by bytes more s true is within = refl
kept-by bytes more s false is within =
    let order = ltb-false s.end s.first is in
    ap Some (ap (take (s.end - s.first)) (drop-append-le s.first bytes more (omega (arith, order, within)))
    ∙ take-append-le (s.end - s.first) (drop s.first bytes) more (omega (arith, order, within, length-drop s.first bytes)))

pub value-kept : (bytes more : List ℕ) (s : Span) → s.end ≤ length bytes → value_at (bytes ++ more) s ≡ value_at bytes s
value-kept bytes more s within = kept-by bytes more s (nat_lt s.end s.first) refl within

pub values-kept : (bytes more : List ℕ) (spans : List Span) → AreWithin (length bytes) spans → map (value_at (bytes ++ more)) spans ≡ map (value_at bytes) spans
values-kept bytes more spans within =
    map_same (value_at (bytes ++ more)) (value_at bytes) spans (λ k d lt. value-kept bytes more _ (within k d lt))

pub within-kept : (bytes more : List ℕ) (spans : List Span) → AreWithin (length bytes) spans → AreWithin (length (bytes ++ more)) spans
within-kept bytes more spans within k d lt = omega (arith, within k d lt, length-append bytes more)

whole-text : (before text : List ℕ) (s : Span) → s.first ≡ length before → s.end ≡ length (before ++ text) → span_of (before ++ text) s ≡ text
whole-text before text s first end =
    let e : s.end - s.first ≡ length text = omega (arith, first, end, length-append before text) in
    ap₂ (λ n f. take n (drop f (before ++ text))) e first ∙ ap (take (length text)) (drop-append_seam before text) ∙ take-length text

-- a text that was appended
pub told-appended : (before text after : List ℕ) (s : Span) → after ≡ before ++ text → s.first ≡ length before → s.end ≡ length after → IsTold (Some text) before after s
told-appended before text after s grown first end =
    let test : nat_lt s.end s.first ≡ false = grind (arith, nat_tests, ap length grown, length-append before text) in
    record {
      more = text;
      grown = grown;
      within = omega (arith, end);
      told = ap (λ b. cond b None (Some (span_of after s))) test ∙ ap Some (ap (λ l. span_of l s) grown ∙ whole-text before text s first (end ∙ ap length grown));
    }

-- no value
pub told-nothing : (before after : List ℕ) → after ≡ before → IsTold None before after (record { first = 1; end = 0 })
told-nothing before after same = record {
  more = [];
  grown = same ∙ sym (append-nil before);
  within = omega arith;
  told = refl;
}

-- nothing, or a text, behind so many bytes
pub told-none : (before text after : List ℕ) → after ≡ before ++ text → length after ≡ length before → IsTold (text_behind text) before after (record { first = 1; end = 0 })
told-none before [] after grown same = told-nothing before after (grown ∙ append-nil before)
told-none before (b ∷ bs) after grown same = absurd (omega (arith, same, ap length grown, length-append before (b ∷ bs)))

pub told-some : (before text after : List ℕ) (s : Span) → after ≡ before ++ text → ¬ (length after ≡ length before) → s.first ≡ length before → s.end ≡ length after → IsTold (text_behind text) before after s
told-some before [] after s grown some first end = absurd (some (ap length (grown ∙ append-nil before)))
told-some before (b ∷ bs) after s grown some first end = told-appended before (b ∷ bs) after s grown first end
