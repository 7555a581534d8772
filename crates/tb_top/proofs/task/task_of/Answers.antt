-- The one word is compared byte by byte.
use Rattle.std.proofs.Common.{◌≡◌, ℕ, ◌≤◌, ◌<◌, true, List, [], ◌∷◌, length, get_or, map, codes, String, string_bytes, Global, sym, ap, ap₂, ◌∙◌, arith}
use Rattle.std.specs.Str.{bytes_eq}
use Rattle.std.proofs.lemmas.Slice.Eq.{bytes_eq-Decides}
use Rattle.tb_top.proofs.task.task_of.Goals as goal

one_word : (words : List (String Global)) (word : String Global) (text : List ℕ) → 1 ≤ length words → length words < 2 → word ≡ get_or words 0 word
    → bytes_eq (string_bytes word) text ≡ true → map string_bytes words ≡ text ∷ []
one_word [] word text some few at is = absurd (omega arith)
one_word (w ∷ []) word text some few at is = ap (λ x. x ∷ []) ((bytes_eq-Decides (string_bytes w) text).0 (ap (λ (x : String Global). bytes_eq (string_bytes x) text) (sym at) ∙ is))
one_word (w ∷ v ∷ ws) word text some few at is = absurd (omega arith)

pub returns-then-eq : goal.returns-then-eq
returns-then-eq c =
    one_word c.args.words.now c.word-item.result (codes "single") (omega arith) (omega arith) c.word-item.is
    (sym (ap₂ bytes_eq c.as_bytes.ensures.value c.as_slice.ensures) ∙ sym c.eq.ensures ∙ c.if-eq.true)

pub returns-then-eq-2 : goal.returns-then-eq-2
returns-then-eq-2 c =
    one_word c.args.words.now c.word-item.result (codes "check") (omega arith) (omega arith) c.word-item.is
    (sym (ap₂ bytes_eq c.as_bytes-2.ensures.value c.as_slice-2.ensures) ∙ sym c.eq-2.ensures ∙ c.if-eq-2.true)
