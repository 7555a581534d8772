-- Names fit on a line.
use Rattle.std.proofs.Common.{◌≡◌, ℕ, Bool, true, false, not, ◌&&◌, ◌==◌, nat_le, List, [], ◌∷◌, length, refl, subst, eqb-true}
use Rattle.std.specs.List.{list_all}
use Rattle.std.proofs.lemmas.Bool.{and_parts, and_from, false≢true}
use Rattle.tb_script.specs.Forms.{is_label_byte, is_label}
use Rattle.tb_script.specs.Runnable.{IsNamed}
use Rattle.tb_script.specs.declared.command.Command.{Command}
use Rattle.tb_script.specs.declared.command.Command.TheVariants.{Load, Query, Tell, Hear}

label_byte-no_end : (b : ℕ) → is_label_byte b ≡ true → not (b == 10) ≡ true
label_byte-no_end b e = by (b == 10) refl
  where
    by : (t : Bool) → (b == 10) ≡ t → not t ≡ true
    by true f = absurd (false≢true (subst (λ c. is_label_byte c ≡ true) (eqb-true b 10 f) e))
    by false f = refl

no_end : (bs : List ℕ) → list_all is_label_byte bs ≡ true → list_all (λ b. not (b == 10)) bs ≡ true
no_end [] e = refl
no_end (b ∷ bs) e =
    let parts = and_parts (is_label_byte b) (list_all is_label_byte bs) e in
    and_from (not (b == 10)) (list_all (λ c. not (c == 10)) bs) (label_byte-no_end b parts.0) (no_end bs parts.1)

-- A name has no byte 10.
pub label-one_line : (name : List ℕ) → is_label name ≡ true → list_all (λ b. not (b == 10)) name ≡ true
label-one_line name e = no_end name (and_parts (nat_le 1 (length name) && nat_le (length name) 64) (list_all is_label_byte name) e).1

-- the name in a command has no byte 10
abbrev pub IsOneLine : Command → Type 0
IsOneLine (Load name lines) = list_all (λ b. not (b == 10)) name ≡ true
IsOneLine (Query text) = Unit {0}
IsOneLine (Tell mark name) = list_all (λ b. not (b == 10)) name ≡ true
IsOneLine (Hear mark name) = list_all (λ b. not (b == 10)) name ≡ true

pub named-one_line : (c : Command) → IsNamed c → IsOneLine c
named-one_line (Load name lines) named = label-one_line name named
named-one_line (Query text) named = tt
named-one_line (Tell mark name) named = label-one_line name named
named-one_line (Hear mark name) named = label-one_line name named
