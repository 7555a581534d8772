-- Lines without a fault, and those that are passed over: they change nothing.
use Rattle.std.proofs.Common.{◌≡◌, ℕ, ◌+◌, Bool, true, false, ◌&&◌, not, List, [], ◌∷◌, filter, Option, Some, None, refl, sym}
use Rattle.std.proofs.lemmas.Bool.{and_parts, and_from, false≢true}
use Rattle.tb_tree.specs.Names.{is_name}
use Rattle.tb_tree.specs.Sound.{is_empty_list}
use Rattle.tb_tree.proofs.lists.Options.{some-none}
use Rattle.tb_esis.specs.Lines.{Line, opens, closes, attribute, characters, conforms, passed_over, is_implied, is_kept}
use Rattle.tb_esis.specs.Faults.{Open, fault_at, after_line, first_fault, fault_or}
use Rattle.tb_tree.specs.Making.{Made}
use Rattle.tb_esis.specs.Machine.{made_behind, made_of}
use Rattle.tb_esis.specs.declared.fault.EsisFault.{EsisFault}

-- no fault
abbrev pub is_no_fault : Option (ℕ → EsisFault) → Bool
is_no_fault None = true
is_no_fault (Some fault) = false

-- none of the lines has a fault, nor has the end
abbrev pub is_clean : Open → List Line → Bool
is_clean o [] = is_no_fault (fault_at o conforms)
is_clean o (line ∷ lines) = is_no_fault (fault_at o line) && is_clean (after_line o line) lines

pub no_fault-none : (f : Option (ℕ → EsisFault)) → is_no_fault f ≡ true → f ≡ None
no_fault-none None e = refl
no_fault-none (Some fault) e = absurd (false≢true e)

none_or : (f : Option (ℕ → EsisFault)) (number : ℕ) (later : Option EsisFault) → fault_or f number later ≡ None → (is_no_fault f ≡ true) × (later ≡ None)
none_or None number later e = (refl, e)
none_or (Some fault) number later e = absurd (some-none (fault number) e)

pub clean-none : (o : Open) (lines : List Line) (number : ℕ) → is_clean o lines ≡ true → first_fault number o lines ≡ None
clean-none o [] number e = rw (no_fault-none (fault_at o conforms) e) refl
clean-none o (line ∷ lines) number e =
    let parts = and_parts (is_no_fault (fault_at o line)) (is_clean (after_line o line) lines) e in
    rw (no_fault-none (fault_at o line) parts.0) (clean-none (after_line o line) lines (number + 1) parts.1)

pub none-clean : (o : Open) (lines : List Line) (number : ℕ) → first_fault number o lines ≡ None → is_clean o lines ≡ true
none-clean o [] number e = (none_or (fault_at o conforms) number None e).0
none-clean o (line ∷ lines) number e =
    let parts = none_or (fault_at o line) number (first_fault (number + 1) (after_line o line) lines) e in
    and_from (is_no_fault (fault_at o line)) (is_clean (after_line o line) lines) parts.0 (none-clean (after_line o line) lines (number + 1) parts.1)

-- a line that isn't kept
not_kept : (type name : List ℕ) → not (is_implied type && is_name name) ≡ false → (is_implied type ≡ true) × (is_name name ≡ true)
not_kept type name e = and_parts (is_implied type) (is_name name) (not-false (is_implied type && is_name name) e)
  where
    not-false : (b : Bool) → not b ≡ false → b ≡ true
    not-false true e = refl
    not-false false e = absurd (false≢true (sym e))

implied-long : (type : List ℕ) → is_implied type ≡ true → is_empty_list type ≡ false
implied-long [] e = absurd (false≢true e)
implied-long (b ∷ type) e = refl

-- It has no fault and changes nothing.
pub record Passes (line : Line) : Type 0 where
  pub no_fault : (o : Open) → fault_at o line ≡ None
  pub same_open : (o : Open) → after_line o line ≡ o
  pub same_made : (m : Made) → made_behind m line ≡ m

pub passes : (line : Line) → is_kept line ≡ false → Passes line
passes (opens name) e = absurd (false≢true (sym e))
passes (closes name) e = absurd (false≢true (sym e))
passes (attribute name type raw) e =
    let parts = not_kept type name e in
    record {
      no_fault = λ o. rw (parts.1, implied-long type parts.0, parts.0) refl;
      same_open = λ o. rw parts.0 refl;
      same_made = λ m. rw parts.0 refl;
    }
passes (characters raw) e = absurd (false≢true (sym e))
passes conforms e = absurd (false≢true (sym e))
passes passed_over e = record { no_fault = λ o. refl; same_open = λ o. refl; same_made = λ m. refl }

clean_case : (o : Open) (line : Line) (lines : List Line) (k : Bool) → is_kept line ≡ k → ((o : Open) → is_clean o (filter is_kept lines) ≡ is_clean o lines)
    → is_clean o (filter is_kept (line ∷ lines)) ≡ is_clean o (line ∷ lines)
clean_case o line lines true e more = rw (e, more (after_line o line)) refl
clean_case o line lines false e more =
    let p = passes line e in
    rw (e, p.no_fault o, p.same_open o, more o) refl

pub clean-kept : (o : Open) (lines : List Line) → is_clean o (filter is_kept lines) ≡ is_clean o lines
clean-kept o [] = refl
clean-kept o (line ∷ lines) = clean_case o line lines (is_kept line) refl (λ o. clean-kept o lines)

made_case : (m : Made) (line : Line) (lines : List Line) (k : Bool) → is_kept line ≡ k → ((m : Made) → made_of m (filter is_kept lines) ≡ made_of m lines)
    → made_of m (filter is_kept (line ∷ lines)) ≡ made_of m (line ∷ lines)
made_case m line lines true e more = rw (e, more (made_behind m line)) refl
made_case m line lines false e more = rw (e, (passes line e).same_made m, more m) refl

pub made-kept : (m : Made) (lines : List Line) → made_of m (filter is_kept lines) ≡ made_of m lines
made-kept m [] = refl
made-kept m (line ∷ lines) = made_case m line lines (is_kept line) refl (λ m. made-kept m lines)
