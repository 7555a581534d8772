-- The names of the open elements, and the end that may come next.
use Rattle.std.proofs.Common.{◌≡◌, ℕ, ◌+◌, Bool, true, false, ◌==◌, List, [], ◌∷◌, ◌++◌, length, Option, Some, None, Bor, Ok, refl, ap, ◌∙◌, subst, arith, length-append}
use Rattle.std.specs.List.{list_all}
use Rattle.std.proofs.lemmas.Bool.{and_parts, and_from, false≢true}
use Rattle.std.proofs.lemmas.Slice.Eq.{bytes_eq-Decides}
use Rattle.tb_tree.specs.Plain.{Plain}
use Rattle.tb_tree.specs.Names.{is_name}
use Rattle.tb_tree.specs.Making.{Frame, Made, put, text_of, is_innermost, innermost_name, with_text_ended, with_element_ended, with_frames_ended}
use Rattle.tb_tree.specs.Drafts.{Shows}
use Rattle.tb_tree.proofs.LineLaws.{is_inner, cuts-behind}
use Rattle.tb_tree.proofs.PrintedBytes.{name_bytes-inner}
use Rattle.tb_esis.specs.Lines.{Line, opens, closes, attribute, characters, conforms, passed_over, is_implied}
use Rattle.tb_esis.specs.Faults.{fault_at}
use Rattle.tb_esis.specs.Machine.{made_behind, open_of}
use Rattle.tb_esis.specs.Readers.{are_named, MayClose, IsTaken, TakesLine}
use Rattle.tb_esis.specs.declared.reader.Reader.{Reader}
use Rattle.tb_esis.proofs.PrintedLines.{name-all}
use Rattle.tb_esis.proofs.SoundLaws.{no_start_fault}

put-named : (nodes : List Plain) (fs : List Frame) → are_named (put nodes fs) ≡ are_named fs
put-named nodes [] = refl
put-named nodes (f ∷ fs) = refl

ended-named : (m : Made) (fs : List Frame) → are_named fs ≡ true → are_named (with_frames_ended m fs).frames ≡ true
ended-named m [] all = refl
ended-named m (f ∷ fs) all = put-named _ fs ∙ (and_parts (is_name f.name) (are_named fs) all).1

attribute-named : (m : Made) (name type raw : List ℕ) (implied : Bool) → is_implied type ≡ implied → are_named m.frames ≡ true → are_named (made_behind m (attribute name type raw)).frames ≡ true
attribute-named m name type raw true e all = rw e all
attribute-named m name type raw false e all = rw e all

-- A line without a fault leaves names named.
pub frames-named : (m : Made) (line : Line) → fault_at (open_of m) line ≡ None → are_named m.frames ≡ true → are_named (made_behind m line).frames ≡ true
frames-named m (opens name) none all =
    and_from (is_name name) (are_named (put (text_of m.running) m.frames)) (no_start_fault (open_of m) name none).0 (put-named (text_of m.running) m.frames ∙ all)
frames-named m (closes name) none all = ended-named (with_text_ended m) (put (text_of m.running) m.frames) (put-named (text_of m.running) m.frames ∙ all)
frames-named m (attribute name type raw) none all = attribute-named m name type raw (is_implied type) refl all
frames-named m (characters raw) none all = all
frames-named m conforms none all = all
frames-named m passed_over none all = all

innermost-inner : (fs : List Frame) (name : List ℕ) → innermost_name fs ≡ Some name → are_named fs ≡ true → list_all is_inner name ≡ true
innermost-inner [] name e all = absurd (let d : ◌≡◌ {A = Option (List ℕ)} None (Some name) = e in cc)
innermost-inner (f ∷ fs) name e all =
    let same : f.name ≡ name = (let d : ◌≡◌ {A = Option (List ℕ)} (Some f.name) (Some name) = e in cc) in
    name_bytes-inner name (name-all name (subst (λ n. is_name n ≡ true) same (and_parts (is_name f.name) (are_named fs) all).0))

innermost-is : (fs : List Frame) (name : List ℕ) → innermost_name fs ≡ Some name → is_innermost name fs ≡ true
innermost-is [] name e = absurd (let d : ◌≡◌ {A = Option (List ℕ)} None (Some name) = e in cc)
innermost-is (f ∷ fs) name e = (bytes_eq-Decides f.name name).1 (let d : ◌≡◌ {A = Option (List ℕ)} (Some f.name) (Some name) = e in cc)

end_case : (m : Made) (name : List ℕ) (fs : List Frame) → m.frames ≡ fs → m.waiting ≡ [] → is_innermost name fs ≡ true → fault_at (open_of m) (closes name) ≡ None
end_case m name [] are none found = absurd (false≢true found)
end_case m name (f ∷ fs) are none found = rw (none, are, found) refl

pub close-innermost : (m : Made) (name : List ℕ) → MayClose m name → is_innermost name m.frames ≡ true
close-innermost m name may = innermost-is m.frames name may.innermost

-- The end that comes next is read as a line.
pub end-taken : (lines behind name : List ℕ) (m : Made) (r : Reader) → lines ≡ 41 ∷ (name ++ 10 ∷ behind) → are_named m.frames ≡ true → MayClose m name
    → Shows r.draft (with_element_ended (with_text_ended m)) → IsTaken lines behind m r
end-taken lines behind name m r is named may shown = record {
  line = 41 ∷ name;
  cut = cuts-behind lines (41 ∷ name) behind (innermost-inner m.frames name may.innermost named) is;
  read = record {
    no_fault = end_case m name m.frames refl may.none_wait (close-innermost m name may);
    reading = shown;
  };
}

pub end-length : (lines behind name : List ℕ) → lines ≡ 41 ∷ (name ++ 10 ∷ behind) → length lines ≡ 2 + length name + length behind
end-length lines behind name is = omega (arith, ap length is, length-append name (10 ∷ behind))

-- what was read of the lines
pub taken-some : (o : Option (Bor (List ℕ))) (b : Bor (List ℕ)) (lines : List ℕ) (number : ℕ) (m : Made) (r : Reader) → o ≡ Some b → TakesLine lines number m r (Ok o) → IsTaken lines b.now m r
taken-some o b lines number m r is taken = subst (λ x. TakesLine lines number m r (Ok x)) is taken

pub taken-none : (o : Option (Bor (List ℕ))) (lines : List ℕ) (number : ℕ) (m : Made) (r : Reader) → o ≡ None → TakesLine lines number m r (Ok o) → (lines ≡ []) × Shows r.draft m
taken-none o lines number m r is taken = subst (λ x. TakesLine lines number m r (Ok x)) is taken
