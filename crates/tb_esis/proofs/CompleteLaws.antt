-- Lines that are read as a tree have no fault, and the reader makes that tree of them. So lines are read
-- as one tree at most.
use Rattle.std.proofs.Common.{◌≡◌, ℕ, IsTrue, List, [], ◌∷◌, ◌++◌, filter, Option, Some, None, refl, sym, ap, ◌∙◌, subst, arith, append_assoc}
use Rattle.std.proofs.lemmas.Bool.{false≢true}
use Rattle.tb_tree.specs.Plain.{Plain, elem, attr, text, Plains, no_kids, kid, one, plains, is_element}
use Rattle.tb_tree.specs.Escapes.{unescaped}
use Rattle.tb_tree.proofs.PlantLaws.{plains-listed}
use Rattle.tb_esis.specs.Lines.{Line, opens, closes, characters, conforms, is_kept, document_lines}
use Rattle.tb_esis.specs.Reading.{with_text, Kids, over, goes_on, child, Ends, ended, conforming, no_bytes, Spell, IsReadAs}
use Rattle.tb_esis.specs.Faults.{at_start, fault_of}
use Rattle.tb_tree.specs.Making.{Frame, Made, nothing_made, text_of}
use Rattle.tb_esis.specs.Machine.{made_behind, made_of}
use Rattle.tb_esis.proofs.KeptLaws.{clean-kept, made-kept, clean-none}
use Rattle.tb_esis.proofs.SpelledRuns.{Runs, runs-trans, runs-refl, runs-line, with_waiting, attributes_run, within, with_kids, kids_run, same_name}

-- the document, whose root has ended or has not begun
abbrev pub outside : Option Plain → Made
outside root = record { frames = []; running = []; waiting = []; root = root }

-- no byte stands before nothing, nor before an element
with_text-nothing : (given : List ℕ) → ◌≡◌ {A = Plains} no_kids (with_text given no_kids) → given ≡ []
with_text-nothing [] e = refl
with_text-nothing (b ∷ bs) e = absurd (let d : ◌≡◌ {A = Plains} no_kids (kid (text (b ∷ bs)) no_kids) = e in cc)

both_empty : (xs ys : List ℕ) → xs ++ ys ≡ [] → (xs ≡ []) × (ys ≡ [])
both_empty [] ys e = (refl, e)
both_empty (x ∷ xs) ys e = absurd (let d : ◌≡◌ {A = List ℕ} (x ∷ (xs ++ ys)) [] = e in cc)

-- what spells one element begins with no text
with_text-element : (given name : List ℕ) (tree : Plain) (kids others : Plains) → IsTrue (is_element tree) → one tree ≡ with_text given (kid (elem name kids) others)
    → (given ≡ []) × (tree ≡ elem name kids) × (others ≡ no_kids)
with_text-element [] name tree kids others e is = (refl, let d : ◌≡◌ {A = Plains} (kid tree no_kids) (kid (elem name kids) others) = is in cc, let d : ◌≡◌ {A = Plains} (kid tree no_kids) (kid (elem name kids) others) = is in cc)
with_text-element (b ∷ bs) name (elem v vs) kids others e is = absurd (let d : ◌≡◌ {A = Plains} (kid (elem v vs) no_kids) (kid (text (b ∷ bs)) (kid (elem name kids) others)) = is in cc)
with_text-element (b ∷ bs) name (attr v w) kids others e is = absurd (false≢true e)
with_text-element (b ∷ bs) name (text v) kids others e is = absurd (false≢true e)

not_text : (given : List ℕ) (tree : Plain) → IsTrue (is_element tree) → one tree ≡ with_text given no_kids → ⊥
not_text [] tree e is = let d : ◌≡◌ {A = Plains} (kid tree no_kids) no_kids = is in cc
not_text (b ∷ bs) (elem v vs) e is = let d : ◌≡◌ {A = Plains} (kid (elem v vs) no_kids) (kid (text (b ∷ bs)) no_kids) = is in cc
not_text (b ∷ bs) (attr v w) e is = false≢true e
not_text (b ∷ bs) (text v) e is = false≢true e

-- the lines behind the root
pub ends_run : {lines : List Line} → Ends lines → (tree : Plain) → Runs (outside (Some tree)) lines (outside (Some tree)) []
ends_run ended tree = runs-refl (outside (Some tree)) []
ends_run (conforming {lines = lines} more) tree = runs-trans (runs-line (outside (Some tree)) conforms lines refl) (ends_run more tree)
ends_run (no_bytes {raw = raw} {lines = lines} read more) tree =
    let behind : made_behind (outside (Some tree)) (characters raw) ≡ outside (Some tree) = rw read refl in
    let line = runs-line (outside (Some tree)) (characters raw) lines (rw read refl) in
    runs-trans (subst (λ n. Runs (outside (Some tree)) (characters raw ∷ lines) n lines) behind line) (ends_run more tree)

-- behind the root data gives no byte
pub behind_root : {room : ℕ} {given : List ℕ} {kids : Plains} {lines rest : List Line} → Kids room given kids lines rest → kids ≡ no_kids → Ends rest → (given ≡ []) × Ends lines
behind_root (over {given = given} is) none end = (with_text-nothing given (sym none ∙ is), end)
behind_root (goes_on {given = given} {raw = raw} {more = more} read later) none end =
    let behind = behind_root later none end in
    let empty = both_empty given more behind.0 in
    (empty.0, no_bytes (read ∙ ap Some empty.1) behind.1)
behind_root (child {given = given} {name = name} {kids = kids} {others = others} some named is attributes inner others_are) none end = absurd (no_element given (sym none ∙ is))
  where
    no_element : (given : List ℕ) → ◌≡◌ {A = Plains} no_kids (with_text given (kid (elem name kids) others)) → ⊥
    no_element [] e = let d : ◌≡◌ {A = Plains} no_kids (kid (elem name kids) others) = e in cc
    no_element (b ∷ bs) e = let d : ◌≡◌ {A = Plains} no_kids (kid (text (b ∷ bs)) (kid (elem name kids) others)) = e in cc

-- the whole document, from before its root
record RootMade (given : List ℕ) (lines : List Line) (tree : Plain) : Type 0 where
  none_given : given ≡ []
  runs : Runs (outside None) lines (outside (Some tree)) []

root_bytes : (given raw more : List ℕ) (lines : List Line) (tree : Plain) → unescaped raw ≡ Some more → RootMade (given ++ more) lines tree → RootMade given (characters raw ∷ lines) tree
root_bytes given raw more lines tree read later =
    let empty = both_empty given more later.none_given in
    let nothing : unescaped raw ≡ Some [] = read ∙ ap Some empty.1 in
    let behind : made_behind (outside None) (characters raw) ≡ outside None = rw nothing refl in
    let line = runs-line (outside None) (characters raw) lines (rw nothing refl) in
    record {
      none_given = empty.0;
      runs = runs-trans (subst (λ n. Runs (outside None) (characters raw ∷ lines) n lines) behind line) later.runs;
    }

root_run : {room : ℕ} {given : List ℕ} {kids : Plains} {lines rest : List Line} → Kids room given kids lines rest
    → (tree : Plain) → kids ≡ one tree → room ≡ 512 → IsTrue (is_element tree) → Ends rest → RootMade given lines tree
root_run (over {given = given} is) tree is_one deep element end = absurd (not_text given tree element (sym is_one ∙ is))
root_run (goes_on {given = given} {raw = raw} {more = more} {lines = lines} read later) tree is_one deep element end =
    root_bytes given raw more lines tree read (root_run later tree is_one deep element end)
root_run (child {room = room} {given = given} {name = name} {kids = kids} {inner = inner} {others = others} {lines = lines} {inside = inside} {behind = behind} some named is attributes kids_are others_are) tree is_one deep element end =
    let parts = with_text-element given name tree kids others element (sym is_one ∙ is) in
    let first = attributes_run attributes (outside None) refl in
    let waits = with_waiting (outside None) first.more in
    let start = runs-line waits (opens name) inside (rw named refl) in
    let f-in : Frame = record { name = name; kids = first.more } in
    let second = kids_run kids_are f-in [] None (omega (arith, deep)) in
    let inner_done = within (with_kids f-in second.more) [] second.left None in
    let end_line = runs-line inner_done (closes name) behind (rw (same_name name) refl) in
    let all_kids : plains ((first.more ++ second.more) ++ text_of second.left) ≡ kids =
    ap plains (append_assoc first.more second.more (text_of second.left) ∙ ap (λ ks. first.more ++ ks) second.listed ∙ sym first.listed) ∙ plains-listed kids in
    let root : elem name (plains ((first.more ++ second.more) ++ text_of second.left)) ≡ tree = ap (elem name) all_kids ∙ sym parts.1 in
    let last = ends_run (behind_root others_are parts.2 end).1 tree in
    record {
      none_given = parts.0;
      runs = runs-trans first.runs (runs-trans start (runs-trans second.runs (runs-trans (subst (λ t. Runs inner_done (closes name ∷ behind) (outside (Some t)) behind) root end_line) last)));
    }

pub spelled_run : (lines : List Line) (tree : Plain) → Spell lines tree → Runs nothing_made lines (outside (Some tree)) []
spelled_run lines tree s = (root_run s.spelled tree refl refl s.element s.end).runs

-- Bytes that are read as a tree have no fault, and the reader makes that tree of them.
pub read-clean : (bytes : List ℕ) (tree : Plain) → IsReadAs bytes tree → (fault_of bytes ≡ None) × ((made_of nothing_made (document_lines bytes)).root ≡ Some tree)
read-clean bytes tree reading =
    let lines = document_lines bytes in
    let run = spelled_run (filter is_kept lines) tree reading in (
      clean-none at_start lines 1 (sym (clean-kept at_start lines) ∙ run.clean refl),
      ap (λ (m : Made). m.root) (sym (made-kept nothing_made lines) ∙ run.made),
    )

-- Bytes are read as one tree at most.
pub read-unique : (bytes : List ℕ) (tree other : Plain) → IsReadAs bytes tree → IsReadAs bytes other → tree ≡ other
read-unique bytes tree other one two =
    let same : ◌≡◌ {A = Option Plain} (Some tree) (Some other) = sym (read-clean bytes tree one).1 ∙ (read-clean bytes other two).1 in
    cc
