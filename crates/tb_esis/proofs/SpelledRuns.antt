-- Lines that spell a tree have no fault, and what is made of them is that tree. So they spell one tree.
use Rattle.std.proofs.Common.{◌≡◌, ℕ, ◌+◌, ◌<◌, true, false, nat_eq, List, [], ◌∷◌, ◌++◌, map, length, Option, Some, None, refl, sym, ap, ap₂, ◌∙◌, subst, arith, append_assoc, append-nil}
use Rattle.std.proofs.lemmas.Bool.{and_from, ne_eqb}
use Rattle.std.proofs.lemmas.List.{length-map, map-append}
use Rattle.std.specs.List.{list_any}
use Rattle.std.proofs.lemmas.Slice.Eq.{bytes_eq-Decides}
use Rattle.std.specs.Str.{bytes_eq}
use Rattle.tb_tree.specs.Plain.{Plain, elem, attr, Plains, no_kids, kid, plains, kids_listed}
use Rattle.tb_tree.specs.Escapes.{unescaped}
use Rattle.tb_tree.proofs.PlantLaws.{plains-listed}
use Rattle.tb_esis.specs.Lines.{Line, opens, closes, attribute, characters}
use Rattle.tb_esis.specs.Reading.{with_text, Attributes, no_more, next, Kids, over, goes_on, child}
use Rattle.tb_esis.specs.Faults.{fault_at}
use Rattle.tb_tree.specs.Making.{Frame, Made, names_of, attribute_name, text_of}
use Rattle.tb_esis.specs.Machine.{made_behind, made_of, open_of}
use Rattle.tb_esis.proofs.KeptLaws.{is_no_fault, is_clean}
use Rattle.tb_esis.proofs.OpenLaws.{open-behind}

-- from here the lines lead there, without a fault of their own
pub record Runs (m : Made) (lines : List Line) (n : Made) (rest : List Line) : Type 0 where
  pub clean : is_clean (open_of n) rest ≡ true → is_clean (open_of m) lines ≡ true
  pub made : made_of m lines ≡ made_of n rest

pub runs-refl : (m : Made) (lines : List Line) → Runs m lines m lines
runs-refl m lines = record { clean = λ e. e; made = refl }

pub runs-trans : {m n o : Made} {x y z : List Line} → Runs m x n y → Runs n y o z → Runs m x o z
runs-trans a b = record { clean = λ e. a.clean (b.clean e); made = a.made ∙ b.made }

pub runs-line : (m : Made) (line : Line) (lines : List Line) → fault_at (open_of m) line ≡ None → Runs m (line ∷ lines) (made_behind m line) lines
runs-line m line lines none = record {
  clean = λ e. and_from _ _ (ap is_no_fault none) (ap (λ o. is_clean o lines) (open-behind m line) ∙ e);
  made = refl;
}

-- attributes
abbrev pub with_waiting : Made → List Plain → Made
with_waiting m waiting = record { frames = m.frames; running = m.running; waiting = waiting; root = m.root }

pub record AttributesMade (m : Made) (kids others : Plains) (lines rest : List Line) : Type 0 where
  pub more : List Plain
  pub runs : Runs m lines (with_waiting m (m.waiting ++ more)) rest
  pub listed : kids_listed kids ≡ more ++ kids_listed others

next_attribute :
    (m : Made) (name type value raw : List ℕ) (all kids others : Plains) (lines rest : List Line)
    → fault_at (open_of m) (attribute name type raw) ≡ None
    → made_behind m (attribute name type raw) ≡ with_waiting m (m.waiting ++ attr name value ∷ [])
    → all ≡ kid (attr name value) kids
    → AttributesMade (with_waiting m (m.waiting ++ attr name value ∷ [])) kids others lines rest
    → AttributesMade m all others (attribute name type raw ∷ lines) rest
next_attribute m name type value raw all kids others lines rest none behind is later =
    let first : Plain = attr name value in
    let line = runs-line m (attribute name type raw) lines none in
    let both = runs-trans (subst (λ n. Runs m (attribute name type raw ∷ lines) n lines) behind line) later.runs in
    record {
      more = first ∷ later.more;
      runs = subst (λ ws. Runs m (attribute name type raw ∷ lines) (with_waiting m ws) rest) (append_assoc m.waiting (first ∷ []) later.more) both;
      listed = ap kids_listed is ∙ ap (λ ks. attr name value ∷ ks) later.listed;
    }

pub attributes_run : {before : List (List ℕ)} {kids others : Plains} {lines rest : List Line}
    → Attributes before kids others lines rest → (m : Made) → before ≡ names_of m.waiting → AttributesMade m kids others lines rest
attributes_run (no_more {rest = rest}) m e = record {
  more = [];
  runs = subst (λ ws. Runs m rest (with_waiting m ws) rest) (sym (append-nil m.waiting)) (runs-refl m rest);
  listed = refl;
}
attributes_run (next {name = name} {type = type} {value = value} {raw = raw} {all = all} {kids = kids} {others = others} {lines = lines} {rest = rest} named typed valued new read is more) m e =
    let unlike : list_any (bytes_eq name) (names_of m.waiting) ≡ false = subst (λ ns. list_any (bytes_eq name) ns ≡ false) e new in
    next_attribute m name type value raw all kids others lines rest
    (rw (named, typed, valued, unlike, read) refl)
    (rw (valued, read) refl)
    is
    (attributes_run more (with_waiting m (m.waiting ++ attr name value ∷ []))
    (ap (λ ns. ns ++ name ∷ []) e ∙ sym (map-append attribute_name m.waiting (attr name value ∷ []))))

-- kids
abbrev pub within : Frame → List Frame → List ℕ → Option Plain → Made
within f fs running root = record { frames = f ∷ fs; running = running; waiting = []; root = root }

abbrev pub with_kids : Frame → List Plain → Frame
with_kids f nodes = record { name = f.name; kids = f.kids ++ nodes }

-- The lines put more nodes behind the kids of the innermost element, and leave bytes of a last text.
pub record KidsMade (f : Frame) (fs : List Frame) (root : Option Plain) (given : List ℕ) (kids : Plains) (lines rest : List Line) : Type 0 where
  pub more : List Plain
  pub left : List ℕ
  pub runs : Runs (within f fs given root) lines (within (with_kids f more) fs left root) rest
  pub listed : more ++ text_of left ≡ kids_listed kids

pub listed-with_text : (given : List ℕ) (kids : Plains) → kids_listed (with_text given kids) ≡ text_of given ++ kids_listed kids
listed-with_text [] kids = refl
listed-with_text (b ∷ bs) kids = refl

no_more_kids : (f : Frame) (fs : List Frame) (root : Option Plain) (given : List ℕ) (kids : Plains) (rest : List Line) → kids ≡ with_text given no_kids → KidsMade f fs root given kids rest rest
no_more_kids f fs root given kids rest is = record {
  more = [];
  left = given;
  runs = subst (λ ks. Runs (within f fs given root) rest (within (record { name = f.name; kids = ks }) fs given root) rest) (sym (append-nil f.kids)) (runs-refl (within f fs given root) rest);
  listed = sym (append-nil (text_of given)) ∙ sym (listed-with_text given no_kids) ∙ ap kids_listed (sym is);
}

more_bytes :
    (f : Frame) (fs : List Frame) (root : Option Plain) (given raw more : List ℕ) (kids : Plains) (lines rest : List Line)
    → unescaped raw ≡ Some more → KidsMade f fs root (given ++ more) kids lines rest → KidsMade f fs root given kids (characters raw ∷ lines) rest
more_bytes f fs root given raw more kids lines rest read later =
    let line = runs-line (within f fs given root) (characters raw) lines (rw read refl) in
    let behind : made_behind (within f fs given root) (characters raw) ≡ within f fs (given ++ more) root = rw read refl in
    record {
      more = later.more;
      left = later.left;
      runs = runs-trans (subst (λ n. Runs (within f fs given root) (characters raw ∷ lines) n lines) behind line) later.runs;
      listed = later.listed;
    }

-- an element: its attributes, its start, its kids and its end lead from one state within to the next
element_listed :
    (given name : List ℕ) (attributes : List Plain) (inner_more others_more : List Plain) (inner_left others_left : List ℕ) (kids inner others : Plains)
    → kids_listed kids ≡ attributes ++ kids_listed inner → inner_more ++ text_of inner_left ≡ kids_listed inner → others_more ++ text_of others_left ≡ kids_listed others
    → (text_of given ++ (elem name (plains ((attributes ++ inner_more) ++ text_of inner_left)) ∷ others_more)) ++ text_of others_left
    ≡ kids_listed (with_text given (kid (elem name kids) others))
element_listed given name attributes inner_more others_more inner_left others_left kids inner others a b c =
    let inside : (attributes ++ inner_more) ++ text_of inner_left ≡ kids_listed kids =
    append_assoc attributes inner_more (text_of inner_left) ∙ ap (λ ks. attributes ++ ks) b ∙ sym a in
    append_assoc (text_of given) (elem name (plains ((attributes ++ inner_more) ++ text_of inner_left)) ∷ others_more) (text_of others_left)
    ∙ ap₂ (λ k ks. text_of given ++ k ∷ ks) (ap (elem name) (ap plains inside ∙ plains-listed kids)) c
    ∙ sym (listed-with_text given (kid (elem name kids) others))

not_full : (names : List (List ℕ)) → length names < 512 → nat_eq (length names) 512 ≡ false
not_full names h = ne_eqb (length names) 512 (λ e. omega (arith, e, h))

pub same_name : (name : List ℕ) → bytes_eq name name ≡ true
same_name name = (bytes_eq-Decides name name).1 refl

pub kids_run : {room : ℕ} {given : List ℕ} {kids : Plains} {lines rest : List Line}
    → Kids room given kids lines rest → (f : Frame) (fs : List Frame) (root : Option Plain) → length fs + 1 + room ≡ 512 → KidsMade f fs root given kids lines rest
kids_run (over {given = given} {kids = kids} {rest = rest} is) f fs root deep = no_more_kids f fs root given kids rest is
kids_run (goes_on {given = given} {raw = raw} {more = more} {kids = kids} {lines = lines} {rest = rest} read later) f fs root deep =
    more_bytes f fs root given raw more kids lines rest read (kids_run later f fs root deep)
kids_run (child {room = room} {given = given} {name = name} {all = all} {kids = kids} {inner = inner} {others = others} {lines = lines} {inside = inside} {behind = behind} {rest = rest} some named is attributes kids_are others_are) f fs root deep =
    let first = attributes_run attributes (within f fs given root) refl in
    let has_room : length (map (λ (g : Frame). g.name) (f ∷ fs)) < 512 = omega (arith, length-map fs (λ (g : Frame). g.name), deep, some) in
    let waits = with_waiting (within f fs given root) first.more in
    let start = runs-line waits (opens name) inside (rw (named, not_full (map (λ (g : Frame). g.name) (f ∷ fs)) has_room) refl) in
    let f-in : Frame = record { name = name; kids = first.more } in
    let f-out = with_kids f (text_of given) in
    let second = kids_run kids_are f-in (f-out ∷ fs) root (omega (arith, deep, some)) in
    let inner_done = within (with_kids f-in second.more) (f-out ∷ fs) second.left root in
    let end = runs-line inner_done (closes name) behind (rw (same_name name) refl) in
    let node = elem name (plains ((first.more ++ second.more) ++ text_of second.left)) in
    let third = kids_run others_are (with_kids f-out (node ∷ [])) fs root deep in
    let grouped : ((f.kids ++ text_of given) ++ node ∷ []) ++ third.more ≡ f.kids ++ (text_of given ++ node ∷ third.more) =
    append_assoc (f.kids ++ text_of given) (node ∷ []) third.more ∙ append_assoc f.kids (text_of given) (node ∷ third.more) in
    record {
      more = text_of given ++ node ∷ third.more;
      left = third.left;
      runs = subst (λ ks. Runs (within f fs given root) lines (within (record { name = f.name; kids = ks }) fs third.left root) rest) grouped
          (runs-trans first.runs (runs-trans start (runs-trans second.runs (runs-trans end third.runs))));
      listed = element_listed given name first.more second.more third.more second.left third.left kids inner others first.listed second.listed third.listed ∙ ap kids_listed (sym is);
    }
