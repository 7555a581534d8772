-- What the lines still to come mean, given what has been made of the lines before them: data and attributes.
use Rattle.std.proofs.Common.{◌≡◌, ℕ, ◌+◌, ◌-◌, ◌<◌, Bool, true, false, cond, ◌&&◌, not, IsTrue, List, [], ◌∷◌, ◌++◌, map, length, Option, Some, None, refl, sym, ap, ◌∙◌, subst}
use Rattle.std.proofs.lemmas.Bool.{false≢true}
use Rattle.std.proofs.lemmas.List.{map-append}
use Rattle.std.specs.List.{list_any}
use Rattle.std.specs.Str.{bytes_eq}
use Rattle.tb_tree.specs.Plain.{Plain, elem, attr, Plains, kid, one, plains, kids_listed, is_element}
use Rattle.tb_tree.specs.Names.{is_name}
use Rattle.tb_tree.specs.Sound.{is_empty_list}
use Rattle.tb_tree.specs.Escapes.{unescaped}
use Rattle.tb_tree.proofs.lists.Bools.{denied}
use Rattle.tb_tree.proofs.lists.Options.{some-none, cond-none}
use Rattle.tb_esis.specs.Lines.{Line, opens, closes, attribute, characters, is_implied}
use Rattle.tb_esis.specs.Reading.{with_text, Attributes, next, Kids, goes_on, child, Ends, no_bytes}
use Rattle.tb_esis.specs.Faults.{Open, fault_at, is_none_of, fault_of_data, fault_of_value}
use Rattle.tb_tree.specs.Making.{Frame, Made, names_of, attribute_name}
use Rattle.tb_esis.specs.Machine.{made_behind, open_of, given_or_none}

-- the nodes, and behind them the others
abbrev pub before_kids : List Plain → Plains → Plains
before_kids [] kids = kids
before_kids (node ∷ nodes) kids = kid node (before_kids nodes kids)

-- An element whose attributes begin with those that wait, and what follows it.
pub record ChildMeans (room : ℕ) (given : List ℕ) (waiting : List Plain) (kids : Plains) (lines rest : List Line) : Type 0 where
  pub name : List ℕ
  pub inner_all : Plains
  pub inner : Plains
  pub others : Plains
  pub inside : List Line
  pub behind : List Line
  pub some : 0 < room
  pub named : IsTrue (is_name name)
  pub is : kids ≡ with_text given (kid (elem name (before_kids waiting inner_all)) others)
  pub attributes : Attributes (names_of waiting) inner_all inner lines (opens name ∷ inside)
  pub kids_are : Kids (room - 1) [] inner inside (closes name ∷ behind)
  pub others_are : Kids room [] others behind rest

-- what the lines up to the rest mean: kids, or where attributes wait an element first
abbrev pub KidsMean : ℕ → List ℕ → List Plain → Plains → List Line → List Line → Type 0
KidsMean room given [] kids lines rest = Kids room given kids lines rest
KidsMean room given (w ∷ ws) kids lines rest = ChildMeans room given (w ∷ ws) kids lines rest

pub child-kids : (room : ℕ) (given : List ℕ) (kids : Plains) (lines rest : List Line) → ChildMeans room given [] kids lines rest → Kids room given kids lines rest
child-kids room given kids lines rest c = child c.some c.named c.is c.attributes c.kids_are c.others_are

pub child-mean : (room : ℕ) (given : List ℕ) (ws : List Plain) (kids : Plains) (lines rest : List Line) → ChildMeans room given ws kids lines rest → KidsMean room given ws kids lines rest
child-mean room given [] kids lines rest c = child-kids room given kids lines rest c
child-mean room given (w ∷ ws) kids lines rest c = c

pub mean-child : (room : ℕ) (given : List ℕ) (ws : List Plain) (w : Plain) (kids : Plains) (lines rest : List Line) → KidsMean room given (ws ++ w ∷ []) kids lines rest → ChildMeans room given (ws ++ w ∷ []) kids lines rest
mean-child room given [] w kids lines rest c = c
mean-child room given (v ∷ ws) w kids lines rest c = c

-- The lines outside all elements: behind nodes that stand there, before the root, and behind it.
abbrev pub OutsideMeans : Option Plain → List Plain → List Plain → List Line → Plain → Type 0
OutsideMeans root (node ∷ nodes) ws lines tree = (node ≡ tree) × Ends lines
OutsideMeans None [] ws lines tree = (rest : List Line) × KidsMean 512 [] ws (one tree) lines rest × Ends rest × IsTrue (is_element tree)
OutsideMeans (Some root) [] ws lines tree = (root ≡ tree) × (ws ≡ []) × Ends lines

-- What the lines must be behind what has been made: more kids of the innermost element up to its end,
-- and then the same of the elements around it. The nodes stand behind the kids of the innermost element.
abbrev pub Means : List Frame → Option Plain → List Plain → ℕ → List ℕ → List Plain → List Line → Plain → Type 0
Means [] root nodes room given ws lines tree = OutsideMeans root nodes ws lines tree
Means (f ∷ fs) root nodes room given ws lines tree =
    (kids : Plains) × (behind : List Line) × KidsMean room given ws kids lines (closes f.name ∷ behind)
    × Means fs root (elem f.name (plains ((f.kids ++ nodes) ++ kids_listed kids)) ∷ []) (room + 1) [] [] behind tree

abbrev pub MadeMeans : Made → ℕ → List Line → Plain → Type 0
MadeMeans m room lines tree = Means m.frames m.root [] room m.running m.waiting lines tree

-- what a line means where it has no fault: it comes before what the lines behind it mean
pub record Leads (m : Made) (room : ℕ) (line : Line) : Type 0 where
  pub next_room : ℕ
  pub next_fits : length (made_behind m line).frames + next_room ≡ 512
  pub leads : (lines : List Line) (tree : Plain) → MadeMeans (made_behind m line) next_room lines tree → MadeMeans m room (line ∷ lines) tree

-- data
pub no_names : (ws : List Plain) → is_none_of (names_of ws) ≡ true → ws ≡ []
no_names [] e = refl
no_names (w ∷ ws) e = absurd (false≢true e)

pub record NoDataFault (o : Open) (read : Option (List ℕ)) : Type 0 where
  pub given : List ℕ
  pub is : read ≡ Some given
  pub none_wait : is_none_of o.waiting ≡ true
  pub inside : (is_none_of o.elements && not (is_empty_list given)) ≡ false

pub no_data_fault : (o : Open) (read : Option (List ℕ)) → fault_of_data o read ≡ None → NoDataFault o read
no_data_fault o None e = absurd (some-none _ e)
no_data_fault o (Some given) e =
    let one = cond-none (not (is_none_of o.waiting)) _ _ e in
    let two = cond-none (is_none_of o.elements && not (is_empty_list given)) _ _ one.1 in
    record { given = given; is = refl; none_wait = denied (is_none_of o.waiting) one.0; inside = two.0 }

pub empty_is : (given : List ℕ) → not (is_empty_list given) ≡ false → given ≡ []
empty_is [] e = refl
empty_is (b ∷ bs) e = absurd (false≢true (sym e))

pub data_means :
    (fs : List Frame) (root : Option Plain) (room : ℕ) (running raw given : List ℕ) (lines : List Line) (tree : Plain)
    → unescaped raw ≡ Some given → (is_none_of (map (λ (f : Frame). f.name) fs) && not (is_empty_list given)) ≡ false
    → Means fs root [] room (running ++ given) [] lines tree → Means fs root [] room running [] (characters raw ∷ lines) tree
data_means [] None room running raw given lines tree read inside means =
    let nothing : unescaped raw ≡ Some [] = read ∙ ap Some (empty_is given inside) in
    (means.0, goes_on nothing means.1, means.2, means.3)
data_means [] (Some node) room running raw given lines tree read inside means =
    let nothing : unescaped raw ≡ Some [] = read ∙ ap Some (empty_is given inside) in
    (means.0, refl, no_bytes nothing means.2)
data_means (f ∷ fs) root room running raw given lines tree read inside means = (means.0, means.1, goes_on read means.2, means.3)

pub characters_lead : (m : Made) (room : ℕ) (raw : List ℕ) → length m.frames + room ≡ 512 → fault_at (open_of m) (characters raw) ≡ None → Leads m room (characters raw)
characters_lead m room raw fits none =
    let no = no_data_fault (open_of m) (unescaped raw) none in
    let empty = no_names m.waiting no.none_wait in
    record {
      next_room = room;
      next_fits = fits;
      leads = λ lines tree. (λ (means : Means m.frames m.root [] room (m.running ++ _) m.waiting lines tree).
          subst (λ ws. Means m.frames m.root [] room m.running ws (characters raw ∷ lines) tree) (sym empty)
          (data_means m.frames m.root room m.running raw no.given lines tree no.is no.inside
          (subst (λ ws. Means m.frames m.root [] room (m.running ++ no.given) ws lines tree) empty (subst (λ o. Means m.frames m.root [] room (m.running ++ given_or_none o) m.waiting lines tree) no.is means))));
    }

-- attributes
pub before-append : (ws : List Plain) (w : Plain) (kids : Plains) → before_kids ((ws ++ w ∷ [])) kids ≡ before_kids ws (kid w kids)
before-append [] w kids = refl
before-append (v ∷ ws) w kids = ap (kid v) (before-append ws w kids)

pub record NoAttributeFault (o : Open) (name type raw : List ℕ) : Type 0 where
  pub value : List ℕ
  pub named : IsTrue (is_name name)
  pub typed : is_empty_list type ≡ false
  pub new : list_any (bytes_eq name) o.waiting ≡ false
  pub read : unescaped raw ≡ Some value

pub read_value : (o : Option (List ℕ)) → fault_of_value o ≡ None → (value : List ℕ) × (o ≡ Some value)
read_value None e = absurd (some-none _ e)
read_value (Some value) e = (value, refl)

pub not_guarded : {A : Type 0} (b : Bool) (o : Option A) → b ≡ false → cond b None o ≡ None → o ≡ None
not_guarded true o f e = absurd (false≢true (sym f))
not_guarded false o f e = e

pub no_attribute_fault : (o : Open) (name type raw : List ℕ) → is_implied type ≡ false → fault_at o (attribute name type raw) ≡ None → NoAttributeFault o name type raw
no_attribute_fault o name type raw valued e =
    let one = cond-none (not (is_name name)) _ _ e in
    let two = cond-none (is_empty_list type) _ _ one.1 in
    let four = cond-none (list_any (bytes_eq name) o.waiting) _ _ (not_guarded (is_implied type) _ valued two.1) in
    let found = read_value (unescaped raw) four.1 in
    record { value = found.0; named = denied (is_name name) one.0; typed = two.0; new = four.0; read = found.1 }

pub attribute_child :
    (room : ℕ) (running : List ℕ) (ws : List Plain) (name type raw value : List ℕ) (kids : Plains) (lines rest : List Line)
    → IsTrue (is_name name) → is_empty_list type ≡ false → is_implied type ≡ false → list_any (bytes_eq name) (names_of ws) ≡ false → unescaped raw ≡ Some value
    → KidsMean room running (ws ++ attr name value ∷ []) kids lines rest → KidsMean room running ws kids (attribute name type raw ∷ lines) rest
attribute_child room running ws name type raw value kids lines rest named typed valued new read means =
    let w : Plain = attr name value in
    let c = mean-child room running ws w kids lines rest means in
    child-mean room running ws kids (attribute name type raw ∷ lines) rest
    (record {
      name = c.name;
      inner_all = kid (attr name value) c.inner_all;
      inner = c.inner;
      others = c.others;
      inside = c.inside;
      behind = c.behind;
      some = c.some;
      named = c.named;
      is = c.is ∙ ap (λ ks. with_text running (kid (elem c.name ks) c.others)) (before-append ws w c.inner_all);
      attributes = next named typed valued new read refl (subst (λ ns. Attributes ns c.inner_all c.inner lines (opens c.name ∷ c.inside)) (map-append attribute_name ws (w ∷ [])) c.attributes);
      kids_are = c.kids_are;
      others_are = c.others_are;
    })

pub never_empty : {A : Type 0} (xs : List A) (x : A) → ◌≡◌ {A = List A} (xs ++ x ∷ []) [] → ⊥
never_empty [] x e = cc
never_empty (y ∷ xs) x e = cc

pub attribute_means :
    (fs : List Frame) (root : Option Plain) (room : ℕ) (running : List ℕ) (ws : List Plain) (name type raw value : List ℕ) (lines : List Line) (tree : Plain)
    → IsTrue (is_name name) → is_empty_list type ≡ false → is_implied type ≡ false → list_any (bytes_eq name) (names_of ws) ≡ false → unescaped raw ≡ Some value
    → length fs + room ≡ 512
    → Means fs root [] room running (ws ++ attr name value ∷ []) lines tree → Means fs root [] room running ws (attribute name type raw ∷ lines) tree
attribute_means [] None room running ws name type raw value lines tree named typed valued new read fits means =
    (means.0, attribute_child 512 [] ws name type raw value (one tree) lines means.0 named typed valued new read means.1, means.2, means.3)
attribute_means [] (Some root) room running ws name type raw value lines tree named typed valued new read fits means = absurd (never_empty ws _ means.1)
attribute_means (f ∷ fs) root room running ws name type raw value lines tree named typed valued new read fits means =
    (means.0, means.1, attribute_child room running ws name type raw value means.0 lines (closes f.name ∷ means.1) named typed valued new read means.2, means.3)

pub attribute_leads : (m : Made) (room : ℕ) (name type raw : List ℕ) → length m.frames + room ≡ 512 → is_implied type ≡ false → fault_at (open_of m) (attribute name type raw) ≡ None → Leads m room (attribute name type raw)
attribute_leads m room name type raw fits valued none =
    let no = no_attribute_fault (open_of m) name type raw valued none in
    let made : made_behind m (attribute name type raw) ≡ record { frames = m.frames; running = m.running; waiting = m.waiting ++ attr name no.value ∷ []; root = m.root } = rw (valued, no.read) refl in
    record {
      next_room = room;
      next_fits = ap (λ (n : Made). length n.frames + room) made ∙ fits;
      leads = λ lines tree means. attribute_means m.frames m.root room m.running m.waiting name type raw no.value lines tree no.named no.typed valued no.new no.read fits
          (subst (λ n. MadeMeans n room lines tree) made means);
    }
