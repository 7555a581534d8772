-- Lines without a fault spell a tree: starts, ends, `C`, and all lines together.
use Rattle.std.proofs.Common.{◌≡◌, ℕ, zero, suc, ◌+◌, ◌-◌, ◌<◌, Bool, true, false, cond, ◌&&◌, not, nat_eq, IsTrue, List, [], ◌∷◌, ◌++◌, map, filter, length, Option, Some, None, refl, sym, ap, ap₂, ◌∙◌, subst, arith, append_assoc, append-nil}
use Rattle.std.proofs.lemmas.Bool.{and_parts, false≢true, eqb-false}
use Rattle.std.proofs.lemmas.List.{length-map}
use Rattle.std.proofs.lemmas.Slice.Eq.{bytes_eq-Decides}
use Rattle.tb_tree.specs.Plain.{Plain, elem, Plains, no_kids, kid, one, plains, kids_listed, is_element}
use Rattle.tb_tree.specs.Names.{is_name}
use Rattle.tb_tree.proofs.PlantLaws.{plains-listed}
use Rattle.tb_tree.proofs.lists.Bools.{denied}
use Rattle.tb_tree.proofs.lists.Options.{some-none, cond-none}
use Rattle.tb_tree.proofs.PutLaws.{length-put}
use Rattle.tb_esis.specs.Lines.{Line, opens, closes, attribute, characters, conforms, passed_over, is_implied, is_kept, document_lines}
use Rattle.tb_esis.specs.Reading.{with_text, no_more, Kids, over, ended, conforming, IsReadAs}
use Rattle.tb_esis.specs.Faults.{Open, at_start, fault_of, fault_at, after_line, is_none_of, is_innermost}
use Rattle.tb_tree.specs.Making.{Frame, Made, nothing_made, names_of, text_of, put, root_or, has_begun}
use Rattle.tb_esis.specs.Machine.{made_behind, open_of}
use Rattle.tb_esis.proofs.KeptLaws.{is_no_fault, is_clean, no_fault-none, none-clean, passes}
use Rattle.tb_esis.proofs.OpenLaws.{open-behind}
use Rattle.tb_esis.proofs.SpelledRuns.{listed-with_text}
use Rattle.tb_esis.proofs.MeaningLaws.{before_kids, KidsMean, child-mean, OutsideMeans, Means, MadeMeans, Leads, no_names, characters_lead, attribute_leads}

-- a start
pub no_start_fault : (o : Open) (name : List ℕ) → fault_at o (opens name) ≡ None → IsTrue (is_name name) × ((o.begun && is_none_of o.elements) ≡ false) × (nat_eq (length o.elements) 512 ≡ false)
no_start_fault o name e =
    let one = cond-none (not (is_name name)) _ _ e in
    let two = cond-none (o.begun && is_none_of o.elements) _ _ one.1 in
    let three = cond-none (nat_eq (length o.elements) 512) _ _ two.1 in
    (denied (is_name name) one.0, two.0, three.0)

before-listed : (nodes : List Plain) (kids : Plains) → plains (nodes ++ kids_listed kids) ≡ before_kids nodes kids
before-listed [] kids = plains-listed kids
before-listed (node ∷ nodes) kids = ap (kid node) (before-listed nodes kids)

started : (ws : List Plain) (name : List ℕ) (kids : Plains) → elem name (plains ((ws ++ []) ++ kids_listed kids)) ≡ elem name (before_kids ws kids)
started ws name kids = ap (elem name) (ap (λ ns. plains (ns ++ kids_listed kids)) (append-nil ws) ∙ before-listed ws kids)

start_child :
    (room : ℕ) (running : List ℕ) (ws : List Plain) (name : List ℕ) (inner others : Plains) (lines behind rest : List Line)
    → 0 < room → IsTrue (is_name name) → Kids (room - 1) [] inner lines (closes name ∷ behind) → Kids room [] others behind rest
    → KidsMean room running ws (with_text running (kid (elem name (before_kids ws inner)) others)) (opens name ∷ lines) rest
start_child room running ws name inner others lines behind rest some named kids_are others_are =
    child-mean room running ws _ (opens name ∷ lines) rest
    (record {
      name = name;
      inner_all = inner;
      inner = inner;
      others = others;
      inside = lines;
      behind = behind;
      some = some;
      named = named;
      is = refl;
      attributes = no_more;
      kids_are = kids_are;
      others_are = others_are;
    })

start_means :
    (fs : List Frame) (root : Option Plain) (room : ℕ) (running : List ℕ) (ws : List Plain) (name : List ℕ) (lines : List Line) (tree : Plain)
    → IsTrue (is_name name) → (has_begun fs root && is_none_of (map (λ (f : Frame). f.name) fs)) ≡ false → 0 < room → length fs + room ≡ 512
    → Means (record { name = name; kids = ws } ∷ put (text_of running) fs) root [] (room - 1) [] [] lines tree
    → Means fs root [] room running ws (opens name ∷ lines) tree
start_means [] None room running ws name lines tree named first some fits means =
    let inside : Kids 511 [] means.0 lines (closes name ∷ means.1) = subst (λ r. Kids r [] means.0 lines (closes name ∷ means.1)) (omega (arith, fits)) means.2 in
    let is : elem name (before_kids ws means.0) ≡ tree = sym (started ws name means.0) ∙ means.3.0 in
    (means.1, subst (λ t. KidsMean 512 [] ws (one t) (opens name ∷ lines) means.1) is (start_child 512 [] ws name means.0 no_kids lines means.1 means.1 (omega arith) named inside (over refl)), means.3.1, subst (λ t. IsTrue (is_element t)) is refl)
start_means [] (Some r) room running ws name lines tree named first some fits means = absurd (false≢true (sym first))
start_means (f ∷ fs) root room running ws name lines tree named first some fits means =
    let back : room - 1 + 1 ≡ room = omega (arith, some) in
    let others = subst (λ r. Kids r [] means.3.0 means.1 (closes f.name ∷ means.3.1)) back means.3.2 in
    let node = elem name (plains ((ws ++ []) ++ kids_listed means.0)) in
    let kids = with_text running (kid (elem name (before_kids ws means.0)) means.3.0) in
    let grouped : ((f.kids ++ text_of running) ++ node ∷ []) ++ kids_listed means.3.0 ≡ (f.kids ++ []) ++ kids_listed kids =
    append_assoc (f.kids ++ text_of running) (node ∷ []) (kids_listed means.3.0) ∙ append_assoc f.kids (text_of running) (node ∷ kids_listed means.3.0)
    ∙ ap (λ n. f.kids ++ (text_of running ++ n ∷ kids_listed means.3.0)) (started ws name means.0)
    ∙ ap (λ ks. f.kids ++ ks) (sym (listed-with_text running (kid (elem name (before_kids ws means.0)) means.3.0)))
    ∙ ap (λ ks. ks ++ kids_listed kids) (sym (append-nil f.kids)) in (
      kids,
      means.3.1,
      start_child room running ws name means.0 means.3.0 lines means.1 (closes f.name ∷ means.3.1) some named means.2 others,
      subst (λ r. Means fs root (elem f.name (plains ((f.kids ++ []) ++ kids_listed kids)) ∷ []) (r + 1) [] [] means.3.1 tree) back
          (subst (λ ks. Means fs root (elem f.name (plains ks) ∷ []) (room - 1 + 1 + 1) [] [] means.3.1 tree) grouped means.3.3),
    )

not_at_limit : (n room : ℕ) → n + room ≡ 512 → nat_eq n 512 ≡ false → 0 < room
not_at_limit n zero fits less = absurd (eqb-false n 512 less (omega (arith, fits)))
not_at_limit n (suc room) fits less = omega arith

opens_lead : (m : Made) (room : ℕ) (name : List ℕ) → length m.frames + room ≡ 512 → fault_at (open_of m) (opens name) ≡ None → Leads m room (opens name)
opens_lead m room name fits none =
    let no = no_start_fault (open_of m) name none in
    let some = not_at_limit (length m.frames) room fits (ap (λ n. nat_eq n 512) (sym (length-map m.frames (λ (f : Frame). f.name))) ∙ no.2) in
    record {
      next_room = room - 1;
      next_fits = omega (arith, length-put (text_of m.running) m.frames, fits, some);
      leads = λ lines tree means. start_means m.frames m.root room m.running m.waiting name lines tree no.0 no.1 some fits means;
    }

-- an end
innermost : (name : List ℕ) (fs : List Frame) → is_innermost name (map (λ (f : Frame). f.name) fs) ≡ true → (f : Frame) × (gs : List Frame) × (fs ≡ f ∷ gs) × (f.name ≡ name)
innermost name [] e = absurd (false≢true e)
innermost name (f ∷ fs) e = (f, fs, refl, (bytes_eq-Decides f.name name).0 e)

dropped : {A : Type 0} (b : Bool) (x : A) → cond b None (Some x) ≡ None → b ≡ true
dropped true x e = refl
dropped false x e = absurd (some-none x e)

no_end_fault : (m : Made) (name : List ℕ) → fault_at (open_of m) (closes name) ≡ None → (m.waiting ≡ []) × (is_innermost name (map (λ (f : Frame). f.name) m.frames) ≡ true)
no_end_fault m name e =
    let one = cond-none (not (is_none_of (names_of m.waiting))) _ _ e in
    (no_names m.waiting (denied (is_none_of (names_of m.waiting)) one.0), dropped (is_innermost name (map (λ (f : Frame). f.name) m.frames)) _ one.1)

ended_node : (f : Frame) (running : List ℕ) → elem f.name (plains ((f.kids ++ []) ++ kids_listed (with_text running no_kids))) ≡ elem f.name (plains (f.kids ++ text_of running))
ended_node f running =
    ap (λ ks. elem f.name (plains ks)) (ap₂ (λ a b. a ++ b) (append-nil f.kids) (listed-with_text running no_kids ∙ append-nil (text_of running)))

put_means : (fs : List Frame) (root : Option Plain) (node : Plain) (room : ℕ) (lines : List Line) (tree : Plain)
    → Means (put (node ∷ []) fs) (root_or fs node root) [] room [] [] lines tree → Means fs root (node ∷ []) room [] [] lines tree
put_means [] root node room lines tree means = (means.0, means.2)
put_means (g ∷ gs) root node room lines tree means =
    (means.0, means.1, means.2, subst (λ ks. Means gs root (elem g.name (plains (ks ++ kids_listed means.0)) ∷ []) (room + 1) [] [] means.1 tree) (append-nil (g.kids ++ node ∷ [])) means.3)

end_means : (f : Frame) (fs : List Frame) (root : Option Plain) (room : ℕ) (running : List ℕ) (lines : List Line) (tree : Plain)
    → Means (put (elem f.name (plains (f.kids ++ text_of running)) ∷ []) fs) (root_or fs (elem f.name (plains (f.kids ++ text_of running))) root) [] (room + 1) [] [] lines tree
    → Means (f ∷ fs) root [] room running [] (closes f.name ∷ lines) tree
end_means f fs root room running lines tree means = (
  with_text running no_kids,
  lines,
  over refl,
  subst (λ n. Means fs root (n ∷ []) (room + 1) [] [] lines tree) (sym (ended_node f running)) (put_means fs root (elem f.name (plains (f.kids ++ text_of running))) (room + 1) lines tree means),
)

closes_lead_in : (m : Made) (room : ℕ) (name : List ℕ) (f : Frame) (fs : List Frame) → m.frames ≡ f ∷ fs → f.name ≡ name → m.waiting ≡ [] → length m.frames + room ≡ 512 → Leads m room (closes name)
closes_lead_in m room name f fs frames named empty fits =
    let node = elem f.name (plains (f.kids ++ text_of m.running)) in
    let behind : made_behind m (closes name) ≡ record { frames = put (node ∷ []) fs; running = []; waiting = []; root = root_or fs node m.root } = rw (frames, empty) refl in
    record {
      next_room = room + 1;
      next_fits = ap (λ (n : Made). length n.frames + (room + 1)) behind ∙ (omega (arith, length-put (node ∷ []) fs, fits, ap length frames));
      leads = λ lines tree means.
          subst (λ gs. Means gs m.root [] room m.running m.waiting (closes name ∷ lines) tree) (sym frames)
          (subst (λ ws. Means (f ∷ fs) m.root [] room m.running ws (closes name ∷ lines) tree) (sym empty)
          (subst (λ n. Means (f ∷ fs) m.root [] room m.running [] (closes n ∷ lines) tree) named
          (end_means f fs m.root room m.running lines tree (subst (λ n. MadeMeans n (room + 1) lines tree) behind means))));
    }

closes_lead : (m : Made) (room : ℕ) (name : List ℕ) → length m.frames + room ≡ 512 → fault_at (open_of m) (closes name) ≡ None → Leads m room (closes name)
closes_lead m room name fits none =
    let no = no_end_fault m name none in
    let found = innermost name m.frames no.1 in
    closes_lead_in m room name found.0 found.1 found.2 found.3 no.0 fits

-- `C`, and the end of the lines
pub record IsDone (m : Made) : Type 0 where
  pub tree : Plain
  pub none_open : m.frames ≡ []
  pub none_wait : m.waiting ≡ []
  pub root : m.root ≡ Some tree

done_root : (fs : List Frame) (root : Option Plain) → not (has_begun fs root) ≡ false → is_none_of (map (λ (f : Frame). f.name) fs) ≡ true → (tree : Plain) × (fs ≡ []) × (root ≡ Some tree)
done_root [] None begun inside = absurd (false≢true (sym begun))
done_root [] (Some tree) begun inside = (tree, refl, refl)
done_root (f ∷ fs) root begun inside = absurd (false≢true inside)

pub no_conform_fault : (m : Made) → fault_at (open_of m) conforms ≡ None → IsDone m
no_conform_fault m e =
    let one = cond-none (not (is_none_of (names_of m.waiting))) _ _ e in
    let two = cond-none (not (has_begun m.frames m.root)) _ _ one.1 in
    let done = done_root m.frames m.root two.0 (dropped (is_none_of (map (λ (f : Frame). f.name) m.frames)) _ two.1) in
    record { tree = done.0; none_open = done.1; none_wait = no_names m.waiting (denied (is_none_of (names_of m.waiting)) one.0); root = done.2 }

done_means : (m : Made) (room : ℕ) (lines : List Line) (tree : Plain) (d : IsDone m) → OutsideMeans (Some d.tree) [] [] lines tree → MadeMeans m room lines tree
done_means m room lines tree d means = rw (d.none_open, d.none_wait, d.root) means

means_done : (m : Made) (room : ℕ) (lines : List Line) (tree : Plain) (d : IsDone m) → MadeMeans m room lines tree → OutsideMeans (Some d.tree) [] [] lines tree
means_done m room lines tree d means =
    subst (λ r. OutsideMeans r [] [] lines tree) d.root
    (subst (λ ws. OutsideMeans m.root [] ws lines tree) d.none_wait (subst (λ fs. Means fs m.root [] room m.running m.waiting lines tree) d.none_open means))

conforms_lead : (m : Made) (room : ℕ) → length m.frames + room ≡ 512 → fault_at (open_of m) conforms ≡ None → Leads m room conforms
conforms_lead m room fits none =
    let d = no_conform_fault m none in
    record {
      next_room = room;
      next_fits = fits;
      leads = λ lines tree means.
          let inner = means_done m room lines tree d means in
          done_means m room (conforms ∷ lines) tree d (inner.0, inner.1, conforming inner.2);
    }

-- each line that is kept
valued : (type name raw : List ℕ) (implied : Bool) → is_implied type ≡ implied → is_kept (attribute name type raw) ≡ true → IsTrue (is_name name) → is_implied type ≡ false
valued type name raw true e kept named = absurd (false≢true (sym (ap not (ap₂ (λ a b. a && b) e named)) ∙ kept))
valued type name raw false e kept named = e

named_of : (o : Open) (name type raw : List ℕ) → fault_at o (attribute name type raw) ≡ None → IsTrue (is_name name)
named_of o name type raw e = denied (is_name name) (cond-none (not (is_name name)) _ _ e).0

kept_leads : (m : Made) (room : ℕ) (line : Line) → is_kept line ≡ true → length m.frames + room ≡ 512 → fault_at (open_of m) line ≡ None → Leads m room line
kept_leads m room (opens name) kept fits none = opens_lead m room name fits none
kept_leads m room (closes name) kept fits none = closes_lead m room name fits none
kept_leads m room (attribute name type raw) kept fits none =
    attribute_leads m room name type raw fits (valued type name raw (is_implied type) refl kept (named_of (open_of m) name type raw none)) none
kept_leads m room (characters raw) kept fits none = characters_lead m room raw fits none
kept_leads m room conforms kept fits none = conforms_lead m room fits none
kept_leads m room passed_over kept fits none = absurd (false≢true kept)

-- Lines without a fault mean some tree.
step_means : (m : Made) (room : ℕ) (line : Line) (lines : List Line) (kept : Bool) → is_kept line ≡ kept → length m.frames + room ≡ 512
    → fault_at (open_of m) line ≡ None → is_clean (after_line (open_of m) line) lines ≡ true
    → ((n : Made) (room : ℕ) → length n.frames + room ≡ 512 → is_clean (open_of n) lines ≡ true → (tree : Plain) × MadeMeans n room (filter is_kept lines) tree)
    → (tree : Plain) × MadeMeans m room (filter is_kept (line ∷ lines)) tree
step_means m room line lines true kept fits none clean later =
    let step = kept_leads m room line kept fits none in
    let found = later (made_behind m line) step.next_room step.next_fits (ap (λ o. is_clean o lines) (sym (open-behind m line)) ∙ clean) in
    (found.0, rw kept (step.leads (filter is_kept lines) found.0 found.1))
step_means m room line lines false kept fits none clean later =
    let same = (passes line kept).same_open (open_of m) in
    let found = later m room fits (ap (λ o. is_clean o lines) (sym same) ∙ clean) in
    (found.0, rw kept found.1)

pub clean_means : (lines : List Line) (m : Made) (room : ℕ) → length m.frames + room ≡ 512 → is_clean (open_of m) lines ≡ true → (tree : Plain) × MadeMeans m room (filter is_kept lines) tree
clean_means [] m room fits clean =
    let d = no_conform_fault m (no_fault-none (fault_at (open_of m) conforms) clean) in
    (d.tree, done_means m room [] d.tree d (refl, refl, ended))
clean_means (line ∷ lines) m room fits clean =
    let parts = and_parts (is_no_fault (fault_at (open_of m) line)) (is_clean (after_line (open_of m) line) lines) clean in
    step_means m room line lines (is_kept line) refl fits (no_fault-none (fault_at (open_of m) line) parts.0) parts.1 (λ n room fits clean. clean_means lines n room fits clean)

-- Bytes without a fault are read as a tree.
pub clean-read : (bytes : List ℕ) → fault_of bytes ≡ None → (tree : Plain) × IsReadAs bytes tree
clean-read bytes none =
    let found = clean_means (document_lines bytes) nothing_made 512 refl (none-clean at_start (document_lines bytes) 1 none) in
    (found.0, record { behind = found.1.0; element = found.1.3; spelled = found.1.1; end = found.1.2 })
