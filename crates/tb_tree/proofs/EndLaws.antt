-- The innermost element of a draft ends.
use Rattle.std.proofs.Common.{◌≡◌, ℕ, ◌+◌, ◌-◌, ◌<◌, true, false, not, List, [], ◌∷◌, ◌++◌, length, map, set, take, get_or, Option, Some, refl, sym, ap, ap₂, ◌∙◌, subst, arith, append_assoc, append-nil, length-append}
use Rattle.std.proofs.lemmas.Bool.{false≢true}
use Rattle.std.proofs.lemmas.List.{length-set, length-map, same_from_push, get_or-map, get_or_at}
use Rattle.std.proofs.lemmas.Slice.Eq.{bytes_eq-Decides}
use Rattle.tb_tree.specs.Plain.{Plain, elem, plains, one}
use Rattle.tb_tree.specs.Numbers.{counts}
use Rattle.tb_tree.specs.Printed.{attribute_lines, content_lines, start_line, end_line, printed_node}
use Rattle.tb_tree.specs.Making.{Frame, Made, put, text_of, root_or, with_text_ended, with_element_ended, with_frames_ended, is_innermost, innermost_name, has_begun}
use Rattle.tb_tree.specs.Extents.{Extent, element_extent, extents, name_in, named}
use Rattle.tb_tree.specs.declared.extent.Extent as code
use Rattle.tb_tree.specs.declared.extent.Kind.TheVariants as kind
use Rattle.tb_tree.specs.declared.draft.Draft.{Draft}
use Rattle.tb_tree.specs.Drafts.{begun_text, begun_extents, root_text, root_extents, open_numbers, going, waiting_extents, shown_extents, is_none, ended_extent, IsSingle, Shows}
use Rattle.tb_tree.proofs.lists.Parts.{last-split}
use Rattle.tb_tree.proofs.JoinedLaws.{length-extents}
use Rattle.tb_tree.proofs.PutLaws.{put-none, put-text, put-extents, put-numbers}
use Rattle.tb_tree.specs.NameTables.{IsNumber}
use Rattle.tb_tree.proofs.TextLaws.{text-none, extents-none}
use Rattle.tb_tree.proofs.NameLaws.{known-number}
use Rattle.tb_tree.proofs.NotedLaws.{notes-kept}
use Rattle.tb_tree.proofs.KeptLaws.{patched, same_extent}

-- the element with its kids
abbrev node_of_frame : Frame → Plain
node_of_frame f = elem f.name (plains f.kids)

ended-text : (root : Option Plain) (f : Frame) (fs : List Frame) → IsSingle (f ∷ fs) root
    → begun_text root (f ∷ fs) ++ end_line f.name ≡ begun_text (root_or fs (node_of_frame f) root) (put (node_of_frame f ∷ []) fs)
ended-text root f [] single =
    let all = (attribute_lines (plains f.kids) ++ start_line f.name) ++ content_lines (plains f.kids) in
    ap (λ r. (root_text r ++ all) ++ end_line f.name) single
ended-text root f (g ∷ fs) single =
    let all = (attribute_lines (plains f.kids) ++ start_line f.name) ++ content_lines (plains f.kids) in
    append_assoc (begun_text root (g ∷ fs)) all (end_line f.name) ∙ sym (put-text root g fs (node_of_frame f) refl)

-- the extents with the element's end, and with that of its kids
abbrev ended_named : ℕ → ℕ → Extent → Extent
ended_named to last e = record e { to = to; last = last }

ended-extents : (root : Option Plain) (f : Frame) (fs : List Frame) → IsSingle (f ∷ fs) root
    → begun_extents root fs
    ++ (element_extent (length (begun_text root fs)) (length (begun_text root fs) + length (printed_node (node_of_frame f))) (length (begun_extents root fs) + 1 + counts (plains f.kids)) f.name (length fs + 1)
    ∷ extents (length (begun_text root fs)) (length (begun_text root fs) + length (attribute_lines (plains f.kids) ++ start_line f.name)) (length (begun_extents root fs) + 1 + 1) (length fs + 1 + 1) (plains f.kids))
    ≡ begun_extents (root_or fs (node_of_frame f) root) (put (node_of_frame f ∷ []) fs)
ended-extents root f [] single =
    ap (λ r. root_extents r ++ (element_extent (length (root_text r)) (length (root_text r) + length (printed_node (node_of_frame f))) (length (root_extents r) + 1 + counts (plains f.kids)) f.name 1
    ∷ extents (length (root_text r)) (length (root_text r) + length (attribute_lines (plains f.kids) ++ start_line f.name)) (length (root_extents r) + 1 + 1) 2 (plains f.kids))) single
    ∙ ap (λ r. element_extent 0 (0 + length (printed_node (node_of_frame f))) (1 + counts (plains f.kids)) f.name 1 ∷ r) (sym (append-nil _))
ended-extents root f (g ∷ fs) single =
    let at = length (begun_text root (g ∷ fs)) in
    let n = length (begun_extents root (g ∷ fs)) + 1 in
    let level : length (g ∷ fs) + 1 ≡ length fs + 2 = omega arith in
    ap (λ r. begun_extents root (g ∷ fs) ++ (element_extent at (at + length (printed_node (node_of_frame f))) (n + counts (plains f.kids)) f.name (length (g ∷ fs) + 1) ∷ r)) (sym (append-nil _))
    ∙ ap (λ l. begun_extents root (g ∷ fs) ++ extents at at n l (one (node_of_frame f))) level
    ∙ sym (put-extents root g fs (node_of_frame f) at refl)

numbers-ended : (root : Option Plain) (node : Plain) (fs : List Frame) → open_numbers root fs ≡ open_numbers (root_or fs node root) (put (node ∷ []) fs)
numbers-ended root node [] = refl
numbers-ended root node (g ∷ fs) = refl

begun-put : (root : Option Plain) (nodes : List Plain) (fs : List Frame) → has_begun fs root ≡ has_begun (put nodes fs) root
begun-put root nodes [] = refl
begun-put root nodes (g ∷ fs) = refl

begun-ended : (root : Option Plain) (node : Plain) (fs : List Frame) → true ≡ has_begun (put (node ∷ []) fs) (root_or fs node root)
begun-ended root node [] = refl
begun-ended root node (g ∷ fs) = refl

single-ended : (root : Option Plain) (f : Frame) (node : Plain) (fs : List Frame) → IsSingle (f ∷ fs) root → IsSingle (put (node ∷ []) fs) (root_or fs node root)
single-ended root f node [] single = tt
single-ended root f node (g ∷ fs) single = single

shows-ended : (d d' : Draft) (m : Made) (name : List ℕ) (f : Frame) (fs : List Frame) (place to last : ℕ) (e : code.Extent) → m.waiting ≡ [] → going m ≡ f ∷ fs → f.name ≡ name → IsSingle (f ∷ fs) m.root → Shows d m
    → d.stack.items ≡ d'.stack.items ++ place ∷ []
    → d'.text.items ≡ d.text.items ++ end_line name
    → to ≡ length d'.text.items → last ≡ length d.extents.items
    → d'.extents.items ≡ set d.extents.items place (ended_extent (get_or d.extents.items place e) to last)
    → d'.elements ≡ d.elements → d'.attributes ≡ d.attributes → d'.is_going ≡ false → d'.is_waiting ≡ d.is_waiting → d'.has_begun ≡ d.has_begun → d'.waited.items ≡ d.waited.items
    → Shows d' (record { frames = put (node_of_frame f ∷ []) fs; running = []; waiting = m.waiting; root = root_or fs (node_of_frame f) m.root })
shows-ended d d' m name f fs place to last e none inner same_name single s stack_is text_is to_is last_is extents_is same_elements same_attributes going_is waits_is begun_is waited_is =
    let node = node_of_frame f in
    let m' : Made = record { frames = put (node ∷ []) fs; running = []; waiting = m.waiting; root = root_or fs node m.root } in
    let lines = begun_text m.root (f ∷ fs) in
    let at = length (begun_text m.root fs) in
    let begun = begun_extents m.root fs in
    let n = length begun + 1 in
    let level = length fs + 1 in
    let ks = plains f.kids in
    let start = attribute_lines ks ++ start_line f.name in
    let inside = extents at (at + length start) (n + 1) (level + 1) ks in
    let old_text : d.text.items ≡ lines = s.text_is ∙ text-none m none ∙ ap (begun_text m.root) inner in
    let new_text : d'.text.items ≡ lines ++ end_line f.name = text_is ∙ ap₂ (λ l n. l ++ end_line n) old_text (sym same_name) in
    let numbers = same_from_push d'.stack.items (open_numbers m.root fs) place (length begun)
    (sym stack_is ∙ s.open_are ∙ sym (put-numbers m.root (text_of m.running) m.frames) ∙ ap (open_numbers m.root) inner) in
    record {
      text_is = new_text ∙ ended-text m.root f fs single ∙ ap (begun_text m'.root) (sym (put-none m'.frames)) ∙ sym (text-none m' none);
      extents_are = λ es ns.
          let N = named (d'.elements ++ es) (d'.attributes ++ ns) in
          let here : map N d.extents.items ≡ begun ++ (element_extent at 0 0 f.name level ∷ inside) =
          ap₂ (λ a b. map (named (a ++ es) (b ++ ns)) d.extents.items) same_elements same_attributes ∙ s.extents_are es ns ∙ extents-none m none ∙ ap (begun_extents m.root) inner in
          let ends : to ≡ at + length (printed_node node) =
          omega (arith, to_is, ap length new_text, length-append lines (end_line f.name), length-append (begun_text m.root fs) (start ++ content_lines ks), length-append (start ++ content_lines ks) (end_line f.name)) in
          let after : last ≡ n + counts ks =
          omega (arith, last_is, ap length here, length-map d.extents.items N, length-append begun (element_extent at 0 0 f.name level ∷ inside), length-extents at (at + length start) (n + 1) (level + 1) ks) in
          ap (map N) extents_is
          ∙ patched N (λ x. ended_extent x to last) (ended_named to last) d.extents.items begun inside (element_extent at 0 0 f.name level) place e (λ x. refl) here numbers.1
          ∙ ap (λ y. begun ++ (y ∷ inside)) (same_extent at to _ last _ f.name f.name level level kind.Element false false ends after refl refl refl)
          ∙ ended-extents m.root f fs single ∙ ap (begun_extents m'.root) (sym (put-none m'.frames)) ∙ sym (extents-none m' none);
      open_are = numbers.0 ∙ numbers-ended m.root node fs;
      going_is = going_is;
      waits_is = waits_is ∙ s.waits_is;
      kept_is = λ waits. absurd (false≢true (ap (λ ws. not (is_none ws)) (sym none) ∙ sym s.waits_is ∙ sym waits_is ∙ waits));
      begun_is = begun_is ∙ s.begun_is ∙ begun-put m.root (text_of m.running) m.frames ∙ ap (λ fr. has_begun fr m.root) inner ∙ begun-ended m.root node fs;
      notes = notes-kept d d' m m' s.notes waited_is same_attributes (omega (arith, ap length extents_is, length-set d.extents.items place (ended_extent (get_or d.extents.items place e) to last))) (waits_is ∙ s.waits_is ∙ ap (λ ws. not (is_none ws)) none);
      bare = s.bare;
      single = single-ended m.root f node fs single;
      few_elements = omega (arith, ap length same_elements, s.few_elements, ap length text_is, length-append d.text.items (end_line name));
      few_attributes = omega (arith, ap length same_attributes, s.few_attributes, ap length text_is, length-append d.text.items (end_line name));
    }

-- the innermost element has the name
end_case : (d d' : Draft) (m : Made) (name : List ℕ) (frames : List Frame) (place to last : ℕ) (e : code.Extent) → m.frames ≡ frames → m.waiting ≡ [] → is_innermost name frames ≡ true → Shows d m
    → d.stack.items ≡ d'.stack.items ++ place ∷ []
    → d'.text.items ≡ d.text.items ++ end_line name
    → to ≡ length d'.text.items → last ≡ length d.extents.items
    → d'.extents.items ≡ set d.extents.items place (ended_extent (get_or d.extents.items place e) to last)
    → d'.elements ≡ d.elements → d'.attributes ≡ d.attributes → d'.is_going ≡ false → d'.is_waiting ≡ d.is_waiting → d'.has_begun ≡ d.has_begun → d'.waited.items ≡ d.waited.items
    → Shows d' (with_element_ended (with_text_ended m))
end_case d d' m name [] place to last e are none found s stack_is text_is to_is last_is extents_is same_elements same_attributes going_is waits_is begun_is waited_is = absurd (false≢true found)
end_case d d' m name (g ∷ gs) place to last e are none found s stack_is text_is to_is last_is extents_is same_elements same_attributes going_is waits_is begun_is waited_is =
    let f : Frame = record { name = g.name; kids = g.kids ++ text_of m.running } in
    let inner : going m ≡ f ∷ gs = ap (put (text_of m.running)) are in
    subst (λ fr. Shows d' (with_frames_ended (with_text_ended m) fr)) (sym inner)
    (shows-ended d d' m name f gs place to last e none inner ((bytes_eq-Decides g.name name).0 found) (subst (λ fr. IsSingle fr m.root) are s.single) s stack_is text_is to_is last_is extents_is same_elements same_attributes going_is waits_is begun_is waited_is)

pub shows-end : (d d' : Draft) (m : Made) (name : List ℕ) (place to last : ℕ) (e : code.Extent) → m.waiting ≡ [] → is_innermost name m.frames ≡ true → Shows d m
    → d.stack.items ≡ d'.stack.items ++ place ∷ []
    → d'.text.items ≡ d.text.items ++ end_line name
    → to ≡ length d'.text.items → last ≡ length d.extents.items
    → d'.extents.items ≡ set d.extents.items place (ended_extent (get_or d.extents.items place e) to last)
    → d'.elements ≡ d.elements → d'.attributes ≡ d.attributes → d'.is_going ≡ false → d'.is_waiting ≡ d.is_waiting → d'.has_begun ≡ d.has_begun → d'.waited.items ≡ d.waited.items
    → Shows d' (with_element_ended (with_text_ended m))
shows-end d d' m name place to last e = end_case d d' m name m.frames place to last e refl

-- The innermost element's extent, whose place stands last on the stack, has its name.
innermost_case : (d : Draft) (m : Made) (frames : List Frame) (prefix : List ℕ) (place : ℕ) → m.frames ≡ frames → Shows d m → d.stack.items ≡ prefix ++ place ∷ []
    → (name : List ℕ) × (innermost_name frames ≡ Some name) × (place < length d.extents.items) × ((e : code.Extent) → IsNumber d.elements name (get_or d.extents.items place e).name)
innermost_case d m [] prefix place are s last_is = absurd (omega (arith, ap length last_is, length-append prefix (place ∷ []), ap length (s.open_are ∙ ap (open_numbers m.root) are)))
innermost_case d m (g ∷ gs) prefix place are s last_is =
    let f : Frame = record { name = g.name; kids = g.kids ++ text_of m.running } in
    let inner : going m ≡ f ∷ gs = ap (put (text_of m.running)) are in
    let begun = begun_extents m.root gs in
    let at = length (begun_text m.root gs) in
    let level = length gs + 1 in
    let here = element_extent at 0 0 g.name level in
    let inside = extents at (at + length (attribute_lines (plains f.kids) ++ start_line f.name)) (length begun + 1 + 1) (level + 1) (plains f.kids) in
    let waits = waiting_extents (length (begun_text m.root (going m))) (length (begun_extents m.root (going m)) + 1) (length m.frames + 1) m.waiting in
    let all : shown_extents m ≡ begun ++ (here ∷ (inside ++ waits)) = ap (λ fr. begun_extents m.root fr ++ waits) inner ∙ append_assoc begun (here ∷ inside) waits in
    let place_is : place ≡ length begun = (same_from_push prefix (open_numbers m.root gs) place (length begun) (sym last_is ∙ s.open_are ∙ ap (open_numbers m.root) are)).1 in
    let long : length d.extents.items ≡ length begun + 1 + length (inside ++ waits) =
    omega (arith, length-map d.extents.items (named (d.elements ++ []) (d.attributes ++ [])), ap length (s.extents_are [] [] ∙ all), length-append begun (here ∷ (inside ++ waits))) in
    let within : place < length d.extents.items = omega (arith, place_is, long) in (
      g.name,
      refl,
      within,
      λ e.
          let x = get_or d.extents.items place e in
          let seen = λ (es : List (List ℕ)).
          sym (get_or-map (named (d.elements ++ es) (d.attributes ++ [])) d.extents.items place e (named (d.elements ++ es) (d.attributes ++ []) e) within)
          ∙ ap (λ l. get_or l place (named (d.elements ++ es) (d.attributes ++ []) e)) (s.extents_are es [] ∙ all)
          ∙ get_or_at begun here (inside ++ waits) (named (d.elements ++ es) (d.attributes ++ []) e) place (sym place_is) in
          known-number d.elements x.name g.name
          (λ es. ap (λ k. name_in (d.elements ++ es) (d.attributes ++ []) k x.name) (sym (ap (λ (y : Extent). y.kind) (seen es))) ∙ ap (λ (y : Extent). y.name) (seen es)),
    )

pub innermost-last : (d : Draft) (m : Made) (stack : List ℕ) (place : ℕ) → Shows d m → stack ≡ d.stack.items → 0 < length stack → place ≡ get_or stack (length stack - 1) place
    → (name : List ℕ) × (innermost_name m.frames ≡ Some name) × (place < length d.extents.items) × ((e : code.Extent) → IsNumber d.elements name (get_or d.extents.items place e).name)
innermost-last d m stack place s same some is = innermost_case d m m.frames (take (length stack - 1) stack) place refl s (sym same ∙ last-split stack place some is)
