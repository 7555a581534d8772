-- An element begins in a draft.
use Rattle.std.proofs.Common.{◌≡◌, ℕ, ◌+◌, true, false, cond, List, [], ◌∷◌, ◌++◌, length, map, set, get_or, None, refl, sym, ap, ap₂, ◌∙◌, arith, append_assoc, append-nil, length-append}
use Rattle.std.proofs.lemmas.Bool.{false≢true}
use Rattle.std.specs.List.{list_all}
use Rattle.tb_tree.specs.Plain.{plains}
use Rattle.tb_tree.specs.Sound.{is_attribute}
use Rattle.tb_tree.specs.Printed.{attribute_lines, content_lines, start_line}
use Rattle.tb_tree.specs.Making.{Frame, Made, with_element}
use Rattle.tb_tree.specs.NameTables.{IsMore, IsNumber}
use Rattle.tb_tree.specs.Extents.{Extent, element_extent, extents, named}
use Rattle.tb_tree.specs.declared.extent.Extent as code
use Rattle.tb_tree.specs.declared.extent.Kind.TheVariants as kind
use Rattle.tb_tree.specs.declared.draft.Draft.{Draft}
use Rattle.tb_tree.specs.Drafts.{begun_text, begun_extents, going, open_extents, shown_text, shown_extents, place_if, begun_extent, Shows}
use Rattle.std.proofs.lemmas.List.{length-set}
use Rattle.tb_tree.proofs.NameLaws.{more-length}
use Rattle.tb_tree.proofs.NotedLaws.{notes-kept}
use Rattle.tb_tree.proofs.PutLaws.{put-none, put-numbers, length-put}
use Rattle.tb_tree.proofs.JoinedLaws.{content-bare, extents-bare}
use Rattle.tb_tree.proofs.KeptLaws.{patched, more-elements, number-stays, kept-extents, kept-place}

start-text : (m : Made) (name : List ℕ) → content_lines (plains m.waiting) ≡ [] → shown_text m ++ start_line name ≡ shown_text (with_element m name)
start-text m name bare =
    let text = begun_text m.root (going m) in
    let lines = attribute_lines (plains m.waiting) in
    append_assoc text lines (start_line name)
    ∙ ap (λ l. text ++ l) (sym (append-nil (lines ++ start_line name)) ∙ ap (λ c. (lines ++ start_line name) ++ c) (sym bare))
    ∙ ap (begun_text m.root) (sym (put-none (record { name = name; kids = m.waiting } ∷ going m)))
    ∙ sym (append-nil _)

abbrev begun_name : List ℕ → Extent → Extent
begun_name name e = record e { name = name; kind = kind.Element }

start-extents : (m : Made) (name : List ℕ) → list_all is_attribute m.waiting ≡ true
    → begun_extents m.root (going m)
    ++ (element_extent (length (begun_text m.root (going m))) 0 0 name (length m.frames + 1)
    ∷ extents (length (begun_text m.root (going m))) 0 (length (begun_extents m.root (going m)) + 1 + 1) (length m.frames + 1 + 1) (plains m.waiting))
    ≡ shown_extents (with_element m name)
start-extents m name bare =
    let f : Frame = record { name = name; kids = m.waiting } in
    let at = length (begun_text m.root (going m)) in
    let begun = begun_extents m.root (going m) in
    ap (λ r. begun ++ (element_extent at 0 0 name (length m.frames + 1) ∷ r)) (extents-bare at 0 _ (length begun + 1 + 1) (length m.frames + 1 + 1) m.waiting bare)
    ∙ ap (λ l. begun ++ open_extents at (length begun + 1) (l + 1) f) (sym (length-put _ m.frames))
    ∙ ap (begun_extents m.root) (sym (put-none (f ∷ going m)))
    ∙ sym (append-nil _)

pub shows-start : (d d' : Draft) (m : Made) (name : List ℕ) (number place at level : ℕ) (e : code.Extent) → m.root ≡ None → Shows d m
    → at ≡ length d.text.items → level ≡ length d.stack.items + 1
    → place ≡ cond d.is_waiting d.kept (length d.extents.items)
    → IsNumber d'.elements name number → IsMore d.elements d'.elements → d'.attributes ≡ d.attributes
    → d'.extents.items ≡ set (d.extents.items ++ place_if d.is_waiting at level) place (begun_extent (get_or (d.extents.items ++ place_if d.is_waiting at level) place e) number)
    → d'.text.items ≡ d.text.items ++ start_line name
    → d'.stack.items ≡ d.stack.items ++ place ∷ []
    → d'.is_going ≡ false → d'.is_waiting ≡ false → d'.has_begun ≡ true → d'.waited.items ≡ d.waited.items
    → Shows d' (with_element m name)
shows-start d d' m name number place at level e no_root s at_is level_is place_is number_is more same_attributes extents_is text_is stack_is going_is waits_is begun_is waited_is =
    let bare = content-bare m.waiting s.bare in
    let stands = kept-place d m place s place_is in
    record {
      text_is = text_is ∙ ap (λ l. l ++ start_line name) s.text_is ∙ start-text m name bare;
      extents_are = λ es ns.
          ap (map (named (d'.elements ++ es) (d'.attributes ++ ns))) extents_is
          ∙ patched (named (d'.elements ++ es) (d'.attributes ++ ns)) (λ x. begun_extent x number) (begun_name name) (d.extents.items ++ place_if d.is_waiting at level) _ _ _ place e
          (λ x. ap (λ n. begun_name n (named (d'.elements ++ es) (d'.attributes ++ ns) x)) (number-stays d'.elements es name number number_is))
          (ap (λ a. map (named (d'.elements ++ es) (a ++ ns)) (d.extents.items ++ place_if d.is_waiting at level)) same_attributes
          ∙ more-elements d.elements d'.elements d.attributes (d.extents.items ++ place_if d.is_waiting at level) _ more (kept-extents d m at level s at_is level_is) es ns)
          stands
          ∙ start-extents m name s.bare;
      open_are = stack_is ∙ ap₂ (λ l p. l ++ p ∷ []) (s.open_are ∙ sym (put-numbers m.root _ m.frames)) stands;
      going_is = going_is;
      waits_is = waits_is;
      kept_is = λ waits. absurd (false≢true (sym waits_is ∙ waits));
      begun_is = begun_is;
      notes = notes-kept d d' m (with_element m name) s.notes waited_is same_attributes
          (omega (arith, ap length extents_is, length-set (d.extents.items ++ place_if d.is_waiting at level) place (begun_extent (get_or (d.extents.items ++ place_if d.is_waiting at level) place e) number), length-append d.extents.items (place_if d.is_waiting at level)))
          waits_is;
      bare = refl;
      single = no_root;
      few_elements = omega (arith, (more-length _ _ more).1, s.few_elements, ap length text_is, length-append d.text.items (start_line name));
      few_attributes = omega (arith, ap length same_attributes, s.few_attributes, ap length text_is, length-append d.text.items (start_line name));
    }
