-- An attribute more waits in a draft.
use Rattle.std.proofs.Common.{◌≡◌, ℕ, ◌+◌, ◌≤◌, ◌==◌, ◌^◌, ◌-◌, min, max, get_or, Bool, true, cond, not, ◌&&◌, List, [], ◌∷◌, ◌++◌, length, map, refl, sym, ap, ap₂, ◌∙◌, arith, append_assoc, append-nil, length-append}
use Rattle.std.proofs.lemmas.List.{map-append, length-map}
use Rattle.std.proofs.lemmas.List.Folds.{list_all-append}
use Rattle.tb_tree.specs.Plain.{Plain, attr, plains, one}
use Rattle.tb_tree.specs.Numbers.{counts}
use Rattle.tb_tree.specs.Sound.{is_attribute}
use Rattle.tb_tree.specs.Printed.{attribute_lines, attribute_line}
use Rattle.tb_tree.specs.Making.{Made, with_attribute}
use Rattle.tb_tree.specs.NameTables.{IsMore, IsNumber}
use Rattle.tb_tree.specs.Written.{has_escape}
use Rattle.tb_tree.specs.Extents.{attribute_extent, extents, named}
use Rattle.tb_tree.specs.declared.extent.Extent as code
use Rattle.tb_tree.specs.declared.extent.Kind.TheVariants as kind
use Rattle.tb_tree.specs.declared.draft.Draft.{Draft}
use Rattle.tb_tree.specs.Drafts.{HasRoom, begun_text, begun_extents, going, kept_extent, waiting_extents, shown_text, shown_extents, is_none, place_if, Shows}
use Rattle.tb_tree.proofs.NameLaws.{more-length}
use Rattle.tb_tree.proofs.NotedLaws.{notes-attribute}
use Rattle.tb_tree.proofs.JoinedLaws.{plains-append, attribute_lines-joined, extents-joined, length-extents}
use Rattle.tb_tree.proofs.KeptLaws.{same_extent, more-attributes, number-stays, kept-extents, kept-place, stack-length}

waiting-lines : (ws : List Plain) (name value : List ℕ) → attribute_lines (plains (ws ++ attr name value ∷ [])) ≡ attribute_lines (plains ws) ++ attribute_line name value
waiting-lines ws name value =
    ap attribute_lines (plains-append ws (attr name value ∷ [])) ∙ attribute_lines-joined (plains ws) (one (attr name value))
    ∙ ap (λ l. attribute_lines (plains ws) ++ l) (append-nil (attribute_line name value))

pub attribute-text : (m : Made) (name value : List ℕ) → shown_text m ++ attribute_line name value ≡ shown_text (with_attribute m name value)
attribute-text m name value =
    append_assoc (begun_text m.root (going m)) (attribute_lines (plains m.waiting)) (attribute_line name value)
    ∙ ap (λ l. begun_text m.root (going m) ++ l) (sym (waiting-lines m.waiting name value))

some-wait : (a n level : ℕ) (ws : List Plain) (w : Plain) → waiting_extents a n level (ws ++ w ∷ []) ≡ kept_extent a level ∷ extents a 0 (n + 1) (level + 1) (plains (ws ++ w ∷ []))
some-wait a n level [] w = refl
some-wait a n level (v ∷ ws) w = refl

not-none : (ws : List Plain) (w : Plain) → true ≡ not (is_none (ws ++ w ∷ []))
not-none [] w = refl
not-none (v ∷ ws) w = refl

attribute-extents : (m : Made) (name value : List ℕ) (last from : ℕ)
    → from ≡ length (shown_text m)
    → last ≡ length (begun_extents m.root (going m)) + 1 + 1 + counts (plains m.waiting)
    → (begun_extents m.root (going m) ++ (kept_extent (length (begun_text m.root (going m))) (length m.frames + 1)
    ∷ extents (length (begun_text m.root (going m))) 0 (length (begun_extents m.root (going m)) + 1 + 1) (length m.frames + 1 + 1) (plains m.waiting)))
    ++ attribute_extent from last name value (length m.frames + 1 + 1) ∷ []
    ≡ shown_extents (with_attribute m name value)
attribute-extents m name value last from from_is last_is =
    let text = begun_text m.root (going m) in
    let begun = begun_extents m.root (going m) in
    let level = length m.frames + 1 in
    let n = length begun + 1 in
    let ws = m.waiting in
    let before = extents (length text) 0 (n + 1) (level + 1) (plains ws) in
    let at : from ≡ length text + length (attribute_lines (plains ws)) = omega (arith, from_is, length-append text (attribute_lines (plains ws))) in
    append_assoc begun (kept_extent (length text) level ∷ before) _
    ∙ ap (λ r. begun ++ (kept_extent (length text) level ∷ r))
    (ap (λ r. before ++ r) (ap₂ (λ f l. attribute_extent f l name value (level + 1) ∷ []) at last_is)
    ∙ sym (extents-joined (length text) 0 (n + 1) (level + 1) (plains ws) (one (attr name value)))
    ∙ ap (extents (length text) 0 (n + 1) (level + 1)) (sym (plains-append ws (attr name value ∷ []))))
    ∙ ap (λ r. begun ++ r) (sym (some-wait (length text) n level ws (attr name value)))

-- the place that is kept stands among the extents
pub kept-below : (d : Draft) (m : Made) (at level place : ℕ) → Shows d m → at ≡ length d.text.items → level ≡ length d.stack.items + 1
    → place ≡ cond d.is_waiting d.kept (length d.extents.items) → place + 1 ≤ length d.extents.items + 1
kept-below d m at level place s at_is level_is place_is =
    let text = begun_text m.root (going m) in
    let begun = begun_extents m.root (going m) in
    let waits = waiting_extents (length text) (length begun + 1) (length m.frames + 1) m.waiting in
    omega (
      arith,
      kept-place d m place s place_is,
      length-map d.extents.items (named (d.elements ++ []) (d.attributes ++ [])),
      ap length (s.extents_are [] []),
      length-append begun waits,
    )

kept-within : (d d' : Draft) (m : Made) (at level : ℕ) (kept : List code.Extent) (x : code.Extent) → Shows d m → at ≡ length d.text.items → level ≡ length d.stack.items + 1
    → kept ≡ d.extents.items ++ place_if d.is_waiting at level → d'.kept ≡ cond d.is_waiting d.kept (length d.extents.items) → d'.extents.items ≡ kept ++ x ∷ []
    → d'.kept + 1 ≤ length d'.extents.items
kept-within d d' m at level kept x s at_is level_is kept_is kept_at extents_is =
    omega (
      arith,
      kept-below d m at level d'.kept s at_is level_is kept_at,
      ap length kept_is,
      length-append d.extents.items (place_if d.is_waiting at level),
      ap length extents_is,
      length-append kept (x ∷ []),
    )

-- the next number fits
pub next-fits : (d : Draft) (m : Made) (at level place next more : ℕ) → Shows d m → at ≡ length d.text.items → level ≡ length d.stack.items + 1 → place ≡ cond d.is_waiting d.kept (length d.extents.items)
    → next ≡ min (place + 1) (2 ^ 32 - 1) → HasRoom d more → 9 ≤ more → next ≡ place + 1
next-fits d m at level place next more s at_is level_is place_is next_is room some =
    omega (arith, next_is, kept-below d m at level place s at_is level_is place_is, room.few, room.room, some)

pub shows-attribute : (d d' : Draft) (m : Made) (name value : List ℕ) (number at level : ℕ) (kept : List code.Extent) (to last : ℕ) (told : Bool) → Shows d m
    → at ≡ length d.text.items → level ≡ length d.stack.items + 1
    → kept ≡ d.extents.items ++ place_if d.is_waiting at level
    → d'.kept ≡ cond d.is_waiting d.kept (length d.extents.items)
    → IsNumber d'.attributes name number → IsMore d.attributes d'.attributes → d'.elements ≡ d.elements
    → d'.text.items ≡ d.text.items ++ attribute_line name value
    → to ≡ length d'.text.items → last ≡ length kept + 1 → told ≡ has_escape value
    → d'.extents.items ≡ kept ++ record { from = at; to = to; last = last; name = number; level = level + 1; kind = kind.Attribute; escaped = told } ∷ []
    → d'.stack.items ≡ d.stack.items → d'.is_going ≡ d.is_going → d'.is_waiting ≡ true → d'.has_begun ≡ d.has_begun
    → ((n : ℕ) → get_or d'.waited.items n 0 ≡ cond (n == number) (d'.kept + 1) (get_or d.waited.items n 0))
    → length d'.waited.items ≤ max (length d.waited.items) (number + 1)
    → Shows d' (with_attribute m name value)
shows-attribute d d' m name value number at level kept to last told s at_is level_is kept_is kept_at number_is more same_elements text_is to_is last_is told_is extents_is stack_is going_is waits_is begun_is written few = record {
  text_is = text_is ∙ ap (λ l. l ++ attribute_line name value) s.text_is ∙ attribute-text m name value;
  extents_are = λ es ns.
      let N = named (d'.elements ++ es) (d'.attributes ++ ns) in
      let text = begun_text m.root (going m) in
      let begun = begun_extents m.root (going m) in
      let waiting = extents (length text) 0 (length begun + 1 + 1) (length m.frames + 1 + 1) (plains m.waiting) in
      let kept_all = begun ++ (kept_extent (length text) (length m.frames + 1) ∷ waiting) in
      let all = ap (λ e. map (named (e ++ es) (d'.attributes ++ ns)) (d.extents.items ++ place_if d.is_waiting at level)) same_elements
      ∙ more-attributes d.attributes d'.attributes d.elements (d.extents.items ++ place_if d.is_waiting at level) _ more (kept-extents d m at level s at_is level_is) es ns in
      let x : code.Extent = record { from = at; to = to; last = last; name = number; level = level + 1; kind = kind.Attribute; escaped = told } in
      let here : map N kept ≡ kept_all = ap (map N) kept_is ∙ all in
      let deep : level + 1 ≡ length m.frames + 1 + 1 = omega (arith, level_is, stack-length d m s) in
      let ends : to ≡ at + length (attribute_line name value) = omega (arith, to_is, at_is, ap length text_is, length-append d.text.items (attribute_line name value)) in
      let after : last ≡ length begun + 1 + 1 + counts (plains m.waiting) =
      omega (
        arith,
        last_is,
        ap length here,
        length-map kept N,
        length-append begun (kept_extent (length text) (length m.frames + 1) ∷ waiting),
        length-extents (length text) 0 (length begun + 1 + 1) (length m.frames + 1 + 1) (plains m.waiting),
      ) in
      ap (map N) extents_is ∙ map-append N kept (x ∷ [])
      ∙ ap₂ (λ l y. l ++ y ∷ []) here (same_extent at to _ last last _ name (level + 1) _ kind.Attribute told _ ends refl (number-stays d'.attributes ns name number number_is) deep told_is)
      ∙ attribute-extents m name value last at (at_is ∙ ap length s.text_is) after;
  open_are = stack_is ∙ s.open_are;
  going_is = going_is ∙ s.going_is;
  waits_is = waits_is ∙ not-none m.waiting (attr name value);
  kept_is = λ waits. kept-place d m d'.kept s kept_at;
  begun_is = begun_is ∙ s.begun_is;
  notes = notes-attribute d d' m name value number s.waits_is s.notes number_is more kept_at written few
      (omega (arith, ap length kept_is, length-append d.extents.items (place_if d.is_waiting at level), ap length extents_is, length-append kept (record { from = at; to = to; last = last; name = number; level = level + 1; kind = kind.Attribute; escaped = told } ∷ [])))
      (kept-within d d' m at level kept _ s at_is level_is kept_is kept_at extents_is);
  bare = list_all-append is_attribute m.waiting (attr name value ∷ []) ∙ ap (λ b. b && true) s.bare;
  single = s.single;
  few_elements = omega (arith, ap length same_elements, s.few_elements, ap length text_is, length-append d.text.items (attribute_line name value));
  few_attributes = omega (arith, (more-length _ _ more).1, s.few_attributes, ap length text_is, length-append d.text.items (attribute_line name value));
}
