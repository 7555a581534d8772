-- A text begins in a draft, or goes on.
use Rattle.std.proofs.Common.{◌≡◌, ℕ, ◌+◌, ◌-◌, ◌≤◌, Bool, true, false, not, ◌&&◌, ◌||◌, List, [], ◌∷◌, ◌++◌, length, map, set, get_or, Option, refl, sym, ap, ap₂, ◌∙◌, arith, append_assoc, append-nil, length-append}
use Rattle.std.specs.List.{list_all}
use Rattle.std.proofs.lemmas.Bool.{false≢true}
use Rattle.std.proofs.lemmas.List.{map-append, length-map, length-set}
use Rattle.std.proofs.lemmas.List.Folds.{list_all-append}
use Rattle.std.proofs.lemmas.Grind.{flat_map-append}
use Rattle.tb_tree.specs.Plain.{Plain, text, plains}
use Rattle.tb_tree.specs.Sound.{is_empty_list}
use Rattle.tb_tree.specs.Printed.{attribute_lines, data_line, escaped, escaped_byte}
use Rattle.tb_tree.specs.Making.{Frame, Made, put, text_of, with_more_text}
use Rattle.tb_tree.specs.Written.{has_escape, is_plain}
use Rattle.tb_tree.specs.Extents.{Extent, text_extent, named}
use Rattle.tb_tree.specs.declared.extent.Extent as code
use Rattle.tb_tree.specs.declared.extent.Kind.TheVariants as kind
use Rattle.tb_tree.specs.declared.draft.Draft.{Draft}
use Rattle.tb_tree.specs.Drafts.{begun_text, begun_extents, going, waiting_extents, shown_text, shown_extents, is_none, longer_extent, IsInside, Shows}
use Rattle.tb_tree.proofs.PutLaws.{put-none, put-text, put-extents}
use Rattle.tb_tree.proofs.NotedLaws.{notes-kept}
use Rattle.tb_tree.proofs.KeptLaws.{patched, same_extent, stack-length}

-- the text of some bytes, put into the innermost element
pub text-begun : (root : Option Plain) (fs : List Frame) (value : List ℕ) → IsInside fs value → is_empty_list value ≡ false
    → begun_text root (put (text_of value) fs) ≡ begun_text root fs ++ data_line value
text-begun root [] value inside some = absurd (false≢true (sym some ∙ ap is_empty_list inside))
text-begun root (f ∷ fs) [] inside some = absurd (false≢true (sym some))
text-begun root (f ∷ fs) (b ∷ bs) inside some = put-text root f fs (text (b ∷ bs)) refl

pub extents-begun : (root : Option Plain) (fs : List Frame) (value : List ℕ) → IsInside fs value → is_empty_list value ≡ false
    → begun_extents root (put (text_of value) fs)
    ≡ begun_extents root fs ++ text_extent (length (begun_text root fs)) (length (begun_extents root fs) + 1) value (length fs + 1) ∷ []
extents-begun root [] value inside some = absurd (false≢true (sym some ∙ ap is_empty_list inside))
extents-begun root (f ∷ fs) [] inside some = absurd (false≢true (sym some))
extents-begun root (f ∷ fs) (b ∷ bs) inside some =
    let level : length fs + 2 ≡ length (f ∷ fs) + 1 = omega arith in
    put-extents root f fs (text (b ∷ bs)) 0 refl
    ∙ ap (λ l. begun_extents root (f ∷ fs) ++ text_extent (length (begun_text root (f ∷ fs))) (length (begun_extents root (f ∷ fs)) + 1) (b ∷ bs) l ∷ []) level

inside-any : (fs : List Frame) (v w : List ℕ) → IsInside fs v → is_empty_list v ≡ false → IsInside fs w
inside-any [] v w inside some = absurd (false≢true (sym some ∙ ap is_empty_list inside))
inside-any (f ∷ fs) v w inside some = tt

longer : (r v : List ℕ) → is_empty_list v ≡ false → is_empty_list (r ++ v) ≡ false
longer [] v some = some
longer (b ∷ r) v some = refl

going-some : (r v : List ℕ) → is_empty_list v ≡ false → true ≡ not (is_empty_list (r ++ v))
going-some r v some = ap not (sym (longer r v some))

none_runs : (r : List ℕ) → false ≡ not (is_empty_list r) → r ≡ []
none_runs [] e = refl
none_runs (b ∷ r) e = absurd (false≢true e)

some_runs : (r : List ℕ) → true ≡ not (is_empty_list r) → is_empty_list r ≡ false
some_runs [] e = absurd (false≢true (sym e))
some_runs (b ∷ r) e = refl

not-both : (a b : Bool) → not (a && b) ≡ (not a || not b)
not-both true b = refl
not-both false b = refl

pub escape-append : (r v : List ℕ) → has_escape (r ++ v) ≡ (has_escape r || has_escape v)
escape-append r v = ap not (list_all-append is_plain r v) ∙ not-both (list_all is_plain r) (list_all is_plain v)

-- where no attribute waits
pub text-none : (m : Made) → m.waiting ≡ [] → shown_text m ≡ begun_text m.root (going m)
text-none m none = ap (λ ws. begun_text m.root (going m) ++ attribute_lines (plains ws)) none ∙ append-nil _

pub extents-none : (m : Made) → m.waiting ≡ [] → shown_extents m ≡ begun_extents m.root (going m)
extents-none m none =
    ap (λ ws. begun_extents m.root (going m) ++ waiting_extents (length (begun_text m.root (going m))) (length (begun_extents m.root (going m)) + 1) (length m.frames + 1) ws) none
    ∙ append-nil _

pub nothing-goes : (m : Made) → m.running ≡ [] → going m ≡ m.frames
nothing-goes m none = ap (λ r. put (text_of r) m.frames) none ∙ put-none m.frames

pub shows-begun_text : (d d' : Draft) (m : Made) (value : List ℕ) (from to last level : ℕ) (told : Bool) → m.waiting ≡ [] → IsInside m.frames value → d.is_going ≡ false → is_empty_list value ≡ false → Shows d m
    → from ≡ length d.text.items → to ≡ length d'.text.items → last ≡ length d.extents.items + 1 → level ≡ length d.stack.items + 1 → told ≡ has_escape value
    → d'.text.items ≡ d.text.items ++ data_line value
    → d'.extents.items ≡ d.extents.items ++ record { from = from; to = to; last = last; name = 0; level = level; kind = kind.Text; escaped = told } ∷ []
    → d'.stack.items ≡ d.stack.items → d'.elements ≡ d.elements → d'.attributes ≡ d.attributes → d'.is_going ≡ true → d'.is_waiting ≡ d.is_waiting → d'.kept ≡ d.kept → d'.has_begun ≡ d.has_begun → d'.waited.items ≡ d.waited.items
    → Shows d' (with_more_text m value)
shows-begun_text d d' m value from to last level told none inside not_going some s from_is to_is last_is level_is told_is text_is extents_is stack_is same_elements same_attributes going_is waits_is kept_is begun_is waited_is =
    let empty = none_runs m.running (sym not_going ∙ s.going_is) in
    let now = nothing-goes m empty in
    let m' = with_more_text m value in
    let then : going m' ≡ put (text_of value) m.frames = ap (λ r. put (text_of (r ++ value)) m.frames) empty in
    let text = begun_text m.root m.frames in
    let begun = begun_extents m.root m.frames in
    let old_text : d.text.items ≡ text = s.text_is ∙ text-none m none ∙ ap (begun_text m.root) now in
    let old_extents = λ (es ns : List (List ℕ)). s.extents_are es ns ∙ extents-none m none ∙ ap (begun_extents m.root) now in
    record {
      text_is = text_is ∙ ap (λ l. l ++ data_line value) old_text ∙ sym (text-begun m.root m.frames value inside some) ∙ ap (begun_text m.root) (sym then) ∙ sym (text-none m' none);
      extents_are = λ es ns.
          let N = named (d'.elements ++ es) (d'.attributes ++ ns) in
          let here : map N d.extents.items ≡ begun = ap₂ (λ a b. map (named (a ++ es) (b ++ ns)) d.extents.items) same_elements same_attributes ∙ old_extents es ns in
          let x : code.Extent = record { from = from; to = to; last = last; name = 0; level = level; kind = kind.Text; escaped = told } in
          let at : from ≡ length text = from_is ∙ ap length old_text in
          let ends : to ≡ length text + length (data_line value) = omega (arith, to_is, ap length text_is, length-append d.text.items (data_line value), ap length old_text) in
          let after : last ≡ length begun + 1 = omega (arith, last_is, ap length here, length-map d.extents.items N) in
          let deep : level ≡ length m.frames + 1 = omega (arith, level_is, stack-length d m s) in
          ap (map N) extents_is ∙ map-append N d.extents.items (x ∷ [])
          ∙ ap₂ (λ l y. l ++ y ∷ []) here
          (ap (λ f. record { from = f; to = to; last = last; name = []; level = level; kind = kind.Text; escaped = told }) at
          ∙ same_extent (length text) to _ last _ [] [] level _ kind.Text told _ ends after refl deep told_is)
          ∙ sym (extents-begun m.root m.frames value inside some) ∙ ap (begun_extents m.root) (sym then) ∙ sym (extents-none m' none);
      open_are = stack_is ∙ s.open_are;
      going_is = going_is ∙ going-some m.running value some;
      waits_is = waits_is ∙ s.waits_is;
      kept_is = λ waits. absurd (false≢true (ap (λ ws. not (is_none ws)) (sym none) ∙ sym s.waits_is ∙ sym waits_is ∙ waits));
      begun_is = begun_is ∙ s.begun_is;
      notes = notes-kept d d' m m' s.notes waited_is same_attributes (omega (arith, ap length extents_is, length-append d.extents.items (record { from = from; to = to; last = last; name = 0; level = level; kind = kind.Text; escaped = told } ∷ []))) (waits_is ∙ s.waits_is ∙ ap (λ ws. not (is_none ws)) none);
      bare = s.bare;
      single = s.single;
      few_elements = omega (arith, ap length same_elements, s.few_elements, ap length text_is, length-append d.text.items (data_line value));
      few_attributes = omega (arith, ap length same_attributes, s.few_attributes, ap length text_is, length-append d.text.items (data_line value));
    }

-- more of the text whose line is the last one
line-longer : (lines r v : List ℕ) → ((lines ++ 45 ∷ escaped r) ++ escaped v) ++ 10 ∷ [] ≡ lines ++ data_line (r ++ v)
line-longer lines r v =
    append_assoc (lines ++ 45 ∷ escaped r) (escaped v) (10 ∷ []) ∙ append_assoc lines (45 ∷ escaped r) (escaped v ++ 10 ∷ [])
    ∙ ap (λ l. lines ++ (45 ∷ l)) (sym (append_assoc (escaped r) (escaped v) (10 ∷ [])) ∙ ap (λ l. l ++ 10 ∷ []) (sym (flat_map-append escaped_byte r v)))

abbrev longer_named : ℕ → Bool → Extent → Extent
longer_named to told e = record e { to = to; escaped = e.escaped || told }

pub shows-longer_text : (d d' : Draft) (m : Made) (value : List ℕ) (to place : ℕ) (told : Bool) (e : code.Extent) → m.waiting ≡ [] → IsInside m.frames value → d.is_going ≡ true → is_empty_list value ≡ false → Shows d m
    → to ≡ length d'.text.items → place ≡ length d.extents.items - 1 → told ≡ has_escape value
    → ((prefix : List ℕ) → d.text.items ≡ prefix ++ 10 ∷ [] → d'.text.items ≡ (prefix ++ escaped value) ++ 10 ∷ [])
    → d'.extents.items ≡ set d.extents.items place (longer_extent (get_or d.extents.items place e) to told)
    → d'.stack.items ≡ d.stack.items → d'.elements ≡ d.elements → d'.attributes ≡ d.attributes → d'.is_going ≡ true → d'.is_waiting ≡ d.is_waiting → d'.has_begun ≡ d.has_begun → d'.waited.items ≡ d.waited.items
    → Shows d' (with_more_text m value)
shows-longer_text d d' m value to place told e none inside goes some s to_is place_is told_is grows extents_is stack_is same_elements same_attributes going_is waits_is begun_is waited_is =
    let r = m.running in
    let running = some_runs r (sym goes ∙ s.going_is) in
    let inside_r = inside-any m.frames value r inside some in
    let inside_all = inside-any m.frames value (r ++ value) inside some in
    let m' = with_more_text m value in
    let text = begun_text m.root m.frames in
    let begun = begun_extents m.root m.frames in
    let prefix = text ++ 45 ∷ escaped r in
    let old_text : d.text.items ≡ text ++ data_line r = s.text_is ∙ text-none m none ∙ text-begun m.root m.frames r inside_r running in
    let line : d.text.items ≡ prefix ++ 10 ∷ [] = old_text ∙ sym (append_assoc text (45 ∷ escaped r) (10 ∷ [])) in
    let new_text : d'.text.items ≡ text ++ data_line (r ++ value) = grows prefix line ∙ line-longer text r value in
    let at = length text in
    let n = length begun + 1 in
    let level = length m.frames + 1 in
    let long : length d.text.items ≤ length d'.text.items =
    omega (arith, ap length line, length-append prefix (10 ∷ []), ap length (grows prefix line), length-append (prefix ++ escaped value) (10 ∷ []), length-append prefix (escaped value)) in
    record {
      text_is = new_text ∙ sym (text-begun m.root m.frames (r ++ value) inside_all (longer r value some)) ∙ sym (text-none m' none);
      extents_are = λ es ns.
          let N = named (d'.elements ++ es) (d'.attributes ++ ns) in
          let here : map N d.extents.items ≡ begun ++ text_extent at n r level ∷ [] =
          ap₂ (λ a b. map (named (a ++ es) (b ++ ns)) d.extents.items) same_elements same_attributes ∙ s.extents_are es ns ∙ extents-none m none ∙ extents-begun m.root m.frames r inside_r running in
          let stands : place ≡ length begun = omega (arith, place_is, ap length here, length-map d.extents.items N, length-append begun (text_extent at n r level ∷ [])) in
          let ends : to ≡ at + length (data_line (r ++ value)) = omega (arith, to_is, ap length new_text, length-append text (data_line (r ++ value))) in
          ap (map N) extents_is
          ∙ patched N (λ x. longer_extent x to told) (longer_named to told) d.extents.items begun [] (text_extent at n r level) place e (λ x. refl) here stands
          ∙ ap (λ y. begun ++ y ∷ []) (same_extent at to _ n n [] [] level level kind.Text (has_escape r || told) (has_escape (r ++ value)) ends refl refl refl (ap (λ b. has_escape r || b) told_is ∙ sym (escape-append r value)))
          ∙ sym (extents-begun m.root m.frames (r ++ value) inside_all (longer r value some)) ∙ sym (extents-none m' none);
      open_are = stack_is ∙ s.open_are;
      going_is = going_is ∙ going-some m.running value some;
      waits_is = waits_is ∙ s.waits_is;
      kept_is = λ waits. absurd (false≢true (ap (λ ws. not (is_none ws)) (sym none) ∙ sym s.waits_is ∙ sym waits_is ∙ waits));
      begun_is = begun_is ∙ s.begun_is;
      notes = notes-kept d d' m m' s.notes waited_is same_attributes (omega (arith, ap length extents_is, length-set d.extents.items place (longer_extent (get_or d.extents.items place e) to told))) (waits_is ∙ s.waits_is ∙ ap (λ ws. not (is_none ws)) none);
      bare = s.bare;
      single = s.single;
      few_elements = omega (arith, ap length same_elements, s.few_elements, long);
      few_attributes = omega (arith, ap length same_attributes, s.few_attributes, long);
    }
