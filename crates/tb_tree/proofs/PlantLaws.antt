-- A sound node may be put into a draft, part by part, and is then among the kids of the innermost element.
use Rattle.std.proofs.Common.{◌≡◌, ℕ, ◌+◌, ◌^◌, ◌<◌, ◌≤◌, Bool, true, false, not, ◌&&◌, List, [], ◌∷◌, ◌++◌, length, Some, None, refl, sym, ap, ap₂, ◌∙◌, subst, arith, append_assoc, append-nil, length-append}
use Rattle.std.specs.List.{list_all}
use Rattle.std.proofs.lemmas.Bool.{and_parts, not-true, false≢true}
use Rattle.std.proofs.lemmas.Slice.Eq.{bytes_eq-Decides}
use Rattle.tb_tree.specs.Plain.{Plain, elem, attr, text, Plains, no_kids, kid, one, plains, kids_listed, is_element}
use Rattle.tb_tree.specs.Sound.{is_attribute, is_empty_list, attributes_first, has_no_attribute, texts_apart, begins_with_text, is_sound, are_sound, IsSound}
use Rattle.tb_tree.specs.Levels.{levels}
use Rattle.tb_tree.specs.Printed.{printed_node, attribute_lines, content_lines, attribute_line, start_line, end_line, data_line}
use Rattle.tb_tree.specs.Pieces.{content_of}
use Rattle.tb_tree.specs.Making.{Frame, Made, nothing_made, put, text_of, root_or, with_attribute, with_element, with_more_text, with_text_ended, with_element_ended, with_frames_ended, is_innermost}
use Rattle.tb_tree.specs.Drafts.{begun_text, going, shown_text, IsInside}
use Rattle.tb_tree.specs.Planting.{with_attributes, with_content, Fits, MayWait, MayBegin, MayEnd, MayStand}
use Rattle.tb_tree.proofs.LengthLaws.{data-line-length}
use Rattle.tb_tree.proofs.JoinedLaws.{content-bare}
use Rattle.tb_tree.proofs.PutLaws.{put-none, put-text, length-put}
use Rattle.tb_tree.proofs.AttributeLaws.{attribute-text}
use Rattle.tb_tree.proofs.TextLaws.{text-begun, text-none, nothing-goes}

-- the attributes among the nodes
abbrev pub attributes_listed : Plains → List Plain
attributes_listed no_kids = []
attributes_listed (kid (elem name kids) rest) = attributes_listed rest
attributes_listed (kid (attr name value) rest) = attr name value ∷ attributes_listed rest
attributes_listed (kid (text value) rest) = attributes_listed rest

abbrev with_waiting : Made → List Plain → Made
with_waiting m ws = record { frames = m.frames; running = m.running; waiting = ws; root = m.root }

waiting-all : (ks : Plains) (m : Made) → with_attributes m ks ≡ with_waiting m (m.waiting ++ attributes_listed ks)
waiting-all no_kids m = ap (with_waiting m) (sym (append-nil m.waiting))
waiting-all (kid (elem name kids) rest) m = waiting-all rest m
waiting-all (kid (attr name value) rest) m =
    waiting-all rest (with_attribute m name value) ∙ ap (with_waiting m) (append_assoc m.waiting (attr name value ∷ []) (attributes_listed rest))
waiting-all (kid (text value) rest) m = waiting-all rest m

lines-listed : (ks : Plains) → attribute_lines (plains (attributes_listed ks)) ≡ attribute_lines ks
lines-listed no_kids = refl
lines-listed (kid (elem name kids) rest) = lines-listed rest
lines-listed (kid (attr name value) rest) = ap (λ l. attribute_line name value ++ l) (lines-listed rest)
lines-listed (kid (text value) rest) = lines-listed rest

listed-bare : (ks : Plains) → list_all is_attribute (attributes_listed ks) ≡ true
listed-bare no_kids = refl
listed-bare (kid (elem name kids) rest) = listed-bare rest
listed-bare (kid (attr name value) rest) = listed-bare rest
listed-bare (kid (text value) rest) = listed-bare rest

-- where attributes stand first
content-whole : (ks : Plains) → has_no_attribute ks ≡ true → (content_of ks ≡ ks) × (attributes_listed ks ≡ [])
content-whole no_kids e = (refl, refl)
content-whole (kid (elem name kids) rest) e = (ap (kid (elem name kids)) (content-whole rest e).0, (content-whole rest e).1)
content-whole (kid (attr name value) rest) e = absurd (false≢true e)
content-whole (kid (text value) rest) e = (ap (kid (text value)) (content-whole rest e).0, (content-whole rest e).1)

pub plains-listed : (kids : Plains) → plains (kids_listed kids) ≡ kids
plains-listed no_kids = refl
plains-listed (kid k kids) = ap (kid k) (plains-listed kids)

none-before : (ks : Plains) → has_no_attribute ks ≡ true → plains (attributes_listed ks ++ kids_listed (content_of ks)) ≡ ks
none-before ks e =
    let none = content-whole ks e in
    ap₂ (λ ws cs. plains (ws ++ kids_listed cs)) none.1 none.0 ∙ plains-listed ks

listed-whole : (ks : Plains) → attributes_first ks ≡ true → plains (attributes_listed ks ++ kids_listed (content_of ks)) ≡ ks
listed-whole no_kids e = refl
listed-whole (kid (elem name kids) rest) e = none-before (kid (elem name kids) rest) e
listed-whole (kid (attr name value) rest) e = ap (kid (attr name value)) (listed-whole rest e)
listed-whole (kid (text value) rest) e = none-before (kid (text value) rest) e

content-apart : (ks : Plains) → attributes_first ks ≡ true → texts_apart ks ≡ true → texts_apart (content_of ks) ≡ true
content-apart no_kids e apart = refl
content-apart (kid (elem name kids) rest) e apart = ap texts_apart (content-whole (kid (elem name kids) rest) e).0 ∙ apart
content-apart (kid (attr name value) rest) e apart = content-apart rest e apart
content-apart (kid (text value) rest) e apart = ap texts_apart (content-whole (kid (text value) rest) e).0 ∙ apart

-- The attributes may wait.
waits : (ks : Plains) (m : Made) → length m.frames ≤ 512 → length (shown_text m) + length (attribute_lines ks) < 2 ^ 32 → MayWait m ks
waits no_kids m deep room = tt
waits (kid (elem name kids) rest) m deep room = waits rest m deep room
waits (kid (attr name value) rest) m deep room =
    let line = attribute_line name value in
    let long = length-append line (attribute_lines rest) in
    let next : length (shown_text (with_attribute m name value)) ≡ length (shown_text m) + length line =
    ap length (sym (attribute-text m name value)) ∙ length-append (shown_text m) line in
    ((deep, omega (arith, room, long)), waits rest (with_attribute m name value) deep (omega (arith, room, long, next)))
waits (kid (text value) rest) m deep room = waits rest m deep room

pub put-append : (xs ys : List Plain) (fs : List Frame) → put (xs ++ ys) fs ≡ put ys (put xs fs)
put-append xs ys [] = refl
put-append xs ys (f ∷ fs) = ap (λ ks. record { name = f.name; kids = ks } ∷ fs) (sym (append_assoc f.kids xs ys))

innermost-named : (r : List ℕ) (fs gs : List Frame) (f : Frame) → put (text_of r) fs ≡ f ∷ gs → is_innermost f.name fs ≡ true
innermost-named r [] gs f e = absurd (let d : ◌≡◌ {A = List Frame} [] (f ∷ gs) = e in cc)
innermost-named r (g ∷ fs) gs f e =
    let h : Frame = record { name = g.name; kids = g.kids ++ text_of r } in
    let heads : ◌≡◌ {A = Frame} h f = (let d : ◌≡◌ {A = List Frame} (h ∷ fs) (f ∷ gs) = e in cc) in
    (bytes_eq-Decides g.name f.name).1 (ap (λ (x : Frame). x.name) heads)

-- where kids may stand
record CanStand (m : Made) (ks : Plains) : Type 0 where
  frame : Frame
  others : List Frame
  frames_are : m.frames ≡ frame ∷ others
  none_wait : m.waiting ≡ []
  none_ended : m.root ≡ None
  sound : are_sound ks ≡ true
  apart : texts_apart (content_of ks) ≡ true
  seam : (not (is_empty_list m.running) && begins_with_text (content_of ks)) ≡ false
  room : length (begun_text None (going m)) + length (content_lines ks) < 2 ^ 32
  deep : length m.frames + levels ks ≤ 512

-- that they may be put in, and what is there then
record Stands (m : Made) (ks : Plains) : Type 0 where
  may : MayStand m ks
  going_is : going (with_content m ks) ≡ put (kids_listed (content_of ks)) (going m)
  none_wait : (with_content m ks).waiting ≡ []
  none_ended : (with_content m ks).root ≡ None
  long : length (begun_text None (going (with_content m ks))) ≡ length (begun_text None (going m)) + length (content_lines ks)

-- the same of an element
record CanBegin (m : Made) (name : List ℕ) (kids : Plains) : Type 0 where
  none_wait : m.waiting ≡ []
  none_ended : m.root ≡ None
  sound : is_sound (elem name kids) ≡ true
  room : length (begun_text None (going m)) + length (printed_node (elem name kids)) < 2 ^ 32
  deep : length m.frames + (1 + levels kids) ≤ 512

abbrev begun : Made → List ℕ → Plains → Made
begun m name kids = with_element (with_attributes m kids) name

abbrev with_node : Made → List Frame → Plain → Made
with_node m fs node = record { frames = put (node ∷ []) fs; running = []; waiting = []; root = root_or fs node None }

record ElementStands (m : Made) (name : List ℕ) (kids : Plains) : Type 0 where
  begins : MayBegin m name kids
  inner : MayStand (begun m name kids) kids
  ends : MayEnd (with_content (begun m name kids) kids) name
  ended : with_element_ended (with_text_ended (with_content (begun m name kids) kids)) ≡ with_node m (going m) (elem name kids)

record SoundElement (kids : Plains) : Type 0 where
  first : attributes_first kids ≡ true
  apart : texts_apart kids ≡ true
  sound : are_sound kids ≡ true

element-parts : (name : List ℕ) (kids : Plains) → is_sound (elem name kids) ≡ true → SoundElement kids
element-parts name kids sound =
    let one = and_parts _ (are_sound kids) sound in
    let two = and_parts _ (texts_apart kids) one.0 in
    let three = and_parts _ _ two.0 in
    let four = and_parts _ (attributes_first kids) three.0 in
    record { first = four.1; apart = two.1; sound = one.1 }

printed-length : (name : List ℕ) (kids : Plains)
    → length (printed_node (elem name kids)) ≡ length (attribute_lines kids) + length (start_line name) + length (content_lines kids) + length (end_line name)
printed-length name kids =
    omega (
      arith,
      length-append ((attribute_lines kids ++ start_line name) ++ content_lines kids) (end_line name),
      length-append (attribute_lines kids ++ start_line name) (content_lines kids),
      length-append (attribute_lines kids) (start_line name),
    )

shown-length : (m : Made) → m.waiting ≡ [] → m.root ≡ None → length (shown_text m) ≡ length (begun_text None (going m))
shown-length m none root = ap length (text-none m none) ∙ ap (λ r. length (begun_text r (going m))) root

element : (m : Made) (name : List ℕ) (kids : Plains) → CanBegin m name kids → ((n : Made) → CanStand n kids → Stands n kids) → ElementStands m name kids
element m name kids c stand =
    let parts = element-parts name kids c.sound in
    let ws = attributes_listed kids in
    let f : Frame = record { name = name; kids = ws } in
    let w : Made = record { frames = m.frames; running = m.running; waiting = ws; root = None } in
    let b : Made = record { frames = f ∷ going m; running = []; waiting = []; root = None } in
    let waited : with_attributes m kids ≡ w =
    waiting-all kids m ∙ ap₂ (λ before r. record { frames = m.frames; running = m.running; waiting = before ++ ws; root = r }) c.none_wait c.none_ended in
    let started : begun m name kids ≡ b = ap (λ n. with_element n name) waited in
    let lines = attribute_lines (plains ws) ++ start_line name in
    let longer : length (begun_text None (going b)) ≡ length (begun_text None (going m)) + length (attribute_lines kids) + length (start_line name) =
    ap (λ fs. length (begun_text None fs)) (put-none (f ∷ going m))
    ∙ ap (λ l. length (begun_text None (going m) ++ (lines ++ l))) (content-bare ws (listed-bare kids))
    ∙ ap (λ l. length (begun_text None (going m) ++ l)) (append-nil lines)
    ∙ omega (arith, length-append (begun_text None (going m)) lines, length-append (attribute_lines (plains ws)) (start_line name), ap length (lines-listed kids)) in
    let printed = printed-length name kids in
    let frames : length (going m) ≡ length m.frames = length-put (text_of m.running) m.frames in
    let inside = stand b
    (record {
      frame = f;
      others = going m;
      frames_are = refl;
      none_wait = refl;
      none_ended = refl;
      sound = parts.sound;
      apart = content-apart kids parts.first parts.apart;
      seam = refl;
      room = omega (arith, c.room, longer, printed);
      deep = omega (arith, c.deep, frames);
    }) in
    let g = with_content b kids in
    let f-out : Frame = record { name = name; kids = ws ++ kids_listed (content_of kids) } in
    let inner : going g ≡ f-out ∷ going m = inside.going_is ∙ ap (put (kids_listed (content_of kids))) (put-none (f ∷ going m)) in
    let shown = shown-length m c.none_wait c.none_ended in
    let waiting : length (shown_text w) ≡ length (begun_text None (going m)) + length (attribute_lines kids) =
    omega (arith, length-append (begun_text None (going m)) (attribute_lines (plains ws)), ap length (lines-listed kids)) in
    let deep_g : length g.frames ≤ 512 = omega (arith, c.deep, frames, ap length inner, length-put (text_of g.running) g.frames) in
    record {
      begins = record {
        waits = waits kids m (omega (arith, c.deep)) (omega (arith, shown, c.room, printed));
        none_ended = ap (λ (n : Made). n.root) waited;
        starts = subst (λ n. Fits n (length (start_line name))) (sym waited) (omega (arith, c.deep), omega (arith, c.room, printed, waiting));
      };
      inner = subst (λ n. MayStand n kids) (sym started) inside.may;
      ends = subst (λ n. MayEnd (with_content n kids) name) (sym started)
          (record {
            none_wait = inside.none_wait;
            innermost = innermost-named g.running g.frames (going m) f-out inner;
            ends = (deep_g, omega (arith, shown-length g inside.none_wait inside.none_ended, inside.long, longer, printed, c.room));
          });
      ended = ap (λ n. with_element_ended (with_text_ended (with_content n kids))) started
          ∙ ap (with_frames_ended (with_text_ended g)) inner
          ∙ ap₂ (λ before r. record { frames = put (elem name (plains (ws ++ kids_listed (content_of kids))) ∷ []) (going m); running = []; waiting = before; root = root_or (going m) (elem name (plains (ws ++ kids_listed (content_of kids)))) r }) inside.none_wait inside.none_ended
          ∙ ap (λ ks. with_node m (going m) (elem name ks)) (listed-whole kids parts.first);
    }

-- a text
runs-none : (r : List ℕ) → (not (is_empty_list r) && true) ≡ false → r ≡ []
runs-none [] e = refl
runs-none (b ∷ r) e = absurd (false≢true (sym e))

and-false : (a b : Bool) → b ≡ false → (a && b) ≡ false
and-false true b e = e
and-false false b e = refl

text-alone : (value : List ℕ) → is_empty_list value ≡ false → text_of value ≡ text value ∷ []
text-alone [] e = absurd (false≢true (sym e))
text-alone (b ∷ bs) e = refl

-- Kids may be put in one by one.
stands : (ks : Plains) (m : Made) → CanStand m ks → Stands m ks
stands no_kids m c = record { may = tt; going_is = sym (put-none (going m)); none_wait = c.none_wait; none_ended = c.none_ended; long = omega arith }
stands (kid (attr name value) rest) m c =
    let later = stands rest m
    (record {
      frame = c.frame;
      others = c.others;
      frames_are = c.frames_are;
      none_wait = c.none_wait;
      none_ended = c.none_ended;
      sound = (and_parts _ (are_sound rest) c.sound).1;
      apart = c.apart;
      seam = c.seam;
      room = c.room;
      deep = c.deep;
    }) in
    record { may = later.may; going_is = later.going_is; none_wait = later.none_wait; none_ended = later.none_ended; long = later.long }
stands (kid (text value) rest) m c =
    let sound = and_parts (not (is_empty_list value)) (are_sound rest) c.sound in
    let some = not-true (is_empty_list value) sound.0 in
    let apart = and_parts (not (begins_with_text (content_of rest))) (texts_apart (content_of rest)) c.apart in
    let empty = runs-none m.running c.seam in
    let inside : IsInside m.frames value = subst (λ fs. IsInside fs value) (sym c.frames_are) tt in
    let n = with_more_text m value in
    let before : going m ≡ m.frames = nothing-goes m empty in
    let then : going n ≡ put (text_of value) m.frames = ap (λ r. put (text_of (r ++ value)) m.frames) empty in
    let line = length-append (begun_text None m.frames) (data_line value) in
    let longer : length (begun_text None (going n)) ≡ length (begun_text None (going m)) + length (data_line value) =
    ap (λ fs. length (begun_text None fs)) then ∙ ap length (text-begun None m.frames value inside some) ∙ line
    ∙ ap (λ fs. length (begun_text None fs) + length (data_line value)) (sym before) in
    let all = length-append (data_line value) (content_lines rest) in
    let later = stands rest n
    (record {
      frame = c.frame;
      others = c.others;
      frames_are = c.frames_are;
      none_wait = c.none_wait;
      none_ended = c.none_ended;
      sound = sound.1;
      apart = apart.1;
      seam = and-false _ _ (not-true (begins_with_text (content_of rest)) apart.0);
      room = omega (arith, c.room, longer, all);
      deep = c.deep;
    }) in
    record {
      may = (record { none_wait = c.none_wait; inside = inside; prints = (omega (arith, c.deep), omega (arith, c.room, all, data-line-length value, shown-length m c.none_wait c.none_ended)) }, later.may);
      going_is = later.going_is ∙ ap (put (kids_listed (content_of rest))) (then ∙ ap₂ put (text-alone value some) (sym before))
          ∙ sym (put-append (text value ∷ []) (kids_listed (content_of rest)) (going m));
      none_wait = later.none_wait;
      none_ended = later.none_ended;
      long = omega (arith, later.long, longer, all);
    }
stands (kid (elem name kids) rest) m c =
    let node = elem name kids in
    let sound = and_parts (is_sound node) (are_sound rest) c.sound in
    let all = length-append (printed_node node) (content_lines rest) in
    let el = element m name kids
    (record { none_wait = c.none_wait; none_ended = c.none_ended; sound = sound.0; room = omega (arith, c.room, all); deep = omega (arith, c.deep) })
    (λ n can. stands kids n can) in
    let f : Frame = record { name = c.frame.name; kids = c.frame.kids ++ text_of m.running } in
    let inner : going m ≡ f ∷ c.others = ap (put (text_of m.running)) c.frames_are in
    let n = with_node m (f ∷ c.others) node in
    let is : with_element_ended (with_text_ended (with_content (begun m name kids) kids)) ≡ n = el.ended ∙ ap (λ fs. with_node m fs node) inner in
    let longer : length (begun_text None (going n)) ≡ length (begun_text None (going m)) + length (printed_node node) =
    ap (λ fs. length (begun_text None fs)) (put-none (put (node ∷ []) (f ∷ c.others))) ∙ ap length (put-text None f c.others node refl)
    ∙ length-append (begun_text None (f ∷ c.others)) (printed_node node) ∙ ap (λ fs. length (begun_text None fs) + length (printed_node node)) (sym inner) in
    let later = stands rest n
    (record {
      frame = record { name = c.frame.name; kids = f.kids ++ node ∷ [] };
      others = c.others;
      frames_are = refl;
      none_wait = refl;
      none_ended = refl;
      sound = sound.1;
      apart = c.apart;
      seam = refl;
      room = omega (arith, c.room, longer, all);
      deep = omega (arith, c.deep, ap length c.frames_are);
    }) in
    record {
      may = (el.begins, el.inner, el.ends, subst (λ x. MayStand x rest) (sym is) later.may);
      going_is = ap (λ x. going (with_content x rest)) is ∙ later.going_is
          ∙ ap (put (kids_listed (content_of rest))) (put-none (put (node ∷ []) (f ∷ c.others)) ∙ ap (put (node ∷ [])) (sym inner))
          ∙ sym (put-append (node ∷ []) (kids_listed (content_of rest)) (going m));
      none_wait = ap (λ x. (with_content x rest).waiting) is ∙ later.none_wait;
      none_ended = ap (λ x. (with_content x rest).root) is ∙ later.none_ended;
      long = ap (λ x. length (begun_text None (going (with_content x rest)))) is ∙ omega (arith, later.long, longer, all);
    }

-- A sound element, put into a draft that is new, is its root.
abbrev pub ended_at : Plain → Made
ended_at root = record { frames = []; running = []; waiting = []; root = Some root }

pub root-stands : (root : Plain) → IsSound root → is_element root ≡ true → levels (one root) ≤ 512 → length (printed_node root) < 2 ^ 32
    → MayStand nothing_made (one root) × (with_content nothing_made (one root) ≡ ended_at root)
root-stands (elem name kids) sound is low short =
    let el = element nothing_made name kids (record { none_wait = refl; none_ended = refl; sound = sound; room = omega (arith, short); deep = omega (arith, low) }) (λ n can. stands kids n can) in
    ((el.begins, el.inner, el.ends, tt), el.ended)
root-stands (attr name value) sound is low short = absurd (false≢true is)
root-stands (text value) sound is low short = absurd (false≢true is)
