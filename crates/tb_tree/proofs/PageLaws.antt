-- What is written piece by piece makes the page.
use Rattle.std.proofs.Common.{◌≡◌, ℕ, ◌-◌, Bool, true, false, ◌&&◌, not, List, [], ◌∷◌, ◌++◌, length, take, refl, sym, ap, ap₂, ◌∙◌, arith, append_assoc, append-nil, length-append}
use Rattle.std.proofs.lemmas.Bool.{and_parts, not-true, false≢true}
use Rattle.std.proofs.lemmas.Grind.{flat_map-append}
use Rattle.tb_tree.specs.Plain.{Plain, elem, attr, text, Plains, no_kids, kid, joined_kids, kids_of}
use Rattle.tb_tree.specs.Sound.{is_attribute, is_text, is_empty_list, has_no_attribute, attributes_first, begins_with_text, texts_apart, are_sound, is_sound, IsSound}
use Rattle.tb_tree.specs.Pieces.{content_of, ends_with_text}
use Rattle.tb_tree.specs.Printed.{escaped, escaped_byte, printed_node, attribute_lines, start_line, end_line, content_lines, data_line}
use Rattle.tb_tree.specs.Pages.{Page, page, text_start, whole_lines, ended, with_lines, with_text, with_node, with_nodes, joined, going_on}
use Rattle.tb_tree.specs.Extents.{kind_of}
use Rattle.tb_tree.specs.declared.extent.Kind.{Kind}
use Rattle.tb_tree.specs.declared.extent.Kind.TheVariants as kind
use Rattle.tb_tree.proofs.lists.Parts.{prefix_is}
use Rattle.tb_tree.proofs.SoundLaws.{kids-sound}

pub escaped-append : (v w : List ℕ) → escaped (v ++ w) ≡ escaped v ++ escaped w
escaped-append v w = flat_map-append escaped_byte v w

-- A text goes on.
pub text-more : (p : Page) (v w : List ℕ) → with_text (with_text p v) w ≡ with_text p (v ++ w)
text-more p [] w = refl
text-more p (b ∷ bs) [] = ap (with_text p) (sym (append-nil (b ∷ bs)))
text-more p (b ∷ bs) (c ∷ cs) =
    let start = text_start p.is_going in
    let here = escaped (b ∷ bs) in
    let more = escaped (c ∷ cs) in
    ap (λ l. page l true)
    (append_assoc p.bytes (start ++ here) more
    ∙ ap (λ l. p.bytes ++ l) (append_assoc start here more ∙ ap (λ l. start ++ l) (sym (escaped-append (b ∷ bs) (c ∷ cs)))))

pub whole_lines-ended : (bytes : List ℕ) → whole_lines (page bytes false) ≡ bytes
whole_lines-ended bytes = append-nil bytes

pub ended-ended : (p : Page) → ended (ended p) ≡ ended p
ended-ended p = ap (λ l. page l false) (append-nil (whole_lines p))

pub lines-ended : (p : Page) (lines : List ℕ) → with_lines (ended p) lines ≡ with_lines p lines
lines-ended p lines = ap (λ l. page (l ++ lines) false) (append-nil (whole_lines p))

pub lines-more : (p : Page) (a b : List ℕ) → with_lines (with_lines p a) b ≡ with_lines p (a ++ b)
lines-more p a b = ap (λ l. page (l ++ b) false) (append-nil (whole_lines p ++ a)) ∙ ap (λ l. page l false) (append_assoc (whole_lines p) a b)

-- Nodes behind nodes.
pub nodes-append : (p : Page) (a b : Plains) → with_nodes p (joined_kids a b) ≡ with_nodes (with_nodes p a) b
nodes-append p no_kids b = refl
nodes-append p (kid node rest) b = nodes-append (with_node p node) rest b

-- Attributes that stand first are no lines among the others, where no text goes on.
none-content : (ks : Plains) → has_no_attribute ks ≡ true → content_of ks ≡ ks
none-content no_kids bare = refl
none-content (kid (elem name kids) rest) bare = ap (kid (elem name kids)) (none-content rest bare)
none-content (kid (attr name value) rest) bare = absurd (false≢true bare)
none-content (kid (text value) rest) bare = ap (kid (text value)) (none-content rest bare)

pub nodes-content : (p : Page) (ks : Plains) → attributes_first ks ≡ true → with_nodes (ended p) ks ≡ with_nodes (ended p) (content_of ks)
nodes-content p no_kids first = refl
nodes-content p (kid (elem name kids) rest) first = ap (λ l. with_nodes (with_node (ended p) (elem name kids)) l) (sym (none-content rest first))
nodes-content p (kid (attr name value) rest) first = ap (λ q. with_nodes q rest) (ended-ended p) ∙ nodes-content p rest first
nodes-content p (kid (text value) rest) first = ap (λ l. with_nodes (with_node (ended p) (text value)) l) (sym (none-content rest first))

-- The nodes but for the attributes have the same lines, and are as sound.
pub content_lines-content : (ks : Plains) → content_lines (content_of ks) ≡ content_lines ks
content_lines-content no_kids = refl
content_lines-content (kid (elem name kids) rest) = ap (λ l. printed_node (elem name kids) ++ l) (content_lines-content rest)
content_lines-content (kid (attr name value) rest) = content_lines-content rest
content_lines-content (kid (text value) rest) = ap (λ l. data_line value ++ l) (content_lines-content rest)

pub content-bare : (ks : Plains) → has_no_attribute (content_of ks) ≡ true
content-bare no_kids = refl
content-bare (kid (elem name kids) rest) = content-bare rest
content-bare (kid (attr name value) rest) = content-bare rest
content-bare (kid (text value) rest) = content-bare rest

-- nodes that stand as they are copied: no attribute, no text without a byte, and no two texts side by side
abbrev pub AreWhole : Plains → Type 0
AreWhole ks = (has_no_attribute ks ≡ true) × (texts_apart ks ≡ true) × (are_sound ks ≡ true)

pub content-whole : (ks : Plains) → attributes_first ks ≡ true → texts_apart ks ≡ true → are_sound ks ≡ true → AreWhole (content_of ks)
content-whole no_kids first apart sound = (refl, refl, refl)
content-whole (kid (elem name kids) rest) first apart sound =
    let same = none-content rest first in
    (content-bare rest, rw same apart, rw same sound)
content-whole (kid (attr name value) rest) first apart sound =
    content-whole rest first apart (and_parts (is_sound (attr name value)) (are_sound rest) sound).1
content-whole (kid (text value) rest) first apart sound =
    let same = none-content rest first in
    (content-bare rest, rw same apart, rw same sound)

-- Their lines go on in a text's line, and leave one that goes on.
without_last : (whole lines : List ℕ) → whole ≡ lines ++ 10 ∷ [] → take (length whole - 1) whole ≡ lines
without_last whole lines is = prefix_is whole lines (10 ∷ []) is

text-alone : (p : Page) (v : List ℕ) → is_empty_list v ≡ false → with_text p v ≡ going_on (joined p true (data_line v)) true
text-alone p [] some = absurd (false≢true (sym some))
text-alone p (b ∷ bs) some =
    let start = text_start p.is_going in
    let here = escaped (b ∷ bs) in
    let split : p.bytes ++ (start ++ (here ++ 10 ∷ [])) ≡ (p.bytes ++ (start ++ here)) ++ 10 ∷ [] =
    ap (λ l. p.bytes ++ l) (sym (append_assoc start here (10 ∷ []))) ∙ sym (append_assoc p.bytes (start ++ here) (10 ∷ [])) in
    ap (λ l. page l true) (sym (without_last _ (p.bytes ++ (start ++ here)) split))

-- a node that is copied alone
pub node-copied : (p : Page) (k : Plain) → is_attribute k ≡ false → is_sound k ≡ true → with_node p k ≡ going_on (joined p (is_text k) (printed_node k)) (is_text k)
node-copied p (elem name kids) bare sound = refl
node-copied p (attr name value) bare sound = absurd (false≢true (sym bare))
node-copied p (text value) bare sound = text-alone p value (not-true (is_empty_list value) sound)

seam : (p : Page) (lines : List ℕ) (k : Plain) (rest : Plains) → is_attribute k ≡ false
    → joined (with_lines p lines) (is_text k) (content_lines (kid k rest)) ≡ with_lines p (lines ++ content_lines (kid k rest))
seam p lines (elem name kids) rest bare = lines-more p lines (content_lines (kid (elem name kids) rest))
seam p lines (attr name value) rest bare = absurd (false≢true (sym bare))
seam p lines (text value) rest bare = ap (λ l. page l false) (append_assoc (whole_lines p) lines (content_lines (kid (text value) rest)))

-- a text, and behind it an element
text-ended : (p : Page) (v lines : List ℕ) → is_empty_list v ≡ false → joined (with_text p v) false lines ≡ joined p true (data_line v ++ lines)
text-ended p [] lines some = absurd (false≢true (sym some))
text-ended p (b ∷ bs) lines some =
    let start = text_start p.is_going in
    let here = escaped (b ∷ bs) in
    ap (λ l. page (l ++ lines) false) (append_assoc p.bytes (start ++ here) (10 ∷ []) ∙ ap (λ l. p.bytes ++ l) (append_assoc start here (10 ∷ [])))
    ∙ ap (λ l. page l false) (append_assoc p.bytes (start ++ (here ++ 10 ∷ [])) lines ∙ ap (λ l. p.bytes ++ l) (append_assoc start (here ++ 10 ∷ []) lines))

pub nodes-copied : (p : Page) (k : Plain) (rest : Plains) → AreWhole (kid k rest)
    → with_nodes p (kid k rest) ≡ going_on (joined p (is_text k) (content_lines (kid k rest))) (ends_with_text (kid k rest))
nodes-copied p (attr name value) rest h = absurd (false≢true h.0)
nodes-copied p (elem name kids) no_kids h = ap (with_lines p) (sym (append-nil (printed_node (elem name kids))))
nodes-copied p (text value) no_kids h =
    let some = not-true (is_empty_list value) (and_parts (not (is_empty_list value)) true h.2).0 in
    text-alone p value some ∙ ap (λ l. going_on (joined p true l) true) (sym (append-nil (data_line value)))
nodes-copied p (elem name kids) (kid next rest) h =
    let bare = (and_parts (not (is_attribute next)) (has_no_attribute rest) h.0).0 in
    let apart = (and_parts (not (false && is_text next)) (texts_apart (kid next rest)) h.1).1 in
    let sound = (and_parts (is_sound (elem name kids)) (are_sound (kid next rest)) h.2).1 in
    nodes-copied (with_lines p (printed_node (elem name kids))) next rest (h.0, apart, sound)
    ∙ ap (λ q. going_on q (ends_with_text (kid next rest))) (seam p (printed_node (elem name kids)) next rest (not-true (is_attribute next) bare))
nodes-copied p (text value) (kid next rest) h =
    let apart = and_parts (not (true && is_text next)) (texts_apart (kid next rest)) h.1 in
    let sound = and_parts (not (is_empty_list value)) (are_sound (kid next rest)) h.2 in
    let lines = content_lines (kid next rest) in
    nodes-copied (with_text p value) next rest (h.0, apart.1, sound.1)
    ∙ ap (λ b. going_on (joined (with_text p value) b lines) (ends_with_text (kid next rest))) (not-true (is_text next) apart.0)
    ∙ ap (λ q. going_on q (ends_with_text (kid next rest))) (text-ended p value lines (not-true (is_empty_list value) sound.0))

-- a text of a sound document
pub text-copied : (p : Page) (node : Plain) → kind_of node ≡ kind.Text → IsSound node → going_on (joined p true (printed_node node)) true ≡ with_node p node
text-copied p (elem name kids) is sound = absurd (let d : ◌≡◌ {A = Kind} kind.Element kind.Text = is in cc)
text-copied p (attr name value) is sound = absurd (let d : ◌≡◌ {A = Kind} kind.Attribute kind.Text = is in cc)
text-copied p (text value) is sound = sym (text-alone p value (not-true (is_empty_list value) sound))

-- no lines, no nodes
pub lines-some : (k : Plain) (rest : Plains) → is_attribute k ≡ false → content_lines (kid k rest) ≡ [] → ⊥
lines-some (elem name kids) rest bare none =
    omega (
      arith,
      ap length none,
      length-append (printed_node (elem name kids)) (content_lines rest),
      length-append ((attribute_lines kids ++ start_line name) ++ content_lines kids) (end_line name),
    )
lines-some (attr name value) rest bare none = absurd (false≢true (sym bare))
lines-some (text value) rest bare none = omega (arith, ap length none, length-append (data_line value) (content_lines rest))

pub none-copied : (p : Page) (ks : Plains) → AreWhole ks → content_lines ks ≡ [] → with_nodes p ks ≡ p
none-copied p no_kids h none = refl
none-copied p (kid k rest) h none =
    absurd (lines-some k rest (not-true (is_attribute k) (and_parts (not (is_attribute k)) (has_no_attribute rest) h.0).0) none)

pub some-copied : (p : Page) (ks : Plains) → AreWhole ks → (content_lines ks ≡ [] → ⊥)
    → with_nodes p ks ≡ going_on (joined p (begins_with_text ks) (content_lines ks)) (ends_with_text ks)
some-copied p no_kids h some = absurd (some refl)
some-copied p (kid k rest) h some = nodes-copied p k rest h

-- what a sound node holds but for its attributes
whole-content : (node : Plain) → IsSound node → AreWhole (content_of (kids_of node))
whole-content node sound =
    let k = kids-sound node sound in
    content-whole (kids_of node) k.first k.apart k.sound

pub content-none : (p : Page) (node : Plain) (lines : List ℕ) → IsSound node → lines ≡ content_lines (kids_of node) → length lines ≡ 0
    → p ≡ with_nodes p (content_of (kids_of node))
content-none p node lines sound is none =
    sym (none-copied p (content_of (kids_of node)) (whole-content node sound) (content_lines-content (kids_of node) ∙ sym is ∙ empty lines none))
  where
    empty : (l : List ℕ) → length l ≡ 0 → l ≡ []
    empty [] e = refl
    empty (b ∷ l) e = absurd (omega (arith, e))

pub content-some : (p : Page) (node : Plain) (lines : List ℕ) (begins ends : Bool) → IsSound node → lines ≡ content_lines (kids_of node) → (length lines ≡ 0 → ⊥)
    → begins ≡ begins_with_text (content_of (kids_of node)) → ends ≡ ends_with_text (content_of (kids_of node))
    → going_on (joined p begins lines) ends ≡ with_nodes p (content_of (kids_of node))
content-some p node lines begins ends sound is some begin finish =
    let ks = content_of (kids_of node) in
    let same : lines ≡ content_lines ks = is ∙ sym (content_lines-content (kids_of node)) in
    ap₂ (λ b l. going_on (joined p b l) ends) begin same ∙ ap (going_on (joined p (begins_with_text ks) (content_lines ks))) finish
    ∙ sym (some-copied p ks (whole-content node sound) (λ none. some (ap length (same ∙ none))))
