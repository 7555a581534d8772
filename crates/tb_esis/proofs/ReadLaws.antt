-- What is read is a document: its tree is sound, at most 512 elements are inside each other, and it has
-- fewer nodes than there are bytes.
use Rattle.std.proofs.Common.{◌≡◌, ℕ, ◌+◌, ◌<◌, ◌≤◌, max, Bool, true, false, ◌&&◌, ◌||◌, not, ◌==◌, IsTrue, List, [], ◌∷◌, ◌++◌, filter, length, refl, sym, ap, ◌∙◌, subst, arith}
use Rattle.std.proofs.lemmas.Bool.{and_parts, and_from, or_parts, not-true, not_from_false, false_from_ne_true, false≢true}
use Rattle.std.proofs.lemmas.List.{length-map}
use Rattle.std.proofs.lemmas.List.Folds.{list_any-append}
use Rattle.std.proofs.lemmas.List.Sums.{length-filter, count_by-le-length}
use Rattle.std.proofs.lemmas.Slice.Eq.{bytes_eq-Decides}
use Rattle.std.specs.List.{list_any}
use Rattle.std.specs.Str.{bytes_eq}
use Rattle.tb_tree.specs.TextLines.{lines_in, before_first, begins_with_end}
use Rattle.tb_tree.specs.Plain.{Plain, elem, attr, text, Plains, no_kids, kid, one, is_element}
use Rattle.tb_tree.specs.Names.{is_name}
use Rattle.tb_tree.specs.Sound.{attribute_names, are_different, has_no_attribute, attributes_first, texts_apart, is_sound, are_sound, IsSound}
use Rattle.tb_tree.specs.Levels.{levels}
use Rattle.tb_tree.specs.Numbers.{counts, count}
use Rattle.tb_esis.specs.Lines.{Line, line_of, is_kept, document_lines}
use Rattle.tb_esis.specs.Reading.{with_text, Attributes, no_more, next, Kids, over, goes_on, child, IsReadAs}

-- none of the names stands before
abbrev pub are_new : List (List ℕ) → List (List ℕ) → Bool
are_new before [] = true
are_new before (name ∷ names) = not (list_any (bytes_eq name) before) && are_new before names

pub bytes_eq-swap : (a b : List ℕ) → bytes_eq a b ≡ false → bytes_eq b a ≡ false
bytes_eq-swap a b e = false_from_ne_true (bytes_eq b a) (λ same. false≢true (sym e ∙ (bytes_eq-Decides a b).1 (sym ((bytes_eq-Decides b a).0 same))))

-- a name that isn't among those before, of which one is the last
new-last : (before : List (List ℕ)) (last name : List ℕ) → not (list_any (bytes_eq name) (before ++ last ∷ [])) ≡ true
    → (list_any (bytes_eq name) before ≡ false) × (bytes_eq last name ≡ false)
new-last before last name e =
    let parts = or_parts (list_any (bytes_eq name) before) (bytes_eq name last || false) (sym (list_any-append (bytes_eq name) before (last ∷ [])) ∙ not-true (list_any (bytes_eq name) (before ++ last ∷ [])) e) in
    (parts.0, bytes_eq-swap name last (or_parts (bytes_eq name last) false parts.1).0)

are_new-last : (before : List (List ℕ)) (last : List ℕ) (names : List (List ℕ)) → are_new (before ++ last ∷ []) names ≡ true
    → (are_new before names ≡ true) × (list_any (bytes_eq last) names ≡ false)
are_new-last before last [] e = (refl, refl)
are_new-last before last (name ∷ names) e =
    let parts = and_parts (not (list_any (bytes_eq name) (before ++ last ∷ []))) (are_new (before ++ last ∷ []) names) e in
    let here = new-last before last name parts.0 in
    let later = are_new-last before last names parts.1 in
    (and_from _ _ (not_from_false (list_any (bytes_eq name) before) here.0) later.0, rw (here.1, later.1) refl)

-- Kids without attributes.
pub record SoundContent (kids : Plains) : Type 0 where
  pub bare : has_no_attribute kids ≡ true
  pub apart : texts_apart kids ≡ true
  pub sound : are_sound kids ≡ true

-- Kids behind attributes of these names.
pub record SoundKids (before : List (List ℕ)) (kids : Plains) : Type 0 where
  pub first : attributes_first kids ≡ true
  pub different : are_different (attribute_names kids) ≡ true
  pub fresh : are_new before (attribute_names kids) ≡ true
  pub apart : texts_apart kids ≡ true
  pub sound : are_sound kids ≡ true

names-bare : (kids : Plains) → has_no_attribute kids ≡ true → attribute_names kids ≡ []
names-bare no_kids e = refl
names-bare (kid (elem n ks) kids) e = names-bare kids e
names-bare (kid (attr n v) kids) e = absurd (false≢true e)
names-bare (kid (text v) kids) e = names-bare kids e

first-bare : (kids : Plains) → has_no_attribute kids ≡ true → attributes_first kids ≡ true
first-bare no_kids e = refl
first-bare (kid (elem n ks) kids) e = e
first-bare (kid (attr n v) kids) e = absurd (false≢true e)
first-bare (kid (text v) kids) e = e

content-kids : (before : List (List ℕ)) (kids : Plains) → SoundContent kids → SoundKids before kids
content-kids before kids c = record {
  first = first-bare kids c.bare;
  different = ap are_different (names-bare kids c.bare);
  fresh = ap (are_new before) (names-bare kids c.bare);
  apart = c.apart;
  sound = c.sound;
}

pub attributes_sound : {before : List (List ℕ)} {all others : Plains} {lines rest : List Line} → Attributes before all others lines rest → SoundContent others → SoundKids before all
attributes_sound (no_more {before = before} {kids = kids}) c = content-kids before kids c
attributes_sound (next {before = before} {name = name} {value = value} {all = all} {kids = kids} named typed valued new read is more) c =
    let later = attributes_sound more c in
    let parts = are_new-last before name (attribute_names kids) later.fresh in
    let whole : SoundKids before (kid (attr name value) kids) = record {
      first = later.first;
      different = and_from _ _ (not_from_false (list_any (bytes_eq name) (attribute_names kids)) parts.1) later.different;
      fresh = and_from _ _ (not_from_false (list_any (bytes_eq name) before) new) parts.0;
      apart = later.apart;
      sound = and_from _ _ named later.sound;
    } in
    subst (λ ks. SoundKids before ks) (sym is) whole

-- a text of the bytes given, before an element or alone
text_alone : (given : List ℕ) → SoundContent (with_text given no_kids)
text_alone [] = record { bare = refl; apart = refl; sound = refl }
text_alone (b ∷ bs) = record { bare = refl; apart = refl; sound = refl }

element_sound : (name : List ℕ) (kids : Plains) → IsTrue (is_name name) → SoundKids [] kids → is_sound (elem name kids) ≡ true
element_sound name kids named k = and_from _ _ (and_from _ _ (and_from _ _ (and_from _ _ named k.first) k.different) k.apart) k.sound

text_before : (given name : List ℕ) (kids others : Plains) → is_sound (elem name kids) ≡ true → SoundContent others → SoundContent (with_text given (kid (elem name kids) others))
text_before [] name kids others node c = record { bare = c.bare; apart = c.apart; sound = and_from _ _ node c.sound }
text_before (b ∷ bs) name kids others node c = record { bare = c.bare; apart = c.apart; sound = and_from _ _ node c.sound }

pub kids_sound : {room : ℕ} {given : List ℕ} {kids : Plains} {lines rest : List Line} → Kids room given kids lines rest → SoundContent kids
kids_sound (over {given = given} is) = subst SoundContent (sym is) (text_alone given)
kids_sound (goes_on read later) = kids_sound later
kids_sound (child {given = given} {name = name} {kids = kids} {others = others} some named is attributes inner_are others_are) =
    subst SoundContent (sym is)
    (text_before given name kids others (element_sound name kids named (attributes_sound attributes (kids_sound inner_are))) (kids_sound others_are))

-- What is read is sound.
pub read-sound : (bytes : List ℕ) (tree : Plain) → IsReadAs bytes tree → IsSound tree
read-sound bytes tree reading = (and_parts (is_sound tree) true (kids_sound reading.spelled).sound).0

-- levels
levels-with_text : (given : List ℕ) (kids : Plains) → levels (with_text given kids) ≡ levels kids
levels-with_text [] kids = refl
levels-with_text (b ∷ bs) kids = refl

levels-attributes : {before : List (List ℕ)} {all others : Plains} {lines rest : List Line} → Attributes before all others lines rest → levels all ≡ levels others
levels-attributes no_more = refl
levels-attributes (next named typed valued new read is more) = ap levels is ∙ levels-attributes more

kids_levels : {room : ℕ} {given : List ℕ} {kids : Plains} {lines rest : List Line} → Kids room given kids lines rest → levels kids ≤ room
kids_levels (over {given = given} {kids = kids} is) = omega (arith, ap levels is ∙ levels-with_text given no_kids)
kids_levels (goes_on read later) = kids_levels later
kids_levels (child {room = room} {given = given} {name = name} {all = all} {kids = kids} {inner = inner} {others = others} some named is attributes inner_are others_are) =
    let whole : levels all ≡ max (1 + levels kids) (levels others) = ap levels is ∙ levels-with_text given (kid (elem name kids) others) in
    omega (arith, whole, levels-attributes attributes, kids_levels inner_are, kids_levels others_are, some)

-- At most 512 elements of what is read are inside each other.
pub read-levels : (bytes : List ℕ) (tree : Plain) → IsReadAs bytes tree → levels (one tree) ≤ 512
read-levels bytes tree reading = kids_levels reading.spelled

-- Each node takes a line of its own, and an element one more.
abbrev ends_among : Plains → ℕ
ends_among no_kids = 0
ends_among (kid (elem name kids) rest) = 1 + ends_among rest
ends_among (kid (attr name value) rest) = ends_among rest
ends_among (kid (text value) rest) = ends_among rest

-- how many nodes the bytes given are
abbrev texts_given : List ℕ → ℕ
texts_given [] = 0
texts_given (b ∷ bs) = 1

texts_given-le : (given : List ℕ) → texts_given given ≤ 1
texts_given-le [] = omega arith
texts_given-le (b ∷ bs) = omega arith

counts-with_text : (given : List ℕ) (kids : Plains) → counts (with_text given kids) + ends_among (with_text given kids) ≡ texts_given given + counts kids + ends_among kids
counts-with_text [] kids = omega arith
counts-with_text (b ∷ bs) kids = omega arith

counts-attributes : {before : List (List ℕ)} {all others : Plains} {lines rest : List Line} → Attributes before all others lines rest → counts all + length rest ≡ counts others + length lines
counts-attributes no_more = refl
counts-attributes (next named typed valued new read is more) = omega (arith, ap counts is, counts-attributes more)

kids_counted : {room : ℕ} {given : List ℕ} {kids : Plains} {lines rest : List Line} → Kids room given kids lines rest
    → counts kids + ends_among kids + length rest ≤ length lines + texts_given given
kids_counted (over {given = given} {kids = kids} is) =
    omega (arith, ap (λ ks. counts ks + ends_among ks) is ∙ counts-with_text given no_kids)
kids_counted (goes_on {given = given} {raw = raw} {more = more} {kids = kids} {lines = lines} {rest = rest} read later) =
    omega (arith, kids_counted later, texts_given-le (given ++ more))
kids_counted (child {given = given} {name = name} {all = all} {kids = kids} {inner = inner} {others = others} {lines = lines} {inside = inside} {behind = behind} {rest = rest} some named is attributes inner_are others_are) =
    let whole : counts all + ends_among all ≡ texts_given given + (1 + counts kids + counts others) + (1 + ends_among others) =
    ap (λ ks. counts ks + ends_among ks) is ∙ counts-with_text given (kid (elem name kids) others) in
    omega (arith, whole, counts-attributes attributes, kids_counted inner_are, kids_counted others_are)

-- lines and bytes
length-before_first : (b : ℕ) (lines : List (List ℕ)) → length (before_first b lines) ≤ 1 + length lines
length-before_first b [] = omega arith
length-before_first b (line ∷ lines) = omega arith

lines_in-case : (b : ℕ) (bs : List ℕ) (ten ret : Bool) → (b == 10) ≡ ten → (b == 13 && begins_with_end bs) ≡ ret → length (lines_in bs) ≤ length bs → length (lines_in (b ∷ bs)) ≤ 1 + length bs
lines_in-case b bs true ret e f later = rw e (omega (arith, later))
lines_in-case b bs false true e f later = rw (e, f) (omega (arith, later))
lines_in-case b bs false false e f later = rw (e, f) (omega (arith, later, length-before_first b (lines_in bs)))

length-lines_in : (bytes : List ℕ) → length (lines_in bytes) ≤ length bytes
length-lines_in [] = omega arith
length-lines_in (b ∷ bs) = omega (arith, lines_in-case b bs (b == 10) (b == 13 && begins_with_end bs) refl refl (length-lines_in bs))

length-document_lines : (bytes : List ℕ) → length (filter is_kept (document_lines bytes)) ≤ length bytes
length-document_lines bytes =
    omega (arith, length-filter is_kept (document_lines bytes), count_by-le-length is_kept (document_lines bytes), length-map (lines_in bytes) line_of, length-lines_in bytes)

counted-root : (tree : Plain) → IsTrue (is_element tree) → ends_among (one tree) ≡ 1
counted-root (elem name kids) e = refl
counted-root (attr name value) e = absurd (false≢true e)
counted-root (text value) e = absurd (false≢true e)

-- What is read has fewer nodes than there are bytes.
pub read-fewer : (bytes : List ℕ) (tree : Plain) → IsReadAs bytes tree → count tree < length bytes
read-fewer bytes tree reading =
    omega (arith, kids_counted reading.spelled, counted-root tree reading.element, length-document_lines bytes)
