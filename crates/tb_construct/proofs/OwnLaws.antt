-- A matched node before and after trees are put inside.
use Rattle.std.proofs.Common.{◌≡◌, ℕ, Bool, true, false, not, List, [], ◌∷◌, Result, Ok, Err, IfOk, refl, sym, ap, ◌∙◌, subst}
use Rattle.std.proofs.lemmas.Bool.{false≢true, and_parts}
use Rattle.tb_tree.specs.Plain.{Plain, elem, attr, text, Plains, no_kids, kid, joined_kids, is_element}
use Rattle.tb_tree.specs.View.{plain_of}
use Rattle.tb_tree.specs.declared.node.Node.{Node}
use Rattle.tb_tree.specs.Sound.{begins_with_text, texts_apart, is_sound, are_sound, IsSound}
use Rattle.tb_tree.specs.Extents.{kind_of}
use Rattle.tb_tree.specs.declared.extent.Kind.{Kind}
use Rattle.tb_tree.specs.declared.extent.Kind.TheVariants as kind
use Rattle.tb_tree.proofs.JoinedLaws.{joined-none}
use Rattle.tb_tree.proofs.SoundLaws.{kids-sound}
use Rattle.tb_pattern.specs.WitnessTree.{texts_joined, behind_text, own, shown}
use Rattle.tb_construct.specs.Kids.{with_kids}
use Rattle.tb_construct.proofs.KidLaws.{with_kids-joined}

-- The texts of a sound element are joined already.
text-first : (value : List ℕ) (rest : Plains) → is_sound (text value) ≡ true → not (begins_with_text rest) ≡ true → behind_text value rest ≡ kid (text value) rest
text-first [] rest some apart = absurd (false≢true some)
text-first (b ∷ bs) no_kids some apart = refl
text-first (b ∷ bs) (kid (text value) rest) some apart = absurd (false≢true apart)
text-first (b ∷ bs) (kid (elem name kids) rest) some apart = refl
text-first (b ∷ bs) (kid (attr name value) rest) some apart = refl

sound-joined : (ks : Plains) → texts_apart ks ≡ true → are_sound ks ≡ true → texts_joined ks ≡ ks
sound-joined no_kids apart sound = refl
sound-joined (kid (text value) rest) apart sound =
    let a = and_parts (not (begins_with_text rest)) (texts_apart rest) apart in
    let s = and_parts (is_sound (text value)) (are_sound rest) sound in
    ap (behind_text value) (sound-joined rest a.1 s.1) ∙ text-first value rest s.0 a.0
sound-joined (kid (elem name kids) rest) apart sound =
    ap (kid (elem name kids)) (sound-joined rest apart (and_parts (is_sound (elem name kids)) (are_sound rest) sound).1)
sound-joined (kid (attr name value) rest) apart sound =
    ap (kid (attr name value)) (sound-joined rest apart (and_parts (is_sound (attr name value)) (are_sound rest) sound).1)

-- A marked element is shown as it is where nothing is offered at it.
pub element-whole : (node : Plain) → IsSound node → kind_of node ≡ kind.Element → node ≡ shown true node no_kids
element-whole (elem name kids) sound is =
    let k = kids-sound (elem name kids) sound in
    ap (elem name) (sym (sound-joined kids k.apart k.sound) ∙ ap texts_joined (sym (joined-none kids)))
element-whole (attr name value) sound is = absurd (let e : ◌≡◌ {A = Kind} kind.Attribute kind.Element = is in cc)
element-whole (text value) sound is = absurd (let e : ◌≡◌ {A = Kind} kind.Text kind.Element = is in cc)

pub element-copied : {E : Type 0} (r : Result Node E) (whole : Bool) (node : Plain) → whole ≡ true → kind_of node ≡ kind.Element → IfOk r (λ n. plain_of n ≡ node) → IfOk r (λ n. IsSound (plain_of n))
    → IfOk r (λ n. plain_of n ≡ shown whole node no_kids)
element-copied (Ok n) whole node marked is same sound =
    same ∙ element-whole node (subst IsSound same sound) is ∙ ap (λ w. shown w node no_kids) (sym marked)
element-copied (Err e) whole node marked is same sound = tt

-- Trees are put inside an element; a text is shown as it is.
pub inside-shown : (whole : Bool) (node : Plain) (name : List ℕ) (kids inside : Plains) → elem name kids ≡ shown whole node no_kids → elem name (with_kids kids inside) ≡ shown whole node inside
inside-shown whole (elem n ks) name kids inside is =
    let mine = own whole (elem n ks) in
    let e : ◌≡◌ {A = Plain} (elem name kids) (elem n (texts_joined (joined_kids mine no_kids))) = is in
    let named : name ≡ n = cc in
    let kids_are : kids ≡ texts_joined (joined_kids mine no_kids) = cc in
    ap (λ m. elem m (with_kids kids inside)) named
    ∙ ap (λ k. elem n (with_kids k inside)) (kids_are ∙ ap texts_joined (joined-none mine))
    ∙ ap (elem n) (with_kids-joined mine inside)
inside-shown whole (attr n v) name kids inside is =
    let mine = own whole (attr n v) in
    let e : ◌≡◌ {A = Plain} (elem name kids) (elem (64 ∷ n) (texts_joined (joined_kids mine no_kids))) = is in
    let named : name ≡ 64 ∷ n = cc in
    let kids_are : kids ≡ texts_joined (joined_kids mine no_kids) = cc in
    ap (λ m. elem m (with_kids kids inside)) named
    ∙ ap (λ k. elem (64 ∷ n) (with_kids k inside)) (kids_are ∙ ap texts_joined (joined-none mine))
    ∙ ap (elem (64 ∷ n)) (with_kids-joined mine inside)
inside-shown whole (text v) name kids inside is = absurd (let e : ◌≡◌ {A = Plain} (elem name kids) (text v) = is in cc)

pub leaf-shown : (whole : Bool) (node leaf : Plain) (inside : Plains) → leaf ≡ shown whole node no_kids → is_element leaf ≡ false → leaf ≡ shown whole node inside
leaf-shown whole (elem n ks) leaf inside is none = absurd (false≢true (sym none ∙ ap is_element is))
leaf-shown whole (attr n v) leaf inside is none = absurd (false≢true (sym none ∙ ap is_element is))
leaf-shown whole (text v) leaf inside is none = is
