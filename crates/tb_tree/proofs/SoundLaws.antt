-- The nodes of a sound document are sound.
use Rattle.std.proofs.Common.{◌≡◌, ℕ, zero, suc, ◌-◌, Bool, true, ◌&&◌, List, [], ◌∷◌, ◌++◌, get_or, refl, ◌∙◌}
use Rattle.std.specs.List.{list_all}
use Rattle.std.proofs.lemmas.Bool.{and_parts, and_from}
use Rattle.tb_tree.specs.Names.{is_name}
use Rattle.tb_tree.specs.Plain.{Plain, elem, attr, text, Plains, no_kids, kid, one, kids_of}
use Rattle.tb_tree.specs.Sound.{attributes_first, are_different, attribute_names, texts_apart, is_sound, are_sound, IsSound}
use Rattle.tb_tree.specs.Nodes.{nodes_of, node_at}
use Rattle.std.proofs.lemmas.List.Folds.{list_all-append}

all-both : {X : Type 0} (f : X → Bool) (xs ys : List X) → list_all f xs ≡ true → list_all f ys ≡ true → list_all f (xs ++ ys) ≡ true
all-both f xs ys p q = list_all-append f xs ys ∙ and_from (list_all f xs) (list_all f ys) p q

-- what a sound element's kids are
pub record KidsSound (kids : Plains) : Type 0 where
  pub first : attributes_first kids ≡ true
  pub apart : texts_apart kids ≡ true
  pub sound : are_sound kids ≡ true

pub kids-sound : (node : Plain) → is_sound node ≡ true → KidsSound (kids_of node)
kids-sound (elem name kids) sound =
    let a = and_parts (is_name name && attributes_first kids && are_different (attribute_names kids) && texts_apart kids) (are_sound kids) sound in
    let b = and_parts (is_name name && attributes_first kids && are_different (attribute_names kids)) (texts_apart kids) a.0 in
    let c = and_parts (is_name name && attributes_first kids) (are_different (attribute_names kids)) b.0 in
    let d = and_parts (is_name name) (attributes_first kids) c.0 in
    record { first = d.1; apart = b.1; sound = a.1 }
kids-sound (attr name value) sound = record { first = refl; apart = refl; sound = refl }
kids-sound (text value) sound = record { first = refl; apart = refl; sound = refl }

all-sound : (ks : Plains) → are_sound ks ≡ true → list_all is_sound (nodes_of ks) ≡ true
all-sound no_kids sound = refl
all-sound (kid (elem name kids) rest) sound =
    let parts = and_parts (is_sound (elem name kids)) (are_sound rest) sound in
    and_from (is_sound (elem name kids)) _ parts.0
    (all-both is_sound (nodes_of kids) (nodes_of rest) (all-sound kids (kids-sound (elem name kids) parts.0).sound) (all-sound rest parts.1))
all-sound (kid (attr name value) rest) sound =
    let parts = and_parts (is_sound (attr name value)) (are_sound rest) sound in
    and_from (is_sound (attr name value)) _ parts.0 (all-sound rest parts.1)
all-sound (kid (text value) rest) sound =
    let parts = and_parts (is_sound (text value)) (are_sound rest) sound in
    and_from (is_sound (text value)) _ parts.0 (all-sound rest parts.1)

-- one of the list, or the other one
one_of : {X : Type 0} (f : X → Bool) (xs : List X) (i : ℕ) (d : X) → list_all f xs ≡ true → f d ≡ true → f (get_or xs i d) ≡ true
one_of f [] i d all other = other
one_of f (x ∷ xs) zero d all other = (and_parts (f x) (list_all f xs) all).0
one_of f (x ∷ xs) (suc i) d all other = one_of f xs i d (and_parts (f x) (list_all f xs) all).1 other

pub node-sound : (root : Plain) (number : ℕ) → IsSound root → IsSound (node_at root number)
node-sound root number sound =
    one_of is_sound (nodes_of (one root)) (number - 1) root (all-sound (one root) (and_from (is_sound root) true sound refl)) sound
