-- One node more at the end of a list.
use Rattle.std.proofs.Common.{◌≡◌, ℕ, ◌≤◌, false, nat_eq, List, [], ◌∷◌, ◌++◌, length, map, refl, sym, ap, ◌∙◌, arith, rules, append-nil}
use Rattle.std.proofs.lemmas.Bool.{false≢true, eq-eqb}
use Rattle.std.proofs.lemmas.List.{map-append, nil_from_length}
use Rattle.tb_tree.specs.Plain.{Plain, elem, attr, text, Plains, no_kids, kid, one, plains, joined_kids, is_element}
use Rattle.tb_tree.specs.View.{plain_of, plains_of}
use Rattle.tb_tree.specs.Sound.{is_text}
use Rattle.tb_tree.specs.declared.node.Node.{Node, Elem, Attr, Text, roll-Node, out-Node, the_lemmas}
use Rattle.tb_tree.specs.declared.node.Node.TheOpen.{Node-F}
use Rattle.tb_tree.proofs.Views.{plain_of-Elem, plain_of-Attr, plain_of-Text}
use Rattle.tb_tree.proofs.JoinedLaws.{plains-append}
use Rattle.tb_pattern.specs.WitnessTree.{texts_joined}
use Rattle.tb_construct.specs.Kids.{two, with_last, with_kid}
use Rattle.tb_construct.proofs.KidLaws.{kid-joined}

-- a node that is pushed
pub plains_of-push : (nodes after : List Node) (node : Node) → after ≡ nodes ++ node ∷ [] → plains_of after ≡ joined_kids (plains_of nodes) (one (plain_of node))
plains_of-push nodes after node is =
    ap plains_of is ∙ ap plains (map-append plain_of nodes (node ∷ [])) ∙ plains-append (map plain_of nodes) (plain_of node ∷ [])

-- A node that is no text, and one that is no element.
rolled-Elem : (name : List ℕ) (kids : List Node) → roll-Node (Node-F.Elem name kids) ≡ Elem name kids
rolled-Elem name kids = search (rules, the_lemmas)

rolled-Attr : (name value : List ℕ) → roll-Node (Node-F.Attr name value) ≡ Attr name value
rolled-Attr name value = search (rules, the_lemmas)

rolled-Text : (value : List ℕ) → roll-Node (Node-F.Text value) ≡ Text value
rolled-Text value = search (rules, the_lemmas)

layer-text : (node : Node) (layer : Node-F Node) → node ≡ roll-Node layer → ((value : List ℕ) → node ≡ Text value → ⊥) → is_text (plain_of node) ≡ false
layer-text node (Node-F.Elem name kids) is other = ap (λ n. is_text (plain_of n)) (is ∙ rolled-Elem name kids) ∙ ap is_text (plain_of-Elem name kids)
layer-text node (Node-F.Attr name value) is other = ap (λ n. is_text (plain_of n)) (is ∙ rolled-Attr name value) ∙ ap is_text (plain_of-Attr name value)
layer-text node (Node-F.Text value) is other = absurd (other value (is ∙ rolled-Text value))

pub not-text : (node : Node) → ((value : List ℕ) → node ≡ Text value → ⊥) → is_text (plain_of node) ≡ false
not-text node other = layer-text node (out-Node node) (search (rules, the_lemmas)) other

layer-element : (node : Node) (layer : Node-F Node) → node ≡ roll-Node layer → ((name : List ℕ) (kids : List Node) → node ≡ Elem name kids → ⊥) → is_element (plain_of node) ≡ false
layer-element node (Node-F.Elem name kids) is other = absurd (other name kids (is ∙ rolled-Elem name kids))
layer-element node (Node-F.Attr name value) is other = ap (λ n. is_element (plain_of n)) (is ∙ rolled-Attr name value) ∙ ap is_element (plain_of-Attr name value)
layer-element node (Node-F.Text value) is other = ap (λ n. is_element (plain_of n)) (is ∙ rolled-Text value) ∙ ap is_element (plain_of-Text value)

pub not-element : (node : Node) → ((name : List ℕ) (kids : List Node) → node ≡ Elem name kids → ⊥) → is_element (plain_of node) ≡ false
not-element node other = layer-element node (out-Node node) (search (rules, the_lemmas)) other

-- An element or an attribute stands apart.
two-apart : (k next : Plain) → is_text next ≡ false → two k next ≡ kid k (one next)
two-apart k (text value) apart = absurd (false≢true (sym apart))
two-apart (text v) (elem name kids) apart = refl
two-apart (elem n ks) (elem name kids) apart = refl
two-apart (attr n v) (elem name kids) apart = refl
two-apart (text v) (attr name value) apart = refl
two-apart (elem n ks) (attr name value) apart = refl
two-apart (attr n v) (attr name value) apart = refl

last-apart : (k : Plain) (ks : Plains) (next : Plain) → is_text next ≡ false → with_last k ks next ≡ kid k (joined_kids ks (one next))
last-apart k no_kids next apart = two-apart k next apart
last-apart k (kid l rest) next apart = ap (kid k) (last-apart l rest next apart)

with_kid-apart : (ks : Plains) (next : Plain) → is_text next ≡ false → with_kid ks next ≡ joined_kids ks (one next)
with_kid-apart no_kids (text value) apart = absurd (false≢true (sym apart))
with_kid-apart no_kids (elem name kids) apart = refl
with_kid-apart no_kids (attr name value) apart = refl
with_kid-apart (kid k rest) next apart = last-apart k rest next apart

pub put-apart : (nodes after : List Node) (node : Node) → after ≡ nodes ++ node ∷ [] → is_text (plain_of node) ≡ false → plains_of after ≡ with_kid (plains_of nodes) (plain_of node)
put-apart nodes after node is apart = plains_of-push nodes after node is ∙ sym (with_kid-apart (plains_of nodes) (plain_of node) apart)

-- A text without a byte is left out.
last-none : (k : Plain) (ks : Plains) → with_last k ks (text []) ≡ kid k ks
last-none (text value) no_kids = ap (λ t. one (text t)) (append-nil value)
last-none (elem name kids) no_kids = refl
last-none (attr name value) no_kids = refl
last-none k (kid l rest) = ap (kid k) (last-none l rest)

with_none : (ks : Plains) → with_kid ks (text []) ≡ ks
with_none no_kids = refl
with_none (kid k rest) = last-none k rest

pub put-none : (ks : Plains) (value : List ℕ) → length value ≡ 0 → ks ≡ with_kid ks (text value)
put-none ks value none = sym (with_none ks) ∙ ap (λ v. with_kid ks (text v)) (sym (nil_from_length value none))

-- Behind the last node of a list.
last-two : (x : Plain) (xs : List Plain) (k next : Plain) → with_last x (plains (xs ++ k ∷ [])) next ≡ kid x (joined_kids (plains xs) (two k next))
last-two x [] k next = refl
last-two x (y ∷ xs) k next = ap (kid x) (last-two y xs k next)

with_kid-two : (xs : List Plain) (k next : Plain) → with_kid (plains (xs ++ k ∷ [])) next ≡ joined_kids (plains xs) (two k next)
with_kid-two [] k next = refl
with_kid-two (x ∷ xs) k next = last-two x xs k next

nodes-two : (nodes before : List Node) (k : Node) (next : Plain) → before ≡ nodes ++ k ∷ [] → with_kid (plains_of before) next ≡ joined_kids (plains_of nodes) (two (plain_of k) next)
nodes-two nodes before k next is =
    ap (λ ns. with_kid (plains_of ns) next) is ∙ ap (λ ks. with_kid (plains ks) next) (map-append plain_of nodes (k ∷ [])) ∙ with_kid-two (map plain_of nodes) (plain_of k) next

-- the last node is a text, which goes on
pub put-going : (nodes before after : List Node) (old : Node) (value more : List ℕ) → before ≡ nodes ++ old ∷ [] → plain_of old ≡ text value
    → plains_of after ≡ joined_kids (plains_of nodes) (one (text (value ++ more))) → plains_of after ≡ with_kid (plains_of before) (text more)
put-going nodes before after old value more before_is old_is after_is =
    after_is ∙ ap (λ k. joined_kids (plains_of nodes) (two k (text more))) (sym old_is) ∙ sym (nodes-two nodes before old (text more) before_is)

-- a text with a byte alone
joined-some : (value : List ℕ) → 1 ≤ length value → texts_joined (one (text value)) ≡ one (text value)
joined-some [] some = absurd (omega (arith, some))
joined-some (b ∷ bs) some = refl

two-some : (k : Plain) (value : List ℕ) → is_text k ≡ false → 1 ≤ length value → two k (text value) ≡ kid k (one (text value))
two-some (text v) value apart some = absurd (false≢true (sym apart))
two-some (elem name kids) value apart some = ap (kid (elem name kids)) (joined-some value some)
two-some (attr name v) value apart some = ap (kid (attr name v)) (joined-some value some)

pub some-byte : (value : List ℕ) → nat_eq (length value) 0 ≡ false → 1 ≤ length value
some-byte [] some = absurd (false≢true (sym some ∙ eq-eqb 0 0 refl))
some-byte (b ∷ bs) some = omega arith

-- the last node is no text
pub put-behind : (nodes before back after : List Node) (last : Node) (value : List ℕ) → before ≡ nodes ++ last ∷ [] → is_text (plain_of last) ≡ false → back ≡ nodes ++ last ∷ [] → 1 ≤ length value
    → plains_of after ≡ joined_kids (plains_of back) (one (text value)) → plains_of after ≡ with_kid (plains_of before) (text value)
put-behind nodes before back after last value before_is apart back_is some after_is =
    after_is
    ∙ ap (λ ks. joined_kids ks (one (text value))) (plains_of-push nodes back last back_is)
    ∙ kid-joined (plains_of nodes) (plain_of last) (one (text value))
    ∙ ap (joined_kids (plains_of nodes)) (sym (two-some (plain_of last) value apart some))
    ∙ sym (nodes-two nodes before last (text value) before_is)
