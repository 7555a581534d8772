-- What is written piece by piece, start, own content, offered trees, end, is the tree.
use Rattle.std.proofs.Common.{◌≡◌, ℕ, Bool, true, false, List, [], ◌∷◌, ◌++◌, refl, sym, ap, ◌∙◌, append_assoc, append-nil}
use Rattle.tb_tree.specs.Plain.{Plain, elem, attr, text, Plains, no_kids, kid, joined_kids}
use Rattle.tb_tree.specs.Printed.{escaped, printed_node, attribute_line, attribute_lines, start_line, end_line, content_lines, data_line}
use Rattle.tb_tree.specs.Pages.{Page, page, whole_lines, with_lines, with_text, with_node, with_nodes}
use Rattle.tb_tree.specs.Extents.{kind_of}
use Rattle.tb_tree.specs.declared.extent.Kind.{Kind}
use Rattle.tb_tree.specs.declared.extent.Kind.TheVariants as kind
use Rattle.tb_tree.proofs.PageLaws.{text-more, lines-more, nodes-append}
use Rattle.tb_pattern.specs.WitnessTree.{behind_text, texts_joined, own, shown}
use Rattle.tb_construct.proofs.WitnessTreeLaws.{behind-behind, behind_none}
use Rattle.tb_engine.specs.Marked.{begun, finished}

-- the line of a text, if it has a byte
abbrev text_lines : List ℕ → List ℕ
text_lines [] = []
text_lines (b ∷ bs) = data_line (b ∷ bs)

text_written : (b v : List ℕ) → whole_lines (with_text (page b false) v) ≡ b ++ text_lines v
text_written b [] = refl
text_written b (c ∷ cs) = append_assoc b (45 ∷ escaped (c ∷ cs)) (10 ∷ [])

behind_element : (v name : List ℕ) (kids rest : Plains) → content_lines (behind_text v (kid (elem name kids) rest)) ≡ text_lines v ++ content_lines (kid (elem name kids) rest)
behind_element [] name kids rest = refl
behind_element (b ∷ bs) name kids rest = refl

behind_attribute : (v name value : List ℕ) (rest : Plains) → content_lines (behind_text v (kid (attr name value) rest)) ≡ text_lines v ++ content_lines rest
behind_attribute [] name value rest = refl
behind_attribute (b ∷ bs) name value rest = refl

behind_end : (v : List ℕ) → content_lines (behind_text v no_kids) ≡ text_lines v
behind_end [] = refl
behind_end (b ∷ bs) = append-nil (data_line (b ∷ bs))

-- Nodes behind a text that is pending.
behind_written : (b v : List ℕ) (ns : Plains) → whole_lines (with_nodes (with_text (page b false) v) ns) ≡ b ++ content_lines (behind_text v (texts_joined ns))
behind_written b v no_kids = text_written b v ∙ ap (λ l. b ++ l) (sym (behind_end v))
behind_written b v (kid (text w) rest) =
    ap (λ p. whole_lines (with_nodes p rest)) (text-more (page b false) v w)
    ∙ behind_written b (v ++ w) rest
    ∙ ap (λ ks. b ++ content_lines ks) (sym (behind-behind v w (texts_joined rest)))
behind_written b v (kid (elem name kids) rest) =
    let l = printed_node (elem name kids) in
    let others = content_lines (texts_joined rest) in
    behind_written (whole_lines (with_text (page b false) v) ++ l) [] rest
    ∙ ap (λ ks. (whole_lines (with_text (page b false) v) ++ l) ++ content_lines ks) (behind_none (texts_joined rest))
    ∙ append_assoc (whole_lines (with_text (page b false) v)) l others
    ∙ ap (λ a. a ++ (l ++ others)) (text_written b v)
    ∙ append_assoc b (text_lines v) (l ++ others)
    ∙ ap (λ a. b ++ a) (sym (behind_element v name kids (texts_joined rest)))
behind_written b v (kid (attr name value) rest) =
    let others = content_lines (texts_joined rest) in
    behind_written (whole_lines (with_text (page b false) v)) [] rest
    ∙ ap (λ ks. whole_lines (with_text (page b false) v) ++ content_lines ks) (behind_none (texts_joined rest))
    ∙ ap (λ a. a ++ others) (text_written b v)
    ∙ append_assoc b (text_lines v) others
    ∙ ap (λ a. b ++ a) (sym (behind_attribute v name value (texts_joined rest)))

nodes_written : (b : List ℕ) (ns : Plains) → whole_lines (with_nodes (page b false) ns) ≡ b ++ content_lines (texts_joined ns)
nodes_written b ns = behind_written b [] ns ∙ ap (λ ks. b ++ content_lines ks) (behind_none (texts_joined ns))

-- Joining texts leaves the attributes.
behind_bare : (v : List ℕ) (ks : Plains) → attribute_lines (behind_text v ks) ≡ attribute_lines ks
behind_bare v (kid (text more) rest) = refl
behind_bare [] no_kids = refl
behind_bare (b ∷ bs) no_kids = refl
behind_bare [] (kid (elem name kids) rest) = refl
behind_bare (b ∷ bs) (kid (elem name kids) rest) = refl
behind_bare [] (kid (attr name value) rest) = refl
behind_bare (b ∷ bs) (kid (attr name value) rest) = refl

attributes-joined : (ks : Plains) → attribute_lines (texts_joined ks) ≡ attribute_lines ks
attributes-joined no_kids = refl
attributes-joined (kid (text value) rest) = behind_bare value (texts_joined rest) ∙ attributes-joined rest
attributes-joined (kid (elem name kids) rest) = attributes-joined rest
attributes-joined (kid (attr name value) rest) = ap (λ l. attribute_line name value ++ l) (attributes-joined rest)

pub attributes-append : (a b : Plains) → attribute_lines (joined_kids a b) ≡ attribute_lines a ++ attribute_lines b
attributes-append no_kids b = refl
attributes-append (kid (text value) rest) b = attributes-append rest b
attributes-append (kid (elem name kids) rest) b = attributes-append rest b
attributes-append (kid (attr name value) rest) b =
    ap (λ l. attribute_line name value ++ l) (attributes-append rest b) ∙ sym (append_assoc (attribute_line name value) (attribute_lines rest) (attribute_lines b))

-- An element with its own kids, and behind them nodes without attributes.
element_shown : (p : Page) (name : List ℕ) (kids inside : Plains) → attribute_lines inside ≡ []
    → with_lines (with_nodes (with_nodes (with_lines (with_lines p (attribute_lines kids)) (start_line name)) kids) inside) (end_line name)
    ≡ with_node p (elem name (texts_joined (joined_kids kids inside)))
element_shown p name kids inside bare =
    let all = joined_kids kids inside in
    let a = attribute_lines kids in
    let s = start_line name in
    let e = end_line name in
    let c = content_lines (texts_joined all) in
    let w = whole_lines p in
    let same : attribute_lines (texts_joined all) ≡ a = attributes-joined all ∙ attributes-append kids inside ∙ ap (λ l. a ++ l) bare ∙ append-nil a in
    ap (λ q. with_lines (with_nodes (with_nodes q kids) inside) e) (lines-more p a s)
    ∙ ap (λ q. with_lines q e) (sym (nodes-append (with_lines p (a ++ s)) kids inside))
    ∙ ap (λ l. page (l ++ e) false) (nodes_written (w ++ (a ++ s)) all)
    ∙ ap (λ l. page l false) (ap (λ l. l ++ e) (append_assoc w (a ++ s) c) ∙ append_assoc w ((a ++ s) ++ c) e)
    ∙ ap (λ l. page (w ++ (((l ++ s) ++ c) ++ e)) false) (sym same)

-- Start, offered trees and end are the tree that the node is shown as.
pub tree_shown : (p : Page) (whole : Bool) (node : Plain) (inside : Plains) → (kind_of node ≡ kind.Text → ⊥) → attribute_lines inside ≡ []
    → finished node (with_nodes (begun whole node p) inside) ≡ with_node p (shown whole node inside)
tree_shown p whole (elem name kids) inside some bare = element_shown p name (own whole (elem name kids)) inside bare
tree_shown p true (attr name value) inside some bare =
    ap (λ q. with_lines (with_nodes (with_nodes q (own true (attr name value))) inside) (end_line (64 ∷ name))) (sym (lines-more p [] (start_line (64 ∷ name))))
    ∙ element_shown p (64 ∷ name) (own true (attr name value)) inside bare
tree_shown p false (attr name value) inside some bare =
    ap (λ q. with_lines (with_nodes (with_nodes q (own false (attr name value))) inside) (end_line (64 ∷ name))) (sym (lines-more p [] (start_line (64 ∷ name))))
    ∙ element_shown p (64 ∷ name) (own false (attr name value)) inside bare
tree_shown p whole (text value) inside some bare = absurd (some refl)

pub text_shown : (p : Page) (whole : Bool) (node : Plain) (inside : Plains) → kind_of node ≡ kind.Text → begun whole node p ≡ with_node p (shown whole node inside)
text_shown p whole (elem name kids) inside is = absurd (let e : ◌≡◌ {A = Kind} kind.Element kind.Text = is in cc)
text_shown p whole (attr name value) inside is = absurd (let e : ◌≡◌ {A = Kind} kind.Attribute kind.Text = is in cc)
text_shown p whole (text value) inside is = refl
