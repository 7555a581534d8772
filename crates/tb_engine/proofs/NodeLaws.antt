-- Nodes by number, and how an element of a document begins.
use Rattle.std.proofs.Common.{◌≡◌, ℕ, true, false, nat_eq, ◌++◌, sym, ap, ◌∙◌, append-nil}
use Rattle.std.proofs.lemmas.Bool.{cond-false, ne_eqb}
use Rattle.tb_tree.specs.Plain.{Plain, elem, attr, text, kids_of}
use Rattle.tb_tree.specs.Sound.{IsSound}
use Rattle.tb_tree.specs.Nodes.{node_at}
use Rattle.tb_tree.specs.Printed.{attribute_lines, start_line}
use Rattle.tb_tree.specs.Pieces.{content_of}
use Rattle.tb_tree.specs.Pages.{Page, page, whole_lines, with_lines, with_nodes}
use Rattle.tb_tree.specs.Extents.{kind_of, name_of}
use Rattle.tb_tree.specs.declared.extent.Kind.{Kind}
use Rattle.tb_tree.specs.declared.extent.Kind.TheVariants as kind
use Rattle.tb_tree.proofs.PageLaws.{nodes-content}
use Rattle.tb_tree.proofs.SoundLaws.{kids-sound}
use Rattle.tb_engine.specs.Shown.{looked}
use Rattle.tb_engine.specs.Marked.{begun}

pub looked-node : (root : Plain) (n : ℕ) → (n ≡ 0 → ⊥) → looked root n ≡ node_at root n
looked-node root n some = cond-false (nat_eq n 0) _ (node_at root n) (ne_eqb n 0 some)

-- The lines of an element's attributes, its start, and the rest of its content.
pub element-begun : (p : Page) (node : Plain) → IsSound node → kind_of node ≡ kind.Element
    → with_nodes (with_lines (with_lines p (attribute_lines (kids_of node))) (start_line (name_of node))) (content_of (kids_of node)) ≡ begun true node p
element-begun p (elem name kids) sound is =
    let lines = whole_lines (with_lines p (attribute_lines kids)) ++ start_line name in
    ap (λ l. with_nodes (page l false) (content_of kids)) (sym (append-nil lines))
    ∙ sym (nodes-content (page lines false) kids (kids-sound (elem name kids) sound).first)
    ∙ ap (λ l. with_nodes (page l false) kids) (append-nil lines)
element-begun p (attr name value) sound is = absurd (let e : ◌≡◌ {A = Kind} kind.Attribute kind.Element = is in cc)
element-begun p (text value) sound is = absurd (let e : ◌≡◌ {A = Kind} kind.Text kind.Element = is in cc)
