-- A document's lines and extents tell its tree.
use Rattle.std.proofs.Common.{◌≡◌, ℕ, ◌+◌, ◌-◌, ◌<◌, codes, IsTrue, List, [], ◌∷◌, ◌++◌, length, map, take, drop, refl, sym, ap, ap₂, ◌∙◌, subst, arith, append_assoc, append-nil, length-append}
use Rattle.std.proofs.lemmas.Bool.{false≢true, lt-ltb, le-ltb, eq-eqb, ne_eqb}
use Rattle.std.proofs.lemmas.List.{take_all, length-map}
use Rattle.tb_tree.specs.Plain.{Plain, elem, attr, text, Plains, no_kids, kid, one, joined_kids, is_element}
use Rattle.tb_tree.specs.Numbers.{counts, count}
use Rattle.tb_tree.specs.Printed.{printed_node, attribute_lines, content_lines, attribute_line, data_line, start_line, end_line, escaped}
use Rattle.tb_tree.specs.Extents.{Extent, attribute_extent, text_extent, extents, extents_of, named}
use Rattle.tb_tree.specs.Escapes.{unescaped}
use Rattle.tb_tree.specs.FlatTrees.{given, raw_behind, value_behind, kids_at, first_of, root_read, node_of, nodes_from, Stands, AreNodes, IsDocument}
use Rattle.tb_tree.specs.View.{plain_of, plains_of}
use Rattle.tb_tree.specs.declared.extent.Extent as code
use Rattle.tb_tree.specs.declared.node.Node.{Node}
use Rattle.tb_tree.proofs.Views.{plain_of-Elem, plain_of-Attr, plain_of-Text}
use Rattle.tb_tree.proofs.PrintedBytes.{unescaped-escaped}
use Rattle.tb_tree.proofs.JoinedLaws.{length-extents, joined-none}
use Rattle.tb_tree.proofs.StandLaws.{stands-first, stands-behind, stands-between}

-- deeper extents are passed over
pub kids-deeper : (bytes : List ℕ) (level l a c n : ℕ) (ks : Plains) (more : List Extent) → level < l → kids_at bytes level (extents a c n l ks ++ more) ≡ kids_at bytes level more
kids-deeper bytes level l a c n no_kids more less = refl
kids-deeper bytes level l a c n (kid (elem name kids) rest) more less =
    let inside = extents c (c + length (attribute_lines kids ++ start_line name)) (n + 1) (l + 1) kids in
    let behind = extents a (c + length (printed_node (elem name kids))) (n + 1 + counts kids) l rest in
    rw (le-ltb l level (omega arith), ne_eqb l level (λ e. omega arith))
    (ap (kids_at bytes level) (append_assoc inside behind more)
    ∙ kids-deeper bytes level (l + 1) c _ (n + 1) kids (behind ++ more) (omega arith) ∙ kids-deeper bytes level l a _ _ rest more less)
kids-deeper bytes level l a c n (kid (attr name value) rest) more less =
    rw (le-ltb l level (omega arith), ne_eqb l level (λ e. omega arith)) (kids-deeper bytes level l _ c (n + 1) rest more less)
kids-deeper bytes level l a c n (kid (text value) rest) more less =
    rw (le-ltb l level (omega arith), ne_eqb l level (λ e. omega arith)) (kids-deeper bytes level l a _ (n + 1) rest more less)

-- what ends the kids of a level
abbrev Stops : List ℕ → ℕ → List Extent → Type 0
Stops bytes level more = (l : ℕ) → level < l → kids_at bytes l more ≡ no_kids

stops-rest : (bytes : List ℕ) (level a c n : ℕ) (ks : Plains) (more : List Extent) → Stops bytes level more → Stops bytes level (extents a c n level ks ++ more)
stops-rest bytes level a c n no_kids more stops l less = stops l less
stops-rest bytes level a c n (kid (elem name kids) rest) more stops l less = rw (lt-ltb level l less) refl
stops-rest bytes level a c n (kid (attr name value) rest) more stops l less = rw (lt-ltb level l less) refl
stops-rest bytes level a c n (kid (text value) rest) more stops l less = rw (lt-ltb level l less) refl

-- the value of an attribute and of a text as it stands in its line
pub raw-attribute : (bytes : List ℕ) (at : ℕ) (name value : List ℕ) → Stands bytes at (attribute_line name value) → raw_behind bytes (8 + length name) at (at + length (attribute_line name value)) ≡ escaped value
raw-attribute bytes at name value s =
    let before = 65 ∷ (name ++ codes " CDATA ") in
    let long : length before ≡ 8 + length name = omega (arith, length-append name (codes " CDATA ")) in
    let most : at + length (attribute_line name value) - at - (8 + length name + 1) ≡ length (escaped value) =
    omega (arith, length-append ((name ++ codes " CDATA ") ++ escaped value) (10 ∷ []), length-append (name ++ codes " CDATA ") (escaped value), length-append name (codes " CDATA ")) in
    ap₂ (λ m b. take m (drop (at + b) bytes)) most (sym long) ∙ stands-between bytes at before (escaped value) (10 ∷ []) s

pub raw-text : (bytes : List ℕ) (at : ℕ) (value : List ℕ) → Stands bytes at (data_line value) → raw_behind bytes 1 at (at + length (data_line value)) ≡ escaped value
raw-text bytes at value s =
    let most : at + length (data_line value) - at - (1 + 1) ≡ length (escaped value) = omega (arith, length-append (escaped value) (10 ∷ [])) in
    ap (λ m. take m (drop (at + 1) bytes)) most ∙ stands-between bytes at (45 ∷ []) (escaped value) (10 ∷ []) s

pub attribute-value : (bytes : List ℕ) (at last level : ℕ) (name value : List ℕ) → Stands bytes at (attribute_line name value) → value_behind bytes (8 + length name) (attribute_extent at last name value level) ≡ value
attribute-value bytes at last level name value s = ap (λ l. given (unescaped l)) (raw-attribute bytes at name value s) ∙ ap given (unescaped-escaped value)

pub text-value : (bytes : List ℕ) (at last level : ℕ) (value : List ℕ) → Stands bytes at (data_line value) → value_behind bytes 1 (text_extent at last value level) ≡ value
text-value bytes at last level value s = ap (λ l. given (unescaped l)) (raw-text bytes at value s) ∙ ap given (unescaped-escaped value)

-- Kids come back from their lines and extents.
pub kids-back : (bytes : List ℕ) (a c n level : ℕ) (ks : Plains) (more : List Extent) → Stands bytes a (attribute_lines ks) → Stands bytes c (content_lines ks) → Stops bytes level more
    → kids_at bytes level (extents a c n level ks ++ more) ≡ joined_kids ks (kids_at bytes level more)
kids-back bytes a c n level no_kids more first content stops = refl
kids-back bytes a c n level (kid (elem name kids) rest) more first content stops =
    let printed = printed_node (elem name kids) in
    let start = attribute_lines kids ++ start_line name in
    let inside = extents c (c + length start) (n + 1) (level + 1) kids in
    let behind = extents a (c + length printed) (n + 1 + counts kids) level rest in
    let own = stands-first bytes c printed (content_lines rest) content in
    let most = stands-first bytes c (start ++ content_lines kids) (end_line name) own in
    let begin = stands-first bytes c start (content_lines kids) most in
    let below : kids_at bytes (level + 1) ((inside ++ behind) ++ more) ≡ kids =
    ap (kids_at bytes (level + 1)) (append_assoc inside behind more)
    ∙ kids-back bytes c (c + length start) (n + 1) (level + 1) kids (behind ++ more) (stands-first bytes c (attribute_lines kids) (start_line name) begin) (stands-behind bytes c start (content_lines kids) most)
    (λ l less. stops-rest bytes level a _ _ rest more stops l (omega arith))
    ∙ ap (joined_kids kids) (stops-rest bytes level a _ _ rest more stops (level + 1) (omega arith)) ∙ joined-none kids in
    let right : kids_at bytes level ((inside ++ behind) ++ more) ≡ joined_kids rest (kids_at bytes level more) =
    ap (kids_at bytes level) (append_assoc inside behind more)
    ∙ kids-deeper bytes level (level + 1) c _ (n + 1) kids (behind ++ more) (omega arith)
    ∙ kids-back bytes a (c + length printed) (n + 1 + counts kids) level rest more first (stands-behind bytes c printed (content_lines rest) content) stops in
    rw (le-ltb level level (omega arith), eq-eqb level level refl) (ap₂ (λ ks r. kid (elem name ks) r) below right)
kids-back bytes a c n level (kid (attr name value) rest) more first content stops =
    let line = attribute_line name value in
    rw (le-ltb level level (omega arith), eq-eqb level level refl)
    (ap₂ (λ v r. kid (attr name v) r) (attribute-value bytes a n level name value (stands-first bytes a line (attribute_lines rest) first))
    (kids-back bytes (a + length line) c (n + 1) level rest more (stands-behind bytes a line (attribute_lines rest) first) content stops))
kids-back bytes a c n level (kid (text value) rest) more first content stops =
    let line = data_line value in
    rw (le-ltb level level (omega arith), eq-eqb level level refl)
    (ap₂ (λ v r. kid (text v) r) (text-value bytes c n level value (stands-first bytes c line (content_lines rest) content))
    (kids-back bytes a (c + length line) (n + 1) level rest more first (stands-behind bytes c line (content_lines rest) content) stops))

-- The root comes back.
root-back : (bytes : List ℕ) (root : Plain) → IsTrue (is_element root) → bytes ≡ printed_node root → first_of (kids_at bytes 1 (extents_of root)) ≡ root
root-back bytes (elem name kids) element is =
    let root = elem name kids in
    let content : Stands bytes 0 (content_lines (one root)) =
    ap (λ b. take (length (printed_node root ++ [])) b) is ∙ take_all (length (printed_node root ++ [])) (printed_node root) (omega (arith, ap length (append-nil (printed_node root)))) ∙ sym (append-nil (printed_node root)) in
    ap (λ l. first_of (kids_at bytes 1 l)) (sym (append-nil (extents_of root)))
    ∙ ap first_of (kids-back bytes 0 0 1 1 (one root) [] refl content (λ l less. refl))
root-back bytes (attr name value) element is = absurd (false≢true element)
root-back bytes (text value) element is = absurd (false≢true element)

pub document-read : (bytes : List ℕ) (es : List code.Extent) (elements attributes : List (List ℕ)) (root : Plain) → IsDocument bytes es elements attributes root → root_read bytes es elements attributes ≡ root
unfolding root_read
document-read bytes es elements attributes root d =
    ap₂ (λ x y. first_of (kids_at bytes 1 (map (named x y) es))) (sym (append-nil elements)) (sym (append-nil attributes))
    ∙ ap (λ l. first_of (kids_at bytes 1 l)) (d.extents_are [] []) ∙ root-back bytes root d.element d.text_is

-- a plain tree, as a node and back
nodes-plains : (ks : Plains) → plains_of (nodes_from ks) ≡ ks
nodes-plains no_kids = refl
nodes-plains (kid (elem name kids) rest) = ap₂ kid (plain_of-Elem name (nodes_from kids) ∙ ap (elem name) (nodes-plains kids)) (nodes-plains rest)
nodes-plains (kid (attr name value) rest) = ap₂ kid (plain_of-Attr name value) (nodes-plains rest)
nodes-plains (kid (text value) rest) = ap₂ kid (plain_of-Text value) (nodes-plains rest)

pub node-plain : (node : Plain) → plain_of (node_of node) ≡ node
node-plain node = ap first_of (nodes-plains (one node))

-- What a document is, of the value that contracts see.
pub opened : (bytes : List ℕ) (es : List code.Extent) (elements attributes : List (List ℕ)) (root : Plain) (node : Node) → IsDocument bytes es elements attributes root → node_of root ≡ node
    → IsDocument bytes es elements attributes (plain_of node)
opened bytes es elements attributes root node d is = subst (IsDocument bytes es elements attributes) (sym (node-plain root) ∙ ap plain_of is) d

pub document-count : (bytes : List ℕ) (es : List code.Extent) (elements attributes : List (List ℕ)) (root : Plain) → IsDocument bytes es elements attributes root → length es ≡ count root
document-count bytes es elements attributes root d =
    sym (length-map es (named (elements ++ []) (attributes ++ []))) ∙ ap length (d.extents_are [] []) ∙ length-extents 0 0 1 1 (one root)

pub document-moved : (bytes lines : List ℕ) (es fs : List code.Extent) (elements names attributes others : List (List ℕ)) (root : Plain) → IsDocument bytes es elements attributes root
    → lines ≡ bytes → fs ≡ es → names ≡ elements → others ≡ attributes → IsDocument lines fs names others root
document-moved bytes lines es fs elements names attributes others root d p q r t =
    subst (λ x. IsDocument x fs names others root) (sym p)
    (subst (λ x. IsDocument bytes x names others root) (sym q)
    (subst (λ x. IsDocument bytes es x others root) (sym r) (subst (λ x. IsDocument bytes es elements x root) (sym t) d)))

content-root : (bytes : List ℕ) (root : Plain) → IsTrue (is_element root) → bytes ≡ printed_node root → Stands bytes 0 (attribute_lines (one root)) × Stands bytes 0 (content_lines (one root))
content-root bytes (elem name kids) element is =
    let root = elem name kids in (
      refl,
      ap (λ b. take (length (printed_node root ++ [])) b) is ∙ take_all (length (printed_node root ++ [])) (printed_node root) (omega (arith, ap length (append-nil (printed_node root)))) ∙ sym (append-nil (printed_node root)),
    )
content-root bytes (attr name value) element is = absurd (false≢true element)
content-root bytes (text value) element is = absurd (false≢true element)

-- The extents of a document are those of its root.
pub document-nodes : (bytes : List ℕ) (es : List code.Extent) (elements attributes : List (List ℕ)) (root : Plain) → IsDocument bytes es elements attributes root
    → AreNodes bytes (map (named elements attributes) es) 1 1 (one root)
document-nodes bytes es elements attributes root d =
    let stands = content-root bytes root d.element d.text_is in
    record {
      attributes_at = 0;
      content_at = 0;
      extents_are = ap₂ (λ x y. map (named x y) es) (sym (append-nil elements)) (sym (append-nil attributes)) ∙ d.extents_are [] [];
      attributes_stand = stands.0;
      content_stands = stands.1;
    }
