-- The extent of the n-th node of a document, and those of all that is below it.
use Rattle.std.proofs.Common.{◌≡◌, ℕ, zero, suc, ◌+◌, ◌-◌, ◌<◌, ◌≤◌, List, [], ◌∷◌, ◌++◌, length, map, take, drop, get_or, refl, sym, ap, ◌∙◌, subst, arith, append_assoc, append-nil, length-append, ⊎_elim}
use Rattle.std.proofs.lemmas.Bool.{cases_lt}
use Rattle.std.proofs.lemmas.List.{take_at, take-map, drop-append-le, drop_more, get_or-map, get_or_append_left, get_or-append_right}
use Rattle.tb_tree.specs.Plain.{Plain, elem, attr, text, Plains, no_kids, kid, one}
use Rattle.tb_tree.specs.Numbers.{counts, count}
use Rattle.tb_tree.specs.Nodes.{nodes_of, depths, node_at, level_at}
use Rattle.tb_tree.specs.Printed.{printed_node, attribute_lines, content_lines, start_line, end_line, attribute_line, data_line}
use Rattle.tb_tree.specs.Extents.{Extent, element_extent, attribute_extent, text_extent, extents, slice_of, named, kind_of, name_of, is_escaped}
use Rattle.tb_tree.specs.declared.extent.Extent as code
use Rattle.tb_tree.specs.FlatTrees.{Stands, AreNodes, IsDocument}
use Rattle.tb_tree.proofs.StandLaws.{stands-first, stands-behind}
use Rattle.tb_tree.proofs.JoinedLaws.{length-extents}
use Rattle.tb_tree.proofs.BuiltLaws.{same_cons, drop-map, no-node}
use Rattle.tb_tree.proofs.BackLaws.{document-nodes, document-count}

-- the extents begin with those of this node, whose lines stand in the bytes
pub record Begins (bytes : List ℕ) (es : List Extent) (number level : ℕ) (node : Plain) : Type 0 where
  pub attributes_at : ℕ
  pub content_at : ℕ
  pub more : List Extent
  pub are : es ≡ extents attributes_at content_at number level (one node) ++ more
  pub attributes_stand : Stands bytes attributes_at (attribute_lines (one node))
  pub content_stands : Stands bytes content_at (content_lines (one node))

begins-more : (bytes : List ℕ) (es behind : List Extent) (number level : ℕ) (node : Plain) → Begins bytes es number level node → Begins bytes (es ++ behind) number level node
begins-more bytes es behind number level node b = record {
  attributes_at = b.attributes_at;
  content_at = b.content_at;
  more = b.more ++ behind;
  are = ap (λ l. l ++ behind) b.are ∙ append_assoc (extents b.attributes_at b.content_at number level (one node)) b.more behind;
  attributes_stand = b.attributes_stand;
  content_stands = b.content_stands;
}

begins-same : (bytes : List ℕ) (es es' : List Extent) (n n' l l' : ℕ) (x x' : Plain) → es ≡ es' → n ≡ n' → l ≡ l' → x ≡ x' → Begins bytes es n l x → Begins bytes es' n' l' x'
begins-same bytes es es' n n' l l' x x' p q r s b =
    subst (λ y. Begins bytes es' n' l' y) s (subst (λ m. Begins bytes es' n' m x) r (subst (λ m. Begins bytes es' m l x) q (subst (λ xs. Begins bytes xs n l x) p b)))

stands-nil : (bytes : List ℕ) (at : ℕ) (part : List ℕ) → Stands bytes at part → Stands bytes at (part ++ [])
stands-nil bytes at part s = subst (Stands bytes at) (sym (append-nil part)) s

length-nodes : (ks : Plains) → length (nodes_of ks) ≡ counts ks
length-nodes no_kids = refl
length-nodes (kid (elem name kids) rest) = omega (arith, length-append (nodes_of kids) (nodes_of rest), length-nodes kids, length-nodes rest)
length-nodes (kid (attr name value) rest) = omega (arith, length-nodes rest)
length-nodes (kid (text value) rest) = omega (arith, length-nodes rest)

length-depths : (level : ℕ) (ks : Plains) → length (depths level ks) ≡ counts ks
length-depths level no_kids = refl
length-depths level (kid (elem name kids) rest) = omega (arith, length-append (depths (level + 1) kids) (depths level rest), length-depths (level + 1) kids, length-depths level rest)
length-depths level (kid (attr name value) rest) = omega (arith, length-depths level rest)
length-depths level (kid (text value) rest) = omega (arith, length-depths level rest)

drop-past : (j : ℕ) (xs ys : List Extent) (n : ℕ) → length xs ≡ n → n ≤ j → drop j (xs ++ ys) ≡ drop (j - n) ys
drop-past j [] ys n long past = ap (λ k. drop k ys) (omega (arith, long))
drop-past zero (x ∷ xs) ys n long past = absurd (omega (arith, long, past))
drop-past (suc j) (x ∷ xs) ys n long past =
    let less : j - length xs ≡ suc j - n = omega (arith, long) in
    drop-past j xs ys (length xs) refl (omega (arith, long, past)) ∙ ap (λ k. drop k ys) less

-- Behind the first i extents stand those of the i-th node.
pub begins-at : (bytes : List ℕ) (a c n level i : ℕ) (ks : Plains) (d : Plain) → i < counts ks → Stands bytes a (attribute_lines ks) → Stands bytes c (content_lines ks)
    → Begins bytes (drop i (extents a c n level ks)) (n + i) (get_or (depths level ks) i 0) (get_or (nodes_of ks) i d)
begins-at bytes a c n level i no_kids d less first content = absurd (omega (arith, less))
begins-at bytes a c n level zero (kid (elem name kids) rest) d less first content =
    let printed = printed_node (elem name kids) in
    let inside = extents c (c + length (attribute_lines kids ++ start_line name)) (n + 1) (level + 1) kids in
    let behind = extents a (c + length printed) (n + 1 + counts kids) level rest in
    let none_more : n ≡ n + 0 = omega arith in
    subst (λ m. Begins bytes (extents a c n level (kid (elem name kids) rest)) m level (elem name kids)) none_more
    (record {
      attributes_at = a;
      content_at = c;
      more = behind;
      are = ap (λ l. element_extent c (c + length printed) (n + counts kids) name level ∷ (l ++ behind)) (sym (append-nil inside));
      attributes_stand = refl;
      content_stands = stands-nil bytes c printed (stands-first bytes c printed (content_lines rest) content);
    })
begins-at bytes a c n level (suc j) (kid (elem name kids) rest) d less first content =
    let printed = printed_node (elem name kids) in
    let start = attribute_lines kids ++ start_line name in
    let inside = extents c (c + length start) (n + 1) (level + 1) kids in
    let behind = extents a (c + length printed) (n + 1 + counts kids) level rest in
    let own = stands-first bytes c printed (content_lines rest) content in
    let most = stands-first bytes c (start ++ content_lines kids) (end_line name) own in
    let begin = stands-first bytes c start (content_lines kids) most in
    let long : length inside ≡ counts kids = length-extents c (c + length start) (n + 1) (level + 1) kids in
    ⊎_elim
    (λ (within : j < counts kids).
    let found = begins-at bytes c (c + length start) (n + 1) (level + 1) j kids d within (stands-first bytes c (attribute_lines kids) (start_line name) begin) (stands-behind bytes c start (content_lines kids) most) in
    let next : n + 1 + j ≡ n + suc j = omega arith in
    begins-same bytes _ _ _ _ _ _ _ _ (sym (drop-append-le j inside behind (omega (arith, within, long)))) next
    (sym (get_or_append_left (depths (level + 1) kids) (depths level rest) 0 j (omega (arith, within, length-depths (level + 1) kids))))
    (sym (get_or_append_left (nodes_of kids) (nodes_of rest) d j (omega (arith, within, length-nodes kids))))
    (begins-more bytes (drop j inside) behind (n + 1 + j) _ _ found))
    (λ (past : counts kids ≤ j).
    let k = j - counts kids in
    let found = begins-at bytes a (c + length printed) (n + 1 + counts kids) level k rest d (omega (arith, less, past)) first (stands-behind bytes c printed (content_lines rest) content) in
    let next : n + 1 + counts kids + k ≡ n + suc j = omega (arith, past) in
    begins-same bytes _ _ _ _ _ _ _ _ (sym (drop-past j inside behind (counts kids) long past)) next
    (sym (get_or-append_right (depths (level + 1) kids) (depths level rest) (counts kids) j 0 (length-depths (level + 1) kids) past))
    (sym (get_or-append_right (nodes_of kids) (nodes_of rest) (counts kids) j d (length-nodes kids) past))
    found)
    (cases_lt j (counts kids))
begins-at bytes a c n level zero (kid (attr name value) rest) d less first content =
    let line = attribute_line name value in
    let none_more : n ≡ n + 0 = omega arith in
    subst (λ m. Begins bytes (extents a c n level (kid (attr name value) rest)) m level (attr name value)) none_more
    (record {
      attributes_at = a;
      content_at = c;
      more = extents (a + length line) c (n + 1) level rest;
      are = refl;
      attributes_stand = stands-nil bytes a line (stands-first bytes a line (attribute_lines rest) first);
      content_stands = refl;
    })
begins-at bytes a c n level (suc j) (kid (attr name value) rest) d less first content =
    let line = attribute_line name value in
    let next : n + 1 + j ≡ n + suc j = omega arith in
    begins-same bytes _ _ _ _ _ _ _ _ refl next refl refl
    (begins-at bytes (a + length line) c (n + 1) level j rest d (omega (arith, less)) (stands-behind bytes a line (attribute_lines rest) first) content)
begins-at bytes a c n level zero (kid (text value) rest) d less first content =
    let line = data_line value in
    let none_more : n ≡ n + 0 = omega arith in
    subst (λ m. Begins bytes (extents a c n level (kid (text value) rest)) m level (text value)) none_more
    (record {
      attributes_at = a;
      content_at = c;
      more = extents a (c + length line) (n + 1) level rest;
      are = refl;
      attributes_stand = refl;
      content_stands = stands-nil bytes c line (stands-first bytes c line (content_lines rest) content);
    })
begins-at bytes a c n level (suc j) (kid (text value) rest) d less first content =
    let line = data_line value in
    let next : n + 1 + j ≡ n + suc j = omega arith in
    begins-same bytes _ _ _ _ _ _ _ _ refl next refl refl
    (begins-at bytes a (c + length line) (n + 1) level j rest d (omega (arith, less)) first (stands-behind bytes c line (content_lines rest) content))

-- what an extent says of its node
pub record Tells (bytes : List ℕ) (e : Extent) (number level : ℕ) (node : Plain) : Type 0 where
  pub printed : slice_of bytes e ≡ printed_node node
  pub kind_is : e.kind ≡ kind_of node
  pub name_is : e.name ≡ name_of node
  pub last_is : e.last + 1 ≡ number + count node
  pub level_is : e.level ≡ level
  pub escaped_is : e.escaped ≡ is_escaped node

same_length : (at n : ℕ) → at + n - at ≡ n
same_length at n = omega arith

tells-node : (bytes : List ℕ) (e : Extent) (behind : List Extent) (a c number level : ℕ) (more : List Extent) (node : Plain) → e ∷ behind ≡ extents a c number level (one node) ++ more
    → Stands bytes a (attribute_lines (one node)) → Stands bytes c (content_lines (one node)) → Tells bytes e number level node
tells-node bytes e behind a c number level more (elem name kids) are first content =
    let printed = printed_node (elem name kids) in
    let is : e ≡ element_extent c (c + length printed) (number + counts kids) name level = (same_cons e _ behind _ are).0 in
    subst (λ x. Tells bytes x number level (elem name kids)) (sym is)
    (record {
      printed = ap (λ w. take w (drop c bytes)) (same_length c (length printed)) ∙ stands-first bytes c printed [] content;
      kind_is = refl;
      name_is = refl;
      last_is = omega arith;
      level_is = refl;
      escaped_is = refl;
    })
tells-node bytes e behind a c number level more (attr name value) are first content =
    let line = attribute_line name value in
    let is : e ≡ attribute_extent a number name value level = (same_cons e _ behind _ are).0 in
    subst (λ x. Tells bytes x number level (attr name value)) (sym is)
    (record {
      printed = ap (λ w. take w (drop a bytes)) (same_length a (length line)) ∙ stands-first bytes a line [] first;
      kind_is = refl;
      name_is = refl;
      last_is = omega arith;
      level_is = refl;
      escaped_is = refl;
    })
tells-node bytes e behind a c number level more (text value) are first content =
    let line = data_line value in
    let is : e ≡ text_extent c number value level = (same_cons e _ behind _ are).0 in
    subst (λ x. Tells bytes x number level (text value)) (sym is)
    (record {
      printed = ap (λ w. take w (drop c bytes)) (same_length c (length line)) ∙ stands-first bytes c line [] content;
      kind_is = refl;
      name_is = refl;
      last_is = omega arith;
      level_is = refl;
      escaped_is = refl;
    })

-- The extent at the number of a node, from 1, tells of that node.
pub tells-at : (bytes : List ℕ) (es : List Extent) (root : Plain) (number : ℕ) (d : Extent) → AreNodes bytes es 1 1 (one root) → 1 ≤ number → number ≤ count root
    → Tells bytes (get_or es (number - 1) d) number (level_at root number) (node_at root number)
tells-at bytes es root number d are some within =
    let i = number - 1 in
    let less : i < length es = omega (arith, ap length are.extents_are, length-extents are.attributes_at are.content_at 1 1 (one root), some, within) in
    let found = begins-at bytes are.attributes_at are.content_at 1 1 i (one root) root (omega (arith, some, within)) are.attributes_stand are.content_stands in
    let at : 1 + i ≡ number = omega (arith, some) in
    let begins = begins-same bytes _ (drop i es) _ number _ _ _ _ (ap (drop i) (sym are.extents_are)) at refl refl found in
    tells-node bytes (get_or es i d) (drop (i + 1) es) begins.attributes_at begins.content_at number (level_at root number) begins.more (node_at root number)
    (sym (drop_more es i d less) ∙ begins.are) begins.attributes_stand begins.content_stands

pub document-tells : (bytes : List ℕ) (es : List code.Extent) (elements attributes : List (List ℕ)) (root : Plain) (number : ℕ) (d : code.Extent) → IsDocument bytes es elements attributes root → 1 ≤ number → number ≤ count root
    → Tells bytes (named elements attributes (get_or es (number - 1) d)) number (level_at root number) (node_at root number)
document-tells bytes es elements attributes root number d document some within =
    let nodes = document-nodes bytes es elements attributes root document in
    let N = named elements attributes in
    let less : number - 1 < length es = omega (arith, document-count bytes es elements attributes root document, some, within) in
    subst (λ x. Tells bytes x number (level_at root number) (node_at root number)) (get_or-map N es (number - 1) d (N d) less) (tells-at bytes (map N es) root number (N d) nodes some within)

-- the extents of the node and of all that is below it
length-one : (a c n level : ℕ) (node : Plain) → length (extents a c n level (one node)) ≡ count node
length-one a c n level node = length-extents a c n level (one node)

pub nodes-at : (bytes : List ℕ) (es : List Extent) (root : Plain) (number width : ℕ) → AreNodes bytes es 1 1 (one root) → 1 ≤ number → number ≤ count root → width ≡ count (node_at root number)
    → AreNodes bytes (take width (drop (number - 1) es)) number (level_at root number) (one (node_at root number))
nodes-at bytes es root number width are some within wide =
    let i = number - 1 in
    let node = node_at root number in
    let found = begins-at bytes are.attributes_at are.content_at 1 1 i (one root) root (omega (arith, some, within)) are.attributes_stand are.content_stands in
    let at : 1 + i ≡ number = omega (arith, some) in
    let begins = begins-same bytes _ (drop i es) _ number _ _ _ _ (ap (drop i) (sym are.extents_are)) at refl refl found in
    let own = extents begins.attributes_at begins.content_at number (level_at root number) (one node) in
    let long : length own ≡ width = omega (arith, wide, length-one begins.attributes_at begins.content_at number (level_at root number) node) in
    record {
      attributes_at = begins.attributes_at;
      content_at = begins.content_at;
      extents_are = ap (take width) begins.are ∙ take_at own begins.more width long;
      attributes_stand = begins.attributes_stand;
      content_stands = begins.content_stands;
    }

-- These extents alone are those of the node.
pub document-node : (bytes : List ℕ) (es own : List code.Extent) (elements attributes : List (List ℕ)) (root : Plain) (number : ℕ) (d : code.Extent) → IsDocument bytes es elements attributes root → 1 ≤ number → number ≤ count root
    → own ≡ take ((get_or es (number - 1) d).last + 1 - number) (drop (number - 1) es) → AreNodes bytes (map (named elements attributes) own) number (level_at root number) (one (node_at root number))
document-node bytes es own elements attributes root number d document some within own_is =
    let N = named elements attributes in
    let width = (get_or es (number - 1) d).last + 1 - number in
    let last = (document-tells bytes es elements attributes root number d document some within).last_is in
    let wide : width ≡ count (node_at root number) = omega (arith, last) in
    subst (λ l. AreNodes bytes l number (level_at root number) (one (node_at root number)))
    (ap (take width) (sym (drop-map N (number - 1) es)) ∙ take-map N width (drop (number - 1) es) ∙ ap (map N) (sym own_is))
    (nodes-at bytes (map N es) root number width (document-nodes bytes es elements attributes root document) some within wide)

-- The first extent of a node tells of it.
pub part-tells : (bytes : List ℕ) (es : List code.Extent) (elements attributes : List (List ℕ)) (number level : ℕ) (node : Plain) (d : code.Extent) → AreNodes bytes (map (named elements attributes) es) number level (one node)
    → Tells bytes (named elements attributes (get_or es 0 d)) number level node
part-tells bytes [] elements attributes number level node d are =
    absurd (let e : ◌≡◌ {A = Plains} (kid node no_kids) no_kids = no-node bytes number level (one node) are in cc)
part-tells bytes (e ∷ es) elements attributes number level node d are =
    let N = named elements attributes in
    tells-node bytes (N e) (map N es) are.attributes_at are.content_at number level [] node
    (are.extents_are ∙ sym (append-nil (extents are.attributes_at are.content_at number level (one node)))) are.attributes_stand are.content_stands
