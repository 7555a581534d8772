-- Nodes of a document, one after the other, and what is left.
use Rattle.std.proofs.Common.{◌≡◌, ℕ, false, zero, suc, ◌+◌, ◌-◌, ◌<◌, ◌≤◌, ◌^◌, min, List, [], ◌∷◌, ◌++◌, length, map, take, drop, get_or, refl, sym, ap, ap₂, ◌∙◌, subst, arith}
use Rattle.std.proofs.lemmas.List.{take_at, drop_at, take-map, map-append}
use Rattle.tb_tree.specs.Plain.{Plain, elem, attr, text, Plains, no_kids, kid, one, plains, joined_kids}
use Rattle.tb_tree.specs.Numbers.{counts}
use Rattle.tb_tree.specs.Printed.{printed_node, attribute_lines, content_lines, start_line, end_line, attribute_line, data_line}
use Rattle.tb_tree.specs.Extents.{Extent, element_extent, attribute_extent, text_extent, extents}
use Rattle.tb_tree.specs.FlatTrees.{node_by, Stands, AreNodes}
use Rattle.tb_tree.specs.declared.extent.Kind.TheVariants as kind
use Rattle.tb_tree.proofs.StandLaws.{stands-first, stands-behind}
use Rattle.tb_tree.specs.declared.extent.Extent as code
use Rattle.tb_tree.specs.declared.node.Node.{Node}
use Rattle.tb_tree.specs.View.{plain_of, plains_of}
use Rattle.tb_tree.proofs.JoinedLaws.{length-extents, plains-append, joined-none}
use Rattle.tb_tree.proofs.BackLaws.{attribute-value, text-value}

-- what a first extent says: the node's kids, what stands behind it, and the node
pub record IsFirst (bytes : List ℕ) (first : Extent) (behind : List Extent) (number level : ℕ) (ks : Plains) : Type 0 where
  pub kids : Plains
  pub others : Plains
  pub ends : first.last ≡ number + counts kids
  pub kids_are : AreNodes bytes (take (first.last - number) behind) (number + 1) (level + 1) kids
  pub node_is : kid (node_by bytes first kids first.kind) others ≡ ks
  pub others_are : AreNodes bytes (drop (first.last - number) behind) (first.last + 1) level others

pub same_cons : (x y : Extent) (xs ys : List Extent) → ◌≡◌ {A = List Extent} (x ∷ xs) (y ∷ ys) → (x ≡ y) × (xs ≡ ys)
same_cons x y xs ys e = (cc, cc)

pub none_first : (x : Extent) (xs : List Extent) → ◌≡◌ {A = List Extent} (x ∷ xs) [] → ⊥
none_first x xs e = cc

first_elem : (bytes : List ℕ) (a c number level : ℕ) (name : List ℕ) (kids rest : Plains) → Stands bytes a (attribute_lines rest) → Stands bytes c (printed_node (elem name kids) ++ content_lines rest)
    → IsFirst bytes (element_extent c (c + length (printed_node (elem name kids))) (number + counts kids) name level)
    (extents c (c + length (attribute_lines kids ++ start_line name)) (number + 1) (level + 1) kids ++ extents a (c + length (printed_node (elem name kids))) (number + 1 + counts kids) level rest)
    number level (kid (elem name kids) rest)
first_elem bytes a c number level name kids rest first content =
    let printed = printed_node (elem name kids) in
    let start = attribute_lines kids ++ start_line name in
    let inside = extents c (c + length start) (number + 1) (level + 1) kids in
    let behind = extents a (c + length printed) (number + 1 + counts kids) level rest in
    let own = stands-first bytes c printed (content_lines rest) content in
    let most = stands-first bytes c (start ++ content_lines kids) (end_line name) own in
    let begin = stands-first bytes c start (content_lines kids) most in
    let below : length inside ≡ number + counts kids - number = omega (arith, length-extents c (c + length start) (number + 1) (level + 1) kids) in
    let next : number + 1 + counts kids ≡ number + counts kids + 1 = omega arith in
    record {
      kids = kids;
      others = rest;
      ends = refl;
      kids_are = record {
        attributes_at = c;
        content_at = c + length start;
        extents_are = take_at inside behind (number + counts kids - number) below;
        attributes_stand = stands-first bytes c (attribute_lines kids) (start_line name) begin;
        content_stands = stands-behind bytes c start (content_lines kids) most;
      };
      node_is = refl;
      others_are = record {
        attributes_at = a;
        content_at = c + length printed;
        extents_are = drop_at inside behind (number + counts kids - number) below ∙ ap (λ n. extents a (c + length printed) n level rest) next;
        attributes_stand = first;
        content_stands = stands-behind bytes c printed (content_lines rest) content;
      };
    }

leaf : (bytes : List ℕ) (first : Extent) (behind : List Extent) (number level : ℕ) (node : Plain) (rest : Plains) → first.last ≡ number → node_by bytes first no_kids first.kind ≡ node
    → AreNodes bytes behind (number + 1) level rest → IsFirst bytes first behind number level (kid node rest)
leaf bytes first behind number level node rest last is others =
    let below : first.last - number ≡ 0 = omega (arith, last) in
    record {
      kids = no_kids;
      others = rest;
      ends = omega (arith, last);
      kids_are = record {
        attributes_at = 0;
        content_at = 0;
        extents_are = ap (λ n. take n behind) below;
        attributes_stand = refl;
        content_stands = refl;
      };
      node_is = ap (λ x. kid x rest) is;
      others_are = subst (λ n. AreNodes bytes (drop n behind) (first.last + 1) level rest) (sym below) (subst (λ n. AreNodes bytes behind (n + 1) level rest) (sym last) others);
    }

first_case : (bytes : List ℕ) (first : Extent) (behind : List Extent) (a c number level : ℕ) (ks : Plains) → first ∷ behind ≡ extents a c number level ks → Stands bytes a (attribute_lines ks) → Stands bytes c (content_lines ks)
    → IsFirst bytes first behind number level ks
first_case bytes first behind a c number level no_kids are attributes content = absurd (none_first first behind are)
first_case bytes first behind a c number level (kid (elem name kids) rest) are attributes content =
    let parts = same_cons first _ behind _ are in
    subst (λ x. IsFirst bytes x behind number level (kid (elem name kids) rest)) (sym parts.0)
    (subst (λ xs. IsFirst bytes (element_extent c (c + length (printed_node (elem name kids))) (number + counts kids) name level) xs number level (kid (elem name kids) rest)) (sym parts.1) (first_elem bytes a c number level name kids rest attributes content))
first_case bytes first behind a c number level (kid (attr name value) rest) are attributes content =
    let parts = same_cons first _ behind _ are in
    let line = attribute_line name value in
    subst (λ x. IsFirst bytes x behind number level (kid (attr name value) rest)) (sym parts.0)
    (leaf bytes (attribute_extent a number name value level) behind number level (attr name value) rest refl (ap (attr name) (attribute-value bytes a number level name value (stands-first bytes a line (attribute_lines rest) attributes)))
    (record {
      attributes_at = a + length line;
      content_at = c;
      extents_are = parts.1;
      attributes_stand = stands-behind bytes a line (attribute_lines rest) attributes;
      content_stands = content;
    }))
first_case bytes first behind a c number level (kid (text value) rest) are attributes content =
    let parts = same_cons first _ behind _ are in
    let line = data_line value in
    subst (λ x. IsFirst bytes x behind number level (kid (text value) rest)) (sym parts.0)
    (leaf bytes (text_extent c number value level) behind number level (text value) rest refl (ap text (text-value bytes c number level value (stands-first bytes c line (content_lines rest) content)))
    (record {
      attributes_at = a;
      content_at = c + length line;
      extents_are = parts.1;
      attributes_stand = attributes;
      content_stands = stands-behind bytes c line (content_lines rest) content;
    }))

pub first-node : (bytes : List ℕ) (first : Extent) (behind : List Extent) (number level : ℕ) (ks : Plains) → AreNodes bytes (first ∷ behind) number level ks → IsFirst bytes first behind number level ks
first-node bytes first behind number level ks are = first_case bytes first behind are.attributes_at are.content_at number level ks are.extents_are are.attributes_stand are.content_stands

none_case : (a c number level : ℕ) (ks : Plains) → [] ≡ extents a c number level ks → ks ≡ no_kids
none_case a c number level no_kids are = refl
none_case a c number level (kid (elem name kids) rest) are = absurd (none_first _ _ (sym are))
none_case a c number level (kid (attr name value) rest) are = absurd (none_first _ _ (sym are))
none_case a c number level (kid (text value) rest) are = absurd (none_first _ _ (sym are))

-- no extent, no node
pub no-node : (bytes : List ℕ) (number level : ℕ) (ks : Plains) → AreNodes bytes [] number level ks → ks ≡ no_kids
no-node bytes number level ks are = none_case are.attributes_at are.content_at number level ks are.extents_are

pub kids-joined : (xs : List Plain) (x : Plain) (rest : Plains) → joined_kids (joined_kids (plains xs) (one x)) rest ≡ joined_kids (plains xs) (kid x rest)
kids-joined [] x rest = refl
kids-joined (y ∷ xs) x rest = ap (kid y) (kids-joined xs x rest)

pub drop-map : (f : code.Extent → Extent) (n : ℕ) (xs : List code.Extent) → map f (drop n xs) ≡ drop n (map f xs)
drop-map f zero xs = refl
drop-map f (suc n) [] = refl
drop-map f (suc n) (x ∷ xs) = drop-map f n xs

-- the first of the extents that are left, and those behind it
pub first-left : (f : code.Extent → Extent) (xs : List code.Extent) (d : code.Extent) → 1 ≤ length xs → map f xs ≡ f (get_or xs 0 d) ∷ map f (drop 1 xs)
first-left f [] d some = absurd (omega (arith, some))
first-left f (x ∷ xs) d some = refl

-- an extent where none stands
abbrev pub no_extent : code.Extent
no_extent = record { from = 0; to = 0; last = 0; name = 0; level = 0; kind = kind.Element; escaped = false }

-- One node more is built.
pub record IsBuilt (bytes : List ℕ) (f : code.Extent → Extent) (rest : List code.Extent) (number level : ℕ) (nodes : List Node) (ks : Plains) : Type 0 where
  pub left : Plains
  pub left_are : AreNodes bytes (map f rest) number level left
  pub whole : joined_kids (plains_of nodes) left ≡ ks

pub built-more : (bytes : List ℕ) (f : code.Extent → Extent) (rest : List code.Extent) (d : code.Extent) (number level below next : ℕ) (nodes more kids : List Node) (node : Node) (inside behind : List code.Extent) (ks : Plains) → 1 ≤ length rest
    → ((x : code.Extent) → (f x).last ≡ x.last)
    → ((x : code.Extent) → (f x).kind ≡ x.kind)
    → (get_or rest 0 d).last < 2 ^ 32
    → below ≡ (get_or rest 0 d).last - number → next ≡ min (number + 1) (2 ^ 64 - 1)
    → inside ≡ take below (drop 1 rest) → behind ≡ drop below (drop 1 rest)
    → ((level : ℕ) (ks : Plains) → AreNodes bytes (map f inside) next level ks → plains_of kids ≡ ks)
    → plain_of node ≡ node_by bytes (f (get_or rest 0 d)) (plains_of kids) (get_or rest 0 d).kind
    → more ≡ nodes ++ node ∷ []
    → IsBuilt bytes f rest number level nodes ks → IsBuilt bytes f behind ((get_or rest 0 d).last + 1) level more ks
built-more bytes f rest d number level below next nodes more kids node inside behind ks some last_kept kind_kept short below_is next_is inside_is behind_is kids_are node_is more_is built =
    let x = get_or rest 0 d in
    let after = map f (drop 1 rest) in
    let first = first-node bytes (f x) after number level built.left (subst (λ l. AreNodes bytes l number level built.left) (first-left f rest d some) built.left_are) in
    let width : below ≡ (f x).last - number = omega (arith, below_is, last_kept x) in
    let up : next ≡ number + 1 = omega (arith, next_is, first.ends, last_kept x, short) in
    let kids_is : plains_of kids ≡ first.kids =
    kids_are (level + 1) first.kids
    (subst (λ n. AreNodes bytes (map f inside) n (level + 1) first.kids) (sym up)
    (subst (λ l. AreNodes bytes l (number + 1) (level + 1) first.kids) (ap (λ w. take w after) (sym width) ∙ take-map f below (drop 1 rest) ∙ ap (map f) (sym inside_is)) first.kids_are)) in
    let is : plain_of node ≡ node_by bytes (f x) first.kids (f x).kind = node_is ∙ ap₂ (λ k l. node_by bytes (f x) k l) kids_is (sym (kind_kept x)) in
    record {
      left = first.others;
      left_are =
          subst (λ n. AreNodes bytes (map f behind) (n + 1) level first.others) (last_kept x)
          (subst (λ l. AreNodes bytes l ((f x).last + 1) level first.others) (ap (λ w. drop w after) (sym width) ∙ sym (drop-map f below (drop 1 rest)) ∙ ap (map f) (sym behind_is)) first.others_are);
      whole =
          ap (λ l. joined_kids (plains_of l) first.others) more_is
          ∙ ap (λ l. joined_kids (plains l) first.others) (map-append plain_of nodes (node ∷ []))
          ∙ ap (λ l. joined_kids l first.others) (plains-append (map plain_of nodes) (plain_of node ∷ []))
          ∙ kids-joined (map plain_of nodes) (plain_of node) first.others
          ∙ ap (λ n. joined_kids (plains_of nodes) (kid n first.others)) is ∙ ap (joined_kids (plains_of nodes)) first.node_is ∙ built.whole;
    }

pub built-all : (bytes : List ℕ) (f : code.Extent → Extent) (rest : List code.Extent) (number level : ℕ) (nodes : List Node) (ks : Plains) → rest ≡ [] → IsBuilt bytes f rest number level nodes ks → plains_of nodes ≡ ks
built-all bytes f rest number level nodes ks empty built =
    let none = no-node bytes number level built.left (subst (λ l. AreNodes bytes (map f l) number level built.left) empty built.left_are) in
    sym (joined-none (plains_of nodes)) ∙ ap (joined_kids (plains_of nodes)) (sym none) ∙ built.whole

-- one node alone
pub one-node : (nodes : List Node) (root : Plain) → plains_of nodes ≡ one root → (x : Node) × (nodes ≡ x ∷ []) × (plain_of x ≡ root)
one-node [] root is = absurd (let d : ◌≡◌ {A = Plains} no_kids (kid root no_kids) = is in cc)
one-node (x ∷ []) root is = (x, refl, let d : ◌≡◌ {A = Plains} (kid (plain_of x) no_kids) (kid root no_kids) = is in cc)
one-node (x ∷ y ∷ zs) root is = absurd (let d : ◌≡◌ {A = Plains} (kid (plain_of x) (kid (plain_of y) (plains_of zs))) (kid root no_kids) = is in cc)
