-- What is picked of a document's extents is what is listed of its rows.
use Rattle.std.proofs.Common.{◌≡◌, ℕ, ◌+◌, ◌*◌, ◌<◌, Bool, true, false, if◌then◌else◌, List, [], ◌∷◌, ◌++◌, length, map, drop, get_or, refl, sym, ap, ap₂, ◌∙◌, arith, append_assoc, append-nil, length-append}
use Rattle.std.specs.List.{filter}
use Rattle.std.proofs.lemmas.List.{map-append, drop_more}
use Rattle.std.proofs.lemmas.List.Elements.{filter-append}
use Rattle.tb_span.specs.declared.item.Item.{Item}
use Rattle.tb_tree.specs.Plain.{Plain, elem, attr, text, Plains, no_kids, kid, one}
use Rattle.tb_tree.specs.Numbers.{counts}
use Rattle.tb_tree.specs.Meets.{meets}
use Rattle.tb_tree.specs.Printed.{printed_node, attribute_lines, start_line, attribute_line, data_line}
use Rattle.tb_tree.specs.Extents.{Extent, extents, name_in, named}
use Rattle.tb_tree.specs.FlatTrees.{IsPlaced}
use Rattle.tb_tree.specs.declared.extent.Extent as code
use Rattle.tb_tree.specs.declared.extent.Kind.TheVariants as kind
use Rattle.tb_tree.specs.declared.node_test.Test.{Test}
use Rattle.tb_tree.specs.declared.node_test.Test.TheVariants.{Name, AnyElement, AttrName, AnyAttr, AnyText}
use Rattle.tb_tree.proofs.JoinedLaws.{length-extents}
use Rattle.tb_label.specs.Rows.{Row, rows, leaf_row, elem_row, item_of, listed}
use Rattle.tb_label.specs.Lists.{one_if}
use Rattle.tb_label.specs.Picked.{is_wanted, item_at, picked}

wanted-element : (t : Test) (name : List ℕ) (kids : Plains) → is_wanted t kind.Element name ≡ meets t (elem name kids)
wanted-element (Name q) name kids = refl
wanted-element AnyElement name kids = refl
wanted-element (AttrName q) name kids = refl
wanted-element AnyAttr name kids = refl
wanted-element AnyText name kids = refl

wanted-attribute : (t : Test) (name value : List ℕ) → is_wanted t kind.Attribute name ≡ meets t (attr name value)
wanted-attribute (Name q) name value = refl
wanted-attribute AnyElement name value = refl
wanted-attribute (AttrName q) name value = refl
wanted-attribute AnyAttr name value = refl
wanted-attribute AnyText name value = refl

wanted-text : (t : Test) (value : List ℕ) → is_wanted t kind.Text [] ≡ meets t (text value)
wanted-text (Name q) value = refl
wanted-text AnyElement value = refl
wanted-text (AttrName q) value = refl
wanted-text AnyAttr value = refl
wanted-text AnyText value = refl

pub picked-append : (t : Test) (n : ℕ) (xs ys : List Extent) → picked t n (xs ++ ys) ≡ picked t n xs ++ picked t (n + length xs) ys
picked-append t n [] ys = ap (λ m. picked t m ys) (none_more n)
  where
    none_more : (n : ℕ) → n ≡ n + 0
    none_more n = omega arith
picked-append t n (x ∷ xs) ys =
    let next : n + 1 + length xs ≡ n + length (x ∷ xs) = omega arith in
    ap (λ r. one_if (is_wanted t x.kind x.name) (item_at n x.last x.level) ++ r)
    (picked-append t (n + 1) xs ys ∙ ap (λ m. picked t (n + 1) xs ++ picked t m ys) next)
    ∙ sym (append_assoc (one_if (is_wanted t x.kind x.name) (item_at n x.last x.level)) (picked t (n + 1) xs) (picked t (n + length (x ∷ xs)) ys))

pub same_item : (s s' e e' l l' n : ℕ) → s ≡ s' → e ≡ e' → l ≡ l'
    → ◌≡◌ {A = Item} (record { label = record { start = s; end = e; level = l }; node = n }) (record { label = record { start = s'; end = e'; level = l' }; node = n })
same_item s s' e e' l l' n p q r = cc

-- one row, and those behind it
row-step : (t : Test) (r : Row) (rs : List Row) (item : Item) (items : List Item) (wanted met : Bool) → wanted ≡ met → item ≡ item_of r → items ≡ map item_of (filter (λ r. meets t r.node) rs)
    → one_if wanted item ++ items ≡ map item_of (if met then r ∷ filter (λ r. meets t r.node) rs else filter (λ r. meets t r.node) rs)
row-step t r rs item items wanted true is here later = ap (λ b. one_if b item ++ items) is ∙ ap₂ (λ x xs. x ∷ xs) here later
row-step t r rs item items wanted false is here later = ap (λ b. one_if b item ++ items) is ∙ later

-- Labels follow from numbers: the counter stands at two numbers for each node before, less one for each that is
-- open.
pub picked-rows : (t : Test) (a c n level clock parent : ℕ) (at : List ℕ) (k : ℕ) (ks : Plains) → clock + level ≡ 2 * n + 1 → level ≡ length at + 1
    → picked t n (extents a c n level ks) ≡ map item_of (filter (λ r. meets t r.node) (rows clock n parent at k ks))
picked-rows t a c n level clock parent at k no_kids starts deep = refl
picked-rows t a c n level clock parent at k (kid (elem name kids) rest) starts deep =
    let inside = extents c (c + length (attribute_lines kids ++ start_line name)) (n + 1) (level + 1) kids in
    let behind = extents a (c + length (printed_node (elem name kids))) (n + 1 + counts kids) level rest in
    let below = rows (clock + 1) (n + 1) n (at ++ k ∷ []) 0 kids in
    let right = rows (clock + 2 * counts kids + 2) (n + 1 + counts kids) parent at (k + 1) rest in
    let long : n + 1 + length inside ≡ n + 1 + counts kids = omega (arith, length-extents c (c + length (attribute_lines kids ++ start_line name)) (n + 1) (level + 1) kids) in
    let later : picked t (n + 1) (inside ++ behind) ≡ map item_of (filter (λ r. meets t r.node) (below ++ right)) =
    picked-append t (n + 1) inside behind
    ∙ ap₂ (λ x y. x ++ y)
    (picked-rows t c _ (n + 1) (level + 1) (clock + 1) n (at ++ k ∷ []) 0 kids (omega (arith, starts)) (omega (arith, deep, length-append at (k ∷ []))))
    (ap (λ m. picked t m behind) long ∙ picked-rows t a _ (n + 1 + counts kids) level (clock + 2 * counts kids + 2) parent at (k + 1) rest (omega (arith, starts)) deep)
    ∙ sym (map-append item_of (filter (λ r. meets t r.node) below) (filter (λ r. meets t r.node) right))
    ∙ ap (map item_of) (sym (filter-append (λ r. meets t r.node) below right)) in
    row-step t (elem_row clock n parent at k name kids) (below ++ right) (item_at n (n + counts kids) level) _ (is_wanted t kind.Element name) (meets t (elem name kids)) (wanted-element t name kids)
    (same_item _ clock _ (clock + 2 * counts kids + 1) level (length at + 1) n (omega (arith, starts)) (omega (arith, starts)) deep) later
picked-rows t a c n level clock parent at k (kid (attr name value) rest) starts deep =
    row-step t (leaf_row clock n parent at k (attr name value)) (rows (clock + 2) (n + 1) parent at (k + 1) rest) (item_at n n level) _ (is_wanted t kind.Attribute name) (meets t (attr name value)) (wanted-attribute t name value)
    (same_item _ clock _ (clock + 1) level (length at + 1) n (omega (arith, starts)) (omega (arith, starts)) deep)
    (picked-rows t (a + length (attribute_line name value)) c (n + 1) level (clock + 2) parent at (k + 1) rest (omega (arith, starts)) deep)
picked-rows t a c n level clock parent at k (kid (text value) rest) starts deep =
    row-step t (leaf_row clock n parent at k (text value)) (rows (clock + 2) (n + 1) parent at (k + 1) rest) (item_at n n level) _ (is_wanted t kind.Text []) (meets t (text value)) (wanted-text t value)
    (same_item _ clock _ (clock + 1) level (length at + 1) n (omega (arith, starts)) (omega (arith, starts)) deep)
    (picked-rows t a (c + length (data_line value)) (n + 1) level (clock + 2) parent at (k + 1) rest (omega (arith, starts)) deep)

-- The lists of a document.
pub picked-document : (t : Test) (root : Plain) (es : List code.Extent) (elements attributes : List (List ℕ)) → IsPlaced root es elements attributes → picked t 1 (map (named elements attributes) es) ≡ listed t root
picked-document t root es elements attributes p =
    ap₂ (λ x y. picked t 1 (map (named x y) es)) (sym (append-nil elements)) (sym (append-nil attributes))
    ∙ ap (picked t 1) (p.extents_are [] []) ∙ picked-rows t 0 0 1 1 2 0 [] 0 (one root) (omega arith) (omega arith)

-- an extent where none stands
abbrev pub no_extent : code.Extent
no_extent = record { from = 0; to = 0; last = 0; name = 0; level = 0; kind = kind.Element; escaped = false }

-- one extent more is listed
pub listing-step : (t : Test) (elements attributes : List (List ℕ)) (xs : List code.Extent) (i n : ℕ) (before after whole : List Item) (item : Item) (d : code.Extent) → i < length xs
    → item ≡ item_at n (get_or xs i d).last (get_or xs i d).level
    → after ≡ before ++ one_if (is_wanted t (get_or xs i d).kind (name_in elements attributes (get_or xs i d).kind (get_or xs i d).name)) item
    → before ++ picked t n (map (named elements attributes) (drop i xs)) ≡ whole
    → after ++ picked t (n + 1) (map (named elements attributes) (drop (i + 1) xs)) ≡ whole
listing-step t elements attributes xs i n before after whole item d less is more all =
    let x = get_or xs i d in
    let wanted = is_wanted t x.kind (name_in elements attributes x.kind x.name) in
    let behind = picked t (n + 1) (map (named elements attributes) (drop (i + 1) xs)) in
    ap (λ l. l ++ behind) (more ∙ ap (λ y. before ++ one_if wanted y) is)
    ∙ append_assoc before (one_if wanted (item_at n x.last x.level)) behind
    ∙ ap (λ l. before ++ picked t n (map (named elements attributes) l)) (sym (drop_more xs i d less)) ∙ all
