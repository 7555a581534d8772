-- The first lists as a function of the rows of the document.
use Rattle.std.proofs.Common.{◌≡◌, ◌≤◌, Bool, true, false, cond, not, ◌&&◌, nat_eq, inl, inr, List, [], ◌∷◌, length, map, filter, refl, sym, ap, ◌∙◌, subst, arith}
use Rattle.std.specs.List.{list_any}
use Rattle.std.proofs.lemmas.Bool.{and_right, ne_eqb, eq-eqb, or_left, or_right, not_from_false}
use Rattle.std.proofs.lemmas.List.{length-map}
use Rattle.std.proofs.lemmas.List.Elements.{All-from_recursion, filter_agree}
use Rattle.tb_tree.specs.Plain.{Plain}
use Rattle.tb_tree.specs.Numbers.{Numbered}
use Rattle.tb_tree.specs.Nodes.{node_at}
use Rattle.tb_tree.specs.Meets.{meets}
use Rattle.tb_tree.specs.Value.{value_of}
use Rattle.tb_tree.specs.declared.node_test.Test.{Test}
use Rattle.tb_tree.proofs.lists.Alls.{all-both, all-weaker}
use Rattle.tb_tree.proofs.lists.Filters.{filter-map, filter_same, filter_none, filter-skip, both_filters}
use Rattle.tb_span.specs.declared.item.Item.{Item}
use Rattle.tb_label.specs.Rows.{Row, rows_of, document_row, table, numbered_of, item_of, listed}
use Rattle.tb_label.specs.Stores.{document_item_of}
use Rattle.tb_label.proofs.PlacedLaws.{numbered}
use Rattle.tb_pattern.specs.Plain.{PlainPattern, matching}
use Rattle.tb_pattern.specs.Conditions.{all_hold}
use Rattle.tb_pattern.specs.declared.cond.Cond.{Cond}
use Rattle.tb_twig.specs.Branches.{test_of, fits}
use Rattle.tb_twig.specs.Lists.{conds_of, first_list}
use Rattle.tb_twig.specs.Offered.{meeting}
use Rattle.tb_twig.proofs.OfferedLaws.{IsIn}
use Rattle.tb_twig.proofs.TableLaws.{count-later, table-count, Member, all-members, Of}
use Rattle.tb_twig.proofs.WholeLaws.{row-node}
use Rattle.tb_twig.proofs.LinkLaws.{listed_by}

-- tests of nodes that agree
pub listed-same : (p q : Numbered → Bool) (rs : List Row) → ((v : Numbered) → p v ≡ q v) → listed_by p rs ≡ listed_by q rs
listed-same p q rs same = ap (map item_of) (filter_agree (λ (r : Row). p (numbered_of r)) (λ (r : Row). q (numbered_of r)) (λ r. same (numbered_of r)) rs)

shorter-one : {X : Type 0} (x : X) (kept xs : List X) (b : Bool) → length kept ≤ length xs → length (cond b (x ∷ kept) kept) ≤ length (x ∷ xs)
shorter-one x kept xs true less = omega (arith, less)
shorter-one x kept xs false less = omega (arith, less)

pub filter-shorter : {X : Type 0} (p : X → Bool) (xs : List X) → length (filter p xs) ≤ length xs
filter-shorter p [] = omega arith
filter-shorter p (x ∷ xs) = shorter-one x (filter p xs) xs (p x) (filter-shorter p xs)

-- the document node alone
pub document-is : (root : Plain) → listed_by (λ v. nat_eq v.number 0) (table root) ≡ document_item_of root ∷ []
document-is root =
    ap (λ rs. document_item_of root ∷ map item_of rs)
    (filter_none (λ (r : Row). nat_eq r.number 0) (rows_of root)
    (All-from_recursion (λ (r : Row). nat_eq r.number 0 ≡ false) (rows_of root)
    (all-weaker (λ (r : Row). 1 ≤ r.number) (λ (r : Row). nat_eq r.number 0 ≡ false) (rows_of root) (λ r some. ne_eqb r.number 0 (λ g. omega (arith, g, some))) (count-later 1 (rows_of root) (table-count root).1))))

and-true : (b c : Bool) → c ≡ true → b ≡ (b && c)
and-true true c e = sym e
and-true false c e = refl

first-test : (root : Plain) (test : Test) (conds : List Cond) (r : Row) → 1 ≤ r.number → node_at root r.number ≡ r.node
    → (meets test r.node && all_hold conds (value_of (node_at root r.number))) ≡ ((meets test r.node && all_hold conds (value_of r.node)) && not (nat_eq r.number 0))
first-test root test conds r some at =
    ap (λ node. meets test r.node && all_hold conds (value_of node)) at
    ∙ and-true (meets test r.node && all_hold conds (value_of r.node)) (not (nat_eq r.number 0)) (not_from_false (nat_eq r.number 0) (ne_eqb r.number 0 (λ g. omega (arith, g, some))))

-- the nodes that meet the test and the conditions, the document node apart
pub first-is : (root : Plain) (to : PlainPattern) → first_list root to ≡ listed_by (λ v. fits to v && not (nat_eq v.number 0)) (table root)
first-is root (matching test conds whole edges) =
    let to = matching test conds whole edges in
    let rs = rows_of root in
    let kept = λ (r : Row). fits to (numbered_of r) && not (nat_eq r.number 0) in
    let made = λ (r : Row). meets test r.node && all_hold conds (value_of (node_at root r.number)) in
    filter-map (λ (i : Item). all_hold conds (value_of (node_at root i.node))) item_of (filter (λ r. meets test r.node) rs)
    ∙ ap (map item_of)
    (both_filters (λ (r : Row). all_hold conds (value_of (node_at root r.number))) (λ (r : Row). meets test r.node) made (λ r. refl) rs
    ∙ filter_same made kept rs
    (All-from_recursion (λ (r : Row). made r ≡ kept r) rs
    (all-weaker (λ (r : Row). (1 ≤ r.number) × Member rs r) (λ (r : Row). made r ≡ kept r) rs (λ r k. first-test root test conds r k.0 (row-node root r k.1))
    (all-both (λ (r : Row). 1 ≤ r.number) (Member rs) rs (count-later 1 rs (table-count root).1) (all-members rs))))
    ∙ sym (filter-skip kept (document_row root) rs (and_right (fits to (numbered_of (document_row root))) (not (nat_eq 0 0)) refl)))

pub first-fewer : (root : Plain) (to : PlainPattern) → length (first_list root to) ≤ length (meeting (test_of to) root)
first-fewer root to =
    let rs = rows_of root in
    let t = test_of to in
    let met = filter (λ (r : Row). meets t r.node) rs in
    let same : meeting t root ≡ map numbered_of met =
    ap (filter (λ (u : Numbered). meets t u.node)) (sym (numbered root)) ∙ filter-map (λ (u : Numbered). meets t u.node) numbered_of rs in
    omega (
      arith,
      filter-shorter (λ (i : Item). all_hold (conds_of to) (value_of (node_at root i.node))) (listed t root),
      length-map met item_of,
      length-map met numbered_of,
      ap length same,
    )

-- A node that passes has its number in the list.
in-rows : (p : Numbered → Bool) (rs : List Row) (r : Row) → Member rs r → p (numbered_of r) ≡ true → IsIn (map (λ i. i.node) (listed_by p rs)) r.number
in-rows p [] r none passes = absurd none
in-rows p (x ∷ xs) r m passes = at m (λ later. in-rows p xs r later passes) (p (numbered_of x)) refl
  where
    at : Member (x ∷ xs) r → (Member xs r → IsIn (map (λ (i : Item). i.node) (listed_by p xs)) r.number) → (b : Bool) → p (numbered_of x) ≡ b → IsIn (map (λ (i : Item). i.node) (map item_of (cond b (x ∷ filter (λ s. p (numbered_of s)) xs) (filter (λ s. p (numbered_of s)) xs)))) r.number
    at (inl is) rest true e = or_left (nat_eq r.number x.number) (list_any (nat_eq r.number) (map (λ (i : Item). i.node) (listed_by p xs))) (eq-eqb r.number x.number (ap (λ (s : Row). s.number) is))
    at (inl is) rest false e = absurd (let g : ◌≡◌ {A = Bool} false true = sym e ∙ ap (λ (s : Row). p (numbered_of s)) (sym is) ∙ passes in cc)
    at (inr later) rest true e = or_right (nat_eq r.number x.number) (list_any (nat_eq r.number) (map (λ (i : Item). i.node) (listed_by p xs))) (rest later)
    at (inr later) rest false e = rest later

pub listed-in : (root : Plain) (p : Numbered → Bool) (v : Numbered) → Of root v → p v ≡ true → IsIn (map (λ i. i.node) (listed_by p (table root))) v.number
listed-in root p v (r, is, m) passes =
    subst (λ n. IsIn (map (λ (i : Item). i.node) (listed_by p (table root))) n) (ap (λ (u : Numbered). u.number) (sym is))
    (in-rows p (table root) r m (ap p (sym is) ∙ passes))
