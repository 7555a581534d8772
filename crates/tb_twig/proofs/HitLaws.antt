-- The places that are hit, and what is chosen by them, as filters by numbers of nodes.
use Rattle.std.proofs.Common.{◌≡◌, ℕ, ◌+◌, ◌<◌, ◌≤◌, Bool, true, false, cond, ◌||◌, nat_eq, ◌⊎◌, inl, inr, List, [], ◌∷◌, ◌++◌, All, length, get_or, map, filter, refl, sym, ap, ap₂, ◌∙◌, arith}
use Rattle.std.specs.List.{list_any}
use Rattle.std.proofs.lemmas.Bool.{cases_eq, cases_order, eq-eqb, ne_eqb}
use Rattle.std.proofs.lemmas.List.{map-append}
use Rattle.std.proofs.lemmas.List.Elements.{All-from_recursion, All-head, All-tail}
use Rattle.std.proofs.lemmas.List.Kept.{AllPairs-cons}
use Rattle.tb_tree.proofs.lists.Alls.{all-kept}
use Rattle.tb_tree.proofs.lists.Filters.{filter-map, filter_same, filter-fixed}
use Rattle.tb_tree.proofs.lists.Ranges.{All-range, map-range}
use Rattle.tb_tree.proofs.lists.Pairs.{AllPairs-nil}
use Rattle.tb_tree.specs.Numbers.{Numbered}
use Rattle.tb_tree.specs.Plain.{Plain}
use Rattle.tb_span.specs.Seeds.{no_item, item_at, places}
use Rattle.tb_span.specs.declared.item.Item.{Item}
use Rattle.tb_span.specs.declared.item.Pair.{Pair}
use Rattle.tb_stackjoin.proofs.PlaceLaws.{filter_places-yes, filter_places-no}
use Rattle.tb_label.specs.Rows.{Row, table, numbered_of, item_of}
use Rattle.tb_twig.specs.Narrowed.{leads_from, leads_to, asks, lower_left, upper_left}
use Rattle.tb_pattern.specs.declared.pattern.Mark.{Mark}
use Rattle.tb_pattern.specs.declared.pattern.Mark.TheVariants.{One, Optional, Some, Any}
use Rattle.tb_twig.specs.Hits.{link_at, IsNumbered, AreWithin, AreHits, chosen}
use Rattle.tb_twig.specs.declared.link.Link.{Link}
use Rattle.tb_twig.proofs.HasLaws.{any-map}
use Rattle.tb_twig.proofs.TableLaws.{CountOn, count-later, table-count}
use Rattle.tb_twig.proofs.LinkLaws.{listed_by}

-- The loop over the places.
pub chosen-no : (items : List Item) (hits : List Bool) (kept : List Item) (j : ℕ) → get_or hits j false ≡ false
    → kept ≡ map (item_at items) (filter (λ k. get_or hits k false) (places j)) → kept ≡ map (item_at items) (filter (λ k. get_or hits k false) (places (j + 1)))
chosen-no items hits kept j off so_far = so_far ∙ ap (map (item_at items)) (sym (filter_places-no (λ k. get_or hits k false) j off))

pub chosen-yes : (items : List Item) (hits : List Bool) (kept more : List Item) (j : ℕ) → get_or hits j false ≡ true → more ≡ kept ++ item_at items j ∷ []
    → kept ≡ map (item_at items) (filter (λ k. get_or hits k false) (places j)) → more ≡ map (item_at items) (filter (λ k. get_or hits k false) (places (j + 1)))
chosen-yes items hits kept more j on more-is so_far =
    let hit = λ (k : ℕ). get_or hits k false in
    more-is ∙ ap (λ xs. xs ++ item_at items j ∷ []) so_far
    ∙ sym (map-append (item_at items) (filter hit (places j)) (j ∷ []))
    ∙ ap (map (item_at items)) (sym (filter_places-yes hit j on))

-- Numbers tell the places of a list apart.
numbers-apart : (items : List Item) (i j : ℕ) → IsNumbered items → i < length items → j < length items → (item_at items i).node ≡ (item_at items j).node → i ≡ j
numbers-apart items i j rise i-less j-less same = at (cases_order i j)
  where
    at : (i ≡ j) ⊎ ((i < j) ⊎ (j < i)) → i ≡ j
    at (inl is) = is
    at (inr (inl less)) = absurd (let up = rise i j no_item less j-less in omega (arith, up, same))
    at (inr (inr more)) = absurd (let up = rise j i no_item more i-less in omega (arith, up, same))

same-test : (items : List Item) (i j : ℕ) → IsNumbered items → i < length items → j < length items → nat_eq (item_at items i).node (item_at items j).node ≡ nat_eq i j
same-test items i j rise i-less j-less = at (cases_eq i j)
  where
    at : (i ≡ j) ⊎ (i ≡ j → ⊥) → nat_eq (item_at items i).node (item_at items j).node ≡ nat_eq i j
    at (inl is) = eq-eqb (item_at items i).node (item_at items j).node (ap (λ k. (item_at items k).node) is) ∙ sym (eq-eqb i j is)
    at (inr ne) = ne_eqb (item_at items i).node (item_at items j).node (λ g. ne (numbers-apart items i j rise i-less j-less g)) ∙ sym (ne_eqb i j ne)

any-place : (place : Pair → ℕ) (items : List Item) (j : ℕ) (pairs : List Pair) → IsNumbered items → j < length items → AreWithin place (length items) pairs
    → list_any (λ p. nat_eq (item_at items (place p)).node (item_at items j).node) pairs ≡ list_any (λ p. nat_eq (place p) j) pairs
any-place place items j [] rise less within = refl
any-place place items j (p ∷ pairs) rise less within =
    ap₂ (λ a b. a || b) (same-test items (place p) j rise (All-head (λ q. place q < length items) p pairs within) less)
    (any-place place items j pairs rise less (All-tail (λ q. place q < length items) p pairs within))

at_places : (items : List Item) → map (item_at items) (places (length items)) ≡ items
at_places items = map-range no_item (item_at items) 0 items (λ i less. ap (item_at items) (let g : 0 + i ≡ i = omega arith in g))

-- what is chosen, by a test of numbers that says what the hits say
chosen-is : (test : ℕ → Bool) (items : List Item) (hits : List Bool) → ((j : ℕ) → j < length items → get_or hits j false ≡ test (item_at items j).node)
    → chosen items hits ≡ filter (λ i. test i.node) items
chosen-is test items hits same =
    let n = length items in
    let hit = λ (k : ℕ). get_or hits k false in
    let tested = λ (i : Item). test i.node in
    ap (map (item_at items))
    (filter_same hit (λ j. tested (item_at items j)) (places n) (All-range (λ j. hit j ≡ tested (item_at items j)) 0 n (λ j low less. same j (omega (arith, less)))))
    ∙ sym (filter-map tested (item_at items) (places n))
    ∙ ap (λ xs. filter tested xs) (at_places items)

pub chosen-below : (a d : List Item) (pairs : List Pair) (links : List Link) (hits : List Bool) → links ≡ map (link_at a d) pairs → IsNumbered d → AreWithin (λ p. p.d) (length d) pairs
    → AreHits (λ p. p.d) pairs hits (length d) → chosen d hits ≡ lower_left links d
chosen-below a d pairs links hits links-are rise within are =
    chosen-is (leads_to links) d hits (λ j less.
    are.hit j less ∙ sym (any-place (λ (p : Pair). p.d) d j pairs rise less within)
    ∙ sym (any-map (λ (l : Link). nat_eq l.below (item_at d j).node) (link_at a d) pairs)
    ∙ ap (λ ls. leads_to ls (item_at d j).node) (sym links-are))

pub chosen-above : (a d : List Item) (pairs : List Pair) (links : List Link) (hits : List Bool) → links ≡ map (link_at a d) pairs → IsNumbered a → AreWithin (λ p. p.a) (length a) pairs
    → AreHits (λ p. p.a) pairs hits (length a) → chosen a hits ≡ filter (λ i. leads_from links i.node) a
chosen-above a d pairs links hits links-are rise within are =
    chosen-is (leads_from links) a hits (λ j less.
    are.hit j less ∙ sym (any-place (λ (p : Pair). p.a) a j pairs rise less within)
    ∙ sym (any-map (λ (l : Link). nat_eq l.above (item_at a j).node) (link_at a d) pairs)
    ∙ ap (λ ls. leads_from ls (item_at a j).node) (sym links-are))

-- Where the mark asks for nothing the upper list stays.
pub above-none : (mark : Mark) (links : List Link) (a : List Item) → asks mark ≡ false → a ≡ upper_left mark links a
above-none One links a e = absurd (let g : ◌≡◌ {A = Bool} true false = e in cc)
above-none Optional links a e = sym (filter-fixed true a)
above-none Some links a e = absurd (let g : ◌≡◌ {A = Bool} true false = e in cc)
above-none Any links a e = sym (filter-fixed true a)

pub above-some : (mark : Mark) (links : List Link) (a : List Item) → asks mark ≡ true → filter (λ i. leads_from links i.node) a ≡ upper_left mark links a
above-some One links a e = refl
above-some Optional links a e = absurd (let g : ◌≡◌ {A = Bool} false true = e in cc)
above-some Some links a e = refl
above-some Any links a e = absurd (let g : ◌≡◌ {A = Bool} false true = e in cc)

-- The lists of a document are numbered.
abbrev Rises : Item → Item → Type 0
Rises x y = x.node < y.node

listed-numbered : (p : Numbered → Bool) (m : ℕ) (rs : List Row) → CountOn m rs → IsNumbered (listed_by p rs)
listed-numbered p m [] count = AllPairs-nil Rises
listed-numbered p m (r ∷ rs) count = at (p (numbered_of r)) (listed-numbered p (m + 1) rs count.1)
  where
    behind : All (Rises (item_of r)) (listed_by p rs)
    behind =
        All-from_recursion (Rises (item_of r)) (listed_by p rs)
        (all-kept (λ (s : Row). m + 1 ≤ s.number) (Rises (item_of r)) item_of (λ s. p (numbered_of s)) rs (λ s low. omega (arith, low, count.0)) (count-later (m + 1) rs count.1))

    at : (b : Bool) → IsNumbered (listed_by p rs) → IsNumbered (map item_of (cond b (r ∷ filter (λ s. p (numbered_of s)) rs) (filter (λ s. p (numbered_of s)) rs)))
    at true others = AllPairs-cons Rises (item_of r) (listed_by p rs) behind others
    at false others = others

pub lists-numbered : (p : Numbered → Bool) (root : Plain) → IsNumbered (listed_by p (table root))
lists-numbered p root = listed-numbered p 0 (table root) (table-count root)
