-- Links in the order of their upper nodes: those of one node stand behind each other.
use Rattle.std.proofs.Common.{◌≡◌, ℕ, zero, suc, ◌+◌, ◌-◌, ◌<◌, ◌≤◌, Bool, true, false, cond, ◌&&◌, nat_eq, ◌⊎◌, inl, inr, List, [], ◌∷◌, ◌++◌, length, take, drop, get_or, map, filter, flat_map, refl, sym, ap, ◌∙◌, subst, arith, take-append-drop, length-drop}
use Rattle.std.specs.List.{AllByRecursion, prefix_len}
use Rattle.std.specs.List.Sorted.{IsPartitionPoint}
use Rattle.std.proofs.lemmas.Bool.{cond-true, cond-false, cases_eq, cases_lt, eq-eqb, ne_eqb}
use Rattle.std.proofs.lemmas.List.{get_or-take, get_or-drop, length-take-le}
use Rattle.std.proofs.lemmas.List.Elements.{filter-append, recursion_from_All, All-from_get_or}
use Rattle.std.proofs.lemmas.List.Folds.{list_any_at, list_any_none}
use Rattle.std.proofs.lemmas.List.Sorted.{IsNonDecreasingBy-drop}
use Rattle.tb_tree.proofs.lists.Alls.{all-append, all-weaker, all-passing}
use Rattle.tb_tree.proofs.lists.Filters.{filter_none, filter-keep, filter-skip}
use Rattle.tb_span.specs.declared.item.Axis.{Axis}
use Rattle.tb_tree.specs.Plain.{Plain}
use Rattle.tb_tree.specs.Numbers.{Numbered}
use Rattle.tb_label.specs.Rows.{Row, table, numbered_of, is_on}
use Rattle.tb_twig.specs.Links.{IsRising, leading_from, starts_below, starts_from}
use Rattle.tb_twig.specs.declared.link.Link.{Link}
use Rattle.tb_twig.specs.Narrowed.{link, leads_from}
use Rattle.tb_twig.proofs.LinkLaws.{links_of}
use Rattle.tb_twig.proofs.TableLaws.{CountOn, table-count}

abbrev NotBefore : ℕ → Link → Type 0
NotBefore n l = n ≤ l.above

-- each link has no greater upper node than all behind it
abbrev Rises : List Link → Type 0
Rises [] = Unit {0}
Rises (l ∷ ls) = AllByRecursion (NotBefore l.above) ls × Rises ls

rises-from : (ls : List Link) → IsRising ls → Rises ls
rises-from [] rise = tt
rises-from (l ∷ ls) rise = (
  recursion_from_All (NotBefore l.above) ls (λ k d less. rise 0 (suc k) d (omega arith) (omega (arith, less))),
  rises-from ls (λ i j d low less. rise (suc i) (suc j) d (omega (arith, low)) (omega (arith, less))),
)

at-least : (n : ℕ) (ls : List Link) → AllByRecursion (NotBefore n) ls → (j : ℕ) (d : Link) → j < length ls → n ≤ (get_or ls j d).above
at-least n [] all j d less = absurd (omega (arith, less))
at-least n (l ∷ ls) all zero d less = all.0
at-least n (l ∷ ls) all (suc j) d less = at-least n ls all.1 j d (omega (arith, less))

rising-from : (ls : List Link) → Rises ls → IsRising ls
rising-from [] rise i j d low less = absurd (omega (arith, less))
rising-from (l ∷ ls) rise zero zero d low less = omega arith
rising-from (l ∷ ls) rise zero (suc j) d low less = at-least l.above ls rise.0 j d (omega (arith, less))
rising-from (l ∷ ls) rise (suc i) zero d low less = absurd (omega (arith, low))
rising-from (l ∷ ls) rise (suc i) (suc j) d low less = rising-from ls rise.1 i j d (omega (arith, low)) (omega (arith, less))

-- where no link leads from an earlier node, those of n stand first
first-run : (n : ℕ) (ls : List Link) → Rises ls → AllByRecursion (NotBefore n) ls → take (prefix_len (λ l. nat_eq l.above n) ls) ls ≡ leading_from n ls
first-run n [] rise low = refl
first-run n (l ∷ ls) rise low = at (cases_eq l.above n) (first-run n ls rise.1 low.1)
  where
    none : (n < l.above) → (xs : List Link) → AllByRecursion (NotBefore l.above) xs → leading_from n xs ≡ []
    none more [] all = refl
    none more (x ∷ xs) all = filter-skip (λ (m : Link). nat_eq m.above n) x xs (ne_eqb x.above n (λ g. omega (arith, g, more, all.0))) ∙ none more xs all.1

    at : (l.above ≡ n) ⊎ (l.above ≡ n → ⊥) → take (prefix_len (λ (m : Link). nat_eq m.above n) ls) ls ≡ leading_from n ls
        → take (prefix_len (λ (m : Link). nat_eq m.above n) (l ∷ ls)) (l ∷ ls) ≡ leading_from n (l ∷ ls)
    at (inl is) rest =
        let t : nat_eq l.above n ≡ true = eq-eqb l.above n is in
        let k = prefix_len (λ (m : Link). nat_eq m.above n) ls in
        let more : cond (nat_eq l.above n) (1 + k) 0 ≡ suc k = cond-true (nat_eq l.above n) (1 + k) 0 t ∙ omega arith in
        ap (λ w. take w (l ∷ ls)) more ∙ ap (λ xs. l ∷ xs) rest ∙ sym (filter-keep (λ (m : Link). nat_eq m.above n) l ls t)
    at (inr ne) rest =
        let f : nat_eq l.above n ≡ false = ne_eqb l.above n ne in
        let k = prefix_len (λ (m : Link). nat_eq m.above n) ls in
        ap (λ w. take w (l ∷ ls)) (cond-false (nat_eq l.above n) (1 + k) 0 f)
        ∙ sym (filter-skip (λ (m : Link). nat_eq m.above n) l ls f ∙ none (omega (arith, ne, low.0)) ls rise.0)

-- The run that starts at the partition point is all that leads from n.
pub run-is : (n : ℕ) (ls : List Link) (i : ℕ) → IsPartitionPoint (starts_below n) (starts_from n) ls i → IsRising ls → i ≤ length ls
    → take (prefix_len (λ l. nat_eq l.above n) (drop i ls)) (drop i ls) ≡ leading_from n ls
run-is n ls i point rise within =
    first-run n (drop i ls) (rises-from (drop i ls) (IsNonDecreasingBy-drop (λ (l : Link). l.above) i ls rise))
    (recursion_from_All (NotBefore n) (drop i ls)
    (λ k d less. subst (λ (l : Link). n ≤ l.above) (sym (get_or-drop i ls k d)) (point.1 (i + k) d (omega arith) (omega (arith, less, length-drop i ls)))))
    ∙ sym (ap (leading_from n) (sym (take-append-drop i ls)) ∙ filter-append (λ (l : Link). nat_eq l.above n) (take i ls) (drop i ls)
    ∙ ap (λ xs. xs ++ leading_from n (drop i ls)) (filter_none (λ (l : Link). nat_eq l.above n) (take i ls)
    (λ k d less.
    let here : k < i = omega (arith, less, length-take-le i ls within) in
    ap (λ (l : Link). nat_eq l.above n) (get_or-take i ls k d here) ∙ ne_eqb (get_or ls k d).above n (λ g. omega (arith, g, point.0 k d (omega arith) here)))))

-- Whether a link leads from n, by the one at the partition point.
pub leads-at : (n : ℕ) (ls : List Link) (i : ℕ) (d : Link) → IsPartitionPoint (starts_below n) (starts_from n) ls i → IsRising ls → i < length ls → nat_eq (get_or ls i d).above n ≡ leads_from ls n
leads-at n ls i d point rise within = at (cases_eq (get_or ls i d).above n)
  where
    none : ((get_or ls i d).above ≡ n → ⊥) → (k : ℕ) → k < length ls → (k < i) ⊎ (i ≤ k) → nat_eq (get_or ls k d).above n ≡ false
    none ne k less (inl before) = ne_eqb (get_or ls k d).above n (λ g. omega (arith, g, point.0 k d (omega arith) before))
    none ne k less (inr behind) = ne_eqb (get_or ls k d).above n (λ g. omega (arith, g, ne, point.1 i d (omega arith) within, rise i k d behind less))

    at : ((get_or ls i d).above ≡ n) ⊎ ((get_or ls i d).above ≡ n → ⊥) → nat_eq (get_or ls i d).above n ≡ leads_from ls n
    at (inl is) = let t : nat_eq (get_or ls i d).above n ≡ true = eq-eqb (get_or ls i d).above n is in t ∙ sym (list_any_at (λ (l : Link). nat_eq l.above n) ls i d within t)
    at (inr ne) =
        ne_eqb (get_or ls i d).above n ne
        ∙ sym (list_any_none (λ (l : Link). nat_eq l.above n) ls (All-from_get_or (λ (l : Link). nat_eq l.above n ≡ false) ls d (λ k less. none ne k less (cases_lt k i))))

pub leads-none : (n : ℕ) (ls : List Link) (i : ℕ) → IsPartitionPoint (starts_below n) (starts_from n) ls i → length ls ≤ i → false ≡ leads_from ls n
leads-none n ls i point past =
    sym (list_any_none (λ (l : Link). nat_eq l.above n) ls (λ k d less. ne_eqb (get_or ls k d).above n (λ g. omega (arith, g, point.0 k d (omega arith) (omega (arith, less, past))))))

-- What a filter keeps rises.
rises-filter : (p : Link → Bool) (ls : List Link) → Rises ls → Rises (filter p ls)
rises-filter p [] rise = tt
rises-filter p (l ∷ ls) rise = at (p l) (rises-filter p ls rise.1)
  where
    at : (b : Bool) → Rises (filter p ls) → Rises (cond b (l ∷ filter p ls) (filter p ls))
    at true others = (all-passing (NotBefore l.above) p ls (all-weaker (NotBefore l.above) (λ m. p m ≡ true → NotBefore l.above m) ls (λ m low e. low) rise.0), others)
    at false others = others

pub rising-filter : (p : Link → Bool) (ls : List Link) → IsRising ls → IsRising (filter p ls)
rising-filter p ls rise = rising-from (filter p ls) (rises-filter p ls (rises-from ls rise))

-- Links of a document rise.
rises-append : (xs ys : List Link) → Rises xs → Rises ys → AllByRecursion (λ x. AllByRecursion (NotBefore x.above) ys) xs → Rises (xs ++ ys)
rises-append [] ys first second across = second
rises-append (x ∷ xs) ys first second across = (all-append (NotBefore x.above) xs ys first.0 across.0, rises-append xs ys first.1 second across.1)

abbrev lead : ℕ → List Row → List Link
lead n ss = map (λ s. link n s.number) ss

lead-rises : (n : ℕ) (ss : List Row) → Rises (lead n ss)
lead-rises n [] = tt
lead-rises n (s ∷ ss) = (each ss, lead-rises n ss)
  where
    each : (ts : List Row) → AllByRecursion (NotBefore n) (lead n ts)
    each [] = tt
    each (t ∷ ts) = (omega arith, each ts)

lead-all : (P : Link → Type 0) (n : ℕ) (ss : List Row) → ((m : ℕ) → P (link n m)) → AllByRecursion P (lead n ss)
lead-all P n [] is = tt
lead-all P n (s ∷ ss) is = (is s.number, lead-all P n ss is)

all-rise : (f : Row → List Row) (m : ℕ) (rs : List Row) → CountOn m rs → Rises (flat_map (λ r. lead r.number (f r)) rs) × AllByRecursion (NotBefore m) (flat_map (λ r. lead r.number (f r)) rs)
all-rise f m [] count = (tt, tt)
all-rise f m (r ∷ rs) count =
    let others = flat_map (λ (s : Row). lead s.number (f s)) rs in
    let rest = all-rise f (m + 1) rs count.1 in
    let behind : AllByRecursion (NotBefore r.number) others = all-weaker (NotBefore (m + 1)) (NotBefore r.number) others (λ l low. omega (arith, low, count.0)) rest.1 in (
      rises-append (lead r.number (f r)) others (lead-rises r.number (f r)) rest.0 (lead-all (λ l. AllByRecursion (NotBefore l.above) others) r.number (f r) (λ k. behind)),
      all-append (NotBefore m) (lead r.number (f r)) others (lead-all (NotBefore m) r.number (f r) (λ k. omega (arith, count.0)))
          (all-weaker (NotBefore (m + 1)) (NotBefore m) others (λ l low. omega (arith, low)) rest.1),
    )

pub links-rise : (root : Plain) (axis : Axis) (p : Numbered → Numbered → Bool) → IsRising (links_of axis p (table root))
links-rise root axis p =
    rising-from (links_of axis p (table root))
    (all-rise (λ r. filter (λ s. is_on axis r s && p (numbered_of r) (numbered_of s)) (table root)) 0 (table root) (table-count root)).0

same_at : (ls : List Link) (i : ℕ) (d e : Link) → i < length ls → get_or ls i d ≡ get_or ls i e
same_at [] i d e less = absurd (omega (arith, less))
same_at (l ∷ ls) zero d e less = refl
same_at (l ∷ ls) (suc i) d e less = same_at ls i d e (omega (arith, less))

-- The links of n or a later node begin at a place by the one that stands there and the one before it.
pub begins-at : (n at : ℕ) (ls : List Link) (d : Link) → IsRising ls → at < length ls → (0 < at → (get_or ls (at - 1) d).above < n) → n ≤ (get_or ls at d).above
    → (at ≤ length ls) × IsPartitionPoint (starts_below n) (starts_from n) ls at
begins-at n at ls d rise within before behind = (
  omega (arith, within),
  (
    λ k e low high.
        let last = rise k (at - 1) e (omega (arith, high)) (omega (arith, within, high)) in
        let same = ap (λ (l : Link). l.above) (same_at ls (at - 1) d e (omega (arith, within, high))) in
        omega (arith, last, same, before (omega (arith, high))),
    λ k e low high.
        let first = rise at k e low high in
        let same = ap (λ (l : Link). l.above) (same_at ls at d e within) in
        omega (arith, first, same, behind),
  ),
)

-- nothing more behind the last link
pub begins-past : (n at : ℕ) (ls : List Link) (d : Link) → IsRising ls → at ≡ length ls → (0 < at → (get_or ls (at - 1) d).above < n)
    → (at ≤ length ls) × IsPartitionPoint (starts_below n) (starts_from n) ls at
begins-past n at ls d rise past before = (
  omega (arith, past),
  (
    λ k e low high.
        let last = rise k (at - 1) e (omega (arith, high)) (omega (arith, past, high)) in
        let same = ap (λ (l : Link). l.above) (same_at ls (at - 1) d e (omega (arith, past, high))) in
        omega (arith, last, same, before (omega (arith, high))),
    λ k e low high. absurd (omega (arith, low, high, past)),
  ),
)
