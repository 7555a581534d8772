-- The labels of a document find, for each node, just the nodes on an axis of it.
use Rattle.std.proofs.Common.{◌≡◌, ℕ, ◌+◌, ◌*◌, ◌<◌, ◌≤◌, Bool, true, false, cond, ◌&&◌, nat_lt, nat_eq, List, [], ◌∷◌, ◌++◌, length, map, filter, refl, sym, ap, ap₂, ◌∙◌, arith, append-nil, length-append}
use Rattle.std.specs.List.{AllByRecursion}
use Rattle.std.proofs.lemmas.Bool.{cond-true, cond-false, ltb-true, lt-ltb, eq-eqb, ne_eqb, and_parts, false_from_ne_true}
use Rattle.std.proofs.lemmas.List.Elements.{filter-append}
use Rattle.tb_span.specs.Lists.{is_related}
use Rattle.tb_span.specs.declared.item.Axis.{Axis}
use Rattle.tb_span.specs.declared.item.Axis.TheVariants.{Child, Descendant}
use Rattle.tb_tree.specs.Plain.{Plain, elem, attr, text, Plains, no_kids, kid, kids_of, one}
use Rattle.tb_tree.specs.Numbers.{counts, kids_numbered, all_numbered}
use Rattle.tb_tree.proofs.lists.Alls.{all-append, all-both, all-weaker}
use Rattle.tb_label.specs.Rows.{Row, leaf_row, elem_row, rows, rows_of, document_row, table, numbered_of, is_on, numbered_on}
use Rattle.tb_label.proofs.RowLaws.{IsUnder, all_under}
use Rattle.tb_label.proofs.PlacedLaws.{rows-numbered}

-- the rows that a row has on the axis by the labels are the nodes on it, in document order
abbrev pub FindsOn : Axis → List Row → Row → Type 0
FindsOn axis rs r = map numbered_of (filter (is_on axis r) rs) ≡ numbered_on axis (r.number + 1) (kids_of r.node)

all-kept : (f : Row → Bool) (xs : List Row) → AllByRecursion (λ x. f x ≡ true) xs → filter f xs ≡ xs
all-kept f [] all = refl
all-kept f (x ∷ xs) all = cond-true (f x) (x ∷ filter f xs) (filter f xs) all.0 ∙ ap (λ ys. x ∷ ys) (all-kept f xs all.1)

none-kept : (f : Row → Bool) (xs : List Row) → AllByRecursion (λ x. f x ≡ false) xs → filter f xs ≡ []
none-kept f [] all = refl
none-kept f (x ∷ xs) all = cond-false (f x) (x ∷ filter f xs) (filter f xs) all.0 ∙ none-kept f xs all.1

-- two tests that agree on the list
kept-same : (f g : Row → Bool) (xs : List Row) → AllByRecursion (λ x. f x ≡ g x) xs → filter f xs ≡ filter g xs
kept-same f g [] all = refl
kept-same f g (x ∷ xs) all = ap₂ (λ b r. cond b (x ∷ r) r) all.0 (kept-same f g xs all.1)

enclosed-below : (r s : Row) → is_on Descendant r s ≡ true → (r.label.start < s.label.start) × (s.label.end < r.label.end)
enclosed-below r s e =
    let parts = and_parts (nat_lt r.label.start s.label.start) (nat_lt s.label.end r.label.end) e in
    (ltb-true r.label.start s.label.start parts.0, ltb-true s.label.end r.label.end parts.1)

enclosed : (axis : Axis) (r s : Row) → is_on axis r s ≡ true → (r.label.start < s.label.start) × (s.label.end < r.label.end)
enclosed Descendant r s e = enclosed-below r s e
enclosed Child r s e =
    enclosed-below r s (and_parts (nat_lt r.label.start s.label.start && nat_lt s.label.end r.label.end) (nat_eq (r.label.level + 1) s.label.level) e).0

-- inside a label the axis is all, or those a level below
inside : (r s : Row) → r.label.start < s.label.start → s.label.end < r.label.end → is_on Descendant r s ≡ true
inside r s starts ends = rw (lt-ltb r.label.start s.label.start starts, lt-ltb s.label.end r.label.end ends) refl

abbrev is_next : ℕ → Row → Bool
is_next level s = nat_eq (level + 1) s.label.level

inside-next : (r s : Row) → r.label.start < s.label.start → s.label.end < r.label.end → is_on Child r s ≡ is_next r.label.level s
inside-next r s starts ends = rw (lt-ltb r.label.start s.label.start starts, lt-ltb s.label.end r.label.end ends) refl

-- The rows below a place that are a level below it are the kids there.
not-next : (at : List ℕ) (k from to : ℕ) (ys : List Row) → AllByRecursion (IsUnder (at ++ k ∷ []) 0 from to) ys → filter (is_next (length at)) ys ≡ []
not-next at k from to ys all =
    none-kept (is_next (length at)) ys
    (all-weaker (IsUnder (at ++ k ∷ []) 0 from to) (λ s. is_next (length at) s ≡ false) ys
    (λ s u. ne_eqb (length at + 1) s.label.level (λ e. omega (arith, e, u.level, ap length u.is, length-append (at ++ k ∷ []) (u.turn ∷ u.rest), length-append at (k ∷ [])))) all)

level_kids : (clock number parent : ℕ) (at : List ℕ) (k : ℕ) (ks : Plains)
    → map numbered_of (filter (is_next (length at)) (rows clock number parent at k ks)) ≡ kids_numbered number ks
level_kids clock number parent at k no_kids = refl
level_kids clock number parent at k (kid (elem name kids) rest) =
    let here = elem_row clock number parent at k name kids in
    let below = rows (clock + 1) (number + 1) number (at ++ k ∷ []) 0 kids in
    let right = rows (clock + 2 * counts kids + 2) (number + 1 + counts kids) parent at (k + 1) rest in
    let kept = filter (is_next (length at)) in
    ap (map numbered_of)
    (cond-true (is_next (length at) here) (here ∷ kept (below ++ right)) (kept (below ++ right)) (eq-eqb (length at + 1) (length at + 1) refl)
    ∙ ap (λ r. here ∷ r)
    (filter-append (is_next (length at)) below right
    ∙ ap (λ r. r ++ kept right) (not-next at k (clock + 1) (clock + 1 + 2 * counts kids) below (all_under (clock + 1) (number + 1) number (at ++ k ∷ []) 0 kids))))
    ∙ ap (λ r. record { number = number; node = elem name kids } ∷ r)
    (level_kids (clock + 2 * counts kids + 2) (number + 1 + counts kids) parent at (k + 1) rest ∙ ap (λ n. kids_numbered n rest) (omega arith))
level_kids clock number parent at k (kid (attr name value) rest) =
    let here = leaf_row clock number parent at k (attr name value) in
    let right = filter (is_next (length at)) (rows (clock + 2) (number + 1) parent at (k + 1) rest) in
    ap (map numbered_of) (cond-true (is_next (length at) here) (here ∷ right) right (eq-eqb (length at + 1) (length at + 1) refl))
    ∙ ap (λ r. record { number = number; node = attr name value } ∷ r)
    (level_kids (clock + 2) (number + 1) parent at (k + 1) rest ∙ ap (λ n. kids_numbered n rest) (omega arith))
level_kids clock number parent at k (kid (text value) rest) =
    let here = leaf_row clock number parent at k (text value) in
    let right = filter (is_next (length at)) (rows (clock + 2) (number + 1) parent at (k + 1) rest) in
    ap (map numbered_of) (cond-true (is_next (length at) here) (here ∷ right) right (eq-eqb (length at + 1) (length at + 1) refl))
    ∙ ap (λ r. record { number = number; node = text value } ∷ r)
    (level_kids (clock + 2) (number + 1) parent at (k + 1) rest ∙ ap (λ n. kids_numbered n rest) (omega arith))

-- a row whose label has those of all rows below a place finds them
own : (axis : Axis) (clock number parent : ℕ) (at : List ℕ) (k : ℕ) (ks : Plains) (r : Row)
    → r.label.start < clock → clock + 2 * counts ks ≤ r.label.end → r.label.level ≡ length at
    → map numbered_of (filter (is_on axis r) (rows clock number parent at k ks)) ≡ numbered_on axis number ks
own Descendant clock number parent at k ks r starts ends level =
    let to = clock + 2 * counts ks in
    let all = rows clock number parent at k ks in
    ap (map numbered_of)
    (all-kept (is_on Descendant r) all
    (all-weaker (IsUnder at k clock to) (λ s. is_on Descendant r s ≡ true) all (λ s u. inside r s (omega (arith, starts, u.starts)) (omega (arith, ends, u.ends))) (all_under clock number parent at k ks)))
    ∙ rows-numbered clock number parent at k ks
own Child clock number parent at k ks r starts ends level =
    let to = clock + 2 * counts ks in
    let all = rows clock number parent at k ks in
    ap (map numbered_of)
    (kept-same (is_on Child r) (is_next (length at)) all
    (all-weaker (IsUnder at k clock to) (λ s. is_on Child r s ≡ is_next (length at) s) all
    (λ s u. inside-next r s (omega (arith, starts, u.starts)) (omega (arith, ends, u.ends)) ∙ ap (λ l. is_next l s) level) (all_under clock number parent at k ks)))
    ∙ level_kids clock number parent at k ks

-- a row that starts no later, and one that ends no earlier, is not below
no_later : (axis : Axis) (r s : Row) → s.label.start ≤ r.label.start → is_on axis r s ≡ false
no_later axis r s early = false_from_ne_true (is_on axis r s) (λ e. omega (arith, early, (enclosed axis r s e).0))

no_earlier : (axis : Axis) (r s : Row) → r.label.end ≤ s.label.end → is_on axis r s ≡ false
no_earlier axis r s late = false_from_ne_true (is_on axis r s) (λ e. omega (arith, late, (enclosed axis r s e).1))

-- what finds its nodes in a part of the rows finds them in all, where the other part has none
finds-left : (axis : Axis) (xs ys : List Row) (r : Row) → filter (is_on axis r) ys ≡ [] → FindsOn axis xs r → FindsOn axis (xs ++ ys) r
finds-left axis xs ys r none found =
    ap (map numbered_of) (filter-append (is_on axis r) xs ys ∙ ap (λ zs. filter (is_on axis r) xs ++ zs) none ∙ append-nil (filter (is_on axis r) xs)) ∙ found

finds-right : (axis : Axis) (xs ys : List Row) (r : Row) → filter (is_on axis r) xs ≡ [] → FindsOn axis ys r → FindsOn axis (xs ++ ys) r
finds-right axis xs ys r none found =
    ap (map numbered_of) (filter-append (is_on axis r) xs ys ∙ ap (λ zs. zs ++ filter (is_on axis r) ys) none) ∙ found

-- rows in an earlier stretch of the counter have none in a later one below them, and the other way round
none_behind : (axis : Axis) (at : List ℕ) (k from to : ℕ) (ys : List Row) (r : Row) → r.label.end ≤ from → AllByRecursion (IsUnder at k from to) ys → filter (is_on axis r) ys ≡ []
none_behind axis at k from to ys r ends all =
    none-kept (is_on axis r) ys (all-weaker (IsUnder at k from to) (λ s. is_on axis r s ≡ false) ys (λ s u. no_earlier axis r s (omega (arith, ends, u.starts, u.lasts))) all)

none_before : (axis : Axis) (at : List ℕ) (k from to : ℕ) (ys : List Row) (r : Row) → to ≤ r.label.start → AllByRecursion (IsUnder at k from to) ys → filter (is_on axis r) ys ≡ []
none_before axis at k from to ys r starts all =
    none-kept (is_on axis r) ys (all-weaker (IsUnder at k from to) (λ s. is_on axis r s ≡ false) ys (λ s u. no_later axis r s (omega (arith, starts, u.ends, u.lasts))) all)

none_here : (axis : Axis) (here r : Row) → here.label.start ≤ r.label.start → filter (is_on axis r) (here ∷ []) ≡ []
none_here axis here r starts = none-kept (is_on axis r) (here ∷ []) (no_later axis r here starts, tt)

-- a node without nodes below it has none on an axis
none-on : (axis : Axis) (n : ℕ) → [] ≡ numbered_on axis n no_kids
none-on Child n = refl
none-on Descendant n = refl

-- An attribute or a text has nothing below it.
leaf_finds : (axis : Axis) (clock number parent : ℕ) (at : List ℕ) (k : ℕ) (node : Plain) (rest : Plains) → kids_of node ≡ no_kids
    → AllByRecursion (FindsOn axis (rows (clock + 2) (number + 1) parent at (k + 1) rest)) (rows (clock + 2) (number + 1) parent at (k + 1) rest)
    → AllByRecursion (FindsOn axis (leaf_row clock number parent at k node ∷ rows (clock + 2) (number + 1) parent at (k + 1) rest))
    (leaf_row clock number parent at k node ∷ rows (clock + 2) (number + 1) parent at (k + 1) rest)
leaf_finds axis clock number parent at k node rest none found =
    let here = leaf_row clock number parent at k node in
    let right = rows (clock + 2) (number + 1) parent at (k + 1) rest in
    let to = clock + 2 + 2 * counts rest in
    let right_under = all_under (clock + 2) (number + 1) parent at (k + 1) rest in (
      finds-left axis (here ∷ []) right here (none_behind axis at (k + 1) (clock + 2) to right here (omega arith) right_under)
          (ap (map numbered_of) (none_here axis here here (omega arith)) ∙ none-on axis (number + 1) ∙ ap (numbered_on axis (number + 1)) (sym none)),
      all-weaker (λ r. FindsOn axis right r × IsUnder at (k + 1) (clock + 2) to r) (FindsOn axis (here ∷ right)) right
          (λ r f. finds-right axis (here ∷ []) right r (none_here axis here r (omega (arith, f.1.starts))) f.0)
          (all-both (FindsOn axis right) (IsUnder at (k + 1) (clock + 2) to) right found right_under),
    )

all_find-rows : (axis : Axis) (clock number parent : ℕ) (at : List ℕ) (k : ℕ) (ks : Plains) → AllByRecursion (FindsOn axis (rows clock number parent at k ks)) (rows clock number parent at k ks)
all_find-rows axis clock number parent at k no_kids = tt
all_find-rows axis clock number parent at k (kid (elem name kids) rest) =
    let here = elem_row clock number parent at k name kids in
    let at' = at ++ k ∷ [] in
    let next = clock + 2 * counts kids + 2 in
    let to = next + 2 * counts rest in
    let below = rows (clock + 1) (number + 1) number at' 0 kids in
    let right = rows next (number + 1 + counts kids) parent at (k + 1) rest in
    let IsBelow = IsUnder at' 0 (clock + 1) (clock + 1 + 2 * counts kids) in
    let IsRight = IsUnder at (k + 1) next to in
    let below_under = all_under (clock + 1) (number + 1) number at' 0 kids in
    let right_under = all_under next (number + 1 + counts kids) parent at (k + 1) rest in
    let own_found : FindsOn axis below here =
    own axis (clock + 1) (number + 1) number at' 0 kids here (omega arith) (omega arith) (sym (length-append at (k ∷ []))) in
    let first : FindsOn axis (here ∷ (below ++ right)) here =
    finds-right axis (here ∷ []) (below ++ right) here (none_here axis here here (omega arith))
    (finds-left axis below right here (none_behind axis at (k + 1) next to right here (omega arith) right_under) own_found) in
    let inner =
    all-weaker (λ r. FindsOn axis below r × IsBelow r) (FindsOn axis (here ∷ (below ++ right))) below
    (λ r f. finds-right axis (here ∷ []) (below ++ right) r (none_here axis here r (omega (arith, f.1.starts)))
    (finds-left axis below right r (none_behind axis at (k + 1) next to right r (omega (arith, f.1.ends)) right_under) f.0))
    (all-both (FindsOn axis below) IsBelow below (all_find-rows axis (clock + 1) (number + 1) number at' 0 kids) below_under) in
    let later =
    all-weaker (λ r. FindsOn axis right r × IsRight r) (FindsOn axis (here ∷ (below ++ right))) right
    (λ r f. finds-right axis (here ∷ []) (below ++ right) r (none_here axis here r (omega (arith, f.1.starts)))
    (finds-right axis below right r (none_before axis at' 0 (clock + 1) (clock + 1 + 2 * counts kids) below r (omega (arith, f.1.starts)) below_under) f.0))
    (all-both (FindsOn axis right) IsRight right (all_find-rows axis next (number + 1 + counts kids) parent at (k + 1) rest) right_under) in
    (first, all-append (FindsOn axis (here ∷ (below ++ right))) below right inner later)
all_find-rows axis clock number parent at k (kid (attr name value) rest) =
    leaf_finds axis clock number parent at k (attr name value) rest refl (all_find-rows axis (clock + 2) (number + 1) parent at (k + 1) rest)
all_find-rows axis clock number parent at k (kid (text value) rest) =
    leaf_finds axis clock number parent at k (text value) rest refl (all_find-rows axis (clock + 2) (number + 1) parent at (k + 1) rest)

-- In a document the labels find, for each node and the document node, all the nodes on the axis and no
-- others, in document order.
pub all_find_on : (axis : Axis) (root : Plain) → AllByRecursion (FindsOn axis (table root)) (table root)
all_find_on axis root =
    let here = document_row root in
    let all = rows_of root in
    let under = all_under 2 1 0 [] 0 (one root) in
    let to = 2 + 2 * counts (one root) in (
      finds-right axis (here ∷ []) all here (none_here axis here here (omega arith)) (own axis 2 1 0 [] 0 (one root) here (omega arith) (omega arith) refl),
      all-weaker (λ r. FindsOn axis all r × IsUnder [] 0 2 to r) (FindsOn axis (table root)) all
          (λ r f. finds-right axis (here ∷ []) all r (none_here axis here r (omega (arith, f.1.starts))) f.0)
          (all-both (FindsOn axis all) (IsUnder [] 0 2 to) all (all_find-rows axis 2 1 0 [] 0 (one root)) under),
    )

-- the second row is below the first, by their labels
abbrev pub is_below : Row → Row → Bool
is_below r s = is_related Descendant r.label s.label

abbrev pub Finds : List Row → Row → Type 0
Finds rs r = map numbered_of (filter (is_below r) rs) ≡ all_numbered (r.number + 1) (kids_of r.node)

-- the same of the nodes below each node
pub all_find : (root : Plain) → AllByRecursion (Finds (rows_of root)) (rows_of root)
all_find root = all_find-rows Descendant 2 1 0 [] 0 (one root)
