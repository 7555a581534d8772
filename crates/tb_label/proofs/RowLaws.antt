-- Labels agree with places.
use Rattle.std.proofs.Common.{◌≡◌, ℕ, ◌+◌, ◌*◌, ◌<◌, ◌≤◌, List, [], ◌∷◌, ◌++◌, length, refl, sym, ap, ◌∙◌, arith, append_assoc, length-append}
use Rattle.std.specs.List.{AllByRecursion}
use Rattle.tb_tree.specs.Plain.{Plain, elem, attr, text, Plains, no_kids, kid}
use Rattle.tb_tree.specs.Numbers.{counts}
use Rattle.tb_tree.proofs.lists.Alls.{all-append, all-weaker}
use Rattle.tb_label.specs.Rows.{Row, leaf_row, elem_row, rows, Follows, inside, beside}

-- a row below this place, from its k-th kid on, whose label lies in the stretch of the counter
pub record IsUnder (at : List ℕ) (k from to : ℕ) (r : Row) : Type 0 where
  pub turn : ℕ
  pub rest : List ℕ
  pub later : k ≤ turn
  pub is : r.place ≡ at ++ turn ∷ rest
  pub starts : from ≤ r.label.start
  pub lasts : r.label.start < r.label.end
  pub ends : r.label.end < to
  pub level : r.label.level ≡ length r.place

-- each row is followed by all that stand behind it
abbrev pub AllFollow : List Row → Type 0
AllFollow [] = Unit {0}
AllFollow (x ∷ xs) = AllByRecursion (Follows x) xs × AllFollow xs

follow-append : (xs ys : List Row) → AllFollow xs → AllFollow ys → AllByRecursion (λ x. AllByRecursion (Follows x) ys) xs → AllFollow (xs ++ ys)
follow-append [] ys p q r = q
follow-append (x ∷ xs) ys p q r = (all-append (Follows x) xs ys p.0 r.0, follow-append xs ys p.1 q r.1)

length-place : (at : List ℕ) (k : ℕ) → length (at ++ k ∷ []) ≡ length at + 1
length-place at k = length-append at (k ∷ [])

-- what a kid has below it stands below the kid's parent, too
under_kid : (at : List ℕ) (k from to : ℕ) (from' to' : ℕ) → from' ≤ from → to ≤ to' → (r : Row) → IsUnder (at ++ k ∷ []) 0 from to r → IsUnder at k from' to' r
under_kid at k from to from' to' low high r u = record {
  turn = k;
  rest = u.turn ∷ u.rest;
  later = omega arith;
  is = u.is ∙ append_assoc at (k ∷ []) (u.turn ∷ u.rest);
  starts = omega (arith, u.starts);
  lasts = u.lasts;
  ends = omega (arith, u.ends);
  level = u.level;
}

under_later : (at : List ℕ) (k from to : ℕ) (from' to' : ℕ) → from' ≤ from → to ≤ to' → (r : Row) → IsUnder at (k + 1) from to r → IsUnder at k from' to' r
under_later at k from to from' to' low high r u = record {
  turn = u.turn;
  rest = u.rest;
  later = omega (arith, u.later);
  is = u.is;
  starts = omega (arith, u.starts);
  lasts = u.lasts;
  ends = omega (arith, u.ends);
  level = u.level;
}

leaf_under : (clock number parent : ℕ) (at : List ℕ) (k : ℕ) (node : Plain) (rest : Plains)
    → AllByRecursion (IsUnder at (k + 1) (clock + 2) (clock + 2 + 2 * counts rest)) (rows (clock + 2) (number + 1) parent at (k + 1) rest)
    → AllByRecursion (IsUnder at k clock (clock + 2 * (1 + counts rest))) (leaf_row clock number parent at k node ∷ rows (clock + 2) (number + 1) parent at (k + 1) rest)
leaf_under clock number parent at k node rest right =
    let to = clock + 2 * (1 + counts rest) in (
      record { turn = k; rest = []; later = omega arith; is = refl; starts = omega arith; lasts = omega arith; ends = omega arith; level = sym (length-place at k) },
      all-weaker _ (IsUnder at k clock to) (rows (clock + 2) (number + 1) parent at (k + 1) rest) (under_later at k (clock + 2) (clock + 2 + 2 * counts rest) clock to (omega arith) (omega arith)) right,
    )

-- All rows below a place stand below it, in their stretch of the counter.
pub all_under : (clock number parent : ℕ) (at : List ℕ) (k : ℕ) (ks : Plains)
    → AllByRecursion (IsUnder at k clock (clock + 2 * counts ks)) (rows clock number parent at k ks)
all_under clock number parent at k no_kids = tt
all_under clock number parent at k (kid (elem name kids) rest) =
    let to = clock + 2 * counts (kid (elem name kids) rest) in
    let here : IsUnder at k clock to (elem_row clock number parent at k name kids) =
    record { turn = k; rest = []; later = omega arith; is = refl; starts = omega arith; lasts = omega arith; ends = omega arith; level = sym (length-place at k) } in
    let below =
    all-weaker _ (IsUnder at k clock to) (rows (clock + 1) (number + 1) number (at ++ k ∷ []) 0 kids)
    (under_kid at k (clock + 1) (clock + 1 + 2 * counts kids) clock to (omega arith) (omega arith)) (all_under (clock + 1) (number + 1) number (at ++ k ∷ []) 0 kids) in
    let right =
    all-weaker _ (IsUnder at k clock to) (rows (clock + 2 * counts kids + 2) (number + 1 + counts kids) parent at (k + 1) rest)
    (under_later at k (clock + 2 * counts kids + 2) (clock + 2 * counts kids + 2 + 2 * counts rest) clock to (omega arith) (omega arith))
    (all_under (clock + 2 * counts kids + 2) (number + 1 + counts kids) parent at (k + 1) rest) in
    (here, all-append (IsUnder at k clock to) _ _ below right)
all_under clock number parent at k (kid (attr name value) rest) = leaf_under clock number parent at k (attr name value) rest (all_under (clock + 2) (number + 1) parent at (k + 1) rest)
all_under clock number parent at k (kid (text value) rest) = leaf_under clock number parent at k (text value) rest (all_under (clock + 2) (number + 1) parent at (k + 1) rest)

-- A row is followed by what is below it, and by what is right of it.
below_follows : (clock number parent : ℕ) (at : List ℕ) (k : ℕ) (name : List ℕ) (kids : Plains) (r : Row)
    → IsUnder (at ++ k ∷ []) 0 (clock + 1) (clock + 1 + 2 * counts kids) r → Follows (elem_row clock number parent at k name kids) r
below_follows clock number parent at k name kids r u =
    inside (u.turn, u.rest, u.is)
    (record {
      starts_before = omega (arith, u.starts);
      ends_after = omega (arith, u.ends);
      level = omega (arith, u.level, ap length u.is, length-append (at ++ k ∷ []) (u.turn ∷ u.rest), length-place at k);
    })

right_follows : (at : List ℕ) (k from to : ℕ) (x : Row) (rest : List ℕ) → x.place ≡ at ++ k ∷ rest → x.label.end < from
    → (r : Row) → IsUnder at (k + 1) from to r → Follows x r
right_follows at k from to x rest is before r u =
    beside (at, k, u.turn, rest, u.rest, is, u.is, omega (arith, u.later)) (omega (arith, u.starts))

pub all_follow : (clock number parent : ℕ) (at : List ℕ) (k : ℕ) (ks : Plains) → AllFollow (rows clock number parent at k ks)
all_follow clock number parent at k no_kids = tt
all_follow clock number parent at k (kid (elem name kids) rest) =
    let here = elem_row clock number parent at k name kids in
    let next = clock + 2 * counts kids + 2 in
    let below = rows (clock + 1) (number + 1) number (at ++ k ∷ []) 0 kids in
    let right = rows next (number + 1 + counts kids) parent at (k + 1) rest in
    let below_under = all_under (clock + 1) (number + 1) number (at ++ k ∷ []) 0 kids in
    let right_under = all_under next (number + 1 + counts kids) parent at (k + 1) rest in
    let first =
    all-append (Follows here) below right (all-weaker _ _ below (below_follows clock number parent at k name kids) below_under)
    (all-weaker _ _ right (right_follows at k next (next + 2 * counts rest) here [] refl (omega arith)) right_under) in
    let across =
    all-weaker (IsUnder (at ++ k ∷ []) 0 (clock + 1) (clock + 1 + 2 * counts kids)) (λ x. AllByRecursion (Follows x) right) below
    (λ x u. all-weaker _ _ right (right_follows at k next (next + 2 * counts rest) x (u.turn ∷ u.rest) (u.is ∙ append_assoc at (k ∷ []) (u.turn ∷ u.rest)) (omega (arith, u.ends))) right_under)
    below_under in
    (first, follow-append below right (all_follow (clock + 1) (number + 1) number (at ++ k ∷ []) 0 kids) (all_follow next (number + 1 + counts kids) parent at (k + 1) rest) across)
all_follow clock number parent at k (kid (attr name value) rest) = (
  all-weaker _ _ (rows (clock + 2) (number + 1) parent at (k + 1) rest)
      (right_follows at k (clock + 2) (clock + 2 + 2 * counts rest) (leaf_row clock number parent at k (attr name value)) [] refl (omega arith)) (all_under (clock + 2) (number + 1) parent at (k + 1) rest),
  all_follow (clock + 2) (number + 1) parent at (k + 1) rest,
)
all_follow clock number parent at k (kid (text value) rest) = (
  all-weaker _ _ (rows (clock + 2) (number + 1) parent at (k + 1) rest)
      (right_follows at k (clock + 2) (clock + 2 + 2 * counts rest) (leaf_row clock number parent at k (text value)) [] refl (omega arith)) (all_under (clock + 2) (number + 1) parent at (k + 1) rest),
  all_follow (clock + 2) (number + 1) parent at (k + 1) rest,
)

pub length-rows : (clock number parent : ℕ) (at : List ℕ) (k : ℕ) (ks : Plains) → length (rows clock number parent at k ks) ≡ counts ks
length-rows clock number parent at k no_kids = refl
length-rows clock number parent at k (kid (elem name kids) rest) =
    omega (
      arith,
      length-append (rows (clock + 1) (number + 1) number (at ++ k ∷ []) 0 kids) (rows (clock + 2 * counts kids + 2) (number + 1 + counts kids) parent at (k + 1) rest),
      length-rows (clock + 1) (number + 1) number (at ++ k ∷ []) 0 kids,
      length-rows (clock + 2 * counts kids + 2) (number + 1 + counts kids) parent at (k + 1) rest,
    )
length-rows clock number parent at k (kid (attr name value) rest) = omega (arith, length-rows (clock + 2) (number + 1) parent at (k + 1) rest)
length-rows clock number parent at k (kid (text value) rest) = omega (arith, length-rows (clock + 2) (number + 1) parent at (k + 1) rest)
