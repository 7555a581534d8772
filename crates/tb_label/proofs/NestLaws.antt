-- The lists of one document nest, and so can be joined.
use Rattle.std.proofs.Common.{◌+◌, ◌*◌, ◌<◌, ◌≤◌, Bool, true, false, if◌then◌else◌, List, [], ◌∷◌, All, length, map, refl, ap, arith}
use Rattle.std.specs.List.{AllByRecursion, filter}
use Rattle.std.proofs.lemmas.List.{length-map}
use Rattle.std.proofs.lemmas.List.Sums.{length-filter, count_by-le-length}
use Rattle.std.proofs.lemmas.List.Elements.{All-from_recursion}
use Rattle.std.proofs.lemmas.List.Kept.{AllPairs-cons}
use Rattle.tb_span.specs.Span.{Nests, same, before, after, above, below}
use Rattle.tb_span.specs.Lists.{IsSortedByStart, Nest, AreJoinable}
use Rattle.tb_span.specs.declared.item.Item.{Item}
use Rattle.tb_tree.specs.Plain.{Plain, one}
use Rattle.tb_tree.specs.Numbers.{count}
use Rattle.tb_tree.specs.Meets.{meets}
use Rattle.tb_tree.specs.declared.node_test.Test.{Test}
use Rattle.tb_label.specs.Rows.{Row, rows_of, document_row, table, item_of, listed, document_label, Follows, inside, beside}
use Rattle.tb_label.specs.Stores.{document_item_of}
use Rattle.tb_tree.proofs.lists.Alls.{all-both, all-kept, all-weaker}
use Rattle.tb_label.proofs.RowLaws.{IsUnder, AllFollow, all_under, all_follow, length-rows}

abbrev Rises : Row → Row → Type 0
Rises x y = x.label.start < y.label.start

abbrev AllRise : List Row → Type 0
AllRise [] = Unit {0}
AllRise (x ∷ xs) = AllByRecursion (Rises x) xs × AllRise xs

rises : (x y : Row) → x.label.start < x.label.end → Follows x y → Rises x y
rises x y lasts (inside at over) = over.starts_before
rises x y lasts (beside at past) = omega (arith, lasts, past)

all_rise : (rs : List Row) → AllFollow rs → AllByRecursion (λ r. r.label.start < r.label.end) rs → AllRise rs
all_rise [] follow last = tt
all_rise (x ∷ xs) follow last = (all-weaker (Follows x) (Rises x) xs (λ y. rises x y last.0) follow.0, all_rise xs follow.1 last.1)

sorted-one : (x : Row) (ys : List Row) (keep : Bool) → AllByRecursion (λ y. x.label.start < y.label.start) (map item_of ys) → IsSortedByStart (map item_of ys)
    → IsSortedByStart (map item_of (if keep then x ∷ ys else ys))
sorted-one x ys true first others = AllPairs-cons (λ u v. u.label.start < v.label.start) (item_of x) (map item_of ys) (All-from_recursion (λ y. x.label.start < y.label.start) (map item_of ys) first) others
sorted-one x ys false first others = others

sorted : (p : Row → Bool) (rs : List Row) → AllRise rs → IsSortedByStart (map item_of (filter p rs))
sorted p [] all = λ i j d less within. absurd (omega (arith, within))
sorted p (x ∷ xs) all =
    sorted-one x (filter p xs) (p x) (all-kept (Rises x) (λ y. x.label.start < y.label.start) item_of p xs (λ y r. r) all.0) (sorted p xs all.1)

nests-on : (x y : Row) → Follows x y → Nests x.label y.label
nests-on x y (inside at is) = above is
nests-on x y (beside at is) = before is

nests-back : (x y : Row) → Follows x y → Nests y.label x.label
nests-back x y (inside at is) = below is
nests-back x y (beside at is) = after is

all_nest : (rs : List Row) → AllFollow rs → AllByRecursion (λ x. AllByRecursion (λ y. Nests x.label y.label) rs) rs
all_nest [] follow = tt
all_nest (x ∷ xs) follow = (
  (same refl, all-weaker (Follows x) (λ y. Nests x.label y.label) xs (nests-on x) follow.0),
  all-both (λ z. Nests z.label x.label) (λ z. AllByRecursion (λ y. Nests z.label y.label) xs) xs
      (all-weaker (Follows x) (λ z. Nests z.label x.label) xs (nests-back x) follow.0) (all_nest xs follow.1),
)

follow_of : (root : Plain) → AllFollow (rows_of root)
follow_of root = all_follow 2 1 0 [] 0 (one root)

under_of : (root : Plain) → AllByRecursion (IsUnder [] 0 2 (2 + 2 * count root)) (rows_of root)
under_of root = all_under 2 1 0 [] 0 (one root)

sorted_of : (test : Test) (root : Plain) → IsSortedByStart (listed test root)
sorted_of test root =
    sorted (λ r. meets test r.node) (rows_of root)
    (all_rise (rows_of root) (follow_of root) (all-weaker (IsUnder [] 0 2 (2 + 2 * count root)) (λ r. r.label.start < r.label.end) (rows_of root) (λ r u. u.lasts) (under_of root)))

nest_in : (p q : Row → Bool) (rs : List Row) → AllFollow rs → Nest (map item_of (filter p rs)) (map item_of (filter q rs))
nest_in p q rs follow =
    All-from_recursion (λ x. All (λ y. Nests x.label y.label) (map item_of (filter q rs))) (map item_of (filter p rs))
    (all-kept (λ x. AllByRecursion (λ y. Nests x.label y.label) rs) (λ x. All (λ y. Nests x.label y.label) (map item_of (filter q rs))) item_of p rs
    (λ x h. All-from_recursion (λ y. Nests x.label y.label) (map item_of (filter q rs)) (all-kept (λ y. Nests x.label y.label) (λ y. Nests x.label y.label) item_of q rs (λ y n. n) h))
    (all_nest rs follow))

nest_of : (s t : Test) (root : Plain) → Nest (listed s root) (listed t root)
nest_of s t root = nest_in (λ r. meets s r.node) (λ r. meets t r.node) (rows_of root) (follow_of root)

pub listed-few : (test : Test) (root : Plain) → length (listed test root) ≤ count root
listed-few test root =
    omega (
      arith,
      length-map (filter (λ r. meets test r.node) (rows_of root)) item_of,
      length-filter (λ r. meets test r.node) (rows_of root),
      count_by-le-length (λ r. meets test r.node) (rows_of root),
      length-rows 2 1 0 [] 0 (one root),
    )

pub joinable : (s t : Test) (root : Plain) → AreJoinable (listed s root) (listed t root)
joinable s t root = record {
  ancestors_sorted = sorted_of s root;
  descendants_sorted = sorted_of t root;
  ancestors_nest = nest_of s s root;
  descendants_nest = nest_of t t root;
  both_nest = nest_of s t root;
}

document_above : (root : Plain) (r : Row) → IsUnder [] 0 2 (2 + 2 * count root) r → Nests (document_label root) r.label
document_above root r u =
    above (record { starts_before = omega (arith, u.starts); ends_after = omega (arith, u.ends); level = omega (arith, u.level, ap length u.is) })

alone-all : (P : Item → Type 0) (x : Item) → P x → All P (x ∷ [])
alone-all P x p = All-from_recursion P (x ∷ []) (p, tt)

pub document_joinable : (test : Test) (root : Plain) → AreJoinable (document_item_of root ∷ []) (listed test root)
document_joinable test root =
    let document = document_item_of root in
    record {
      ancestors_sorted = AllPairs-cons (λ u v. u.label.start < v.label.start) document [] (All-from_recursion (λ v. document.label.start < v.label.start) [] tt) (λ i j d less within. absurd (omega (arith, within)));
      descendants_sorted = sorted_of test root;
      ancestors_nest = alone-all (λ x. All (λ y. Nests x.label y.label) (document ∷ [])) document (alone-all (λ y. Nests document.label y.label) document (same refl));
      descendants_nest = nest_of test test root;
      both_nest =
          alone-all (λ x. All (λ y. Nests x.label y.label) (listed test root)) document
          (All-from_recursion (λ y. Nests document.label y.label) (listed test root)
          (all-kept (IsUnder [] 0 2 (2 + 2 * count root)) (λ y. Nests document.label y.label) item_of (λ r. meets test r.node) (rows_of root) (document_above root) (under_of root)));
    }

-- The document node's row stands above all others, and its label lasts.
document_follows : (root : Plain) (r : Row) → IsUnder [] 0 2 (2 + 2 * count root) r → Follows (document_row root) r
document_follows root r u =
    inside (u.turn, u.rest, u.is) (record { starts_before = omega (arith, u.starts); ends_after = omega (arith, u.ends); level = omega (arith, u.level, ap length u.is) })

follow_table : (root : Plain) → AllFollow (table root)
follow_table root = (all-weaker (IsUnder [] 0 2 (2 + 2 * count root)) (Follows (document_row root)) (rows_of root) (document_follows root) (under_of root), follow_of root)

last_table : (root : Plain) → AllByRecursion (λ r. r.label.start < r.label.end) (table root)
last_table root = (omega arith, all-weaker (IsUnder [] 0 2 (2 + 2 * count root)) (λ r. r.label.start < r.label.end) (rows_of root) (λ r u. u.lasts) (under_of root))

-- Any two lists of rows of one document can be joined, the document node's row among them.
pub rows_joinable : (p q : Row → Bool) (root : Plain) → AreJoinable (map item_of (filter p (table root))) (map item_of (filter q (table root)))
rows_joinable p q root =
    let rise = all_rise (table root) (follow_table root) (last_table root) in
    record {
      ancestors_sorted = sorted p (table root) rise;
      descendants_sorted = sorted q (table root) rise;
      ancestors_nest = nest_in p p (table root) (follow_table root);
      descendants_nest = nest_in q q (table root) (follow_table root);
      both_nest = nest_in p q (table root) (follow_table root);
    }
