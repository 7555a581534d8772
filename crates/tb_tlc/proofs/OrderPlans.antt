-- The operators of `ORDER BY`: the columns of the keys, and the rows in their order.
use Rattle.std.proofs.Common.{◌≡◌, ℕ, ◌+◌, Bool, true, false, if◌then◌else◌, List, [], ◌∷◌, ◌++◌, map, refl, sym, ap, ◌∙◌, subst, Option, Some, None, option_map, option_and_then, append-nil}
use Rattle.std.specs.List.{AllByRecursion}
use Rattle.std.specs.Ordering.{is_gt}
use Rattle.std.specs.declared.cmp.Ordering.{Ordering}
use Rattle.std.proofs.lemmas.Option.{none-some, same_Some}
use Rattle.std.proofs.lemmas.Simd.{map-map}
use Rattle.std.proofs.lemmas.List.{map-id}
use Rattle.std.proofs.lemmas.List.Elements.{All-from_recursion}
use Rattle.tb_tree.specs.Documents.{Docs}
use Rattle.tb_tree.specs.Numbers.{Numbered}
use Rattle.tb_tree.specs.Rows.{Cell, Row, first_rows}
use Rattle.tb_tree.proofs.lists.Alls.{all-append, all-weaker, all-map}
use Rattle.tb_tree.proofs.lists.Maps.{map_same}
use Rattle.tb_query.specs.Groups.{nodes_over}
use Rattle.tb_query.specs.Lists.{with_sorted, sorted, all_given, joined}
use Rattle.tb_query.specs.Operands.{operand_values, first_of}
use Rattle.tb_query.specs.Operators.{values_at, row_keys}
use Rattle.tb_query.specs.Order.{SortValue, sort_values_cmp, sort_value, keyed}
use Rattle.tb_query.specs.Tuples.{Tuple, Lets}
use Rattle.tb_query.specs.declared.clause.Key.{Key}
use Rattle.tb_query.specs.declared.path.Path.{Path}
use Rattle.tb_tlc.specs.Planned.{Scope, Draft, operand_ops, operand_width, operand_column, keys_ops, keys_width, sort_keys, order_ops, with_keys}
use Rattle.tb_tlc.proofs.RowLaws.{rows_after, rows-append, MakesRows, LooksAlone, alone-makes, each-row}
use Rattle.tb_tlc.proofs.AloneLaws.{alone-keys}
use Rattle.tb_tlc.proofs.TakesLaws.{Takes, takes-none, takes-map, takes-both}
use Rattle.tb_tlc.proofs.ServedLaws.{Serves, serves-more, operand_cells, takes-values}
use Rattle.tb_tlc.proofs.KeptLaws.{kept-each}
use Rattle.tb_tlc.proofs.GroupPlans.{Serving}

-- Sorting is of what functions give.

with_sorted-map : {A B : Type 0} (cmp : B → B → Ordering) (f : A → B) (x : A) (ys : List A)
    → with_sorted cmp (f x) (map f ys) ≡ map f (with_sorted (λ a b. cmp (f a) (f b)) x ys)
with_sorted-map cmp f x [] = refl
with_sorted-map cmp f x (y ∷ ys) = by (is_gt (cmp (f x) (f y))) (with_sorted-map cmp f x ys)
  where
    by : (b : Bool) → with_sorted cmp (f x) (map f ys) ≡ map f (with_sorted (λ a b. cmp (f a) (f b)) x ys)
        → (if b then f y ∷ with_sorted cmp (f x) (map f ys) else f x ∷ f y ∷ map f ys)
        ≡ map f (if b then y ∷ with_sorted (λ a b. cmp (f a) (f b)) x ys else x ∷ y ∷ ys)
    by true others = ap (λ t. f y ∷ t) others
    by false others = refl

pub sorted-map : {A B : Type 0} (cmp : B → B → Ordering) (f : A → B) (xs : List A) → sorted cmp (map f xs) ≡ map f (sorted (λ a b. cmp (f a) (f b)) xs)
sorted-map cmp f [] = refl
sorted-map cmp f (x ∷ xs) = ap (with_sorted cmp (f x)) (sorted-map cmp f xs) ∙ with_sorted-map cmp f x (sorted (λ a b. cmp (f a) (f b)) xs)

-- by what two functions give that agree on the items
pub sorted-alike : {A B : Type 0} (cmp : B → B → Ordering) (f g : A → B) (xs : List A) → AllByRecursion (λ x. f x ≡ g x) xs
    → sorted (λ a b. cmp (f a) (f b)) xs ≡ sorted (λ a b. cmp (g a) (g b)) xs
sorted-alike {A} {B} cmp f g xs agree =
    by f
    ∙ ap (λ ps. map (λ p. p.1) (sorted (λ (p q : B × A). cmp p.0 q.0) ps)) (map_same (λ x. (f x, x)) (λ x. (g x, x)) xs (All-from_recursion (λ x. ◌≡◌ {A = B × A} (f x, x) (g x, x)) xs (all-weaker (λ x. f x ≡ g x) (λ x. ◌≡◌ {A = B × A} (f x, x) (g x, x)) xs (λ x e. ap (λ y. (y, x)) e) agree)))
    ∙ sym (by g)
  where
    by : (h : A → B) → sorted (λ a b. cmp (h a) (h b)) xs ≡ map (λ p. p.1) (sorted (λ (p q : B × A). cmp p.0 q.0) (map (λ x. (h x, x)) xs))
    by h =
        let pair : A → B × A = λ x. (h x, x) in
        sym (ap (map (λ (p : B × A). p.1)) (sorted-map (λ (p q : B × A). cmp p.0 q.0) pair xs)
        ∙ map-map (λ (p : B × A). p.1) pair (sorted (λ a b. cmp (h a) (h b)) xs)
        ∙ map-id (sorted (λ a b. cmp (h a) (h b)) xs))

with_sorted-all : {A : Type 0} (P : A → Type 0) (cmp : A → A → Ordering) (x : A) (ys : List A) → P x → AllByRecursion P ys → AllByRecursion P (with_sorted cmp x ys)
with_sorted-all P cmp x [] this all = (this, tt)
with_sorted-all P cmp x (y ∷ ys) this all = by (is_gt (cmp x y)) (with_sorted-all P cmp x ys this all.1)
  where
    by : (b : Bool) → AllByRecursion P (with_sorted cmp x ys) → AllByRecursion P (if b then y ∷ with_sorted cmp x ys else x ∷ y ∷ ys)
    by true others = (all.0, others)
    by false others = (this, all)

pub sorted-all : {A : Type 0} (P : A → Type 0) (cmp : A → A → Ordering) (xs : List A) → AllByRecursion P xs → AllByRecursion P (sorted cmp xs)
sorted-all P cmp [] all = tt
sorted-all P cmp (x ∷ xs) all = with_sorted-all P cmp x (sorted cmp xs) all.0 (sorted-all P cmp xs all.1)

-- Without keys all are tied.
with_sorted-tied : {A : Type 0} (f : A → List SortValue) (x : A) (ys : List A) → f x ≡ [] → with_sorted (λ a b. sort_values_cmp (f a) (f b)) x ys ≡ x ∷ ys
with_sorted-tied f x [] none = refl
with_sorted-tied f x (y ∷ ys) none =
    ap (λ ks. if is_gt (sort_values_cmp ks (f y)) then y ∷ with_sorted (λ a b. sort_values_cmp (f a) (f b)) x ys else x ∷ y ∷ ys) none

pub sorted-tied : {A : Type 0} (f : A → List SortValue) (xs : List A) → AllByRecursion (λ x. f x ≡ []) xs → sorted (λ a b. sort_values_cmp (f a) (f b)) xs ≡ xs
sorted-tied f [] none = refl
sorted-tied f (x ∷ xs) none =
    ap (with_sorted (λ a b. sort_values_cmp (f a) (f b)) x) (sorted-tied f xs none.1) ∙ with_sorted-tied f x xs none.0

-- Items that give one each give them one after the other.
joined-single : {A B : Type 0} (give : A → Option B) (xs : List A) → option_map joined (all_given (λ x. option_map (λ y. y ∷ []) (give x)) xs) ≡ all_given give xs
joined-single give [] = refl
joined-single {A} {B} give (x ∷ xs) =
    by (give x) (all_given (λ x. option_map (λ y. y ∷ []) (give x)) xs) ∙ ap (λ others. option_and_then (λ y. option_map (λ ys. y ∷ ys) others) (give x)) (joined-single give xs)
  where
    by : (o : Option B) (others : Option (List (List B)))
        → option_map joined (option_and_then (λ y. option_map (λ ys. y ∷ ys) others) (option_map (λ y. y ∷ []) o)) ≡ option_and_then (λ y. option_map (λ ys. y ∷ ys) (option_map joined others)) o
    by None others = refl
    by (Some y) None = refl
    by (Some y) (Some yss) = refl

module _ (docs : Docs) (s : Scope) (at : Path → ℕ) (given : Path → List Numbered) where
  abbrev pub keys_cells : List Key → List Cell
  keys_cells [] = []
  keys_cells (k ∷ keys) = operand_cells docs s at given k.operand ++ keys_cells keys

  -- The values of keys are read in their columns.
  pub takes-keys : (n : ℕ) (row : Row) (keys : List Key) → Serves docs s n at given row
      → Takes docs row (keys_ops s n keys) (keys_width keys) (keys_cells keys) (all_given (sort_value given) keys) (row_keys (sort_keys n keys))
  takes-keys n row [] serves = takes-none docs row []
  takes-keys n row (k ∷ keys) serves =
      let w = operand_width k.operand in
      let cells = operand_cells docs s at given k.operand in
      let one = takes-values docs s at given n row k.operand serves in
      takes-both docs (λ v vs. v ∷ vs) row (operand_ops s n k.operand) (keys_ops s (n + w) keys) w (keys_width keys) cells (keys_cells keys)
      (sort_value given k) (all_given (sort_value given) keys) (λ r. record { value = first_of (values_at (operand_column n k.operand) r); descending = k.descending }) (row_keys (sort_keys (n + w) keys))
      (takes-map docs (λ vs. record { value = first_of vs; descending = k.descending }) row (operand_ops s n k.operand) w cells (operand_values given k.operand) (values_at (operand_column n k.operand)) one)
      (takes-keys (n + w) (row ++ cells) keys (serves-more docs s n w at given row cells serves one.wide))

module _ (docs : Docs) (d : Draft) (lets : Lets) (groups : List (List Tuple)) (serving : Serving docs d lets groups) (keys : List Key) where
  abbrev given_of : List Tuple → Path → List Numbered
  given_of g = nodes_over docs d.scope.lets g

  abbrev cells_of : List Tuple → List Cell
  cells_of g = keys_cells docs d.scope serving.at (given_of g) keys

  -- the row of a group with its keys
  abbrev keyed_row : List Tuple → Row
  keyed_row g = serving.row g ++ cells_of g

  abbrev ServesBefore : List Tuple → Type 0
  ServesBefore g = Serves docs d.scope d.next serving.at (given_of g) (serving.row g)

  takes-group : (g : List Tuple) → ServesBefore g
      → Takes docs (serving.row g) (keys_ops d.scope d.next keys) (keys_width keys) (cells_of g) (all_given (sort_value (given_of g)) keys) (row_keys (sort_keys d.next keys))
  takes-group g serves = takes-keys docs d.scope serving.at (given_of g) d.next (serving.row g) keys serves

  abbrev key_of_group : List Tuple → Option (List SortValue × List Tuple)
  key_of_group g = keyed (nodes_over docs d.scope.lets) keys g

  keyed-map : (g : List Tuple) (o : Option (List SortValue))
      → option_map (λ x. keyed_row g ∷ []) o ≡ option_map (map (λ (k : List SortValue × List Tuple). keyed_row k.1)) (option_map (λ y. y ∷ []) (option_map (λ vs. (vs, g)) o))
  keyed-map g None = refl
  keyed-map g (Some vs) = refl

  keyed-rows : rows_after docs (keys_ops d.scope d.next keys) (map serving.row groups)
      ≡ option_map (map (λ (k : List SortValue × List Tuple). keyed_row k.1)) (all_given key_of_group groups)
  keyed-rows =
      each-row docs (keys_ops d.scope d.next keys) (alone-keys d.scope d.next keys) serving.row (λ g. option_map (λ y. y ∷ []) (key_of_group g)) (λ (k : List SortValue × List Tuple). keyed_row k.1) groups
      (all-weaker ServesBefore _ groups (λ g serves. (takes-group g serves).run ∙ keyed-map g (all_given (sort_value (given_of g)) keys)) serving.each)
      ∙ ap (option_map (map (λ (k : List SortValue × List Tuple). keyed_row k.1))) (joined-single key_of_group groups)

  -- A group with its keys: its row serves it, and shows them.
  abbrev Shows : List SortValue × List Tuple → Type 0
  Shows k = Serves docs d.scope (d.next + keys_width keys) serving.at (given_of k.1) (keyed_row k.1) × (row_keys (sort_keys d.next keys) (keyed_row k.1) ≡ k.0)

  shows-one : (g : List Tuple) (ks : List (List SortValue × List Tuple)) → ServesBefore g → option_map (λ y. y ∷ []) (key_of_group g) ≡ Some ks → AllByRecursion Shows ks
  shows-one g ks serves is = by (all_given (sort_value (given_of g)) keys) refl is
    where
      by : (o : Option (List SortValue)) → all_given (sort_value (given_of g)) keys ≡ o → option_map (λ y. y ∷ []) (option_map (λ vs. (vs, g)) o) ≡ Some ks → AllByRecursion Shows ks
      by None was e = absurd (none-some ks e)
      by (Some vs) was e =
          let t = takes-group g serves in
          let k : List SortValue × List Tuple = (vs, g) in
          let served : Serves docs d.scope (d.next + keys_width keys) serving.at (given_of g) (keyed_row g) = serves-more docs d.scope d.next (keys_width keys) serving.at (given_of g) (serving.row g) (cells_of g) serves t.wide in
          let shown : row_keys (sort_keys d.next keys) (keyed_row g) ≡ vs = ap (λ c. row_keys (sort_keys d.next keys) (serving.row g ++ c)) (sym (append-nil (cells_of g))) ∙ t.shows vs was [] in
          subst (AllByRecursion Shows) (same_Some (k ∷ []) ks e) ((served, shown), tt)

  abbrev in_order : List (List SortValue × List Tuple) → List (List SortValue × List Tuple)
  in_order ks = sorted (λ k l. sort_values_cmp k.0 l.0) ks

  order-rows : (ks : List (List SortValue × List Tuple)) → AllByRecursion Shows ks
      → rows_after docs (order_ops d.next keys) (map (λ (k : List SortValue × List Tuple). keyed_row k.1) ks) ≡ Some (map keyed_row (map (λ k. k.1) (in_order ks)))
  order-rows ks shows =
      by keys refl ∙ ap Some
      (ap (map (λ (k : List SortValue × List Tuple). keyed_row k.1)) (sorted-alike sort_values_cmp (λ (k : List SortValue × List Tuple). row_keys (sort_keys d.next keys) (keyed_row k.1)) (λ k. k.0) ks (all-weaker Shows _ ks (λ k s. s.1) shows))
      ∙ sym (map-map keyed_row (λ (k : List SortValue × List Tuple). k.1) (in_order ks)))
    where
      row_of : List SortValue × List Tuple → Row
      row_of k = keyed_row k.1

      by : (some : List Key) → keys ≡ some
          → rows_after docs (order_ops d.next some) (map (λ (k : List SortValue × List Tuple). keyed_row k.1) ks)
          ≡ Some (map (λ (k : List SortValue × List Tuple). keyed_row k.1) (sorted (λ k l. sort_values_cmp (row_keys (sort_keys d.next some) (keyed_row k.1)) (row_keys (sort_keys d.next some) (keyed_row l.1))) ks))
      by [] is =
          ap (λ l. Some (map (λ (k : List SortValue × List Tuple). keyed_row k.1) l))
          (sym (sorted-tied (λ (k : List SortValue × List Tuple). []) ks (all-weaker Shows (λ k. ◌≡◌ {A = List SortValue} [] []) ks (λ k s. refl) shows)))
      by (k ∷ more) is = ap Some (sorted-map (λ r o. sort_values_cmp (row_keys (sort_keys d.next (k ∷ more)) r) (row_keys (sort_keys d.next (k ∷ more)) o)) (λ (k : List SortValue × List Tuple). keyed_row k.1) ks)

  shows-all : (ks : List (List SortValue × List Tuple)) → all_given key_of_group groups ≡ Some ks → AllByRecursion Shows ks
  shows-all ks is = by (all_given (λ g. option_map (λ y. y ∷ []) (key_of_group g)) groups) refl (joined-single key_of_group groups ∙ is)
    where
      by : (o : Option (List (List (List SortValue × List Tuple)))) → all_given (λ g. option_map (λ y. y ∷ []) (key_of_group g)) groups ≡ o → option_map joined o ≡ Some ks → AllByRecursion Shows ks
      by None was e = absurd (none-some ks e)
      by (Some kss) was e =
          subst (AllByRecursion Shows) (same_Some (joined kss) ks e)
          (kept-each ServesBefore Shows (λ g. option_map (λ y. y ∷ []) (key_of_group g)) shows-one groups kss serving.each was)

  -- What the operators of keys make, where some key is past and where none is.
  pub keys-past : all_given key_of_group groups ≡ None → rows_after docs (with_keys d keys).ops first_rows ≡ None
  keys-past is =
      let more = keys_ops d.scope d.next keys ++ order_ops d.next keys in
      rows-append docs d.ops more first_rows
      ∙ ap (option_and_then (rows_after docs more)) serving.rows
      ∙ rows-append docs (keys_ops d.scope d.next keys) (order_ops d.next keys) (map serving.row groups)
      ∙ ap (option_and_then (rows_after docs (order_ops d.next keys))) (keyed-rows ∙ ap (option_map (map (λ (k : List SortValue × List Tuple). keyed_row k.1))) is)

  alone-order : AllByRecursion MakesRows (order_ops d.next keys)
  alone-order = by keys
    where
      by : (some : List Key) → AllByRecursion MakesRows (order_ops d.next some)
      by [] = tt
      by (k ∷ more) = (tt, tt)

  pub keys-serving : (ks : List (List SortValue × List Tuple)) → all_given key_of_group groups ≡ Some ks → Serving docs (with_keys d keys) lets (map (λ k. k.1) (in_order ks))
  keys-serving ks is =
      let more = keys_ops d.scope d.next keys ++ order_ops d.next keys in
      record {
        at = serving.at;
        row = keyed_row;
        rows =
            rows-append docs d.ops more first_rows
            ∙ ap (option_and_then (rows_after docs more)) serving.rows
            ∙ rows-append docs (keys_ops d.scope d.next keys) (order_ops d.next keys) (map serving.row groups)
            ∙ ap (option_and_then (rows_after docs (order_ops d.next keys))) (keyed-rows ∙ ap (option_map (map (λ (k : List SortValue × List Tuple). keyed_row k.1))) is)
            ∙ order-rows ks (shows-all ks is);
        each =
            all-map (λ g. Serves docs d.scope (d.next + keys_width keys) serving.at (given_of g) (keyed_row g)) (λ (k : List SortValue × List Tuple). k.1) (in_order ks)
            (sorted-all (λ (k : List SortValue × List Tuple). Serves docs d.scope (d.next + keys_width keys) serving.at (given_of k.1) (keyed_row k.1)) (λ k l. sort_values_cmp k.0 l.0) ks
            (all-weaker Shows _ ks (λ k s. s.0) (shows-all ks is)));
        lets = serving.lets;
        make =
            all-append MakesRows d.ops more serving.make
            (all-append MakesRows (keys_ops d.scope d.next keys) (order_ops d.next keys)
            (all-weaker LooksAlone MakesRows (keys_ops d.scope d.next keys) alone-makes (alone-keys d.scope d.next keys)) alone-order);
      }
