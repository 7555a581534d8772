-- The operators of `GROUP BY`: they make one row of each group, which serves the paths over the group.
use Rattle.std.proofs.Common.{◌≡◌, ◌||◌, cond, ℕ, ◌+◌, ◌==◌, Bool, true, false, if◌then◌else◌, List, [], ◌∷◌, ◌++◌, length, map, refl, sym, ap, ap₂, ◌∙◌, subst, arith, Option, Some, None, option_and_then, append-nil, length-append}
use Rattle.std.specs.List.{flat_map, fold, filter, list_any, AllByRecursion}
use Rattle.std.specs.Option.{option_to_list}
use Rattle.std.specs.Ordering.{is_eq}
use Rattle.std.proofs.lemmas.Cmp.{tied_itself}
use Rattle.std.proofs.lemmas.Simd.{map-map}
use Rattle.std.proofs.lemmas.List.{length-map, map-append, map-id}
use Rattle.std.proofs.lemmas.List.Folds.{flat_map-map}
use Rattle.std.proofs.lemmas.List.Concat.{flat_map_single}
use Rattle.tb_tree.specs.Documents.{Docs, found}
use Rattle.tb_tree.specs.Numbers.{Numbered}
use Rattle.tb_tree.specs.Rows.{Cell, nodes, Row, cell_at, nodes_of, values_of, is_same, first_rows}
use Rattle.tb_tree.proofs.lists.Alls.{all-append, all-weaker, all-map, all-flat_map}
use Rattle.tb_tree.proofs.lists.Maps.{map-alike}
use Rattle.tb_number.specs.Keys.{is_same_key}
use Rattle.tb_number.proofs.KeyLaws.{key_cmp-total}
use Rattle.tb_pattern.specs.declared.pattern.Mark.TheVariants as mark
use Rattle.tb_query.specs.Comparisons.{nodes_at}
use Rattle.tb_query.specs.Groups.{key_of, first_node, with_variable, grouped_by, groups_of, is_same_node, nodes_over}
use Rattle.tb_query.specs.Lists.{each_once, grouped}
use Rattle.tb_query.specs.Operands.{first_of}
use Rattle.tb_query.specs.Operators.{values_at, has_same_key, grouped_rows, group_row, first_cell, merged, once_cell}
use Rattle.tb_query.specs.Selected.{selected}
use Rattle.tb_query.specs.Tuples.{Tuple, Lets, Bindings, bound, standing, nodes_in}
use Rattle.tb_query.specs.declared.clause.GroupBy.{GroupBy}
use Rattle.tb_query.specs.declared.path.Path.{Path}
use Rattle.tb_query.proofs.AlikeLaws.{each-filter}
use Rattle.tb_query.proofs.GroupLaws.{grouped-map}
use Rattle.tb_tlc.specs.declared.plan.Op.TheVariants.{Group}
use Rattle.tb_tlc.specs.Meaning.{column_from}
use Rattle.tb_tlc.specs.Planned.{Scope, Columns, column_of, column_start, Draft, path_op, with_group}
use Rattle.tb_tlc.proofs.RowLaws.{rows_after, rows-append, MakesRows, each-rows}
use Rattle.tb_tlc.proofs.ApartLaws.{IsOf}
use Rattle.tb_tlc.proofs.ThroughLaws.{once-again, all-among, all-once}
use Rattle.tb_tlc.proofs.CellLaws.{AreThere, there-more, cell-next, cell-more, in_doc, place_of, once-in, node-itself, values-in}
use Rattle.tb_tlc.proofs.MergeLaws.{long-fold, fold-at, once-at, grouped-alike}
use Rattle.tb_tlc.proofs.ServedLaws.{Serves, takes-path}
use Rattle.tb_tlc.proofs.HoldsLaws.{Holds, nodes_bound, holds-serves, holds-more, tuple-serves, name_in, place_in, named_too}
use Rattle.tb_tlc.proofs.ClauseLaws.{Plans, path-real}

-- The operators of a draft make a row of each group, in order, which serves the paths over the group.
pub record Serving (docs : Docs) (d : Draft) (of : Lets) (groups : List (List Tuple)) : Type 0 where
  pub at : Path → ℕ
  pub row : List Tuple → Row
  pub rows : rows_after docs d.ops first_rows ≡ Some (map row groups)
  pub each : AllByRecursion (λ g. Serves docs d.scope d.next at (nodes_over docs d.scope.lets g) (row g)) groups
  pub lets : d.scope.lets ≡ of
  pub make : AllByRecursion MakesRows d.ops

-- the row of a tuple that is a group of its own
abbrev pub row_alone : (Tuple → Row) → List Tuple → Row
row_alone row [] = []
row_alone row (t ∷ g) = row t

-- Without `GROUP BY` each tuple is a group of its own.
pub serving-alone : (docs : Docs) (d : Draft) (b : Bindings) → Plans docs d b → Serving docs d b.lets (map (λ t. t ∷ []) b.tuples)
serving-alone docs d b plans = record {
  at = place_in docs plans.name d.scope.lets;
  row = row_alone plans.row;
  rows = plans.rows ∙ ap Some (sym (map-map (row_alone plans.row) (λ t. t ∷ []) b.tuples));
  each =
      all-map (λ g. Serves docs d.scope d.next (place_in docs plans.name d.scope.lets) (nodes_over docs d.scope.lets g) (row_alone plans.row g)) (λ t. t ∷ []) b.tuples
      (all-weaker (λ t. Holds docs plans.name d.scope.columns d.next (t ∷ []) (plans.row t)) _ b.tuples
      (λ t holds. holds-serves docs plans.name d.scope d.next t [] (plans.row t) plans.there holds) plans.each);
  lets = plans.lets;
  make = plans.make;
}

-- Each item is in a group.
abbrev HasFirst : {A : Type 0} → List A → Type 0
HasFirst {A} xs = (x : A) × (more : List A) × (xs ≡ x ∷ more)

some-kept : {A : Type 0} (test : A → Bool) (xs : List A) → list_any test xs ≡ true → HasFirst (filter test xs)
some-kept test [] has = absurd (let e : ◌≡◌ {A = Bool} false true = has in cc)
some-kept {A} test (x ∷ xs) has = by (test x) has (λ others. some-kept test xs others)
  where
    by : (b : Bool) → (b || list_any test xs) ≡ true → (list_any test xs ≡ true → HasFirst (filter test xs)) → HasFirst (cond b (x ∷ filter test xs) (filter test xs))
    by true e others = (x, filter test xs, refl)
    by false e others = others e

groups-first : {A : Type 0} (P : A → Type 0) (same : A → A → Bool) → ((x : A) → same x x ≡ true) → (xs : List A) → AllByRecursion P xs
    → AllByRecursion (λ g. HasFirst g × AllByRecursion P g) (grouped same xs)
groups-first P same itself xs all =
    all-map (λ g. HasFirst g × AllByRecursion P g) (λ x. filter (same x) xs) (each_once same xs)
    (all-once (λ x. HasFirst (filter (same x) xs) × AllByRecursion P (filter (same x) xs)) same xs
    (all-weaker (λ x. list_any (same x) xs ≡ true) (λ x. HasFirst (filter (same x) xs) × AllByRecursion P (filter (same x) xs)) xs
    (λ x has. (some-kept (same x) xs has, each-filter P (same x) xs all))
    (all-among (λ x y. same y x) itself xs)))

key-itself : (k : Option (List ℕ)) → is_same_key k k ≡ true
key-itself k = ap is_eq (tied_itself key_cmp-total k)

once-maybe : (o : Option Numbered) → each_once is_same_node (option_to_list o) ≡ option_to_list o
once-maybe None = refl
once-maybe (Some u) = refl

first-cell : (document : ℕ) (us : List Numbered) → first_cell (map (in_doc document) us) ≡ nodes (map (in_doc document) (option_to_list (first_node us)))
first-cell document [] = refl
first-cell document (u ∷ us) = refl

first-real : (P : Numbered → Type 0) (us : List Numbered) → AllByRecursion P us → AllByRecursion P (option_to_list (first_node us))
first-real P [] all = tt
first-real P (u ∷ us) all = (all.0, tt)

module _ (docs : Docs) (name : ℕ → List ℕ) (columns : Columns) (n : ℕ) (row : Tuple → Row) (var : ℕ) (document : List ℕ) where
  abbrev HoldsOne : Tuple → Type 0
  HoldsOne t = Holds docs name columns (n + 1) (t ∷ []) (row t)

  -- a variable's nodes in the cell of one tuple
  cell-one : (v : ℕ) (t : Tuple) → HoldsOne t → cell_at (column_of (n + 1) v columns) (row t) ≡ nodes (map (in_doc (place_of (name v) 0 docs)) (option_to_list (bound v t)))
  cell-one v t holds =
      holds.cells v
      ∙ ap (λ us. nodes (map (in_doc (place_of (name v) 0 docs)) (each_once is_same_node us))) (append-nil (option_to_list (bound v t)))
      ∙ ap (λ us. nodes (map (in_doc (place_of (name v) 0 docs)) us)) (once-maybe (bound v t))

  -- and in those of all tuples
  cells-all : (v : ℕ) (ts : List Tuple) → AllByRecursion HoldsOne ts
      → flat_map (λ r. nodes_of (cell_at (column_of (n + 1) v columns) r)) (map row ts) ≡ map (in_doc (place_of (name v) 0 docs)) (nodes_bound v ts)
  cells-all v [] each = refl
  cells-all v (t ∷ ts) each =
      ap₂ (λ c us. nodes_of c ++ us) (cell-one v t each.0) (cells-all v ts each.1)
      ∙ sym (map-append (in_doc (place_of (name v) 0 docs)) (option_to_list (bound v t)) (nodes_bound v ts))

  long-rows : (t : Tuple) → HoldsOne t → (ts : List Tuple) → AllByRecursion HoldsOne ts → AllByRecursion (λ r. length r ≡ length (row t)) (map row ts)
  long-rows t first ts each = all-map (λ r. length r ≡ length (row t)) row ts (all-weaker HoldsOne (λ x. length (row x) ≡ length (row t)) ts (λ x holds. holds.long ∙ sym first.long) each)

  merged-cell : (v : ℕ) (t : Tuple) (ts : List Tuple) → HoldsOne t → AllByRecursion HoldsOne ts
      → cell_at (column_of (n + 1) v columns) (map once_cell (fold merged (row t) (map row ts))) ≡ nodes (map (in_doc (place_of (name v) 0 docs)) (each_once is_same_node (nodes_bound v (t ∷ ts))))
  merged-cell v t ts first each =
      let k = column_of (n + 1) v columns in
      let place = place_of (name v) 0 docs in
      let us = map (in_doc place) (option_to_list (bound v t)) in
      once-at k (fold merged (row t) (map row ts)) (us ++ flat_map (λ r. nodes_of (cell_at k r)) (map row ts))
      (fold-at k (row t) us (map row ts) (cell-one v t first) (long-rows t first ts each))
      ∙ ap (λ ws. nodes (each_once is_same (us ++ ws))) (cells-all v ts each)
      ∙ ap (λ ws. nodes (each_once is_same ws)) (sym (map-append (in_doc place) (option_to_list (bound v t)) (nodes_bound v ts)))
      ∙ ap nodes (once-in place (nodes_bound v (t ∷ ts)))

  -- The row of a group holds what the variables stand for over it, and the group's variable in a column more.
  group-holds : (t : Tuple) (ts : List Tuple) (us : List Numbered) → AreThere (n + 1) columns → HoldsOne t → AllByRecursion HoldsOne ts
      → cell_at n (row t) ≡ nodes (map (in_doc (place_of document 0 docs)) us) → AllByRecursion (IsOf (found document docs)) us
      → Holds docs (named_too var document name) ((var, n + 1) ∷ columns) (n + 1 + 1) (map (λ x. (var, first_node us) ∷ x) (t ∷ ts)) (group_row n (row t ∷ map row ts))
  group-holds t ts us there first each key of = record {
    long = longer;
    cells = λ v. cells-by v (v == var) ∙ ap (λ ws. nodes (map (in_doc (place_of (if v == var then document else name v) 0 docs)) (each_once is_same_node ws))) (sym (flat_map-map (λ x. option_to_list (bound v x)) (λ x. (var, o) ∷ x) (t ∷ ts)));
    real = λ v. subst (λ ws. AllByRecursion (IsOf (found (if v == var then document else name v) docs)) ws) (sym (flat_map-map (λ x. option_to_list (bound v x)) (λ x. (var, o) ∷ x) (t ∷ ts))) (real-by v (v == var));
  }
    where
      o : Option Numbered
      o = first_node us

      whole : Row
      whole = map once_cell (fold merged (row t) (map row ts))

      c : Cell
      c = first_cell (nodes_of (cell_at n (row t)))

      long : length whole ≡ n + 1
      long = length-map (fold merged (row t) (map row ts)) once_cell ∙ long-fold (row t) (map row ts) ∙ first.long

      longer : length (whole ++ c ∷ []) ≡ n + 1 + 1
      longer = length-append whole (c ∷ []) ∙ ap (λ k. k + 1) long

      cells-by : (v : ℕ) (b : Bool)
          → cell_at (if b then n + 1 else column_of (n + 1 + 1) v columns) (whole ++ c ∷ [])
          ≡ nodes (map (in_doc (place_of (if b then document else name v) 0 docs)) (each_once is_same_node (flat_map (λ x. option_to_list (if b then o else bound v x)) (t ∷ ts))))
      cells-by v true =
          cell-next (n + 1) whole c [] long
          ∙ ap (λ d. first_cell (nodes_of d)) key
          ∙ first-cell (place_of document 0 docs) us
          ∙ ap (λ ws. nodes (map (in_doc (place_of document 0 docs)) ws)) (sym (once-again is_same_node node-itself (option_to_list o) ts ∙ once-maybe o))
      cells-by v false = cell-more (n + 1) (n + 1 + 1) v columns whole (c ∷ []) there long longer ∙ merged-cell v t ts first each

      real-by : (v : ℕ) (b : Bool) → AllByRecursion (IsOf (found (if b then document else name v) docs)) (flat_map (λ x. option_to_list (if b then o else bound v x)) (t ∷ ts))
      real-by v true =
          all-flat_map (IsOf (found document docs)) (λ x. option_to_list o) (t ∷ ts)
          (all-weaker HoldsOne (λ x. AllByRecursion (IsOf (found document docs)) (option_to_list o)) (t ∷ ts) (λ x holds. first-real (IsOf (found document docs)) us of) (first, each))
      real-by v false =
          all-flat_map (IsOf (found (name v) docs)) (λ x. option_to_list (bound v x)) (t ∷ ts)
          (all-weaker HoldsOne (λ x. AllByRecursion (IsOf (found (name v) docs)) (option_to_list (bound v x))) (t ∷ ts)
          (λ x holds. subst (λ ws. AllByRecursion (IsOf (found (name v) docs)) ws) (append-nil (option_to_list (bound v x))) (holds.real v)) (first, each))

-- the tuples as they were before the group's variable
abbrev pub tail_of : Tuple → Tuple
tail_of [] = []
tail_of (b ∷ t) = t

tails : (b : ℕ × Option Numbered) (ts : List Tuple) → map tail_of (map (λ t. b ∷ t) ts) ≡ ts
tails b [] = refl
tails b (t ∷ ts) = ap (λ us. t ∷ us) (tails b ts)

module _ (docs : Docs) (d : Draft) (b : Bindings) (plans : Plans docs d b) (by : GroupBy) where
  abbrev path : Path
  path = standing d.scope.lets by.path

  abbrev document : List ℕ
  document = name_in plans.name path.start

  abbrev key_nodes : Tuple → List Numbered
  key_nodes t = nodes_in docs path t

  -- the row of a tuple with its key
  abbrev keyed_row : Tuple → Row
  keyed_row t = plans.row t ++ nodes (map (in_doc (place_of document 0 docs)) (key_nodes t)) ∷ []

  abbrev group_of : List Tuple → Row
  group_of g = group_row d.next (map keyed_row (map tail_of g))

  abbrev HoldsBefore : Tuple → Type 0
  HoldsBefore t = Holds docs plans.name d.scope.columns d.next (t ∷ []) (plans.row t)

  abbrev HoldsKeyed : Tuple → Type 0
  HoldsKeyed t = Holds docs plans.name d.scope.columns (d.next + 1) (t ∷ []) (keyed_row t)

  keyed-holds : (t : Tuple) → HoldsBefore t → HoldsKeyed t
  keyed-holds t holds =
      holds-more docs plans.name d.scope.columns d.next 1 (t ∷ []) (plans.row t) (nodes (map (in_doc (place_of document 0 docs)) (key_nodes t)) ∷ []) plans.there holds refl

  key-cell : (t : Tuple) → HoldsBefore t → cell_at d.next (keyed_row t) ≡ nodes (map (in_doc (place_of document 0 docs)) (key_nodes t))
  key-cell t holds = cell-next d.next (plans.row t) (nodes (map (in_doc (place_of document 0 docs)) (key_nodes t))) [] holds.long

  -- the column of keys
  keyed-rows : Some (selected docs (column_from (column_start d.next d.scope.columns path.start)) path.steps mark.Any (map plans.row b.tuples)) ≡ Some (map keyed_row b.tuples)
  keyed-rows =
      each-rows docs (path_op d.scope d.next mark.Any by.path ∷ []) (tt, tt) plans.row (λ t. t ∷ []) keyed_row b.tuples
      (all-weaker HoldsBefore _ b.tuples
      (λ t holds. (takes-path docs d.scope (place_in docs plans.name d.scope.lets) (nodes_at docs d.scope.lets t) d.next (plans.row t) by.path
      (tuple-serves docs plans.name d.scope d.next t (plans.row t) plans.there holds)).run) plans.each)
      ∙ ap (λ ts. Some (map keyed_row ts)) (flat_map_single (λ t. t) b.tuples ∙ map-id b.tuples)

  key-agrees : (t : Tuple) → HoldsBefore t → first_of (values_at d.next (keyed_row t)) ≡ key_of key_nodes t
  key-agrees t holds = ap (λ c. first_of (values_of c)) (key-cell t holds) ∙ ap first_of (values-in (place_of document 0 docs) (key_nodes t))

  abbrev groups_before : List (List Tuple)
  groups_before = grouped (λ s t. is_same_key (key_of key_nodes s) (key_of key_nodes t)) b.tuples

  grouped-rows : grouped_rows d.next (map keyed_row b.tuples) ≡ map (λ g. group_row d.next (map keyed_row g)) groups_before
  grouped-rows =
      ap (map (group_row d.next))
      (sym (grouped-map keyed_row (has_same_key d.next) b.tuples)
      ∙ ap (map (map keyed_row))
      (grouped-alike (λ t. first_of (values_at d.next (keyed_row t))) (key_of key_nodes) is_same_key b.tuples
      (all-weaker HoldsBefore (λ t. first_of (values_at d.next (keyed_row t)) ≡ key_of key_nodes t) b.tuples key-agrees plans.each)))
      ∙ map-map (group_row d.next) (map keyed_row) groups_before

  with-variable : (g : List Tuple) → group_of (with_variable key_nodes by.var g) ≡ group_row d.next (map keyed_row g)
  with-variable [] = refl
  with-variable (t ∷ ts) = ap (λ g. group_row d.next (map keyed_row g)) (tails (by.var, first_node (key_nodes t)) (t ∷ ts))

  each-group : (g : List Tuple) → (HasFirst g × AllByRecursion HoldsBefore g)
      → Serves docs (record { lets = d.scope.lets; columns = (by.var, d.next + 1) ∷ d.scope.columns }) (d.next + 1 + 1) (place_in docs (named_too by.var document plans.name) d.scope.lets)
      (nodes_over docs d.scope.lets (with_variable key_nodes by.var g)) (group_of (with_variable key_nodes by.var g))
  each-group [] known = absurd (let e : ◌≡◌ {A = List Tuple} [] (known.0.0 ∷ known.0.1) = known.0.2 in cc)
  each-group (t ∷ ts) known =
      let b : ℕ × Option Numbered = (by.var, first_node (key_nodes t)) in
      let s : Scope = record { lets = d.scope.lets; columns = (by.var, d.next + 1) ∷ d.scope.columns } in
      let name = named_too by.var document plans.name in
      let there = there-more d.next (d.next + 1) d.scope.columns (omega arith) plans.there in
      holds-serves docs name s (d.next + 1 + 1) (b ∷ t) (map (λ x. b ∷ x) ts) (group_of (map (λ x. b ∷ x) (t ∷ ts)))
      (omega arith, there-more (d.next + 1) (d.next + 1 + 1) d.scope.columns (omega arith) there)
      (subst (λ r. Holds docs name s.columns (d.next + 1 + 1) (map (λ x. b ∷ x) (t ∷ ts)) r) (sym (with-variable (t ∷ ts)))
      (group-holds docs plans.name d.scope.columns d.next keyed_row by.var document t ts (key_nodes t) there
      (keyed-holds t known.1.0) (all-weaker HoldsBefore HoldsKeyed ts keyed-holds known.1.1) (key-cell t known.1.0)
      (path-real docs plans.name t path.start path.steps known.1.0.real)))

  -- The groups, their variable among what stands in each.
  pub serving-groups : Serving docs (with_group d (Some by)) b.lets (groups_of docs b.lets (Some by) b.tuples)
  serving-groups =
      let two : d.next + 1 + 1 ≡ d.next + 2 = omega arith in
      let s : Scope = record { lets = d.scope.lets; columns = (by.var, d.next + 1) ∷ d.scope.columns } in
      let at = place_in docs (named_too by.var document plans.name) d.scope.lets in
      let ops = path_op d.scope d.next mark.Any by.path ∷ Group d.next ∷ [] in
      let groups = map (with_variable key_nodes by.var) groups_before in
      let same : groups ≡ groups_of docs b.lets (Some by) b.tuples = ap (λ lets. grouped_by (nodes_in docs (standing lets by.path)) by.var b.tuples) plans.lets in
      record {
        at = at;
        row = group_of;
        rows =
            rows-append docs d.ops ops first_rows
            ∙ ap (option_and_then (rows_after docs ops)) plans.rows
            ∙ ap (option_and_then (rows_after docs (Group d.next ∷ []))) keyed-rows
            ∙ ap Some
            (grouped-rows
            ∙ sym (map-map group_of (with_variable key_nodes by.var) groups_before
            ∙ map-alike (λ g. group_of (with_variable key_nodes by.var g)) (λ g. group_row d.next (map keyed_row g)) with-variable groups_before)
            ∙ ap (map group_of) same);
        each =
            subst (λ gs. AllByRecursion (λ g. Serves docs s (d.next + 2) at (nodes_over docs d.scope.lets g) (group_of g)) gs) same
            (subst (λ n. AllByRecursion (λ g. Serves docs s n at (nodes_over docs d.scope.lets g) (group_of g)) groups) two
            (all-map (λ g. Serves docs s (d.next + 1 + 1) at (nodes_over docs d.scope.lets g) (group_of g)) (with_variable key_nodes by.var) groups_before
            (all-weaker (λ g. HasFirst g × AllByRecursion HoldsBefore g) (λ g. Serves docs s (d.next + 1 + 1) at (nodes_over docs d.scope.lets (with_variable key_nodes by.var g)) (group_of (with_variable key_nodes by.var g))) groups_before each-group
            (groups-first HoldsBefore (λ s t. is_same_key (key_of key_nodes s) (key_of key_nodes t)) (λ t. key-itself (key_of key_nodes t)) b.tuples plans.each))));
        lets = plans.lets;
        make = all-append MakesRows d.ops ops plans.make (tt, (tt, tt));
      }
