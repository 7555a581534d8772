-- The operators of a join by value where `FOR` binds a variable: they make rows of the tuples in which the two
-- paths of the tie have an equal value.
use Rattle.std.proofs.Common.{◌≡◌, ℕ, ◌+◌, ◌<◌, Bool, true, false, List, [], ◌∷◌, ◌++◌, map, filter, refl, sym, ap, ap₂, ◌∙◌, subst, arith, Option, Some, None, option_and_then, append_assoc, append-nil}
use Rattle.std.specs.List.{flat_map, AllByRecursion}
use Rattle.std.specs.Option.{option_to_list}
use Rattle.std.proofs.lemmas.List.{map-id}
use Rattle.std.proofs.lemmas.List.Concat.{flat_map_single}
use Rattle.std.proofs.lemmas.List.Elements.{All-from_recursion}
use Rattle.tb_tree.specs.Documents.{Docs}
use Rattle.tb_tree.specs.Numbers.{Numbered}
use Rattle.tb_tree.specs.Rows.{Cell, nodes, Row, values_of, first_rows}
use Rattle.tb_tree.proofs.lists.Alls.{all-append, all-both, all-weaker, all-flat_map}
use Rattle.tb_tree.proofs.lists.Filters.{filter-map, filter_same}
use Rattle.tb_number.specs.declared.op.CmpOp.TheVariants.{Eq}
use Rattle.tb_pattern.specs.declared.pattern.Mark.TheVariants as mark
use Rattle.tb_query.specs.Comparisons.{some_stand}
use Rattle.tb_query.specs.Groups.{is_same_node}
use Rattle.tb_query.specs.Lists.{each_once}
use Rattle.tb_query.specs.Nodes.{nodes_from}
use Rattle.tb_query.specs.Operands.{values}
use Rattle.tb_query.specs.Operators.{values_at}
use Rattle.tb_query.specs.Selected.{column_nodes}
use Rattle.tb_query.specs.Tuples.{Tuple, Bindings, extended, standing, start_in, nodes_in}
use Rattle.tb_query.specs.declared.path.Path.{Path}
use Rattle.tb_query.specs.declared.path.Start.{Start}
use Rattle.tb_query.proofs.AlikeLaws.{each-filter}
use Rattle.tb_tlc.specs.declared.plan.Op.TheVariants.{ValueJoin}
use Rattle.tb_tlc.specs.Meaning.{column_from}
use Rattle.tb_tlc.specs.Planned.{Draft, Scope, column_start, stand_op, path_op, for_mark, with_for}
use Rattle.tb_tlc.specs.Ties.{Tie}
use Rattle.tb_tlc.proofs.RowLaws.{rows_after, rows-append, MakesRows, each-rows}
use Rattle.tb_tlc.proofs.ApartLaws.{path-once}
use Rattle.tb_tlc.proofs.CellLaws.{there-more, cell-left, cell-next, in_doc, place_of, values-in}
use Rattle.tb_tlc.proofs.HoldsLaws.{Holds, holds-more, name_in, path-given}
use Rattle.tb_tlc.proofs.ClauseLaws.{Plans, for-plans, more_row}

-- whether the paths of a tie have an equal value in a tuple
abbrev pub is_tied : Docs → Tie → Tuple → Bool
is_tied docs tie t = some_stand Eq (values (nodes_in docs tie.0 t)) (values (nodes_in docs tie.1 t))

-- a start that a variable more doesn't change
abbrev pub StartsElsewhere : Docs → ℕ → Start → Type 0
StartsElsewhere docs var from = (t : Tuple) (o : Option Numbered) → start_in docs ((var, o) ∷ t) from ≡ start_in docs t from

module _ (docs : Docs) where
  -- A row shows the values of a path in a column.
  abbrev pub Shown : ℕ → Path → (Tuple → Row) → Tuple → Type 0
  Shown k path row t = values_at k (row t) ≡ values (nodes_in docs path t)

  module _ (d : Draft) (b : Bindings) (plans : Plans docs d b) where
    abbrev HoldsHere : Tuple → Type 0
    HoldsHere t = Holds docs plans.name d.scope.columns d.next (t ∷ []) (plans.row t)

    -- Cells behind the rows change nothing of what is shown.
    shown-behind : (k : ℕ) (path : Path) (t : Tuple) (more : List Cell) → k < d.next → HoldsHere t → Shown k path plans.row t → values_at k (plans.row t ++ more) ≡ values (nodes_in docs path t)
    shown-behind k path t more less holds shown =
        let long = holds.long in
        ap values_of (cell-left k (plans.row t) more (omega (arith, less, long))) ∙ shown

    module _ (path : Path) where
      abbrev cell_of : Tuple → Cell
      cell_of t = nodes (map (in_doc (place_of (name_in plans.name path.start) 0 docs)) (nodes_in docs path t))

      abbrev pub column_row : Tuple → Row
      column_row t = plans.row t ++ cell_of t ∷ []

      pub given-alone : (t : Tuple) → HoldsHere t
          → column_nodes docs (column_from (column_start d.next d.scope.columns path.start)) path.steps (plans.row t) ≡ map (in_doc (place_of (name_in plans.name path.start) 0 docs)) (nodes_in docs path t)
      given-alone t holds =
          path-given docs plans.name d.scope.columns d.next t [] (plans.row t) holds path.start path.steps
          ∙ ap (λ us. map (in_doc (place_of (name_in plans.name path.start) 0 docs)) (each_once is_same_node us)) (append-nil (nodes_in docs path t))
          ∙ ap (map (in_doc (place_of (name_in plans.name path.start) 0 docs))) (path-once path.steps (start_in docs t path.start))

      -- a column more
      abbrev pub column-plans : Plans docs (record { ops = d.ops ++ stand_op d.scope.columns d.next mark.Any path ∷ []; scope = d.scope; next = d.next + 1 }) b
      column-plans = record {
        name = plans.name;
        row = column_row;
        rows =
            rows-append docs d.ops (stand_op d.scope.columns d.next mark.Any path ∷ []) first_rows
            ∙ ap (option_and_then (rows_after docs (stand_op d.scope.columns d.next mark.Any path ∷ []))) plans.rows
            ∙ each-rows docs (stand_op d.scope.columns d.next mark.Any path ∷ []) (tt, tt) plans.row (λ t. t ∷ []) column_row b.tuples
            (all-weaker HoldsHere (λ t. rows_after docs (stand_op d.scope.columns d.next mark.Any path ∷ []) (plans.row t ∷ []) ≡ Some (map column_row (t ∷ []))) b.tuples
            (λ t holds. ap (λ us. Some ((plans.row t ++ nodes us ∷ []) ∷ [])) (given-alone t holds)) plans.each)
            ∙ ap (λ ts. Some (map column_row ts)) (flat_map_single (λ t. t) b.tuples ∙ map-id b.tuples);
        each =
            all-weaker HoldsHere (λ t. Holds docs plans.name d.scope.columns (d.next + 1) (t ∷ []) (column_row t)) b.tuples
            (λ t holds. holds-more docs plans.name d.scope.columns d.next 1 (t ∷ []) (plans.row t) (cell_of t ∷ []) plans.there holds refl) plans.each;
        lets = plans.lets;
        there = there-more d.next (d.next + 1) d.scope.columns (omega arith) plans.there;
        make = all-append MakesRows d.ops (stand_op d.scope.columns d.next mark.Any path ∷ []) plans.make (tt, tt);
      }

      -- which shows the path's values
      pub column-shown : AllByRecursion (Shown d.next path column_row) b.tuples
      column-shown =
          all-weaker HoldsHere (Shown d.next path column_row) b.tuples
          (λ t holds. ap values_of (cell-next d.next (plans.row t) (cell_of t) [] holds.long) ∙ values-in (place_of (name_in plans.name path.start) 0 docs) (nodes_in docs path t)) plans.each

      -- and keeps what was shown before
      pub column-keeps : (k : ℕ) (other : Path) → k < d.next → AllByRecursion (Shown k other plans.row) b.tuples → AllByRecursion (Shown k other column_row) b.tuples
      column-keeps k other less shown =
          all-weaker (λ t. HoldsHere t × Shown k other plans.row t) (Shown k other column_row) b.tuples
          (λ t both. shown-behind k other t (cell_of t ∷ []) less both.0 both.1) (all-both HoldsHere (Shown k other plans.row) b.tuples plans.each shown)

    -- A variable more keeps what is shown of a path that starts elsewhere.
    module _ (var : ℕ) (empty : Bool) (path : Path) (k : ℕ) (other : Path) (less : k < d.next) (elsewhere : StartsElsewhere docs var other.start) where
      abbrev document : ℕ
      document = place_of (name_in plans.name (standing d.scope.lets path).start) 0 docs

      shown-one : (t : Tuple) (o : Option Numbered) → HoldsHere t → Shown k other plans.row t → Shown k other (more_row document plans.row) ((var, o) ∷ t)
      shown-one t o holds shown =
          shown-behind k other t (nodes (map (in_doc document) (option_to_list o)) ∷ []) less holds shown
          ∙ ap (λ from. values (nodes_from other.steps from)) (sym (elsewhere t o))

      shown-some : (t : Tuple) (us : List Numbered) → HoldsHere t → Shown k other plans.row t → AllByRecursion (Shown k other (more_row document plans.row)) (map (λ v. (var, Some v) ∷ t) us)
      shown-some t [] holds shown = tt
      shown-some t (u ∷ us) holds shown = (shown-one t (Some u) holds shown, shown-some t us holds shown)

      shown-extended : (t : Tuple) (keeps : Bool) (us : List Numbered) → HoldsHere t → Shown k other plans.row t → AllByRecursion (Shown k other (more_row document plans.row)) (extended var keeps t us)
      shown-extended t true [] holds shown = (shown-one t None holds shown, tt)
      shown-extended t false [] holds shown = tt
      shown-extended t keeps (u ∷ us) holds shown = shown-some t (u ∷ us) holds shown

      pub for-keeps : AllByRecursion (Shown k other plans.row) b.tuples
          → AllByRecursion (Shown k other (more_row document plans.row)) (flat_map (λ t. extended var empty t (nodes_in docs (standing d.scope.lets path) t)) b.tuples)
      for-keeps shown =
          all-flat_map (Shown k other (more_row document plans.row)) (λ t. extended var empty t (nodes_in docs (standing d.scope.lets path) t)) b.tuples
          (all-weaker (λ t. HoldsHere t × Shown k other plans.row t) (λ t. AllByRecursion (Shown k other (more_row document plans.row)) (extended var empty t (nodes_in docs (standing d.scope.lets path) t))) b.tuples
          (λ t both. shown-extended t empty (nodes_in docs (standing d.scope.lets path) t) both.0 both.1) (all-both HoldsHere (Shown k other plans.row) b.tuples plans.each shown))

    -- Rows are kept where two columns show an equal value.
    pub tied-plans : (left right : ℕ) (tie : Tie) → AllByRecursion (Shown left tie.0 plans.row) b.tuples → AllByRecursion (Shown right tie.1 plans.row) b.tuples
        → Plans docs (record { ops = d.ops ++ ValueJoin left right ∷ []; scope = d.scope; next = d.next }) (record { tuples = filter (is_tied docs tie) b.tuples; lets = b.lets })
    tied-plans left right tie first second = record {
      name = plans.name;
      row = plans.row;
      rows =
          rows-append docs d.ops (ValueJoin left right ∷ []) first_rows
          ∙ ap (option_and_then (rows_after docs (ValueJoin left right ∷ []))) plans.rows
          ∙ ap Some
          (filter-map (λ r. some_stand Eq (values_at left r) (values_at right r)) plans.row b.tuples
          ∙ ap (map plans.row)
          (filter_same (λ t. some_stand Eq (values_at left (plans.row t)) (values_at right (plans.row t))) (is_tied docs tie) b.tuples
          (All-from_recursion (λ t. some_stand Eq (values_at left (plans.row t)) (values_at right (plans.row t)) ≡ is_tied docs tie t) b.tuples
          (all-weaker (λ t. Shown left tie.0 plans.row t × Shown right tie.1 plans.row t) (λ t. some_stand Eq (values_at left (plans.row t)) (values_at right (plans.row t)) ≡ is_tied docs tie t) b.tuples
          (λ t both. ap₂ (some_stand Eq) both.0 both.1) (all-both (Shown left tie.0 plans.row) (Shown right tie.1 plans.row) b.tuples first second)))));
      each = each-filter HoldsHere (is_tied docs tie) b.tuples plans.each;
      lets = plans.lets;
      there = plans.there;
      make = all-append MakesRows d.ops (ValueJoin left right ∷ []) plans.make (tt, tt);
    }

  -- All four operators.
  pub join-plans : (d : Draft) (b : Bindings) (plans : Plans docs d b) (var : ℕ) (empty : Bool) (path : Path) (tie : Tie) → StartsElsewhere docs var tie.0.start
      → Plans docs (with_for d var empty path (Some tie))
      (record { tuples = filter (is_tied docs tie) (flat_map (λ t. extended var empty t (nodes_in docs (standing d.scope.lets path) t)) b.tuples); lets = b.lets })
  join-plans d b plans var empty path tie elsewhere =
      let d1 : Draft = record { ops = d.ops ++ stand_op d.scope.columns d.next mark.Any tie.0 ∷ []; scope = d.scope; next = d.next + 1 } in
      let p1 : Plans docs d1 b = column-plans d b plans tie.0 in
      let d2 : Draft = with_for d1 var empty path None in
      let b2 : Bindings = record { tuples = flat_map (λ t. extended var empty t (nodes_in docs (standing d.scope.lets path) t)) b.tuples; lets = b.lets } in
      let p2 : Plans docs d2 b2 = for-plans docs d1 b p1 var empty path in
      let s2 : AllByRecursion (Shown d.next tie.0 p2.row) b2.tuples = for-keeps d1 b p1 var empty path d.next tie.0 (omega arith) elsewhere (column-shown d b plans tie.0) in
      let d3 : Draft = record { ops = d2.ops ++ stand_op d2.scope.columns d2.next mark.Any tie.1 ∷ []; scope = d2.scope; next = d2.next + 1 } in
      let p3 : Plans docs d3 b2 = column-plans d2 b2 p2 tie.1 in
      let s3 : AllByRecursion (Shown d.next tie.0 p3.row) b2.tuples = column-keeps d2 b2 p2 tie.1 d.next tie.0 (omega arith) s2 in
      let r3 : AllByRecursion (Shown d2.next tie.1 p3.row) b2.tuples = column-shown d2 b2 p2 tie.1 in
      let p4 = tied-plans d3 b2 p3 d.next d2.next tie s3 r3 in
      let A = stand_op d.scope.columns d.next mark.Any tie.0 in
      let B = path_op d.scope (d.next + 1) (for_mark empty) path in
      let regroup = λ (n : ℕ).
      append_assoc (d.ops ++ A ∷ [] ++ B ∷ []) (stand_op ((var, d.next + 1) ∷ d.scope.columns) n mark.Any tie.1 ∷ []) (ValueJoin d.next n ∷ [])
      ∙ append_assoc (d.ops ++ A ∷ []) (B ∷ []) (stand_op ((var, d.next + 1) ∷ d.scope.columns) n mark.Any tie.1 ∷ ValueJoin d.next n ∷ [])
      ∙ append_assoc d.ops (A ∷ []) (B ∷ stand_op ((var, d.next + 1) ∷ d.scope.columns) n mark.Any tie.1 ∷ ValueJoin d.next n ∷ []) in
      let two : d.next + 1 + 1 ≡ d.next + 2 = omega arith in
      let three : d.next + 1 + 1 + 1 ≡ d.next + 3 = omega arith in
      let s : Scope = record { lets = d.scope.lets; columns = (var, d.next + 1) ∷ d.scope.columns } in
      let b4 : Bindings = record { tuples = filter (is_tied docs tie) b2.tuples; lets = b.lets } in
      subst (λ ops. Plans docs (record { ops = ops; scope = s; next = d.next + 3 }) b4) (regroup (d.next + 2))
      (subst (λ n. Plans docs (record { ops = d.ops ++ A ∷ [] ++ B ∷ [] ++ stand_op s.columns n mark.Any tie.1 ∷ [] ++ ValueJoin d.next n ∷ []; scope = s; next = d.next + 3 }) b4) two
      (subst (λ m. Plans docs (record { ops = d3.ops ++ ValueJoin d.next d2.next ∷ []; scope = s; next = m }) b4) three p4))
