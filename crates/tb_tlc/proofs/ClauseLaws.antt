-- The operators of clauses: what they make of the first row are the rows of the tuples.
use Rattle.std.proofs.Common.{◌≡◌, ℕ, ◌+◌, Bool, true, false, List, [], ◌∷◌, ◌++◌, map, refl, ap, ◌∙◌, subst, arith, Some, None, option_and_then, append-nil}
use Rattle.std.specs.List.{flat_map, AllByRecursion}
use Rattle.std.specs.Option.{option_to_list}
use Rattle.tb_tree.specs.Documents.{Docs, found}
use Rattle.tb_tree.specs.Numbers.{Numbered}
use Rattle.tb_tree.specs.Rows.{nodes, Row, first_rows}
use Rattle.tb_tree.proofs.lists.Alls.{all-append, all-weaker, all-flat_map}
use Rattle.tb_query.specs.Nodes.{nodes_from}
use Rattle.tb_query.specs.Selected.{marked, each_node}
use Rattle.tb_query.specs.Tuples.{Tuple, Bindings, bound, bound_by, extended, standing, start_in, nodes_in}
use Rattle.tb_query.specs.declared.path.Path.{Path}
use Rattle.tb_query.specs.declared.path.Start.{Start}
use Rattle.tb_query.specs.declared.path.Start.TheVariants as start
use Rattle.tb_query.specs.declared.path.Step.{Step}
use Rattle.tb_query.specs.declared.clause.Clause.TheVariants.{Let}
use Rattle.tb_tlc.specs.Planned.{Draft, path_op, for_mark, with_for, first_draft}
use Rattle.tb_tlc.proofs.RowLaws.{rows_after, rows-append, MakesRows, each-rows}
use Rattle.tb_tlc.proofs.ApartLaws.{IsOf, path-of_root, path-of_maybe}
use Rattle.tb_tlc.proofs.CellLaws.{AreThere, there-more, in_doc, place_of}
use Rattle.tb_tlc.proofs.HoldsLaws.{Holds, holds-bound, tuple-serves, name_in, named_too}

-- The operators of a draft make a row of each tuple, in order.
pub record Plans (docs : Docs) (d : Draft) (b : Bindings) : Type 0 where
  pub name : ℕ → List ℕ
  pub row : Tuple → Row
  pub rows : rows_after docs d.ops first_rows ≡ Some (map row b.tuples)
  pub each : AllByRecursion (λ t. Holds docs name d.scope.columns d.next (t ∷ []) (row t)) b.tuples
  pub lets : d.scope.lets ≡ b.lets
  pub there : AreThere d.next d.scope.columns
  pub make : AllByRecursion MakesRows d.ops

-- the row of a tuple with one variable more
abbrev pub more_row : ℕ → (Tuple → Row) → Tuple → Row
more_row document row [] = []
more_row document row (b ∷ t) = row t ++ nodes (map (in_doc document) (option_to_list b.1)) ∷ []

module _ (docs : Docs) where
  node-rows : (document var : ℕ) (row : Tuple → Row) (t : Tuple) (us : List Numbered)
      → map (λ ns. row t ++ nodes ns ∷ []) (each_node (map (in_doc document) us)) ++ [] ≡ map (more_row document row) (map (λ v. (var, Some v) ∷ t) us)
  node-rows document var row t [] = refl
  node-rows document var row t (u ∷ us) = ap (λ rows. (row t ++ nodes (in_doc document u ∷ []) ∷ []) ∷ rows) (node-rows document var row t us)

  for-rows : (document var : ℕ) (empty : Bool) (row : Tuple → Row) (t : Tuple) (us : List Numbered)
      → map (λ ns. row t ++ nodes ns ∷ []) (marked (for_mark empty) (map (in_doc document) us)) ++ [] ≡ map (more_row document row) (extended var empty t us)
  for-rows document var true row t [] = refl
  for-rows document var false row t [] = refl
  for-rows document var true row t (u ∷ us) = node-rows document var row t (u ∷ us)
  for-rows document var false row t (u ∷ us) = node-rows document var row t (u ∷ us)

  -- the nodes of a path are of its document
  pub path-real : (name : ℕ → List ℕ) (t : Tuple) (from : Start) (steps : List Step) → ((var : ℕ) → AllByRecursion (IsOf (found (name var) docs)) (option_to_list (bound var t) ++ []))
      → AllByRecursion (IsOf (found (name_in name from) docs)) (nodes_from steps (start_in docs t from))
  path-real name t (start.Document document) steps real = path-of_root steps (found document docs)
  path-real name t (start.Var var) steps real =
      path-of_maybe steps (found (name var) docs) (bound var t)
      (subst (λ us. AllByRecursion (IsOf (found (name var) docs)) us) (append-nil (option_to_list (bound var t))) (real var))

  module _ (d : Draft) (b : Bindings) (plans : Plans docs d b) (var : ℕ) (empty : Bool) (path : Path) where
    abbrev from : Start
    from = (standing d.scope.lets path).start

    abbrev document : List ℕ
    document = name_in plans.name from

    bound-each : (t : Tuple) (us : List Numbered) → Holds docs plans.name d.scope.columns d.next (t ∷ []) (plans.row t) → AllByRecursion (IsOf (found document docs)) us
        → AllByRecursion (λ x. Holds docs (named_too var document plans.name) ((var, d.next) ∷ d.scope.columns) (d.next + 1) (x ∷ []) (more_row (place_of document 0 docs) plans.row x)) (map (λ v. (var, Some v) ∷ t) us)
    bound-each t [] holds of = tt
    bound-each t (u ∷ us) holds of =
        (holds-bound docs plans.name d.scope.columns d.next t (plans.row t) var document (Some u) plans.there holds (of.0, tt), bound-each t us holds of.1)

    pub extended-each : (t : Tuple) (keeps : Bool) (us : List Numbered) → Holds docs plans.name d.scope.columns d.next (t ∷ []) (plans.row t) → AllByRecursion (IsOf (found document docs)) us
        → AllByRecursion (λ x. Holds docs (named_too var document plans.name) ((var, d.next) ∷ d.scope.columns) (d.next + 1) (x ∷ []) (more_row (place_of document 0 docs) plans.row x)) (extended var keeps t us)
    extended-each t true [] holds of = (holds-bound docs plans.name d.scope.columns d.next t (plans.row t) var document None plans.there holds tt, tt)
    extended-each t false [] holds of = tt
    extended-each t keeps (u ∷ us) holds of = bound-each t (u ∷ us) holds of

    pub row-each : (t : Tuple) → Holds docs plans.name d.scope.columns d.next (t ∷ []) (plans.row t)
        → rows_after docs (path_op d.scope d.next (for_mark empty) path ∷ []) (plans.row t ∷ [])
        ≡ Some (map (more_row (place_of document 0 docs) plans.row) (extended var empty t (nodes_in docs (standing d.scope.lets path) t)))
    row-each t holds =
        ap (λ us. Some (map (λ ns. plans.row t ++ nodes ns ∷ []) (marked (for_mark empty) us) ++ [])) ((tuple-serves docs plans.name d.scope d.next t (plans.row t) plans.there holds).gives path)
        ∙ ap Some (for-rows (place_of document 0 docs) var empty plans.row t (nodes_in docs (standing d.scope.lets path) t))

    -- `FOR` extends each tuple, and its row by one cell.
    abbrev pub for-plans : Plans docs (with_for d var empty path None) (record { tuples = flat_map (λ t. extended var empty t (nodes_in docs (standing d.scope.lets path) t)) b.tuples; lets = b.lets })
    for-plans = record {
      name = named_too var document plans.name;
      row = more_row (place_of document 0 docs) plans.row;
      rows =
          rows-append docs d.ops (path_op d.scope d.next (for_mark empty) path ∷ []) first_rows
          ∙ ap (option_and_then (rows_after docs (path_op d.scope d.next (for_mark empty) path ∷ []))) plans.rows
          ∙ each-rows docs (path_op d.scope d.next (for_mark empty) path ∷ []) (tt, tt) plans.row
          (λ t. extended var empty t (nodes_in docs (standing d.scope.lets path) t)) (more_row (place_of document 0 docs) plans.row) b.tuples
          (all-weaker (λ t. Holds docs plans.name d.scope.columns d.next (t ∷ []) (plans.row t)) _ b.tuples row-each plans.each);
      each =
          all-flat_map (λ x. Holds docs (named_too var document plans.name) ((var, d.next) ∷ d.scope.columns) (d.next + 1) (x ∷ []) (more_row (place_of document 0 docs) plans.row x))
          (λ t. extended var empty t (nodes_in docs (standing d.scope.lets path) t)) b.tuples
          (all-weaker (λ t. Holds docs plans.name d.scope.columns d.next (t ∷ []) (plans.row t))
          (λ t. AllByRecursion (λ x. Holds docs (named_too var document plans.name) ((var, d.next) ∷ d.scope.columns) (d.next + 1) (x ∷ []) (more_row (place_of document 0 docs) plans.row x)) (extended var empty t (nodes_in docs (standing d.scope.lets path) t)))
          b.tuples
          (λ t holds. extended-each t empty (nodes_in docs (standing d.scope.lets path) t) holds (path-real plans.name t from (standing d.scope.lets path).steps holds.real))
          plans.each);
      lets = plans.lets;
      there = (omega arith, there-more d.next (d.next + 1) d.scope.columns (omega arith) plans.there);
      make = all-append MakesRows d.ops (path_op d.scope d.next (for_mark empty) path ∷ []) plans.make (tt, tt);
    }

  -- `LET` leaves tuples and rows as they are.
  pub let-plans : (d : Draft) (b : Bindings) (var : ℕ) (path : Path) → Plans docs d b
      → Plans docs (record { ops = d.ops; scope = record { lets = (var, standing d.scope.lets path) ∷ d.scope.lets; columns = d.scope.columns }; next = d.next }) (bound_by docs b (Let var path))
  let-plans d b var path plans = record {
    name = plans.name;
    row = plans.row;
    rows = plans.rows;
    each = plans.each;
    lets = ap (λ lets. (var, standing lets path) ∷ lets) plans.lets;
    there = plans.there;
    make = plans.make;
  }

  -- At the start there is one tuple without variables, and one row without cells.
  pub first-plans : Plans docs first_draft (record { tuples = [] ∷ []; lets = [] })
  first-plans = record {
    name = λ var. [];
    row = λ t. [];
    rows = refl;
    each = (record { long = refl; cells = λ var. refl; real = λ var. tt }, tt);
    lets = refl;
    there = tt;
    make = tt;
  }
