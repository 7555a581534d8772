-- Rows from which the nodes of paths can be selected, and what operands and conditions make of them. Nothing
-- here looks at tuples: a row serves any way in which paths have nodes.
use Rattle.std.proofs.Common.{◌≡◌, ℕ, ◌+◌, Bool, true, false, if◌then◌else◌, List, [], ◌∷◌, ◌++◌, length, map, refl, sym, ap, ap₂, ◌∙◌, subst, arith, Option, Some, None, option_map, option_and_then, append_assoc, append-nil, length-append}
use Rattle.std.proofs.lemmas.List.{length-map}
use Rattle.std.proofs.lemmas.Option.{none-some, same_Some}
use Rattle.tb_tree.specs.Value.{value_of}
use Rattle.tb_tlc.proofs.AloneLaws.{alone-conds}
use Rattle.std.specs.Option.{option_to_list}
use Rattle.std.specs.Prelude.{pos}
use Rattle.tb_tree.specs.Documents.{Docs}
use Rattle.tb_tree.specs.Numbers.{Numbered}
use Rattle.tb_tree.specs.Rows.{NodeIn, Cell, nodes, value, Row, cell_at, values_of}
use Rattle.tb_number.specs.Canonical.{canonical_text}
use Rattle.tb_number.specs.declared.agg.AggKind.{AggKind}
use Rattle.tb_number.specs.declared.agg.AggKind.TheVariants.{Count, Sum, Min, Max}
use Rattle.tb_number.specs.declared.op.CmpOp.{CmpOp}
use Rattle.tb_pattern.specs.declared.cond.Literal as literal_type
use Rattle.tb_pattern.specs.declared.cond.Literal.TheVariants as literals
use Rattle.tb_pattern.specs.declared.pattern.Mark.TheVariants as mark
use Rattle.tb_query.specs.Comparisons.{some_stand, some_stand_to, comparison_holds, all_tested}
use Rattle.tb_query.specs.Operands.{values, aggregate, operand_values}
use Rattle.tb_query.specs.Operators.{cell_aggregate, stands_against, values_at, aggregated}
use Rattle.tb_query.specs.Selected.{column_nodes, from_cell}
use Rattle.tb_query.specs.Tuples.{standing}
use Rattle.tb_query.specs.declared.path.Path.{Path}
use Rattle.tb_query.specs.declared.path.Start.{Start}
use Rattle.tb_query.specs.declared.path.Start.TheVariants as start
use Rattle.tb_query.specs.declared.path.Step.{Step}
use Rattle.tb_query.specs.declared.operand.Operand.{Operand}
use Rattle.tb_query.specs.declared.operand.Operand.TheVariants as operand
use Rattle.tb_query.specs.declared.operand.Right.{Right}
use Rattle.tb_query.specs.declared.operand.Right.TheVariants as right
use Rattle.tb_query.specs.declared.operand.Comparison.{Comparison}
use Rattle.tb_tlc.specs.declared.plan.Op.{Op}
use Rattle.tb_tlc.specs.declared.plan.Op.TheVariants.{Aggregate, Filter}
use Rattle.tb_tlc.specs.Meaning.{column_from}
use Rattle.tb_tlc.specs.Planned.{Scope, Columns, column_start, path_op, operand_ops, operand_width, operand_column, right_ops, right_width, right_against, cond_ops, cond_width, conds_ops, conds_width}
use Rattle.tb_tlc.proofs.RowLaws.{rows_after, rows-append, after-none}
use Rattle.tb_tlc.proofs.CellLaws.{AreThere, there-more, cell-next, cell-more, in_doc, values-in}
use Rattle.tb_tlc.proofs.TakesLaws.{Takes, takes-map, takes-is, takes-read, takes-both, takes-filter}

-- the nodes that a path has, started in a row
abbrev pub path_nodes : Docs → Scope → ℕ → Path → Row → List NodeIn
path_nodes docs s n path row =
    column_nodes docs (column_from (column_start n s.columns (standing s.lets path).start)) (standing s.lets path).steps row

-- From the row, n cells wide, each path has the nodes that are given, in the document of this number.
pub record Serves (docs : Docs) (s : Scope) (n : ℕ) (at : Path → ℕ) (given : Path → List Numbered) (row : Row) : Type 0 where
  pub long : length row ≡ n
  pub there : AreThere n s.columns
  pub gives : (path : Path) → path_nodes docs s n path row ≡ map (in_doc (at path)) (given path)

-- Cells behind the row change nothing.
nodes-more : (docs : Docs) (columns : Columns) (n m : ℕ) (from : Start) (steps : List Step) (row more : Row) → AreThere n columns → length row ≡ n → length (row ++ more) ≡ m
    → column_nodes docs (column_from (column_start m columns from)) steps (row ++ more) ≡ column_nodes docs (column_from (column_start n columns from)) steps row
nodes-more docs columns n m (start.Document name) steps row more there long longer = refl
nodes-more docs columns n m (start.Var var) steps row more there long longer = ap (from_cell steps) (cell-more n m var columns row more there long longer)

pub serves-more : (docs : Docs) (s : Scope) (n w : ℕ) (at : Path → ℕ) (given : Path → List Numbered) (row : Row) (more : List Cell)
    → Serves docs s n at given row → length more ≡ w → Serves docs s (n + w) at given (row ++ more)
serves-more docs s n w at given row more serves wide =
    let longer : length (row ++ more) ≡ n + w = length-append row more ∙ ap₂ (λ a b. a + b) serves.long wide in
    record {
      long = longer;
      there = there-more n (n + w) s.columns (omega arith) serves.there;
      gives = λ path.
          nodes-more docs s.columns n (n + w) (standing s.lets path).start (standing s.lets path).steps row more serves.there serves.long longer
          ∙ serves.gives path;
    }

-- an aggregate of nodes is that of their values
aggregate-cell : (kind : AggKind) (document : ℕ) (us : List Numbered) → cell_aggregate kind (nodes (map (in_doc document) us)) ≡ aggregate kind (values us)
aggregate-cell Count document us =
    ap (λ n. Some (Some (canonical_text (pos n)))) (length-map us (in_doc document) ∙ sym (length-map us (λ u. value_of u.node)))
aggregate-cell Sum document us = ap (aggregate Sum) (values-in document us)
aggregate-cell Min document us = ap (aggregate Min) (values-in document us)
aggregate-cell Max document us = ap (aggregate Max) (values-in document us)

-- a value or none, also where it is past
abbrev pub or_none : {A : Type 0} → Option (Option A) → Option A
or_none None = None
or_none (Some v) = v

module _ (docs : Docs) (s : Scope) (at : Path → ℕ) (given : Path → List Numbered) where
  -- the cells of an operand
  abbrev pub path_cell : Path → Cell
  path_cell path = nodes (map (in_doc (at path)) (given path))

  abbrev pub operand_cells : Operand → List Cell
  operand_cells (operand.Nodes path) = path_cell path ∷ []
  operand_cells (operand.Agg kind path) = path_cell path ∷ value (or_none (aggregate kind (values (given path)))) ∷ []

  -- the last of them, unless it is past
  abbrev pub operand_cell : Operand → Option Cell
  operand_cell (operand.Nodes path) = Some (path_cell path)
  operand_cell (operand.Agg kind path) = option_map value (aggregate kind (values (given path)))

  pub takes-path : (n : ℕ) (row : Row) (path : Path) → Serves docs s n at given row
      → Takes docs row (path_op s n mark.Any path ∷ []) 1 (path_cell path ∷ []) (Some (path_cell path)) (cell_at n)
  takes-path n row path serves = record {
    wide = refl;
    run = ap (λ us. Some ((row ++ nodes us ∷ []) ∷ [])) (serves.gives path);
    shows = λ c is more. cell-next n row (path_cell path) more serves.long ∙ same_Some (path_cell path) c is;
  }

  aggregate-run : (n : ℕ) (kind : AggKind) (path : Path) (row : Row) (a : Option (Option (List ℕ))) → cell_aggregate kind (cell_at n row) ≡ a
      → aggregated n kind (row ∷ []) ≡ option_map (λ x. (row ++ value (or_none a) ∷ []) ∷ []) (option_map value a)
  aggregate-run n kind path row a is = ap (λ o. option_and_then (λ y. option_map (λ ys. y ∷ ys) (Some [])) (option_map (λ v. row ++ value v ∷ []) o)) is ∙ by a
    where
      by : (o : Option (Option (List ℕ)))
          → option_and_then (λ y. option_map (λ ys. y ∷ ys) (Some [])) (option_map (λ v. row ++ value v ∷ []) o) ≡ option_map (λ x. (row ++ value (or_none o) ∷ []) ∷ []) (option_map value o)
      by None = refl
      by (Some v) = refl

  rows-kept : (o : Option (List Row)) → option_and_then (λ rows. Some rows) o ≡ o
  rows-kept None = refl
  rows-kept (Some rows) = refl

  takes-aggregate : (n : ℕ) (kind : AggKind) (row : Row) (path : Path) → length row ≡ n
      → Takes docs (row ++ path_cell path ∷ []) (Aggregate n kind ∷ []) 1 (value (or_none (aggregate kind (values (given path)))) ∷ []) (option_map value (aggregate kind (values (given path)))) (cell_at (n + 1))
  takes-aggregate n kind row path long =
      let a = aggregate kind (values (given path)) in
      let whole = row ++ path_cell path ∷ [] in
      let longer : length whole ≡ n + 1 = length-append row (path_cell path ∷ []) ∙ ap (λ k. k + 1) long in
      record {
        wide = refl;
        run =
            rows-kept (aggregated n kind (whole ∷ []))
            ∙ aggregate-run n kind path whole a (ap (cell_aggregate kind) (cell-next n row (path_cell path) [] long) ∙ aggregate-cell kind (at path) (given path));
        shows = λ c is more. cell-next (n + 1) whole (value (or_none a)) more longer ∙ by a c is;
      }
    where
      by : (o : Option (Option (List ℕ))) (c : Cell) → option_map value o ≡ Some c → value (or_none o) ≡ c
      by None c is = absurd (none-some c is)
      by (Some v) c is = same_Some (value v) c is

  last-taken : {V W : Type 0} (x : V) (o : Option W) → option_and_then (λ z. option_map (λ y. y) o) (Some x) ≡ o
  last-taken x None = refl
  last-taken x (Some y) = refl

  pub takes-operand : (n : ℕ) (row : Row) (o : Operand) → Serves docs s n at given row
      → Takes docs row (operand_ops s n o) (operand_width o) (operand_cells o) (operand_cell o) (cell_at (operand_column n o))
  takes-operand n row (operand.Nodes path) serves = takes-path n row path serves
  takes-operand n row (operand.Agg kind path) serves =
      let a = option_map value (aggregate kind (values (given path))) in
      takes-is docs row (operand_ops s n (operand.Agg kind path)) 2 (operand_cells (operand.Agg kind path)) (option_and_then (λ z. option_map (λ y. y) a) (Some (path_cell path))) a (cell_at (n + 1))
      (last-taken (path_cell path) a)
      (takes-both docs (λ x y. y) row (path_op s n mark.Any path ∷ []) (Aggregate n kind ∷ []) 1 1 (path_cell path ∷ []) (value (or_none (aggregate kind (values (given path)))) ∷ [])
      (Some (path_cell path)) a (cell_at n) (cell_at (n + 1))
      (takes-path n row path serves) (takes-aggregate n kind row path serves.long))

  values-taken : (o : Operand) → option_map values_of (operand_cell o) ≡ operand_values given o
  values-taken (operand.Nodes path) = ap Some (values-in (at path) (given path))
  values-taken (operand.Agg kind path) = by (aggregate kind (values (given path)))
    where
      by : (a : Option (Option (List ℕ))) → option_map values_of (option_map value a) ≡ option_map option_to_list a
      by None = refl
      by (Some v) = refl

  -- An operand's values are read in its column.
  pub takes-values : (n : ℕ) (row : Row) (o : Operand) → Serves docs s n at given row
      → Takes docs row (operand_ops s n o) (operand_width o) (operand_cells o) (operand_values given o) (values_at (operand_column n o))
  takes-values n row o serves =
      takes-is docs row (operand_ops s n o) (operand_width o) (operand_cells o) (option_map values_of (operand_cell o)) (operand_values given o) (values_at (operand_column n o))
      (values-taken o)
      (takes-map docs values_of row (operand_ops s n o) (operand_width o) (operand_cells o) (operand_cell o) (cell_at (operand_column n o)) (takes-operand n row o serves))

  abbrev pub right_cells : Right → List Cell
  right_cells (right.Operand o) = operand_cells o
  right_cells (right.Literal to) = []

  abbrev pub cond_cells : Comparison → List Cell
  cond_cells c = operand_cells c.left ++ right_cells c.right

  map-then : {V W : Type 0} (f : V → W) (o : Option V) → option_map f o ≡ option_and_then (λ x. Some (f x)) o
  map-then f None = refl
  map-then f (Some x) = refl

  -- Whether a comparison holds is read in its columns.
  takes-sides : (n : ℕ) (row : Row) (left : Operand) (op : CmpOp) (r : Right) → Serves docs s n at given row
      → Takes docs row (operand_ops s n left ++ right_ops s (n + operand_width left) r) (operand_width left + right_width r) (operand_cells left ++ right_cells r)
      (comparison_holds given (record { left = left; op = op; right = r }))
      (λ x. stands_against op (values_at (operand_column n left) x) (right_against (n + operand_width left) r) x)
  takes-sides n row left op (right.Operand o) serves =
      takes-both docs (some_stand op) row (operand_ops s n left) (operand_ops s (n + operand_width left) o) (operand_width left) (operand_width o) (operand_cells left) (operand_cells o)
      (operand_values given left) (operand_values given o) (values_at (operand_column n left)) (values_at (operand_column (n + operand_width left) o))
      (takes-values n row left serves)
      (takes-values (n + operand_width left) (row ++ operand_cells left) o
      (serves-more docs s n (operand_width left) at given row (operand_cells left) serves (takes-values n row left serves).wide))
  takes-sides n row left op (right.Literal to) serves =
      takes-read docs row (operand_ops s n left ++ []) (operand_width left + 0) (operand_cells left ++ []) (option_and_then (λ x. Some (some_stand_to op x to)) (operand_values given left))
      (λ x. some_stand_to op (values_at (operand_column n left) x) to)
      (λ x. stands_against op (values_at (operand_column n left) x) (right_against (n + operand_width left) (right.Literal to)) x)
      (λ x. literal to x)
      (takes-is docs row (operand_ops s n left ++ []) (operand_width left + 0) (operand_cells left ++ []) (option_map (λ x. some_stand_to op x to) (operand_values given left))
      (option_and_then (λ x. Some (some_stand_to op x to)) (operand_values given left)) (λ x. some_stand_to op (values_at (operand_column n left) x) to)
      (map-then (λ x. some_stand_to op x to) (operand_values given left))
      (nothing_more
      (takes-map docs (λ x. some_stand_to op x to) row (operand_ops s n left) (operand_width left) (operand_cells left) (operand_values given left) (values_at (operand_column n left))
      (takes-values n row left serves))))
    where
      literal : (to : literal_type.Literal) (x : Row) → stands_against op (values_at (operand_column n left) x) (right_against (n + operand_width left) (right.Literal to)) x ≡ some_stand_to op (values_at (operand_column n left) x) to
      literal (literals.Number k) x = refl
      literal (literals.Text bytes) x = refl

      nothing_more : {V : Type 0} {ops : List Op} {w : ℕ} {cells : List Cell} {taken : Option V} {read : Row → V} → Takes docs row ops w cells taken read → Takes docs row (ops ++ []) (w + 0) (cells ++ []) taken read
      nothing_more {V} {ops} {w} {cells} {taken} {read} t =
          subst (λ o. Takes docs row o (w + 0) (cells ++ []) taken read) (sym (append-nil ops))
          (subst (λ k. Takes docs row ops k (cells ++ []) taken read) (let e : w ≡ w + 0 = omega arith in e)
          (subst (λ c. Takes docs row ops w c taken read) (sym (append-nil cells)) t))

  pub takes-cond : (n : ℕ) (row : Row) (c : Comparison) → Serves docs s n at given row
      → Takes docs row (operand_ops s n c.left ++ right_ops s (n + operand_width c.left) c.right) (cond_width c) (cond_cells c) (comparison_holds given c)
      (λ x. stands_against c.op (values_at (operand_column n c.left) x) (right_against (n + operand_width c.left) c.right) x)
  takes-cond n row c serves = takes-sides n row c.left c.op c.right serves

  -- The row is kept where the comparison holds.
  pub cond-one : (n : ℕ) (row : Row) (c : Comparison) → Serves docs s n at given row
      → rows_after docs (cond_ops s n c) (row ∷ []) ≡ option_map (λ held. if held then (row ++ cond_cells c) ∷ [] else []) (comparison_holds given c)
  cond-one n row c serves =
      let left = operand_ops s n c.left in
      let behind = right_ops s (n + operand_width c.left) c.right in
      let test = Filter (operand_column n c.left) c.op (right_against (n + operand_width c.left) c.right) in
      ap (λ ops. rows_after docs ops (row ∷ [])) (sym (append_assoc left behind (test ∷ [])))
      ∙ takes-filter docs row (left ++ behind) (cond_width c) (cond_cells c) (comparison_holds given c) (operand_column n c.left) c.op (right_against (n + operand_width c.left) c.right) (takes-cond n row c serves)

  abbrev pub conds_cells : List Comparison → List Cell
  conds_cells [] = []
  conds_cells (c ∷ conds) = cond_cells c ++ conds_cells conds

  pub wide-conds : (n : ℕ) (row : Row) (conds : List Comparison) → Serves docs s n at given row → length (conds_cells conds) ≡ conds_width conds
  wide-conds n row [] serves = refl
  wide-conds n row (c ∷ conds) serves =
      length-append (cond_cells c) (conds_cells conds) ∙ ap₂ (λ a b. a + b) (takes-cond n row c serves).wide (wide-conds n row conds serves)

  conds-step : (row : Row) (cells behind : List Cell) (ops : List Op) (others : Option Bool) (o : Option Bool)
      → rows_after docs ops [] ≡ Some []
      → rows_after docs ops ((row ++ cells) ∷ []) ≡ option_map (λ held. if held then ((row ++ cells) ++ behind) ∷ [] else []) others
      → option_and_then (rows_after docs ops) (option_map (λ held. if held then (row ++ cells) ∷ [] else []) o)
      ≡ option_map (λ held. if held then (row ++ (cells ++ behind)) ∷ [] else []) (option_and_then (λ held. if held then others else Some false) o)
  conds-step row cells behind ops others None none next = refl
  conds-step row cells behind ops others (Some true) none next =
      next ∙ ap (λ r. option_map (λ held. if held then r ∷ [] else []) others) (append_assoc row cells behind)
  conds-step row cells behind ops others (Some false) none next = none

  -- The row is kept where all hold, and behind one that fails none is tested.
  pub conds-one : (n : ℕ) (row : Row) (conds : List Comparison) → Serves docs s n at given row
      → rows_after docs (conds_ops s n conds) (row ∷ []) ≡ option_map (λ held. if held then (row ++ conds_cells conds) ∷ [] else []) (all_tested given conds)
  conds-one n row [] serves = ap (λ r. Some (r ∷ [])) (sym (append-nil row))
  conds-one n row (c ∷ conds) serves =
      let w = cond_width c in
      let next = serves-more docs s n w at given row (cond_cells c) serves (takes-cond n row c serves).wide in
      rows-append docs (cond_ops s n c) (conds_ops s (n + w) conds) (row ∷ [])
      ∙ ap (option_and_then (rows_after docs (conds_ops s (n + w) conds))) (cond-one n row c serves)
      ∙ conds-step row (cond_cells c) (conds_cells conds) (conds_ops s (n + w) conds) (all_tested given conds) (comparison_holds given c)
      (after-none docs (conds_ops s (n + w) conds) (alone-conds s (n + w) conds))
      (conds-one (n + w) (row ++ cond_cells c) conds next)
