-- Rows that hold what the variables of a group of tuples stand for. One tuple is a group of its own.
use Rattle.std.proofs.Common.{◌≡◌, ℕ, ◌+◌, ◌==◌, Bool, true, false, if◌then◌else◌, List, [], ◌∷◌, ◌++◌, length, map, refl, sym, ap, ap₂, ◌∙◌, subst, Option, Some, None, append-nil, length-append}
use Rattle.std.specs.List.{flat_map, AllByRecursion}
use Rattle.std.specs.Option.{option_to_list}
use Rattle.std.proofs.lemmas.List.Concat.{flat_map-append}
use mathlib.Core.Path.{fun_ext}
use Rattle.tb_tree.specs.Documents.{Docs, found}
use Rattle.tb_tree.specs.Numbers.{Numbered}
use Rattle.tb_tree.specs.Rows.{Cell, nodes, Row, cell_at}
use Rattle.tb_tree.proofs.lists.Alls.{all-append, all-weaker}
use Rattle.tb_query.specs.Comparisons.{nodes_at}
use Rattle.tb_query.specs.Groups.{is_same_node, nodes_over}
use Rattle.tb_query.specs.Lists.{each_once}
use Rattle.tb_query.specs.Nodes.{nodes_from, node_at}
use Rattle.tb_query.specs.Selected.{column_nodes, from_cell}
use Rattle.tb_query.specs.Tuples.{Tuple, Lets, bound, standing, start_in, from_root, from_node, nodes_in}
use Rattle.tb_query.specs.declared.path.Path.{Path}
use Rattle.tb_query.specs.declared.path.Start.{Start}
use Rattle.tb_query.specs.declared.path.Start.TheVariants as start
use Rattle.tb_query.specs.declared.path.Step.{Step}
use Rattle.tb_tlc.specs.Meaning.{column_from}
use Rattle.tb_tlc.specs.Planned.{Scope, Columns, column_of, column_start}
use Rattle.tb_tlc.proofs.ApartLaws.{IsOf, number-tells, path-once, path-nowhere}
use Rattle.tb_tlc.proofs.ThroughLaws.{once-again, once-through}
use Rattle.tb_tlc.proofs.CellLaws.{AreThere, cell-next, cell-more, in_doc, place_of, document-nodes, cell-nodes, node-itself}
use Rattle.tb_tlc.proofs.ServedLaws.{Serves}

-- the nodes of a variable in the tuples of a group, one tuple after the other
abbrev pub nodes_bound : ℕ → List Tuple → List Numbered
nodes_bound var group = flat_map (λ t. option_to_list (bound var t)) group

-- The row, n cells wide, has in the column of each variable its nodes over the group, each once. They are nodes
-- of the document of the variable's name.
pub record Holds (docs : Docs) (name : ℕ → List ℕ) (columns : Columns) (n : ℕ) (group : List Tuple) (row : Row) : Type 0 where
  pub long : length row ≡ n
  pub cells : (var : ℕ) → cell_at (column_of n var columns) row ≡ nodes (map (in_doc (place_of (name var) 0 docs)) (each_once is_same_node (nodes_bound var group)))
  pub real : (var : ℕ) → AllByRecursion (IsOf (found (name var) docs)) (nodes_bound var group)

-- the name of the document of a path that starts here
abbrev pub name_in : (ℕ → List ℕ) → Start → List ℕ
name_in name (start.Document document) = document
name_in name (start.Var var) = name var

-- the number of the document of a path
abbrev pub place_in : Docs → (ℕ → List ℕ) → Lets → Path → ℕ
place_in docs name lets path = place_of (name_in name (standing lets path).start) 0 docs

flat-bound : (steps : List Step) (var : ℕ) (group : List Tuple)
    → flat_map (λ u. nodes_from steps (node_at u)) (nodes_bound var group) ≡ flat_map (λ t. nodes_from steps (from_node (bound var t))) group
flat-bound steps var [] = refl
flat-bound steps var (t ∷ group) =
    flat_map-append (λ u. nodes_from steps (node_at u)) (option_to_list (bound var t)) (nodes_bound var group)
    ∙ ap₂ (λ a b. a ++ b) (by (bound var t)) (flat-bound steps var group)
  where
    by : (o : Option Numbered) → flat_map (λ u. nodes_from steps (node_at u)) (option_to_list o) ≡ nodes_from steps (from_node o)
    by None = sym (path-nowhere steps)
    by (Some u) = append-nil (nodes_from steps (node_at u))

module _ (docs : Docs) (name : ℕ → List ℕ) where
  all-tell : (var : ℕ) (steps : List Step) (us vs : List Numbered) → AllByRecursion (IsOf (found (name var) docs)) us → AllByRecursion (IsOf (found (name var) docs)) vs
      → AllByRecursion (λ u. AllByRecursion (λ w. is_same_node u w ≡ true → nodes_from steps (node_at u) ≡ nodes_from steps (node_at w)) vs) us
  all-tell var steps us vs real also =
      let root = found (name var) docs in
      all-weaker (IsOf root) (λ u. AllByRecursion (λ w. is_same_node u w ≡ true → nodes_from steps (node_at u) ≡ nodes_from steps (node_at w)) vs) us
      (λ u of. all-weaker (IsOf root) (λ w. is_same_node u w ≡ true → nodes_from steps (node_at u) ≡ nodes_from steps (node_at w)) vs
      (λ w too is. ap (λ x. nodes_from steps (node_at x)) (number-tells root u w of too is)) also)
      real

  pub path-given : (columns : Columns) (n : ℕ) (t : Tuple) (ts : List Tuple) (row : Row) → Holds docs name columns n (t ∷ ts) row → (from : Start) (steps : List Step)
      → column_nodes docs (column_from (column_start n columns from)) steps row
      ≡ map (in_doc (place_of (name_in name from) 0 docs)) (each_once is_same_node (flat_map (λ x. nodes_from steps (start_in docs x from)) (t ∷ ts)))
  path-given columns n t ts row holds (start.Document document) steps =
      let ns = nodes_from steps (from_root (found document docs)) in
      document-nodes steps document 0 docs
      ∙ ap (map (in_doc (place_of document 0 docs))) (sym (once-again is_same_node node-itself ns ts ∙ path-once steps (from_root (found document docs))))
  path-given columns n t ts row holds (start.Var var) steps =
      let place = place_of (name var) 0 docs in
      let us = nodes_bound var (t ∷ ts) in
      let f = λ (u : Numbered). nodes_from steps (node_at u) in
      ap (from_cell steps) (holds.cells var)
      ∙ cell-nodes place steps (each_once is_same_node us)
      ∙ ap (map (in_doc place))
      (once-through is_same_node is_same_node node-itself f us (all-tell var steps us us (holds.real var) (holds.real var))
      ∙ ap (each_once is_same_node) (flat-bound steps var (t ∷ ts)))

  -- From such a row each path has its nodes over the group.
  pub holds-serves : (s : Scope) (n : ℕ) (t : Tuple) (ts : List Tuple) (row : Row) → AreThere n s.columns → Holds docs name s.columns n (t ∷ ts) row
      → Serves docs s n (place_in docs name s.lets) (nodes_over docs s.lets (t ∷ ts)) row
  holds-serves s n t ts row there holds = record {
    long = holds.long;
    there = there;
    gives = λ path. path-given s.columns n t ts row holds (standing s.lets path).start (standing s.lets path).steps;
  }

  -- one tuple alone
  pub over-one : (lets : Lets) (t : Tuple) → nodes_over docs lets (t ∷ []) ≡ nodes_at docs lets t
  over-one lets t =
      fun_ext (λ path.
      ap (each_once is_same_node) (append-nil (nodes_in docs (standing lets path) t))
      ∙ path-once (standing lets path).steps (start_in docs t (standing lets path).start))

  pub tuple-serves : (s : Scope) (n : ℕ) (t : Tuple) (row : Row) → AreThere n s.columns → Holds docs name s.columns n (t ∷ []) row
      → Serves docs s n (place_in docs name s.lets) (nodes_at docs s.lets t) row
  tuple-serves s n t row there holds =
      subst (λ given. Serves docs s n (place_in docs name s.lets) given row) (over-one s.lets t) (holds-serves s n t [] row there holds)

  -- Cells behind the row change nothing.
  pub holds-more : (columns : Columns) (n w : ℕ) (group : List Tuple) (row : Row) (more : List Cell) → AreThere n columns → Holds docs name columns n group row → length more ≡ w
      → Holds docs name columns (n + w) group (row ++ more)
  holds-more columns n w group row more there holds wide =
      let longer : length (row ++ more) ≡ n + w = length-append row more ∙ ap₂ (λ a b. a + b) holds.long wide in
      record {
        long = longer;
        cells = λ var. cell-more n (n + w) var columns row more there holds.long longer ∙ holds.cells var;
        real = holds.real;
      }

-- the names of documents where a variable is bound to one of this name
abbrev pub named_too : ℕ → List ℕ → (ℕ → List ℕ) → ℕ → List ℕ
named_too var document name v = if v == var then document else name v

once-maybe : (o : Option Numbered) → each_once is_same_node (option_to_list o ++ []) ≡ option_to_list o
once-maybe None = refl
once-maybe (Some u) = refl

-- A tuple with one variable more has one cell more, with its node.
pub holds-bound : (docs : Docs) (name : ℕ → List ℕ) (columns : Columns) (n : ℕ) (t : Tuple) (row : Row) (var : ℕ) (document : List ℕ) (o : Option Numbered)
    → AreThere n columns → Holds docs name columns n (t ∷ []) row → AllByRecursion (IsOf (found document docs)) (option_to_list o)
    → Holds docs (named_too var document name) ((var, n) ∷ columns) (n + 1) (((var, o) ∷ t) ∷ []) (row ++ nodes (map (in_doc (place_of document 0 docs)) (option_to_list o)) ∷ [])
holds-bound docs name columns n t row var document o there holds of =
    record {
      long = longer;
      cells = λ v. cells-by v (v == var);
      real = λ v. real-by v (v == var);
    }
  where
    c : Cell
    c = nodes (map (in_doc (place_of document 0 docs)) (option_to_list o))

    longer : length (row ++ c ∷ []) ≡ n + 1
    longer = length-append row (c ∷ []) ∙ ap (λ k. k + 1) holds.long

    cells-by : (v : ℕ) (b : Bool)
        → cell_at (if b then n else column_of (n + 1) v columns) (row ++ c ∷ [])
        ≡ nodes (map (in_doc (place_of (if b then document else name v) 0 docs)) (each_once is_same_node (option_to_list (if b then o else bound v t) ++ [])))
    cells-by v true = cell-next n row c [] holds.long ∙ ap (λ us. nodes (map (in_doc (place_of document 0 docs)) us)) (sym (once-maybe o))
    cells-by v false = cell-more n (n + 1) v columns row (c ∷ []) there holds.long longer ∙ holds.cells v

    real-by : (v : ℕ) (b : Bool) → AllByRecursion (IsOf (found (if b then document else name v) docs)) (option_to_list (if b then o else bound v t) ++ [])
    real-by v true = all-append (IsOf (found document docs)) (option_to_list o) [] of tt
    real-by v false = holds.real v
