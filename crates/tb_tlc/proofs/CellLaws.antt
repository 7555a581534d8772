-- Cells of rows by their columns, and nodes with the number of their document.
use Rattle.std.proofs.Common.{◌≡◌, ◌&&◌, ℕ, zero, suc, ◌+◌, ◌==◌, ◌<◌, ◌≤◌, Bool, true, false, if◌then◌else◌, List, [], ◌∷◌, ◌++◌, length, map, refl, sym, ap, ◌∙◌, arith, Some}
use Rattle.std.specs.List.{flat_map, AllByRecursion}
use Rattle.std.specs.Str.{bytes_eq}
use Rattle.std.proofs.lemmas.Bool.{eq-eqb}
use mathlib.Core.Path.{fun_ext}
use Rattle.std.proofs.lemmas.List.Folds.{flat_map-map}
use Rattle.std.proofs.lemmas.Simd.{map-map}
use Rattle.tb_tree.specs.Documents.{Docs, found}
use Rattle.tb_tree.specs.Numbers.{Numbered}
use Rattle.tb_tree.specs.Rows.{NodeIn, Cell, nodes, Row, cell_at, values_of, is_same}
use Rattle.tb_tree.specs.Value.{value_of}
use Rattle.tb_tree.proofs.lists.Maps.{map-flat_map}
use Rattle.tb_query.specs.Groups.{is_same_node}
use Rattle.tb_query.specs.Lists.{each_once}
use Rattle.tb_query.specs.Nodes.{nodes_from, document_node, node_at}
use Rattle.tb_query.specs.Operands.{values}
use Rattle.tb_query.specs.Selected.{from_document, from_cell, stepped}
use Rattle.tb_query.specs.Tuples.{from_root}
use Rattle.tb_query.specs.declared.path.Step.{Step}
use Rattle.tb_query.proofs.OnceLaws.{map-once}
use Rattle.tb_tlc.specs.Planned.{Columns, column_of}
use Rattle.tb_tlc.proofs.ApartLaws.{path-nowhere}

-- a column that isn't there has no node
pub cell-past : (n : ℕ) (row : Row) → length row ≤ n → cell_at n row ≡ nodes []
cell-past n [] past = refl
cell-past zero (c ∷ row) past = absurd (omega (arith, past))
cell-past (suc n) (c ∷ row) past = cell-past n row (omega (arith, past))

pub cell-left : (n : ℕ) (row more : Row) → n < length row → cell_at n (row ++ more) ≡ cell_at n row
cell-left n [] more less = absurd (omega (arith, less))
cell-left zero (c ∷ row) more less = refl
cell-left (suc n) (c ∷ row) more less = cell-left n row more (omega (arith, less))

-- the first cell behind a row
pub cell-next : (n : ℕ) (row : Row) (c : Cell) (more : Row) → length row ≡ n → cell_at n (row ++ c ∷ more) ≡ c
cell-next zero [] c more long = refl
cell-next (suc n) [] c more long = absurd (omega (arith, long))
cell-next zero (d ∷ row) c more long = absurd (omega (arith, long))
cell-next (suc n) (d ∷ row) c more long = cell-next n row c more (omega (arith, long))

-- The columns of variables are there.
abbrev pub AreThere : ℕ → Columns → Type 0
AreThere n columns = AllByRecursion (λ c. c.1 < n) columns

pub there-more : (n m : ℕ) (columns : Columns) → n ≤ m → AreThere n columns → AreThere m columns
there-more n m [] less there = tt
there-more n m (c ∷ columns) less there = (let t = there.0 in omega (arith, less, t), there-more n m columns less there.1)

-- Cells behind a row change nothing of a variable, whether it has a column or not.
pub cell-more : (n m var : ℕ) (columns : Columns) (row more : Row) → AreThere n columns → length row ≡ n → length (row ++ more) ≡ m
    → cell_at (column_of m var columns) (row ++ more) ≡ cell_at (column_of n var columns) row
cell-more n m var [] row more there long longer =
    cell-past m (row ++ more) (omega (arith, longer)) ∙ sym (cell-past n row (omega (arith, long)))
cell-more n m var (c ∷ columns) row more there long longer =
    by (var == c.0) (cell-left c.1 row more (let t = there.0 in omega (arith, t, long))) (cell-more n m var columns row more there.1 long longer)
  where
    by : (b : Bool) → cell_at c.1 (row ++ more) ≡ cell_at c.1 row → cell_at (column_of m var columns) (row ++ more) ≡ cell_at (column_of n var columns) row
        → cell_at (if b then c.1 else column_of m var columns) (row ++ more) ≡ cell_at (if b then c.1 else column_of n var columns) row
    by true this others = this
    by false this others = others

-- a node in the document of a number
abbrev pub in_doc : ℕ → Numbered → NodeIn
in_doc document u = record { document = document; at = u }

-- the number of the document of a name, from n
abbrev pub place_of : List ℕ → ℕ → Docs → ℕ
place_of name n [] = n
place_of name n (d ∷ docs) = if bytes_eq name d.0 then n else place_of name (n + 1) docs

-- A path from a document has its nodes in the document of that name.
pub document-nodes : (steps : List Step) (name : List ℕ) (n : ℕ) (docs : Docs)
    → from_document steps name n docs ≡ map (in_doc (place_of name n docs)) (nodes_from steps (from_root (found name docs)))
document-nodes steps name n [] = ap (map (in_doc n)) (sym (path-nowhere steps))
document-nodes steps name n (d ∷ docs) = by (bytes_eq name d.0) (document-nodes steps name (n + 1) docs)
  where
    by : (b : Bool) → from_document steps name (n + 1) docs ≡ map (in_doc (place_of name (n + 1) docs)) (nodes_from steps (from_root (found name docs)))
        → (if b then stepped steps n (document_node d.1) else from_document steps name (n + 1) docs)
        ≡ map (in_doc (if b then n else place_of name (n + 1) docs)) (nodes_from steps (from_root (if b then Some d.1 else found name docs)))
    by true others = refl
    by false others = others

itself-number : (n : ℕ) → (n == n) ≡ true
itself-number n = eq-eqb n n refl

pub node-itself : (u : Numbered) → is_same_node u u ≡ true
node-itself u = itself-number u.number

-- Nodes of one document are the same by their numbers alone.
same-in : (document : ℕ) (u w : Numbered) → is_same (in_doc document u) (in_doc document w) ≡ is_same_node u w
same-in document u w = ap (λ b. b && (u.number == w.number)) (itself-number document)

pub once-in : (document : ℕ) (us : List Numbered) → each_once is_same (map (in_doc document) us) ≡ map (in_doc document) (each_once is_same_node us)
once-in document us =
    sym (map-once (in_doc document) is_same us)
    ∙ ap (λ same. map (in_doc document) (each_once same us)) (fun_ext (λ u. fun_ext (λ w. same-in document u w)))

-- the nodes that steps lead to from nodes of one document
pub cell-nodes : (document : ℕ) (steps : List Step) (us : List Numbered)
    → from_cell steps (nodes (map (in_doc document) us)) ≡ map (in_doc document) (each_once is_same_node (flat_map (λ u. nodes_from steps (node_at u)) us))
cell-nodes document steps us =
    ap (each_once is_same)
    (flat_map-map (λ u. stepped steps u.document (node_at u.at)) (in_doc document) us
    ∙ sym (map-flat_map (in_doc document) (λ u. nodes_from steps (node_at u)) us))
    ∙ once-in document (flat_map (λ u. nodes_from steps (node_at u)) us)

-- their values
pub values-in : (document : ℕ) (us : List Numbered) → values_of (nodes (map (in_doc document) us)) ≡ values us
values-in document us = map-map (λ u. value_of u.at.node) (in_doc document) us
