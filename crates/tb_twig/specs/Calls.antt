-- What matching promises.
use Rattle.std.specs.Prelude.{◌≡◌, ℕ, ◌<◌, List, length, map, slice_index_or}
use Rattle.std.proofs.Common.{Vec, Global}
use Rattle.tb_tree.specs.Plain.{Plain}
use Rattle.tb_pattern.specs.Plain.{PlainEdges}
use Rattle.tb_pattern.specs.Witness.{Witness, witness, naive_witnesses}
use Rattle.tb_parjoin.specs.Traces.{Trace}
use Rattle.tb_twig.specs.Links.{links_at, built_by}
use Rattle.tb_twig.specs.Seen.{nth_node}
use Rattle.tb_twig.specs.Offered.{IsTraced}
use Rattle.tb_twig.specs.declared.link.Link.{Link}

-- The rows over a document: the document node with the offers of each naive witness.
abbrev pub rows_of_document : PlainEdges → Plain → List Witness
rows_of_document edges root = map (witness 0 (nth_node root 0)) (naive_witnesses edges root)

-- The links of the edges say what the naive witnesses are, by numbers of nodes alone.
abbrev pub AreLinks : Plain → PlainEdges → List (Vec Link Global) → Type 0
AreLinks root edges links = built_by (nth_node root) (links_at links) 0 edges 0 ≡ naive_witnesses edges root

-- The trace has an entry for each edge in this order, and each tells of its edge.
pub record AreTraced (root : Plain) (edges : PlainEdges) (order : List ℕ) (trace : List Trace) : Type 0 where
  pub many : length trace ≡ length order
  pub each : (i : ℕ) → i < length order
      → IsTraced root edges (slice_index_or order i 0) (slice_index_or (map (λ t. t.size) trace) i 0)
