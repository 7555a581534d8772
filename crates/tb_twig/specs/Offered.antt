-- What the trace of the joins has to do with the rows.
use Rattle.std.specs.Prelude.{ℕ, ◌+◌, ◌≤◌, nat_eq, if◌then◌else◌, List, [], ◌∷◌, ◌++◌, length, filter, flat_map}
use Rattle.std.specs.List.{list_any}
use Rattle.tb_tree.specs.Plain.{Plain, one}
use Rattle.tb_tree.specs.Numbers.{Numbered, all_numbered}
use Rattle.tb_tree.specs.Meets.{meets}
use Rattle.tb_tree.specs.declared.node_test.Test.{Test}
use Rattle.tb_pattern.specs.Plain.{matching, PlainEdges, no_edges, edge, nodes_in}
use Rattle.tb_pattern.specs.Witness.{Witness, witness, Offers, no_offers, offer, Witnesses, no_witnesses, then_witness, naive_witnesses}
use Rattle.tb_twig.specs.Branches.{branch_at, test_of}

abbrev mutual
  -- the numbers of the nodes that a row offers for edge t, where the first of these edges has the number e
  pub offered_for : ℕ → ℕ → PlainEdges → Offers → List ℕ
  offered_for t e (edge axis mark (matching test conds whole below) others) (offer ws rest) =
      offered_by_all t e below ws ++ offered_for t (e + 1 + nodes_in below) others rest
  offered_for t e (edge axis mark below others) no_offers = []
  offered_for t e no_edges _ = []

  -- those that witnesses for edge e have, with these edges below it
  pub offered_by_all : ℕ → ℕ → PlainEdges → Witnesses → List ℕ
  offered_by_all t e below no_witnesses = []
  offered_by_all t e below (then_witness w ws) = offered_by t e below w ++ offered_by_all t e below ws

  pub offered_by : ℕ → ℕ → PlainEdges → Witness → List ℕ
  offered_by t e below (witness number node given) =
      (if nat_eq t e then number ∷ [] else []) ++ offered_for t (e + 1) below given

-- how many different numbers these are
abbrev pub different : List ℕ → ℕ
different [] = 0
different (n ∷ ns) = if list_any (nat_eq n) ns then different ns else 1 + different ns

-- the nodes of a document that meet the test
abbrev pub meeting : Test → Plain → List Numbered
meeting test root = filter (λ u. meets test u.node) (all_numbered 1 (one root))

-- A join for edge e looked at so many nodes below: at most those that meet the test of its lower node, and at least
-- the different ones that the rows offer for it.
pub record IsTraced (root : Plain) (edges : PlainEdges) (e size : ℕ) : Type 0 where
  pub at_most : size ≤ length (meeting (test_of (branch_at edges e).to) root)
  pub at_least : different (flat_map (offered_for e 0 edges) (naive_witnesses edges root)) ≤ size
