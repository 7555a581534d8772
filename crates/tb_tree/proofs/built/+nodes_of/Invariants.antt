use Rattle.std.proofs.Common.{◌≤◌, ℕ, length, map}
use Rattle.tb_tree.specs.Plain.{Plains}
use Rattle.tb_tree.specs.Extents.{named}
use Rattle.tb_tree.specs.FlatTrees.{AreNodes}
use Rattle.tb_tree.proofs.BuiltLaws.{IsBuilt}
use Rattle.tb_tree.proofs.built.+nodes_of.Given as goal

abbrev pub decreases-nodes_of : goal.decreases-nodes_of
decreases-nodes_of l = length l.extents.now

abbrev pub decreases-nodes : goal.decreases-nodes
decreases-nodes l = length l.rest

-- the nodes so far, with those of the extents that are left, make the whole
abbrev pub invariant-nodes : goal.invariant-nodes
invariant-nodes l = record {
  within : length l.rest ≤ length l.extents;
  built :
      (level : ℕ) → (ks : Plains)
      → AreNodes l.source.text.now (map (named l.source.elements.now l.source.attributes.now) l.extents) l.initial.number level ks
      → IsBuilt l.source.text.now (named l.source.elements.now l.source.attributes.now) l.rest l.number level l.nodes.items ks;
}
