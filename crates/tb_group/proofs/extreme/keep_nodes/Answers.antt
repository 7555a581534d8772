-- One node after the other.
use Rattle.std.proofs.Common.{[], ◌∷◌, ◌∙◌, subst}
use Rattle.tb_table.specs.Documents.{docs_of}
use Rattle.tb_group.specs.Extremes.{Keeps}
use Rattle.tb_group.proofs.ExtremeLaws.{keeps-node, keeps-end}
use Rattle.tb_group.proofs.extreme.keep_nodes.Goals as goal

pub nodes-preserved : goal.nodes-preserved
nodes-preserved c = record {
  kept = λ new rest. c.nodes.invariant.kept new (keeps-node (docs_of c.args.docs.now) c.args.op c.args.first c.args.nodes.now c.nodes.node-index (record { document = 0; node = 0 }) c.nodes.bytes.items c.keep_text.new.bytes.items new c.nodes-test.true (subst (λ v. Keeps c.args.op c.args.first (v ∷ []) c.nodes.bytes.items c.keep_text.new.bytes.items) (c.bytes.ensures ∙ c.in_ok-text.ensures) c.in_ok-keep_text.ensures.kept) rest);
  within = c.in_ok-keep_text.ensures.within;
}

pub returns-clause-kept : goal.returns-clause-kept
returns-clause-kept c =
    c.nodes.invariant.kept c.nodes.bytes.items (keeps-end (docs_of c.args.docs.now) c.args.op c.args.first c.args.nodes.now c.nodes.node-index c.nodes.bytes.items c.nodes-test.false)
