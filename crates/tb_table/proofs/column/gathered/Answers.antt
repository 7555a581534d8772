-- The cells that are gathered are those of the items that are.
use Rattle.std.proofs.Common.{◌≤◌, ap, subst, length}
use Rattle.tb_table.specs.declared.node_ref.NodeRef.{NodeRef}
use Rattle.tb_table.specs.declared.parts.Span.{Span}
use Rattle.tb_table.specs.Layout.{single, listed, valued, cells_of, IsWithin}
use Rattle.tb_table.proofs.RowLaws.{cells-picked, items-picked, slice-picked}
use Rattle.tb_table.proofs.column.gathered.Goals as goal

no_node : NodeRef
no_node = record { document = 0; node = 0 }

no_span : Span
no_span = record { first = 0; end = 0 }

pub returns-in_ok-nodes-in-Single-clause-cells : goal.returns-in_ok-nodes-in-Single-clause-cells
returns-in_ok-nodes-in-Single-clause-cells c =
    cells-picked single no_node c.in-Single.nodes.items _ _ c.args.picks.now (ap cells_of c.in-Single.is) c.requires.picks (slice-picked no_node c.in-Single.nodes.items _ _ c.args.picks.now c.as_slice.ensures.value (c.in_ok-nodes-in-Single.ensures no_node))

pub returns-in_ok-spans-in-Lists-clause-cells : goal.returns-in_ok-spans-in-Lists-clause-cells
returns-in_ok-spans-in-Lists-clause-cells c =
    cells-picked (listed c.in-Lists.nodes.items) no_span c.in-Lists.spans.items _ _ c.args.picks.now (ap cells_of c.in-Lists.is) c.requires.picks (slice-picked no_span c.in-Lists.spans.items _ _ c.args.picks.now c.as_slice-in-Lists.ensures.value (c.in_ok-spans-in-Lists.ensures no_span))

pub returns-in_ok-spans-in-Lists-clause-within : goal.returns-in_ok-spans-in-Lists-clause-within
returns-in_ok-spans-in-Lists-clause-within c =
    items-picked (λ s. s.end ≤ length c.in-Lists.nodes.items) (listed c.in-Lists.nodes.items) no_span c.in-Lists.spans.items _ _ c.args.picks.now (ap cells_of c.in-Lists.is) c.requires.picks (slice-picked no_span c.in-Lists.spans.items _ _ c.args.picks.now c.as_slice-in-Lists.ensures.value (c.in_ok-spans-in-Lists.ensures no_span)) (subst IsWithin c.in-Lists.is c.requires.within)

pub returns-in_ok-spans-in-Values-clause-cells : goal.returns-in_ok-spans-in-Values-clause-cells
returns-in_ok-spans-in-Values-clause-cells c =
    cells-picked (valued c.in-Values.bytes.items) no_span c.in-Values.spans.items _ _ c.args.picks.now (ap cells_of c.in-Values.is) c.requires.picks (slice-picked no_span c.in-Values.spans.items _ _ c.args.picks.now c.as_slice-in-Values.ensures.value (c.in_ok-spans-in-Values.ensures no_span))

pub returns-in_ok-spans-in-Values-clause-within : goal.returns-in_ok-spans-in-Values-clause-within
returns-in_ok-spans-in-Values-clause-within c =
    items-picked (λ s. s.end ≤ length c.in-Values.bytes.items) (valued c.in-Values.bytes.items) no_span c.in-Values.spans.items _ _ c.args.picks.now (ap cells_of c.in-Values.is) c.requires.picks (slice-picked no_span c.in-Values.spans.items _ _ c.args.picks.now c.as_slice-in-Values.ensures.value (c.in_ok-spans-in-Values.ensures no_span)) (subst IsWithin c.in-Values.is c.requires.within)
