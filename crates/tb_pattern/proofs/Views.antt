-- A pattern of the program and its plain pattern, level by level.
use Rattle.std.proofs.Common.{◌≡◌, Bool, List, rules}
use Rattle.tb_span.specs.declared.item.Axis.{Axis}
use Rattle.tb_tree.specs.declared.node_test.Test.{Test}
use Rattle.tb_pattern.specs.Plain.{matching}
use Rattle.tb_pattern.specs.View.{edge_of, pattern_at, edges_of}
use Rattle.tb_pattern.specs.declared.cond.Cond.{Cond}
use Rattle.tb_pattern.specs.declared.pattern.Mark.{Mark}
use Rattle.tb_pattern.specs.declared.pattern.Edge.{Edge, roll-Edge, the_lemmas}
use Rattle.tb_pattern.specs.declared.pattern.PNode.{PNode, roll-PNode}

pub edge_of-Edge : (axis : Axis) (mark : Mark) (to : PNode)
    → edge_of (roll-Edge (record { axis = axis; mark = mark; to = to })) ≡ record { axis = axis; mark = mark; to = pattern_at to }
edge_of-Edge axis mark to = search (rules, the_lemmas)

pub pattern_at-PNode : (test : Test) (conds : List Cond) (whole : Bool) (es : List Edge)
    → pattern_at (roll-PNode (record { test = test; conds = conds; whole = whole; edges = es })) ≡ matching test conds whole (edges_of es)
pattern_at-PNode test conds whole es = search (rules, the_lemmas)
