-- A document that is printed and read is the same.
use Rattle.std.proofs.Common.{◌≡◌, sym, ap, ◌∙◌, subst}
use Rattle.tb_tree.specs.View.{plain_of}
use Rattle.tb_tree.specs.Printed.{printed_node}
use Rattle.tb_esis.specs.Reading.{IsReadAs}
use Rattle.tb_esis.specs.Faults.{fault_of}
use Rattle.tb_esis.proofs.CompleteLaws.{read-unique}
use Rattle.tb_esis.proofs.PrintedLaws.{printed-read, printed-clean}
use Rattle.tb_esis.proofs.ReadingLaws.{only-memory}
use Rattle.tb_esis.proofs.tests.read_back.Goals as goal

pub returns-in-Ok-clause-same : goal.returns-in-Ok-clause-same
returns-in-Ok-clause-same c =
    let tree = plain_of c.args.tree.now in
    let lines : c.deref.result.now ≡ printed_node tree = c.deref.ensures.value ∙ c.in_ok-lines.ensures.lines in
    read-unique (printed_node tree) (plain_of c.in-Ok.back) tree (subst (λ b. IsReadAs b (plain_of c.in-Ok.back)) lines c.in-Ok.ensures.read)
    (printed-read tree c.printed.ensures.sound c.printed.ensures.element c.requires)

pub pass_refusal-requires : goal.pass_refusal-requires
pass_refusal-requires c =
    let tree = plain_of c.args.tree.now in
    let lines : c.deref.result.now ≡ printed_node tree = c.deref.ensures.value ∙ c.in_ok-lines.ensures.lines in
    only-memory c.deref.result.now c.in-Err.fault (ap fault_of lines ∙ printed-clean tree c.printed.ensures.sound c.printed.ensures.element c.requires) c.in-Err.ensures.read
