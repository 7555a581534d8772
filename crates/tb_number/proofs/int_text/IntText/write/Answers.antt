-- The digits kept are the text.
use Rattle.std.proofs.Common.{rules, sym}
use Rattle.tb_number.proofs.SignLaws.{canonical_text-zero, canonical_text-digits, canonical_text-minus}
use Rattle.tb_number.proofs.int_text.IntText.write.Goals as goal

pub returns-then-is_empty-clause-text : goal.returns-then-is_empty-clause-text
returns-then-is_empty-clause-text c =
    let is = canonical_text-zero _ c.self.inside.digits.now c.args.self.now (sym c.if-is_empty.ensures) c.self.invariant c.self.view_is in
    rw is (search rules)

pub returns-then-not-self-clause-text : goal.returns-then-not-self-clause-text
returns-then-not-self-clause-text c =
    let is = canonical_text-digits _ c.self.inside.digits.now c.args.self.now (sym c.if-is_empty.ensures) c.if-not-self.true c.self.invariant c.self.view_is in
    rw is (search rules)

pub returns-clause-text : goal.returns-clause-text
returns-clause-text c =
    let is = canonical_text-minus _ c.self.inside.digits.now c.args.self.now c.if-not-self.false c.self.invariant c.self.view_is in
    rw is (search rules)
