-- The text of the number was appended.
use Rattle.std.proofs.Common.{◌++◌, ap, ◌∙◌, arith}
use Rattle.std.specs.Fmt.{signed_decimal}
use Rattle.std.specs.Int.{w128}
use Rattle.std.proofs.lemmas.Int.{to_z-of_z}
use Rattle.tb_number.specs.Canonical.{canonical_text}
use Rattle.tb_group.proofs.DecimalLaws.{signed_decimal-text}
use Rattle.tb_group.proofs.ToldLaws.{told-appended}
use Rattle.tb_group.proofs.told.push_number.Goals as goal

pub returns : goal.returns
returns c =
    told-appended c.args.bytes.now.items (canonical_text c.args.number) c.extend_from_slice.new.self.items (record { first = c.len-first.result; end = c.len.result })
    (c.in_ok-extend_from_slice.ensures.items ∙ ap (λ text. c.args.bytes.now.items ++ text) (c.as_bytes.ensures.value ∙ c.format.ensures.text ∙ ap signed_decimal (to_z-of_z w128 c.args.number c.ranges.number) ∙ signed_decimal-text c.args.number c.ranges.number))
    (omega (arith, c.len-first.ensures, c.args.bytes.now.ok.0)) (omega (arith, c.len.ensures, c.extend_from_slice.new.self.ok.0))
