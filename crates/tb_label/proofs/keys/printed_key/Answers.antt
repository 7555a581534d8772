-- Keys of printed bytes are the same just where the values' keys are equal.
use Rattle.std.proofs.Common.{Some, ap, ◌∙◌}
use Rattle.tb_number.specs.KeyParts.{same_parts}
use Rattle.tb_label.specs.PrintedKeys.{printed_key}
use Rattle.tb_label.proofs.PrintedKeyLaws.{keys-printed}
use Rattle.tb_label.proofs.keys.printed_key.Goals as goal

pub returns-clause-same : goal.returns-clause-same
returns-clause-same c = λ value is other.
    ap (λ parts. same_parts parts (printed_key other)) (c.key_of.ensures value is) ∙ keys-printed (Some value) other
