-- Equal keys have the same parts.
use Rattle.std.proofs.Common.{Some, ap, ◌∙◌}
use Rattle.tb_number.specs.KeyParts.{same_parts, parts_of}
use Rattle.tb_number.proofs.PartsLaws.{parts-same}
use Rattle.tb_number.proofs.key.Key.of.Goals as goal

pub returns-in-Some-clause-same : goal.returns-in-Some-clause-same
returns-in-Some-clause-same c = λ other.
    rw c.in-Some.is (ap (λ parts. same_parts parts (parts_of other)) c.of_text.ensures ∙ parts-same (Some _) other)
