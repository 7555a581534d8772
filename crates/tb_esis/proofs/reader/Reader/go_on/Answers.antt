-- What data gives is no longer than it is.
use Rattle.std.proofs.Common.{◌≡◌, ◌+◌, ◌*◌, length, Some, sym, ap, ◌∙◌, arith}
use Rattle.std.specs.Option.{option_map}
use Rattle.tb_tree.specs.Escapes.{unescaped}
use Rattle.tb_tree.specs.Printed.{escaped}
use Rattle.tb_tree.proofs.LengthLaws.{escaped-length}
use Rattle.tb_tree.proofs.GivenLaws.{given-length}
use Rattle.tb_tree.proofs.DoneLaws.{less-room}
use Rattle.tb_esis.proofs.WeightLaws.{on_ok}
use Rattle.tb_esis.proofs.reader.Reader.go_on.Goals as goal

pub take_data-requires : goal.take_data-requires
take_data-requires c =
    let raw = c.args.raw.now in
    let value = c.in-Some.value.now in
    let read : unescaped raw ≡ Some value = sym c.in_ok-value.ensures ∙ ap (option_map (λ bytes. bytes.now)) c.in-Some.is in
    record { room = less-room c.args.self.now.draft (2 + 4 * length raw) (2 + length (escaped value)) c.requires.room (omega (arith, given-length raw value read, escaped-length value)) }

pub returns-clause-grown : goal.returns-clause-grown
returns-clause-grown c =
    let raw = c.args.raw.now in
    let value = c.in-Some.value.now in
    let read : unescaped raw ≡ Some value = sym c.in_ok-value.ensures ∙ ap (option_map (λ bytes. bytes.now)) c.in-Some.is in
    let short = given-length raw value read in
    on_ok _ _ c.take_data.result (λ grown. omega (arith, grown, short, escaped-length value)) c.take_data.ensures.grown
