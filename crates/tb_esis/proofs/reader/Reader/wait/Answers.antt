-- What the attribute's line prints.
use Rattle.std.proofs.Common.{◌≡◌, ◌+◌, ◌*◌, false, length, Some, sym, ap, ◌∙◌, arith}
use Rattle.std.specs.Option.{option_map}
use Rattle.tb_tree.specs.Sound.{is_empty_list}
use Rattle.tb_tree.specs.Escapes.{unescaped}
use Rattle.tb_tree.specs.Printed.{attribute_line}
use Rattle.tb_tree.proofs.LengthLaws.{attribute-length}
use Rattle.tb_tree.proofs.GivenLaws.{given-length}
use Rattle.tb_tree.proofs.DoneLaws.{less-room}
use Rattle.tb_esis.proofs.reader.Reader.wait.Goals as goal

pub attribute-requires : goal.attribute-requires
attribute-requires c =
    let name = c.args.name.now in
    let type = c.args.kind.now in
    let raw = c.args.raw.now in
    let value = c.in-Some.value.now in
    let typed : is_empty_list type ≡ false = sym c.is_empty.ensures ∙ c.if-is_empty.false in
    let read : unescaped raw ≡ Some value = sym c.in_ok-value.ensures ∙ ap (option_map (λ bytes. bytes.now)) c.in-Some.is in
    let short = given-length raw value read in
    record { room = less-room c.args.self.now.draft (9 + length name + 4 * length raw) (length (attribute_line name value)) (rw typed at c.requires.room) (omega (arith, short, attribute-length name value)) }

pub returns-clause-grown : goal.returns-clause-grown
returns-clause-grown c =
    let type = c.args.kind.now in
    let raw = c.args.raw.now in
    let value = c.in-Some.value.now in
    let typed : is_empty_list type ≡ false = sym c.is_empty.ensures ∙ c.if-is_empty.false in
    let read : unescaped raw ≡ Some value = sym c.in_ok-value.ensures ∙ ap (option_map (λ bytes. bytes.now)) c.in-Some.is in
    let short = given-length raw value read in
    let grown = c.in_ok-attribute.ensures.grown in
    rw typed (omega (arith, grown, short, attribute-length c.args.name.now value))
