-- Runs without a backslash and the escapes between them make what the bytes give.
use Rattle.std.proofs.Common.{◌≡◌, ◌+◌, ◌++◌, Some, None, drop, take, sym, ap, ap₂, ◌∙◌}
use Rattle.std.specs.Option.{option_map}
use Rattle.tb_tree.specs.Escapes.{unescaped, escape_of}
use Rattle.tb_tree.specs.Escaped.{bytes_given, escape_given}
use Rattle.tb_tree.proofs.EscapeLaws.{unescaped-none, unescaped-escape, unescaped-all, joined-none, joined-some}
use Rattle.tb_tree.proofs.unescaped.push_unescaped.Goals as goal

pub returns-in_default-escape_of : goal.returns-in_default-escape_of
returns-in_default-escape_of c =
    let found = c.in-Some.ensures in
    let rest = c.escapes.rest.now in
    let none : escape_of (drop (c.in-Some.at + 1) rest) ≡ None = ap escape_of (sym c.rest_from-behind.ensures) ∙ sym c.in_default-escape_of.ensures.is in
    joined-none c.args.out.now.items _ (sym (unescaped-none c.escapes.out.items rest c.in-Some.at found.0 found.1 none) ∙ c.escapes.invariant)

pub escapes-preserved : goal.escapes-preserved
escapes-preserved c =
    let found = c.in-Some.ensures in
    let rest = c.escapes.rest.now in
    let given = c.in-Some-escape_of.given in
    let takes = c.in-Some-escape_of.takes in
    let some : escape_of (drop (c.in-Some.at + 1) rest) ≡ Some (escape_given given takes) = ap escape_of (sym c.rest_from-behind.ensures) ∙ sym c.in-Some-escape_of.ensures.is in
    let items : c.push_given.new.out.items ≡ (c.escapes.out.items ++ take c.in-Some.at rest) ++ bytes_given given =
    c.in_ok-push_given.ensures ∙ ap (λ l. l ++ bytes_given given) c.in_ok-extend_from_slice.ensures.items in
    let left : c.rest_from-rest.result.now ≡ drop takes (drop (c.in-Some.at + 1) rest) = c.rest_from-rest.ensures ∙ ap (drop takes) c.rest_from-behind.ensures in
    ap₂ (λ l r. option_map (λ given. l ++ given) (unescaped r)) items left
    ∙ sym (unescaped-escape c.escapes.out.items rest c.in-Some.at (escape_given given takes) found.0 found.1 some) ∙ c.escapes.invariant

pub returns : goal.returns
returns c =
    joined-some c.args.out.now.items _ _ (ap Some c.in_ok-extend_from_slice-2.ensures.items ∙ ap (option_map (λ given. c.escapes.out.items ++ given)) (sym (unescaped-all c.escapes.rest.now c.in_default.ensures)) ∙ c.escapes.invariant)
