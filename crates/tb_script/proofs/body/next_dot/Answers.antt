-- What a search for a line end and a dot says of lines.
use Rattle.std.proofs.Common.{◌≡◌, ◌+◌, ◌≤◌, suc, true, length, sym, ◌∙◌, arith}
use Rattle.tb_script.proofs.DotLaws.{dotless-none, dotless-before}
use Rattle.tb_script.proofs.body.next_dot.Goals as goal

pub returns-in-None : goal.returns-in-None
returns-in-None c =
    dotless-none true c.args.bytes.now (sym c.begins_with_dot.ensures ∙ c.if-begins_with_dot.false)
    (λ k low high. c.in-None.ensures k low (omega (arith, high)))

pub returns-in-Some : goal.returns-in-Some
returns-in-Some c =
    let bytes = c.args.bytes.now in
    let found = c.in-Some.ensures in
    let fits : c.in-Some.at + 2 ≤ length bytes = found.1.fits in
    let free = dotless-before true bytes c.in-Some.at (sym c.begins_with_dot.ensures ∙ c.if-begins_with_dot.false) found.0.before found.1 in
    let next : c.in-Some.at + 1 ≡ suc c.in-Some.at = omega arith in
    rw next (omega (arith, fits), free.0, free.1)
