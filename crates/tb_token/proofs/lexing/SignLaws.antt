-- A sign has one byte or two.
use Rattle.std.proofs.Common.{◌≡◌, ℕ, ◌≤◌, Bool, true, false, ◌&&◌, List, [], ◌∷◌, length, take, refl, arith}
use Rattle.std.specs.Prelude.{nat_le}
use Rattle.std.proofs.lemmas.List.{length-take-le}
use Rattle.std.proofs.lemmas.Bool.Decides.{nat_tests}
use Rattle.tb_token.specs.tokens.Names.{is_among}
use Rattle.tb_token.specs.tokens.Kinds.{signs}
use Rattle.tb_token.specs.tokens.Prefixes.{is_pair, is_single}
use Rattle.tb_token.proofs.grammar.TerminalLaws.{and-false}
use Rattle.tb_token.proofs.lexing.AmongLaws.{among-passes}

and-true : (x : Bool) → (x && true) ≡ x
and-true true = refl
and-true false = refl

pub sign-single : (b : ℕ) → is_among (b ∷ []) signs ≡ is_single b
sign-single b = simp (and-true, and-false)

pub sign-pair : (a b : ℕ) → is_among (a ∷ b ∷ []) signs ≡ is_pair a b
sign-pair a b = grind (arith, nat_tests, and-true, and-false)

sign-length : (bytes : List ℕ) → is_among bytes signs ≡ true → nat_le (length bytes) 2 ≡ true
sign-length bytes is = among-passes (λ text. nat_le (length text) 2) bytes signs refl is

pub sign-short : (bytes : List ℕ) (n : ℕ) → n ≤ length bytes → is_among (take n bytes) signs ≡ true → n ≤ 2
sign-short bytes n within is =
    let len = length-take-le n bytes within in
    let short = sign-length (take n bytes) is in
    grind (arith, nat_tests)
