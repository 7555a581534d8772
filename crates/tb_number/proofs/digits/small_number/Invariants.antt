use Rattle.std.proofs.Common.{◌≡◌, ◌<◌, ◌^◌, take}
use Rattle.tb_number.specs.IntText.{number_of}
use Rattle.tb_number.proofs.digits.small_number.Given as goal

-- the number of the digits so far
abbrev pub invariant-digits : goal.invariant-digits
invariant-digits l = record { fits : l.number < 2 ^ 128; so_far : l.number ≡ number_of (take l.digit-index l.digits) }
