use Rattle.std.proofs.Common.{◌≡◌, ◌≤◌, min, drop}
use Rattle.tb_tree.specs.Escapes.{number_from}
use Rattle.tb_tree.proofs.unescaped.number.Given as goal

-- the number so far, with the digits that are left, makes the number or is past all scalars
abbrev pub invariant-digits : goal.invariant-digits
invariant-digits l = record {
  most : l.number ≤ 1114112;
  more : min (number_from l.number (drop l.digit-index l.digits)) 1114112 ≡ min (number_from 0 l.digits) 1114112;
}
