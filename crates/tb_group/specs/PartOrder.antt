-- The orders of keys, and of rows by their keys, are total.
use Rattle.std.specs.Cmp.{IsTotalOrder, then_total, on_total, back_total, bool_cmp_total}
use Rattle.std.specs.Cmp.Lexicographic.{lists_total}
use Rattle.tb_number.proofs.KeyLaws.{sorted_cmp-total}
use Rattle.tb_group.specs.Parts.{rising, falling, part_cmp, keyed_cmp}

pub parts_total : IsTotalOrder part_cmp
parts_total =
    then_total (on_total (λ p. p.descending) bool_cmp_total)
    (then_total (on_total rising sorted_cmp-total) (on_total falling (back_total sorted_cmp-total)))

pub keyed_total : IsTotalOrder keyed_cmp
keyed_total = on_total (λ k. k.parts) (lists_total parts_total)
