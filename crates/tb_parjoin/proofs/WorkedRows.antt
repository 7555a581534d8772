-- Traces of small joins, computed.
use Rattle.std.proofs.Common.{◌≡◌, ℕ, [], ◌∷◌, refl, arith}
use Rattle.std.proofs.lemmas.List.Sorted.{IsPermutation-append_comm}
use Rattle.tb_parjoin.specs.Traces.{Partition, whole_ran}
use Rattle.tb_parjoin.specs.declared.trace.Ran.{Ran}

abbrev ran : ℕ → ℕ → ℕ → Ran
ran lo hi worker = record { lo = lo; hi = hi; worker = worker }

whole-three : whole_ran 3 ≡ ran 0 3 0 ∷ []
whole-three = refl

whole-none : whole_ran 0 ≡ []
whole-none = refl

-- two pieces, of which the second ended first
two-pieces : Partition 5 (ran 2 5 1 ∷ ran 0 2 0 ∷ [])
two-pieces = record {
  by_lo = ran 0 2 0 ∷ ran 2 5 1 ∷ [];
  moved = IsPermutation-append_comm (ran 2 5 1 ∷ []) (ran 0 2 0 ∷ []);
  follow = (refl, omega arith, (refl, omega arith, refl));
}
