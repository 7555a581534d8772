use Rattle.std.proofs.Common.{◌≡◌, ◌<◌, ℕ, true, length}
use Rattle.tb_script.specs.Rounds.{is_among}
use Rattle.tb_script.proofs.stuck.places.Given as goal

-- the places so far are there
abbrev pub invariant-places : goal.invariant-places
invariant-places l = record {
  all : (at : ℕ) → at < l.place → is_among at l.places.items ≡ true;
  count : length l.places.items ≡ l.place;
}
