-- Truth values.
use Rattle.std.proofs.Common.{◌≡◌, Bool, true, false, not, ◌&&◌, refl, sym}
use Rattle.std.proofs.lemmas.Bool.{and_parts, false≢true}

pub denied : (b : Bool) → not b ≡ false → b ≡ true
denied true e = refl
denied false e = absurd (false≢true (sym e))

pub and-second : (a b : Bool) → (a && b) ≡ true → b ≡ true
and-second a b e = (and_parts a b e).1
