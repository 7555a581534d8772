-- What the answer of a comparison says.
use Rattle.std.proofs.Common.{◌≡◌, ℕ, ◌<◌, ◌≤◌, ◌↔◌, Bool, true, false, IsTrue, sym, ◌∙◌}
use Rattle.std.proofs.lemmas.Bool.{ltb_from_iff, ltb-false}

pub less-told : (told : Bool) (m n : ℕ) → (IsTrue told ↔ (m < n)) → told ≡ true → m < n
less-told told m n tells is = tells.0 is

pub less-denied : (told : Bool) (m n : ℕ) → (IsTrue told ↔ (m < n)) → told ≡ false → n ≤ m
less-denied told m n tells is = ltb-false m n (sym (ltb_from_iff tells) ∙ is)
