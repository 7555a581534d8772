-- What an option is, by what was made of it.
use Rattle.std.proofs.Common.{◌≡◌, Bool, true, false, cond, Option, Some, None, refl, sym}
use Rattle.std.specs.Prelude.{IsSome}
use Rattle.std.specs.Option.{option_map, is_some}
use Rattle.std.proofs.lemmas.Bool.{false≢true}
use Rattle.std.proofs.lemmas.Option.{none-some}
use Rattle.tb_tree.specs.Steps.{◌>>=◌}

pub some-none : {A : Type 0} (x : A) → ◌≡◌ {A = Option A} (Some x) None → ⊥
some-none x e = none-some x (sym e)

-- an option that is some value has one
pub value_of-some : {A : Type 0} (o : Option A) → IsSome o → (x : A) × (o ≡ Some x)
value_of-some None h = absurd (false≢true h)
value_of-some (Some x) h = (x, refl)

pub is_some-none : {A : Type 0} (o : Option A) → is_some o ≡ false → o ≡ None
is_some-none None e = refl
is_some-none (Some x) e = absurd (false≢true (sym e))

pub option_map-none : {A B : Type 0} (f : A → B) (o : Option A) → option_map f o ≡ None → o ≡ None
option_map-none f None e = refl
option_map-none f (Some x) e = absurd (some-none (f x) e)

-- how an option that is bound comes to some value
pub bind_some : {A B : Type 0} (o : Option A) (f : A → Option B) (y : B) → (o >>= f) ≡ Some y → (x : A) × (o ≡ Some x) × (f x ≡ Some y)
bind_some None f y e = absurd (none-some y e)
bind_some (Some x) f y e = (x, refl, e)

-- a value is passed on where a test fails
pub guarded : {A : Type 0} (b : Bool) (o : Option A) (y : A) → cond b None o ≡ Some y → (b ≡ false) × (o ≡ Some y)
guarded true o y e = absurd (none-some y e)
guarded false o y e = (refl, e)

-- nothing is found where the first is, and else nothing behind it
pub cond-none : {A : Type 0} (b : Bool) (x : A) (o : Option A) → cond b (Some x) o ≡ None → (b ≡ false) × (o ≡ None)
cond-none true x o e = absurd (some-none x e)
cond-none false x o e = (refl, e)
