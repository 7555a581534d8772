-- What was seen and told stays within the history.
use Rattle.std.proofs.Common.{◌≡◌, ℕ, zero, suc, ◌+◌, ◌≤◌, max, List, [], ◌∷◌, ◌++◌, length, get_or, set, replicate, arith}
use Rattle.std.specs.Prelude.{Option, Some, None, IfSome, option_map}
use Rattle.std.proofs.lemmas.List.{length-append}
use Rattle.tb_core.specs.World.{State, start, seen_by, told_at, with_seen, answer, after, after_all}
use Rattle.tb_core.specs.Answers.{IsBounded}
use Rattle.tb_core.specs.declared.event.Event.{Event}
use Rattle.tb_core.specs.declared.event.Event.TheVariants.{Change, Look, Tell, Hear}

-- what holds of a written element and of the others holds of all
holds-set : {X : Type 0} (P : X → Type 0) (xs : List X) (at k : ℕ) (x d : X) → P x → P (get_or xs k d) → P (get_or (set xs at x) k d)
holds-set P [] at k x d new old = old
holds-set P (y ∷ xs) zero zero x d new old = new
holds-set P (y ∷ xs) zero (suc k) x d new old = old
holds-set P (y ∷ xs) (suc at) zero x d new old = old
holds-set P (y ∷ xs) (suc at) (suc k) x d new old = holds-set P xs at k x d new old

pub holds-replicate : {X : Type 0} (P : X → Type 0) (n k : ℕ) (x : X) → P x → P (get_or (replicate n x) k x)
holds-replicate P zero k x is = is
holds-replicate P (suc n) zero x is = is
holds-replicate P (suc n) (suc k) x is = holds-replicate P n k x is

longer : (o : Option ℕ) (a b : ℕ) → a ≤ b → IfSome o (λ n. n ≤ a) → IfSome o (λ n. n ≤ b)
longer None a b le is = is
longer (Some n) a b le is = omega (arith, le, is)

pub bounded-start : (sessions marks room : ℕ) → IsBounded (start sessions marks room)
bounded-start sessions marks room = record {
  seen = λ s. holds-replicate (λ n. n ≤ 0) sessions s 0 (omega arith);
  told = λ m. holds-replicate (λ o. IfSome o (λ n. n ≤ 0)) marks m None tt;
}

bounded-with_seen : (w : State) (s : ℕ) (o : Option ℕ) → IsBounded w → IfSome o (λ n. n ≤ length w.history) → IsBounded (with_seen w s o)
bounded-with_seen w s None h is = h
bounded-with_seen w s (Some n) h is = record {
  seen = λ k. holds-set (λ j. j ≤ length w.history) w.seen s k n 0 is (h.seen k);
  told = h.told;
}

heard-bounded : (a b : ℕ) (o : Option ℕ) → a ≤ b → IfSome o (λ n. n ≤ b) → IfSome (option_map (λ front. max a front) o) (λ n. n ≤ b)
heard-bounded a b None le is = is
heard-bounded a b (Some n) le is = omega (arith, le, is)

pub bounded-after : (w : State) (e : Event) → IsBounded w → IsBounded (after w e)
bounded-after w (Change s) h =
    let longer_by_one : length (w.history ++ s ∷ []) ≡ length w.history + 1 = length-append w.history (s ∷ []) in
    bounded-with_seen (record w { history = w.history ++ s ∷ [] }) s (Some (length w.history + 1)) (record {
      seen = λ k. omega (arith, longer_by_one, h.seen k);
      told = λ m. longer (told_at w m) (length w.history) (length (w.history ++ s ∷ [])) (omega (arith, longer_by_one)) (h.told m);
    }) (omega (arith, longer_by_one))
bounded-after w (Look s) h = bounded-with_seen w s (Some (length w.history)) h (omega arith)
bounded-after w (Tell s m) h = record {
  seen = h.seen;
  told = λ k. holds-set (λ o. IfSome o (λ n. n ≤ length w.history)) w.told m k (Some (seen_by w s)) None (h.seen s) (h.told k);
}
bounded-after w (Hear s m) h = bounded-with_seen w s (answer w (Hear s m)) h (heard-bounded (seen_by w s) (length w.history) (told_at w m) (h.seen s) (h.told m))

bounded-all : (w : State) (es : List Event) → IsBounded w → IsBounded (after_all w es)
bounded-all w [] h = h
bounded-all w (e ∷ es) h = bounded-all (after w e) es (bounded-after w e h)

-- after any events
pub bounded : (sessions marks room : ℕ) (es : List Event) → IsBounded (after_all (start sessions marks room) es)
bounded sessions marks room es = bounded-all (start sessions marks room) es (bounded-start sessions marks room)
