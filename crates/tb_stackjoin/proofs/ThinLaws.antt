-- Reaches without some that have no place: what holds of them, and what changes in them.
use Rattle.std.proofs.Common.{◌≡◌, ℕ, zero, suc, ◌<◌, ◌≤◌, inl, inr, List, [], ◌∷◌, ◌++◌, length, drop, set, map, All, flat_map, refl, sym, ap, ◌∙◌, subst, arith}
use Rattle.std.proofs.lemmas.List.{length_push}
use Rattle.std.proofs.lemmas.List.Elements.{All-nil, All-cons, All-head, All-tail}
use Rattle.tb_tree.proofs.lists.Parts.{first-same}
use Rattle.tb_tree.proofs.lists.Ranges.{range_none}
use Rattle.tb_stackjoin.specs.Pairs.{pair}
use Rattle.tb_stackjoin.specs.Reaches.{reach_at, pairs_in, ancestors, Thins}
use Rattle.tb_stackjoin.specs.declared.reach.Reach.{Reach}

pub thin-all : (P : Reach → Type 0) (some all : List Reach) → Thins some all → All P all → All P some
thin-all P some [] is h = subst (All P) (sym is) (All-nil P)
thin-all P some (x ∷ all) (inl (rest, is, t)) h = subst (All P) (sym is) (All-cons P x rest (All-head P x all h) (thin-all P rest all t (All-tail P x all h)))
thin-all P some (x ∷ all) (inr (none, t)) h = thin-all P some all t (All-tail P x all h)

pub thin-back : (P : Reach → Type 0) (some all : List Reach) → Thins some all → All P some → All (λ x. x.last ≤ x.first → P x) all → All P all
thin-back P some [] is h empty = All-nil P
thin-back P some (x ∷ all) (inl (rest, is, t)) h empty =
    let here = subst (All P) is h in
    All-cons P x all (All-head P x rest here) (thin-back P rest all t (All-tail P x rest here) (All-tail (λ y. y.last ≤ y.first → P y) x all empty))
thin-back P some (x ∷ all) (inr (none, t)) h empty =
    All-cons P x all (All-head (λ y. y.last ≤ y.first → P y) x all empty none) (thin-back P some all t h (All-tail (λ y. y.last ≤ y.first → P y) x all empty))

pub thin-same : (all : List Reach) → Thins all all
thin-same [] = refl
thin-same (x ∷ all) = inl (all, refl, thin-same all)

pub thin-push : (some all : List Reach) (x : Reach) → Thins some all → Thins (some ++ x ∷ []) (all ++ x ∷ [])
thin-push some [] x is = inl ([], ap (λ rs. rs ++ x ∷ []) is, refl)
thin-push some (y ∷ all) x (inl (rest, is, t)) = inl (rest ++ x ∷ [], ap (λ rs. rs ++ x ∷ []) is, thin-push rest all x t)
thin-push some (y ∷ all) x (inr (none, t)) = inr (none, thin-push some all x t)

-- they have the same pairs
pub thin-pairs : (some all : List Reach) → Thins some all → flat_map pairs_in some ≡ flat_map pairs_in all
thin-pairs some [] is = ap (flat_map pairs_in) is
thin-pairs some (x ∷ all) (inl (rest, is, t)) = ap (flat_map pairs_in) is ∙ ap (λ ps. pairs_in x ++ ps) (thin-pairs rest all t)
thin-pairs some (x ∷ all) (inr (none, t)) =
    thin-pairs some all t ∙ ap (λ js. map (λ j. pair x.a j) js ++ flat_map pairs_in all) (sym (range_none x.first x.last none))

-- one at the end that has no place goes
pub thin-last : (some all : List Reach) (y : Reach) → y.last ≤ y.first → Thins (some ++ y ∷ []) all → Thins some all
thin-last some [] y none is = absurd (omega (arith, length_push some y, ap length is))
thin-last some (x ∷ all) y none (inr (empty, t)) = inr (empty, thin-last some all y none t)
thin-last [] (x ∷ all) y none (inl (rest, is, t)) =
    let same : y ≡ x = first-same y x [] rest is in
    let nil : [] ≡ rest = ap (λ rs. drop 1 rs) is in
    inr (subst (λ (z : Reach). z.last ≤ z.first) same none, subst (λ rs. Thins rs all) (sym nil) t)
thin-last (w ∷ some) (x ∷ all) y none (inl (rest, is, t)) =
    let same : w ≡ x = first-same w x (some ++ y ∷ []) rest is in
    let back : some ++ y ∷ [] ≡ rest = ap (λ rs. drop 1 rs) is in
    inl (some, ap (λ z. z ∷ some) same, thin-last some all y none (subst (λ rs. Thins rs all) (sym back) t))

-- All reaches when one of those that are left has changed.
pub record Changed (P : Reach → Type 0) (some old : List Reach) : Type 0 where
  pub all : List Reach
  pub thin : Thins some all
  pub same : ancestors all ≡ ancestors old
  pub each : All P all

pub thin-set : (P : Reach → Type 0) (some all : List Reach) (k : ℕ) (y : Reach) → Thins some all → k < length some → y.a ≡ (reach_at some k).a → P y → All P all → Changed P (set some k y) all
thin-set P some [] k y is less same mine h = absurd (omega (arith, less, ap length is))
thin-set P some (x ∷ all) zero y (inl (rest, is, t)) less same mine h = record {
  all = y ∷ all;
  thin = inl (rest, ap (λ rs. set rs 0 y) is, t);
  same = ap (λ i. i ∷ ancestors all) (same ∙ ap (λ rs. (reach_at rs 0).a) is);
  each = All-cons P y all mine (All-tail P x all h);
}
thin-set P some (x ∷ all) (suc k) y (inl (rest, is, t)) less same mine h =
    let more = thin-set P rest all k y t (omega (arith, less, ap length is)) (same ∙ ap (λ rs. (reach_at rs (suc k)).a) is) mine (All-tail P x all h) in
    record {
      all = x ∷ more.all;
      thin = inl (set rest k y, ap (λ rs. set rs (suc k) y) is, more.thin);
      same = ap (λ js. x.a ∷ js) more.same;
      each = All-cons P x more.all (All-head P x all h) more.each;
    }
thin-set P some (x ∷ all) k y (inr (none, t)) less same mine h =
    let more = thin-set P some all k y t less same mine (All-tail P x all h) in
    record {
      all = x ∷ more.all;
      thin = inr (none, more.thin);
      same = ap (λ js. x.a ∷ js) more.same;
      each = All-cons P x more.all (All-head P x all h) more.each;
    }
