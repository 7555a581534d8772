-- Bytes that stand somewhere in a text.
use Rattle.std.proofs.Common.{◌≡◌, ℕ, ◌+◌, List, ◌++◌, length, take, drop, refl, sym, ap, ◌∙◌, arith, length-append}
use Rattle.tb_tree.specs.FlatTrees.{Stands}
use Rattle.std.proofs.lemmas.List.{take-take, take_at, drop_at, drop-drop, drop-take}

pub stands-first : (bytes : List ℕ) (at : ℕ) (x y : List ℕ) → Stands bytes at (x ++ y) → Stands bytes at x
stands-first bytes at x y s =
    sym (take-take (length x) (length (x ++ y)) (drop at bytes) (omega (arith, length-append x y))) ∙ ap (take (length x)) s ∙ take_at x y (length x) refl

pub stands-behind : (bytes : List ℕ) (at : ℕ) (x y : List ℕ) → Stands bytes at (x ++ y) → Stands bytes (at + length x) y
stands-behind bytes at x y s =
    ap (take (length y)) (sym (drop-drop (length x) at bytes))
    ∙ sym (drop-take (length x) (length y) (drop at bytes))
    ∙ ap (λ n. drop (length x) (take n (drop at bytes))) (sym (length-append x y))
    ∙ ap (drop (length x)) s ∙ drop_at x y (length x) refl

-- what stands between the first part and the last
pub stands-between : (bytes : List ℕ) (at : ℕ) (x y z : List ℕ) → Stands bytes at ((x ++ y) ++ z) → take (length y) (drop (at + length x) bytes) ≡ y
stands-between bytes at x y z s = stands-behind bytes at x y (stands-first bytes at (x ++ y) z s)
