-- Numbers and counts of nodes next to each other: the first node, and then the others.
use Rattle.std.proofs.Common.{◌≡◌, ℕ, ◌+◌, ◌≤◌, ◌∷◌, ◌++◌, sym, ap, ap₂, arith, append-nil}
use Rattle.tb_tree.specs.Plain.{Plain, elem, attr, text, Plains, no_kids, kid}
use Rattle.tb_tree.specs.Numbers.{counts, count, all_numbered}

pub counts-kid : (k : Plain) (rest : Plains) → counts (kid k rest) ≡ count k + counts rest
counts-kid (elem name kids) rest = omega arith
counts-kid (attr name value) rest = omega arith
counts-kid (text value) rest = omega arith

pub some-count : (node : Plain) → 1 ≤ count node
some-count (elem name kids) = omega arith
some-count (attr name value) = omega arith
some-count (text value) = omega arith

pub all_numbered-kid : (n : ℕ) (k : Plain) (rest : Plains) → all_numbered n (kid k rest) ≡ all_numbered n (kid k no_kids) ++ all_numbered (n + count k) rest
all_numbered-kid n (elem name kids) rest =
    let next : n + 1 + counts kids ≡ n + count (elem name kids) = omega arith in
    ap (λ ns. record { number = n; node = elem name kids } ∷ ns)
    (ap₂ (λ a m. a ++ all_numbered m rest) (sym (append-nil (all_numbered (n + 1) kids))) next)
all_numbered-kid n (attr name value) rest =
    let next : n + 1 ≡ n + count (attr name value) = omega arith in
    ap (λ m. record { number = n; node = attr name value } ∷ all_numbered m rest) next
all_numbered-kid n (text value) rest =
    let next : n + 1 ≡ n + count (text value) = omega arith in
    ap (λ m. record { number = n; node = text value } ∷ all_numbered m rest) next
