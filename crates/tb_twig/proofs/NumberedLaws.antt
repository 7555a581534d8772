-- Numbers on the axis of a node are greater than its own.
use Rattle.std.proofs.Common.{ℕ, ◌+◌, ◌≤◌, List, arith}
use Rattle.std.specs.List.{AllByRecursion}
use Rattle.tb_tree.specs.Plain.{elem, attr, text, Plains, no_kids, kid, kids_of}
use Rattle.tb_tree.specs.Numbers.{counts, count, Numbered, kids_numbered, all_numbered}
use Rattle.tb_tree.proofs.lists.Alls.{all-append, all-weaker}
use Rattle.tb_span.specs.declared.item.Axis.{Axis}
use Rattle.tb_span.specs.declared.item.Axis.TheVariants.{Child, Descendant}
use Rattle.tb_twig.specs.Branches.{axis_of}

abbrev From : ℕ → Numbered → Type 0
From n v = n ≤ v.number

from-later : (m n : ℕ) (vs : List Numbered) → n ≤ m → AllByRecursion (From m) vs → AllByRecursion (From n) vs
from-later m n vs less all = all-weaker (From m) (From n) vs (λ v later. omega (arith, less, later)) all

kids-later : (n : ℕ) (ks : Plains) → AllByRecursion (From n) (kids_numbered n ks)
kids-later n no_kids = tt
kids-later n (kid node rest) = (omega arith, from-later (n + count node) n (kids_numbered (n + count node) rest) (omega arith) (kids-later (n + count node) rest))

all-later : (n : ℕ) (ks : Plains) → AllByRecursion (From n) (all_numbered n ks)
all-later n no_kids = tt
all-later n (kid (elem name kids) rest) = (
  omega arith,
  all-append (From n) (all_numbered (n + 1) kids) (all_numbered (n + 1 + counts kids) rest)
      (from-later (n + 1) n (all_numbered (n + 1) kids) (omega arith) (all-later (n + 1) kids))
      (from-later (n + 1 + counts kids) n (all_numbered (n + 1 + counts kids) rest) (omega arith) (all-later (n + 1 + counts kids) rest)),
)
all-later n (kid (attr name value) rest) = (omega arith, from-later (n + 1) n (all_numbered (n + 1) rest) (omega arith) (all-later (n + 1) rest))
all-later n (kid (text value) rest) = (omega arith, from-later (n + 1) n (all_numbered (n + 1) rest) (omega arith) (all-later (n + 1) rest))

pub later : (axis : Axis) (u : Numbered) → AllByRecursion (λ v. u.number + 1 ≤ v.number) (axis_of axis u)
later Child u = kids-later (u.number + 1) (kids_of u.node)
later Descendant u = all-later (u.number + 1) (kids_of u.node)
