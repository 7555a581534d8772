-- The root of a document, by its number and where no node has a number.
use Rattle.std.proofs.Common.{◌≡◌, ℕ, ◌-◌, ◌<◌, length, get_or, refl, sym, ap, ◌∙◌, arith, length-append}
use Rattle.std.proofs.lemmas.List.{get_or_past}
use Rattle.tb_tree.specs.Plain.{Plain, elem, attr, text, Plains, no_kids, kid, one}
use Rattle.tb_tree.specs.Numbers.{count, counts}
use Rattle.tb_tree.specs.Nodes.{nodes_of, node_at}

length-nodes : (ks : Plains) → length (nodes_of ks) ≡ counts ks
length-nodes no_kids = refl
length-nodes (kid (elem name kids) rest) = omega (arith, length-append (nodes_of kids) (nodes_of rest), length-nodes kids, length-nodes rest)
length-nodes (kid (attr name value) rest) = omega (arith, length-nodes rest)
length-nodes (kid (text value) rest) = omega (arith, length-nodes rest)

root-first : (root : Plain) → node_at root 1 ≡ root
root-first (elem name kids) = refl
root-first (attr name value) = refl
root-first (text value) = refl

-- where no node has the number, the root is looked up
pub root-past : (root : Plain) (n : ℕ) → count root < n → node_at root 1 ≡ node_at root n
root-past root n past =
    root-first root ∙ sym (get_or_past (nodes_of (one root)) (n - 1) root (let many = length-nodes (one root) in omega (arith, many, past)))

pub root-before : (root : Plain) (n : ℕ) → n < 1 → node_at root 1 ≡ node_at root n
root-before root n before = ap (λ k. get_or (nodes_of (one root)) k root) (let g : 0 ≡ n - 1 = omega (arith, before) in g)
