-- What holds of the first items, and of one more.
use Rattle.std.proofs.Common.{◌≡◌, ℕ, Some, ◌+◌, ◌<◌, ◌≤◌, List, length, get_or, take, sym, subst, arith}
use Rattle.std.specs.Prelude.{All}
use Rattle.std.specs.List.{slice_get}
use Rattle.std.proofs.lemmas.List.{take_all, take_more, length-map}
use Rattle.std.proofs.lemmas.List.Elements.{All-push}
use Rattle.tb_tree.specs.Plain.{Plain}
use Rattle.tb_tree.specs.Numbers.{count}
use Rattle.tb_tree.specs.View.{plain_of}
use Rattle.tb_tree.specs.declared.node.Node.{Node}
use Rattle.tb_table.specs.declared.node_ref.NodeRef.{NodeRef}
use Rattle.tb_table.specs.Documents.{docs_of, roots_of}
use Rattle.tb_table.specs.Seen.{IsNode}
use Rattle.tb_table.proofs.NodeLaws.{root-kept}

pub all-more : {X : Type 0} (P : X → Type 0) (xs : List X) (i : ℕ) (d : X) → i < length xs → All P (take i xs) → P (get_or xs i d) → All P (take (i + 1) xs)
all-more P xs i d lt before own = subst (All P) (sym (take_more xs i d lt)) (All-push P (take i xs) (get_or xs i d) before own)

pub all-item : {X : Type 0} (P : X → Type 0) (xs : List X) (i : ℕ) (x : X) → i < length xs → x ≡ get_or xs i x → All P (take i xs) → P x → All P (take (i + 1) xs)
all-item P xs i x lt is before own = all-more P xs i x lt before (subst P is own)

pub all-items : {X : Type 0} (P : X → Type 0) (xs : List X) (i : ℕ) → length xs ≤ i → All P (take i xs) → All P xs
all-items P xs i le all = subst (All P) (take_all i xs le) all

abbrev seen : List ℕ × Node → List ℕ × Plain
seen d = (d.0, plain_of d.1)

pub node-is : (ds : List (List ℕ × Node)) (u : NodeRef) (root : Node) → u.document < length ds → 1 ≤ u.node → slice_get (roots_of ds) u.document ≡ Some root → u.node ≤ count (plain_of root) → IsNode (docs_of ds) u
node-is ds u root low some there within = record {
  document = omega (arith, low, length-map ds seen);
  some = some;
  within = subst (λ r. u.node ≤ count r) (sym (root-kept ds u.document root there)) within;
}
