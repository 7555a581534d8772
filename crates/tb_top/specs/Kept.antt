-- What a history in memory keeps: words of private clauses.
use Rattle.std.specs.Prelude.{◌≡◌, ℕ, List, map, get_or}
use Rattle.std.proofs.Common.{Global}
use Rattle.std.specs.Option.{option_map}
use Rattle.std.specs.BTreeMap.{BTreeMap, get}
use Rattle.std.specs.declared.sync.Arc.{Arc}
use Rattle.std.specs.Ordering.{nat_cmp}
use Rattle.std.specs.Cmp.Lexicographic.{slice_cmp}
use Rattle.std.specs.Arc.{arc_value}
use Rattle.tb_tree.specs.Documents.{found}
use Rattle.tb_tree.specs.View.{plain_of}
use Rattle.tb_tree.specs.declared.node.Node.{Node}
use Rattle.tb_top.specs.History.{Change, count_of, documents_in}
use Rattle.tb_top.specs.declared.history.Change as change_code

-- the changes with their stores, the oldest first, and how many sessions there are
pub record Kept : Type 0 where
  pub changes : List change_code.Change
  pub sessions : ℕ

abbrev pub change_in : change_code.Change → Change
change_in c = record {
  session = c.session;
  count = c.count;
  name = c.name;
  tree = plain_of (arc_value c.store);
}

abbrev pub changes_in : Kept → List Change
changes_in kept = map change_in kept.changes

-- the map has the documents of the whole history, and the counts are those of the sessions
pub record IsKept (changes : List Change) (stores : BTreeMap (List ℕ) (Arc Node Global)) (made : List ℕ) : Type 0 where
  pub latest : (name : List ℕ) → option_map (λ store. plain_of (arc_value store)) (get (slice_cmp nat_cmp) stores name) ≡ found name (documents_in changes)
  pub counts : (session : ℕ) → get_or made session 0 ≡ count_of session changes
