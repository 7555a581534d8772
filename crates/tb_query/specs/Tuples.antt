-- Variables and tuples.
use Rattle.std.specs.Prelude.{ℕ, ◌==◌, Bool, if◌then◌else◌, List, [], ◌∷◌, ◌++◌, Option, Some, None, map, fold, flat_map}
use Rattle.tb_tree.specs.Plain.{Plain}
use Rattle.tb_tree.specs.Documents.{Docs, found}
use Rattle.tb_tree.specs.Numbers.{Numbered}
use Rattle.tb_query.specs.Nodes.{From, nowhere, document_node, node_at, nodes_from}
use Rattle.tb_query.specs.declared.path.Path.{Path}
use Rattle.tb_query.specs.declared.path.Start.{Start}
use Rattle.tb_query.specs.declared.path.Start.TheVariants.{Document, Var}
use Rattle.tb_query.specs.declared.path.Step.{Step}
use Rattle.tb_query.specs.declared.clause.Clause.{Clause}
use Rattle.tb_query.specs.declared.clause.Clause.TheVariants.{For, Let}

-- variables with what they stand for, the last one bound first; an empty variable has no node
abbrev pub Tuple : Type 0
Tuple = List (ℕ × Option Numbered)

-- the node of the variable, or none
abbrev pub bound : ℕ → Tuple → Option Numbered
bound var [] = None
bound var (b ∷ tuple) = if var == b.0 then b.1 else bound var tuple

-- where a path from a document and one from a variable start
abbrev pub from_root : Option Plain → From
from_root None = nowhere
from_root (Some root) = document_node root

-- no node where the variable is empty
abbrev pub from_node : Option Numbered → From
from_node None = nowhere
from_node (Some u) = node_at u

-- where a path starts, over documents and for a tuple
abbrev pub start_in : Docs → Tuple → Start → From
start_in docs tuple (Document name) = from_root (found name docs)
start_in docs tuple (Var var) = from_node (bound var tuple)

-- the nodes of a path that starts at no variable of `LET`
abbrev pub nodes_in : Docs → Path → Tuple → List Numbered
nodes_in docs path tuple = nodes_from path.steps (start_in docs tuple path.start)

-- variables of `LET` with their paths
abbrev pub Lets : Type 0
Lets = List (ℕ × Path)

-- the path of the variable, or none where it is no variable of `LET`
abbrev pub let_path : ℕ → Lets → Option Path
let_path var [] = None
let_path var (l ∷ lets) = if var == l.0 then Some l.1 else let_path var lets

-- the steps behind what the variable stands for
abbrev pub behind_variable : ℕ → Option Path → List Step → Path
behind_variable var None steps = record { start = Var var; steps = steps }
behind_variable var (Some path) steps = record { start = path.start; steps = path.steps ++ steps }

-- a path from a document stands for itself
abbrev pub standing_from : Lets → Start → List Step → Path
standing_from lets (Document name) steps = record { start = Document name; steps = steps }
standing_from lets (Var var) steps = behind_variable var (let_path var lets) steps

-- the path that a path stands for: a variable of `LET` stands for its own
abbrev pub standing : Lets → Path → Path
standing lets path = standing_from lets path.start path.steps

-- The tuple extended by each of the nodes, in order. Where there is none it is dropped, or else
-- extended by an empty variable.
abbrev pub extended : ℕ → Bool → Tuple → List Numbered → List Tuple
extended var empty tuple [] = if empty then ((var, None) ∷ tuple) ∷ [] else []
extended var empty tuple (u ∷ us) = map (λ v. (var, Some v) ∷ tuple) (u ∷ us)

-- the tuples, and the paths of the variables of `LET`, none of which starts at such a variable
pub record Bindings : Type 0 where
  pub tuples : List Tuple
  pub lets : Lets

-- a clause more: `FOR` extends each tuple, and `LET` leaves the tuples as they are
abbrev pub bound_by : Docs → Bindings → Clause → Bindings
bound_by docs b (For var empty path) = record {
  tuples = flat_map (λ t. extended var empty t (nodes_in docs (standing b.lets path) t)) b.tuples;
  lets = b.lets;
}
bound_by docs b (Let var path) = record {
  tuples = b.tuples;
  lets = (var, standing b.lets path) ∷ b.lets;
}

-- the clauses in written order, from one empty tuple
abbrev pub bindings : Docs → List Clause → Bindings
bindings docs clauses = fold (bound_by docs) (record { tuples = [] ∷ []; lets = [] }) clauses
