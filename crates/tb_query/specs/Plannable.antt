-- What makes of a query one that can be planned.
use Rattle.std.specs.Prelude.{◌≡◌, ℕ, ◌+◌, ◌<◌, ◌≤◌, IsTrue, List, [], ◌∷◌, length, ⊤}
use Rattle.std.specs.List.{AllByRecursion}
use Rattle.tb_tree.specs.Names.{is_name}
use Rattle.tb_tree.specs.Sound.{are_different}
use Rattle.tb_query.specs.Actions.{Action, binds, takes, makes, actions_of, size_of_actions}
use Rattle.tb_query.specs.declared.path.Start.{Start}
use Rattle.tb_query.specs.declared.path.Start.TheVariants.{Document, Var}
use Rattle.tb_query.specs.declared.path.Step.{Step}
use Rattle.tb_query.specs.declared.query.Query.{Query}

-- a path starts at a document, or at one of the first n variables
abbrev pub StartsBefore : ℕ → Start → Type 0
StartsBefore n (Document name) = ⊤
StartsBefore n (Var var) = var < n

-- Where n variables are bound: each binding has the next number, and each path starts at a variable
-- that is bound before, in a binding's own path before that one.
abbrev pub AreBound : ℕ → List Action → Type 0
AreBound n [] = ⊤
AreBound n (binds var path ∷ actions) =
    (var ≡ n) × StartsBefore n path.start × AreBound (n + 1) actions
AreBound n (takes path ∷ actions) = StartsBefore n path.start × AreBound n actions
AreBound n (makes name attributes ∷ actions) = AreBound n actions

-- a path from a document has a step
abbrev pub StepsFrom : Start → List Step → Type 0
StepsFrom (Document name) steps = 0 < length steps
StepsFrom (Var var) steps = ⊤

abbrev pub HasStep : Action → Type 0
HasStep (binds var path) = StepsFrom path.start path.steps
HasStep (takes path) = StepsFrom path.start path.steps
HasStep (makes name attributes) = ⊤

-- a constructor's name is a name, and so are those of its attributes
abbrev pub IsNamed : Action → Type 0
IsNamed (binds var path) = ⊤
IsNamed (takes path) = ⊤
IsNamed (makes name attributes) =
    IsTrue (is_name name) × AllByRecursion (λ a. IsTrue (is_name a)) attributes

-- the attributes of one constructor have different names
abbrev pub IsDifferent : Action → Type 0
IsDifferent (binds var path) = ⊤
IsDifferent (takes path) = ⊤
IsDifferent (makes name attributes) = IsTrue (are_different attributes)

pub record IsPlannable (q : Query) : Type 0 where
  -- each variable is bound once, by the number of its turn, and before its use
  pub bound : AreBound 0 (actions_of q)
  pub long : AllByRecursion HasStep (actions_of q)
  pub named : AllByRecursion IsNamed (actions_of q)
  pub different : AllByRecursion IsDifferent (actions_of q)
  -- bindings, operands, steps and constructors together
  pub few : size_of_actions (actions_of q) ≤ 65536
