-- What a query of clauses does, as a list in written order: it binds variables, takes the nodes of paths,
-- and makes elements.
use Rattle.std.specs.Prelude.{ℕ, ◌+◌, List, [], ◌∷◌, ◌++◌, Option, Some, None, length, map, flat_map}
use Rattle.tb_query.specs.Parts.{PlainCons, element, PlainParts, no_parts, inner, content, PlainBack, nodes_back, cons_back, back_of}
use Rattle.tb_query.specs.declared.path.Path.{Path}
use Rattle.tb_query.specs.declared.operand.Operand as operand
use Rattle.tb_query.specs.declared.operand.Operand.TheVariants as operands
use Rattle.tb_query.specs.declared.operand.Right.{Right}
use Rattle.tb_query.specs.declared.operand.Right.TheVariants as rights
use Rattle.tb_query.specs.declared.operand.Comparison.{Comparison}
use Rattle.tb_query.specs.declared.clause.Clause.{Clause}
use Rattle.tb_query.specs.declared.clause.Clause.TheVariants.{For, Let}
use Rattle.tb_query.specs.declared.clause.GroupBy.{GroupBy}
use Rattle.tb_query.specs.declared.clause.Key.{Key}
use Rattle.tb_query.specs.declared.back.AttrPart.{AttrPart}
use Rattle.tb_query.specs.declared.back.Content as contents
use Rattle.tb_query.specs.declared.back.Content.TheVariants.{Text, Operand}
use Rattle.tb_query.specs.declared.query.Flwor as flwor
use Rattle.tb_query.specs.declared.query.Query.{Query}
use Rattle.tb_query.specs.declared.query.Query.TheVariants.{Match, Flwor}

pub data Action : Type 0 where
  -- FOR, LET and GROUP BY bind the variable of a number to the nodes of a path
  binds : ℕ → Path → Action
  -- an operand takes the nodes of its path, an aggregate too, and so does a path behind RETURN
  takes : Path → Action
  -- a constructor makes an element of its name, with attributes of these
  makes : List ℕ → List (List ℕ) → Action

-- an operand takes its path
abbrev pub actions_of_operand : operand.Operand → List Action
actions_of_operand (operands.Nodes path) = takes path ∷ []
actions_of_operand (operands.Agg kind path) = takes path ∷ []

-- a clause binds its variable
abbrev pub actions_of_clause : Clause → List Action
actions_of_clause (For var empty path) = binds var path ∷ []
actions_of_clause (Let var path) = binds var path ∷ []

-- a literal does nothing
abbrev pub actions_of_right : Right → List Action
actions_of_right (rights.Operand right) = actions_of_operand right
actions_of_right (rights.Literal to) = []

-- the left operand stands before the right one
abbrev pub actions_of_comparison : Comparison → List Action
actions_of_comparison c = actions_of_operand c.left ++ actions_of_right c.right

-- none where there is no GROUP BY
abbrev pub actions_of_group : Option GroupBy → List Action
actions_of_group None = []
actions_of_group (Some by) = binds by.var by.path ∷ []

-- a key does what its operand does
abbrev pub actions_of_key : Key → List Action
actions_of_key key = actions_of_operand key.operand

-- a string does nothing
abbrev pub actions_of_content : contents.Content → List Action
actions_of_content (Text bytes) = []
actions_of_content (Operand o) = actions_of_operand o

-- an attribute does what its value is made from
abbrev pub actions_of_attribute : AttrPart → List Action
actions_of_attribute a = actions_of_content a.from

-- the names of attributes, in order
abbrev pub names_of_attributes : List AttrPart → List (List ℕ)
names_of_attributes attrs = map (λ a. a.name) attrs

abbrev mutual
  -- a constructor before what stands in it, and attributes before parts
  pub actions_of_cons : PlainCons → List Action
  actions_of_cons (element name attrs parts) =
      makes name (names_of_attributes attrs)
      ∷ (flat_map actions_of_attribute attrs ++ actions_of_parts parts)

  -- parts in written order
  pub actions_of_parts : PlainParts → List Action
  actions_of_parts no_parts = []
  actions_of_parts (inner c rest) = actions_of_cons c ++ actions_of_parts rest
  actions_of_parts (content c rest) = actions_of_content c ++ actions_of_parts rest

-- what stands behind RETURN
abbrev pub actions_of_back : PlainBack → List Action
actions_of_back (nodes_back path) = takes path ∷ []
actions_of_back (cons_back c) = actions_of_cons c

-- clauses, conditions, GROUP BY, ORDER BY, RETURN
abbrev pub actions_of_flwor : flwor.Flwor → List Action
actions_of_flwor q =
    flat_map actions_of_clause q.clauses
    ++ (flat_map actions_of_comparison q.conds
    ++ (actions_of_group q.group
    ++ (flat_map actions_of_key q.keys ++ actions_of_back (back_of q.back))))

-- a pattern binds, takes and makes nothing of this kind
abbrev pub actions_of : Query → List Action
actions_of (Match p) = []
actions_of (Flwor q) = actions_of_flwor q

-- how many bindings, operands, steps and constructors there are
abbrev pub size_of_path : Path → ℕ
size_of_path path = 1 + length path.steps

abbrev pub size_of_actions : List Action → ℕ
size_of_actions [] = 0
size_of_actions (binds var path ∷ actions) = size_of_path path + size_of_actions actions
size_of_actions (takes path ∷ actions) = size_of_path path + size_of_actions actions
size_of_actions (makes name attributes ∷ actions) = 1 + size_of_actions actions
