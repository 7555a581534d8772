-- The names of documents in a query.
use Rattle.std.specs.Prelude.{ℕ, List, [], ◌∷◌, ◌++◌, Option, Some, None, flat_map}
use Rattle.std.specs.Str.{bytes_eq}
use Rattle.tb_query.specs.Lists.{each_once}
use Rattle.tb_query.specs.Parts.{PlainCons, element, PlainParts, no_parts, inner, content, PlainPart, constructor, given, PlainBack, nodes_back, cons_back, back_of}
use Rattle.tb_query.specs.declared.path.Path.{Path}
use Rattle.tb_query.specs.declared.path.Start.{Start}
use Rattle.tb_query.specs.declared.path.Start.TheVariants.{Document, Var}
use Rattle.tb_query.specs.declared.operand.Operand as operand
use Rattle.tb_query.specs.declared.operand.Operand.TheVariants as operands
use Rattle.tb_query.specs.declared.operand.Right.{Right}
use Rattle.tb_query.specs.declared.operand.Right.TheVariants as rights
use Rattle.tb_query.specs.declared.operand.Comparison.{Comparison}
use Rattle.tb_query.specs.declared.clause.Clause.{Clause}
use Rattle.tb_query.specs.declared.clause.Clause.TheVariants.{For, Let}
use Rattle.tb_query.specs.declared.clause.GroupBy.{GroupBy}
use Rattle.tb_query.specs.declared.clause.Key.{Key}
use Rattle.tb_query.specs.declared.back.AttrPart.{AttrPart}
use Rattle.tb_query.specs.declared.back.Content as contents
use Rattle.tb_query.specs.declared.back.Content.TheVariants.{Text, Operand}
use Rattle.tb_query.specs.declared.query.Flwor as flwor
use Rattle.tb_query.specs.declared.query.Query.{Query}
use Rattle.tb_query.specs.declared.query.Query.TheVariants.{Match, Flwor}

-- that of a document
abbrev pub names_of_start : Start → List (List ℕ)
names_of_start (Document name) = name ∷ []
names_of_start (Var var) = []

-- a path has the name that it starts at
abbrev pub names_of_path : Path → List (List ℕ)
names_of_path path = names_of_start path.start

-- an operand has those of its path, an aggregate too
abbrev pub names_of_operand : operand.Operand → List (List ℕ)
names_of_operand (operands.Nodes path) = names_of_path path
names_of_operand (operands.Agg kind path) = names_of_path path

-- a clause has those of its path, `LET` too
abbrev pub names_of_clause : Clause → List (List ℕ)
names_of_clause (For var empty path) = names_of_path path
names_of_clause (Let var path) = names_of_path path

-- a literal has none
abbrev pub names_of_right : Right → List (List ℕ)
names_of_right (rights.Operand right) = names_of_operand right
names_of_right (rights.Literal to) = []

-- the left operand stands before the right one
abbrev pub names_of_comparison : Comparison → List (List ℕ)
names_of_comparison c = names_of_operand c.left ++ names_of_right c.right

-- none where there is no GROUP BY
abbrev pub names_of_group : Option GroupBy → List (List ℕ)
names_of_group None = []
names_of_group (Some by) = names_of_path by.path

-- a key has those of its operand
abbrev pub names_of_key : Key → List (List ℕ)
names_of_key key = names_of_operand key.operand

-- a string has none
abbrev pub names_of_content : contents.Content → List (List ℕ)
names_of_content (Text bytes) = []
names_of_content (Operand o) = names_of_operand o

-- an attribute has those of what its value is made from
abbrev pub names_of_attribute : AttrPart → List (List ℕ)
names_of_attribute a = names_of_content a.from

abbrev mutual
  -- attributes stand before parts
  pub names_of_cons : PlainCons → List (List ℕ)
  names_of_cons (element name attrs parts) =
      flat_map names_of_attribute attrs ++ names_of_parts parts

  -- parts in written order
  pub names_of_parts : PlainParts → List (List ℕ)
  names_of_parts no_parts = []
  names_of_parts (inner c rest) = names_of_cons c ++ names_of_parts rest
  names_of_parts (content c rest) = names_of_content c ++ names_of_parts rest

-- one part, and what stands behind RETURN
abbrev pub names_of_part : PlainPart → List (List ℕ)
names_of_part (constructor c) = names_of_cons c
names_of_part (given c) = names_of_content c

-- what stands behind RETURN
abbrev pub names_of_back : PlainBack → List (List ℕ)
names_of_back (nodes_back path) = names_of_path path
names_of_back (cons_back c) = names_of_cons c

-- clauses, conditions, GROUP BY, ORDER BY, RETURN
abbrev pub names_of_flwor : flwor.Flwor → List (List ℕ)
names_of_flwor q =
    flat_map names_of_clause q.clauses ++ flat_map names_of_comparison q.conds
    ++ names_of_group q.group
    ++ flat_map names_of_key q.keys ++ names_of_back (back_of q.back)

-- the names as they are written, from left to right
abbrev pub written_names : Query → List (List ℕ)
written_names (Match p) = p.document ∷ []
written_names (Flwor q) = names_of_flwor q

-- each name once, at its first place
abbrev pub names_once : List (List ℕ) → List (List ℕ)
names_once names = each_once bytes_eq names
