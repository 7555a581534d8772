-- Which query tokens ask for.
use Rattle.std.specs.Prelude.{◌≡◌, List, [], ◌∷◌, Option, None}
use Rattle.tb_token.specs.grammar.Grammar.{Tok}
use Rattle.tb_token.specs.grammar.Sentences.{Tree, nothing, pair, first, second, Derives}
use Rattle.tb_token.specs.grammar.Queries.{rules, query}
use Rattle.tb_pattern.specs.Value.{document_of, pattern_of}
use Rattle.tb_pattern.specs.View.{edges_of}
use Rattle.tb_pattern.specs.declared.pattern.Pattern.{Pattern}
use Rattle.tb_query.specs.Parts.{PlainBack, back_of}
use Rattle.tb_query.specs.declared.clause.Clause.{Clause}
use Rattle.tb_query.specs.declared.clause.GroupBy.{GroupBy}
use Rattle.tb_query.specs.declared.clause.Key.{Key}
use Rattle.tb_query.specs.declared.operand.Comparison.{Comparison}
use Rattle.tb_query.specs.declared.query.Flwor as flwor
use Rattle.tb_query.specs.declared.query.Query.{Query}
use Rattle.tb_query.specs.declared.query.Query.TheVariants.{Match, Flwor}
use Rattle.tb_flwor.specs.Variables.{bound}
use Rattle.tb_flwor.specs.Value.{BoundNames, clause_from, more_clauses, conds_of, group_of, keys_of}
use Rattle.tb_flwor.specs.Results.{back_in}

-- What a query of clauses has, part by part:
-- clause { clause } [ where ] [ group ] [ order ] RETURN back

abbrev pub clauses_in_tree : BoundNames → Tree → List Clause
clauses_in_tree names (pair c (pair more _)) = clause_from names c (more_clauses names more)
clauses_in_tree names _ = []

abbrev pub conds_in_tree : BoundNames → Tree → List Comparison
conds_in_tree names (pair _ (pair _ (pair w _))) = conds_of names w
conds_in_tree names _ = []

abbrev pub group_in_tree : BoundNames → Tree → Option GroupBy
group_in_tree names (pair _ (pair _ (pair _ (pair g _)))) = group_of names g
group_in_tree names _ = None

abbrev pub keys_in_tree : BoundNames → Tree → List Key
keys_in_tree names (pair _ (pair _ (pair _ (pair _ (pair o _))))) = keys_of names o
keys_in_tree names _ = []

abbrev pub back_in_tree : BoundNames → Tree → PlainBack
back_in_tree names (pair _ (pair _ (pair _ (pair _ (pair _ (pair _ b)))))) = back_in names b
back_in_tree names _ = back_in names nothing

-- the query of clauses is what the tree stands for, where these names are bound
pub record IsFlwor (names : BoundNames) (q : flwor.Flwor) (v : Tree) : Type 0 where
  pub clauses_are : q.clauses ≡ clauses_in_tree names v
  pub conds_are : q.conds ≡ conds_in_tree names v
  pub group_is : q.group ≡ group_in_tree names v
  pub keys_are : q.keys ≡ keys_in_tree names v
  pub back_is : back_of q.back ≡ back_in_tree names v

-- the `MATCH` query is what the tree stands for
pub record IsMatch (p : Pattern) (v : Tree) : Type 0 where
  pub document_is : p.document ≡ document_of v
  pub edges_are : edges_of p.edges ≡ pattern_of v

-- the tree of a query, of either kind
abbrev pub IsOf : List Tok → Query → Tree → Type 0
IsOf s (Match p) (first v) = IsMatch p v
IsOf s (Flwor q) (second v) = IsFlwor (bound s) q v
IsOf s _ _ = ⊥

-- the tokens are a query, and this one
abbrev pub AskFor : List Tok → Query → Type 0
AskFor s q = (v : Tree) × Derives rules (query ∷ []) (v ∷ []) s × IsOf s q v

-- The queries have the same parts, apart from how a pattern's edges and a constructor's parts are
-- held.
abbrev pub AreSame : Query → Query → Type 0
AreSame (Match p) (Match q) =
    (p.document ≡ q.document) × (edges_of p.edges ≡ edges_of q.edges)
AreSame (Flwor p) (Flwor q) =
    (p.clauses ≡ q.clauses) × (p.conds ≡ q.conds) × (p.group ≡ q.group) × (p.keys ≡ q.keys)
    × (back_of p.back ≡ back_of q.back)
AreSame _ _ = ⊥
