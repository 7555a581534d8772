-- That an answer depends on the documents that a query names alone.
use Rattle.std.specs.Prelude.{◌≡◌, ℕ, List}
use Rattle.std.specs.List.{Contains}
use Rattle.tb_tree.specs.Documents.{Docs, found}
use Rattle.tb_query.specs.Names.{written_names}
use Rattle.tb_query.specs.Answer.{answer}
use Rattle.tb_query.specs.declared.query.Query.{Query}

-- under each of these names both have the same document, or none
abbrev pub Agree : List (List ℕ) → Docs → Docs → Type 0
Agree names docs other = (name : List ℕ) → Contains names name → found name docs ≡ found name other

-- the answer of the query is the same over documents that agree on these names
abbrev pub AreEnough : List (List ℕ) → Query → Type 0
AreEnough names q = (docs other : Docs) → Agree names docs other → answer docs q ≡ answer other q

-- where two lists of documents agree on the names that are written in a query, its answer is the
-- same over both
abbrev pub DependsOnNames : Type 0
DependsOnNames =
    (docs other : Docs) (q : Query) → Agree (written_names q) docs other
    → answer docs q ≡ answer other q
