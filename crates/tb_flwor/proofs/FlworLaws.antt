-- A query of clauses is built from its parts.
use Rattle.std.proofs.Common.{◌≡◌, List, [], ◌∷◌, drop, sym, ap, ◌∙◌}
use Rattle.std.specs.Prelude.{codes}
use Rattle.tb_token.specs.grammar.Grammar.{Tok, Expression, both, maybe, many}
use Rattle.tb_token.specs.grammar.Sentences.{Tree, pair}
use Rattle.tb_token.specs.grammar.Terminals.{keyword}
use Rattle.tb_token.specs.grammar.Queries.{clause, where_part, group, order, flwor}
use Rattle.tb_token.specs.grammar.Results.{back}
use Rattle.tb_token.specs.tokens.TerminalNames as terminals
use Rattle.tb_pattern.specs.Building.{Next, Builds}
use Rattle.tb_pattern.proofs.BuildingLaws.{one-builds, Both, both-builds, builds-as}
use Rattle.tb_query.specs.declared.query.Flwor as query
use Rattle.tb_flwor.specs.Value.{BoundNames, clause_from, more_clauses}
use Rattle.tb_flwor.specs.Asked.{IsFlwor}
use Rattle.tb_flwor.specs.Built.{GivesAll, AreMoreClauses, BuildsClauses, AreConds, IsGroup, AreKeys, IsBack}

module _ (names : BoundNames) (q : query.Flwor) (s l1 l2 l3 l4 l5 : List Tok) (clauses_are : BuildsClauses names q.clauses s l1) where
  abbrev returned : Expression
  returned = both (keyword (codes "RETURN")) back

  abbrev ordered : Expression
  ordered = both (maybe order) returned

  abbrev grouped : Expression
  grouped = both (maybe group) ordered

  abbrev kept : Expression
  kept = both (maybe where_part) grouped

  abbrev Returned : Tree → Type 0
  Returned = Both (Next l4) (IsBack names q.back)

  abbrev Ordered : Tree → Type 0
  Ordered = Both (AreKeys names q.keys) Returned

  abbrev Grouped : Tree → Type 0
  Grouped = Both (IsGroup names q.group) Ordered

  abbrev Kept : Tree → Type 0
  Kept = Both (AreConds names q.conds) Grouped

  abbrev More : Tree → Type 0
  More = Both (AreMoreClauses names clauses_are.first_are q.clauses) Kept

  abbrev Whole : Tree → Type 0
  Whole = Both (GivesAll (clause_from names) clauses_are.first_are) More

  whole-is : (v : Tree) → Whole v → IsFlwor names q v
  whole-is v b =
      let m = b.two_is in
      let k = m.two_is in
      let g = k.two_is in
      let o = g.two_is in
      let r = o.two_is in
      let same : v ≡ pair b.one (pair m.one (pair k.one (pair g.one (pair o.one (pair r.one r.two))))) =
      b.pair_is ∙ ap (λ x. pair b.one x) (m.pair_is ∙ ap (λ x. pair m.one x) (k.pair_is ∙ ap (λ x. pair k.one x)
      (g.pair_is ∙ ap (λ x. pair g.one x) (o.pair_is ∙ ap (λ x. pair o.one x) r.pair_is)))) in
      record {
        clauses_are = rw same (sym (b.one_is (more_clauses names m.one) ∙ m.one_is));
        conds_are = rw same (sym k.one_is);
        group_is = rw same (sym g.one_is);
        keys_are = rw same (sym o.one_is);
        back_is = rw same r.two_is;
      }

  pub flwor-builds : Builds (maybe where_part) (AreConds names q.conds) l1 l2 → Builds (maybe group) (IsGroup names q.group) l2 l3 → Builds (maybe order) (AreKeys names q.keys) l3 l4
      → Builds back (IsBack names q.back) (drop 1 l4) l5 → Builds flwor (IsFlwor names q) s l5
  flwor-builds conds_are group_is keys_are back_is =
      builds-as flwor Whole (IsFlwor names q) s l5 whole-is
      (both-builds clause (both (many clause) kept) (GivesAll (clause_from names) clauses_are.first_are) More s clauses_are.mid l5 clauses_are.one
      (both-builds (many clause) kept (AreMoreClauses names clauses_are.first_are q.clauses) Kept clauses_are.mid l1 l5 clauses_are.others
      (both-builds (maybe where_part) grouped (AreConds names q.conds) Grouped l1 l2 l5 conds_are
      (both-builds (maybe group) ordered (IsGroup names q.group) Ordered l2 l3 l5 group_is
      (both-builds (maybe order) returned (AreKeys names q.keys) Returned l3 l4 l5 keys_are
      (both-builds (keyword (codes "RETURN")) back (Next l4) (IsBack names q.back) l4 (drop 1 l4) l5 (one-builds (terminals.RETURN ∷ []) l4) back_is))))))
