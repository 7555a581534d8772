-- What a plan of one pattern means, by whether its document is there.
use Rattle.std.proofs.Common.{◌≡◌, ℕ, ◌<◌, ◌≤◌, List, [], ◌∷◌, Some, None, length, get_or, sym, ap, ◌∙◌, subst, arith}
use Rattle.tb_tree.specs.Documents.{Docs, found}
use Rattle.tb_tree.specs.Plain.{Plain}
use Rattle.tb_pattern.specs.View.{edges_of}
use Rattle.tb_pattern.specs.declared.pattern.Pattern.{Pattern}
use Rattle.tb_query.specs.Answer.{match_trees, counted}
use Rattle.tb_parjoin.specs.Traces.{Trace}
use Rattle.tb_parjoin.specs.declared.settings.OrderRule.{OrderRule}
use Rattle.tb_tlc.specs.Meaning.{meaning}
use Rattle.tb_tlc.specs.declared.plan.Op.{Op}
use Rattle.tb_tlc.specs.declared.plan.Op.TheVariants.{Match}
use Rattle.tb_twig.specs.Calls.{AreTraced}
use Rattle.tb_engine.specs.Calls.{AreTraces, AreTracesOver, order_by}

-- the plan is the pattern that stands first
pub one-pattern : (ops slice : List Op) (d : Op) (p : Pattern) → slice ≡ ops → 1 ≤ length slice → length slice < 2 → get_or slice 0 d ≡ Match p → ops ≡ Match p ∷ []
one-pattern ops slice d p same some few first = sym same ∙ by slice some few first
  where
    by : (os : List Op) → 1 ≤ length os → length os < 2 → get_or os 0 d ≡ Match p → os ≡ Match p ∷ []
    by [] some few first = absurd (omega (arith, some))
    by (o ∷ []) some few first = ap (λ x. x ∷ []) first
    by (o ∷ o2 ∷ os) some few first = absurd (omega (arith, few))

pub meaning-none : (docs : Docs) (ops : List Op) (p : Pattern) (text : List ℕ) → ops ≡ Match p ∷ [] → found p.document docs ≡ None → text ≡ [] → meaning docs ops ≡ Some (0, text)
meaning-none docs ops p text ops_are none text_is =
    ap (meaning docs) ops_are ∙ ap (λ r. Some (counted (match_trees (edges_of p.edges) r))) none ∙ ap (λ t. Some (0, t)) (sym text_is)

pub meaning-some : (docs : Docs) (ops : List Op) (p : Pattern) (root : Plain) (count : ℕ) (text : List ℕ) → ops ≡ Match p ∷ [] → found p.document docs ≡ Some root
    → (count, text) ≡ counted (match_trees (edges_of p.edges) (Some root)) → meaning docs ops ≡ Some (count, text)
meaning-some docs ops p root count text ops_are some answer =
    ap (meaning docs) ops_are ∙ ap (λ r. Some (counted (match_trees (edges_of p.edges) r))) some ∙ ap (λ a. Some a) (sym answer)

pub traces-none : (docs : Docs) (rule : OrderRule) (ops : List Op) (p : Pattern) (traces : List Trace) → ops ≡ Match p ∷ [] → found p.document docs ≡ None → traces ≡ [] → AreTraces docs rule ops traces
traces-none docs rule ops p traces ops_are none are =
    subst (λ os. AreTraces docs rule os traces) (sym ops_are) (subst (λ r. AreTracesOver r rule (edges_of p.edges) traces) (sym none) are)

pub traces-some : (docs : Docs) (rule : OrderRule) (ops : List Op) (p : Pattern) (root : Plain) (traces : List Trace) → ops ≡ Match p ∷ [] → found p.document docs ≡ Some root
    → AreTraced root (edges_of p.edges) (order_by rule (edges_of p.edges)) traces → AreTraces docs rule ops traces
traces-some docs rule ops p root traces ops_are some are =
    subst (λ os. AreTraces docs rule os traces) (sym ops_are) (subst (λ r. AreTracesOver r rule (edges_of p.edges) traces) (sym some) are)
