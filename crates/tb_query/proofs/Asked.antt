-- The answer of a query by what the program holds of it as plain data.
use Rattle.std.proofs.Common.{◌≡◌, ℕ, List, ap, ◌∙◌, Option, Some, option_map}
use Rattle.tb_pattern.specs.Plain.{PlainEdges}
use Rattle.tb_pattern.specs.View.{edges_of}
use Rattle.tb_pattern.specs.declared.pattern.Pattern.{Pattern}
use Rattle.tb_query.specs.Answer.{answer, flwor_trees, match_trees, counted}
use Rattle.tb_query.specs.Parts.{PlainBack, back_of}
use Rattle.tb_tree.specs.Documents.{Docs, found}
use Rattle.tb_query.specs.declared.query.Flwor as flwor
use Rattle.tb_query.specs.declared.query.Query.TheVariants.{Match, Flwor}

pub answer-back : (docs : Docs) (q : flwor.Flwor) (back : PlainBack) (a : Option (ℕ × List ℕ))
    → back_of q.back ≡ back → option_map counted (flwor_trees docs q back) ≡ a
    → answer docs (Flwor q) ≡ a
answer-back docs q back a is computed =
    ap (λ b. option_map counted (flwor_trees docs q b)) is ∙ computed

pub answer-edges : (docs : Docs) (p : Pattern) (edges : PlainEdges) (a : ℕ × List ℕ)
    → edges_of p.edges ≡ edges → counted (match_trees edges (found p.document docs)) ≡ a
    → answer docs (Match p) ≡ Some a
answer-edges docs p edges a is computed =
    ap (λ e. Some (counted (match_trees e (found p.document docs)))) is ∙ ap Some computed
