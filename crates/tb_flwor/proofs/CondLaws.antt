-- Conditions are built one after the other, and each from its operands.
use Rattle.std.proofs.Common.{◌≡◌, ℕ, Bool, true, false, ◌≤◌, List, [], ◌∷◌, ◌++◌, length, drop, refl, sym, ap, ◌∙◌}
use Rattle.std.specs.Prelude.{codes}
use Rattle.tb_token.specs.grammar.Grammar.{Tok, Expression, both, either, maybe, has}
use Rattle.tb_token.specs.grammar.Sentences.{Tree, leaf, nothing, pair, second, by_one, by_both, by_second}
use Rattle.tb_token.specs.grammar.Reading.{first_set}
use Rattle.tb_token.proofs.grammar.PlaceLaws.{read-both, read-second, read-one}
use Rattle.tb_token.specs.grammar.Terminals.{keyword, list_of}
use Rattle.tb_token.specs.grammar.Patterns.{cmp, literal}
use Rattle.tb_token.specs.grammar.Paths.{operand}
use Rattle.tb_token.specs.grammar.Queries.{rules, cond, where_part}
use Rattle.tb_token.specs.tokens.TerminalNames as terminals
use Rattle.tb_pattern.specs.Value.{op_of}
use Rattle.tb_pattern.specs.Building.{next, Next, begins, Come, IsBuilt, Builds, BuildsApart}
use Rattle.tb_pattern.specs.BuiltParts.{IsLiteral}
use Rattle.tb_pattern.proofs.BuildingLaws.{some-none, come-next, come-as, wrong-terminal, one-builds, Both, both-builds, builds-as, put_in-builds, left_out-builds, First, first-builds}
use Rattle.tb_pattern.proofs.CondLaws.{cmp-minus}
use Rattle.tb_pattern.specs.declared.cond.Literal.{Literal}
use Rattle.tb_query.specs.declared.operand.Comparison.{Comparison}
use Rattle.tb_query.specs.declared.operand.Operand.{Operand}
use Rattle.tb_query.specs.declared.operand.Right.{Right}
use Rattle.tb_query.specs.declared.operand.Right.TheVariants as right
use Rattle.tb_flwor.specs.Value.{BoundNames, right_of, cond_from, more_conds, conds_of}
use Rattle.tb_flwor.specs.Built.{Gives, IsOperand, IsRight, AreConds}
use Rattle.tb_pattern.proofs.RunLaws.{ListSoFar, list-start, behind-next, behind-end}

abbrev operand_terminals : List ℕ
operand_terminals = first_set operand

module _ (names : BoundNames) where
  pub right-operand : (is : Operand) (s left : List Tok) → begins operand_terminals s ≡ true → Builds operand (IsOperand names is) s left
      → BuildsApart (either operand literal) (IsRight names (right.Operand is)) s left
  right-operand is s left e operand_is ps come =
      builds-as (either operand literal) (First (IsOperand names is)) (IsRight names (right.Operand is)) s left
      (λ v f. ap (right_of names) f.first_is ∙ ap right.Operand f.one_is)
      (first-builds operand literal (IsOperand names is) s left e operand_is) ps false come

  pub right-literal : (is : Literal) (s left : List Tok) → begins operand_terminals s ≡ false → BuildsApart literal (IsLiteral is) s left
      → BuildsApart (either operand literal) (IsRight names (right.Literal is)) s left
  right-literal is [] left e literal_is ps come = some-none come.parts
  right-literal is (t ∷ u) left e literal_is ps come =
      let b = literal_is ps (come-as false (either operand literal ∷ ps) (literal ∷ ps) (t ∷ u) (read-second rules operand literal t u ps e) come) in
      record {
        minus = b.minus;
        behind = b.behind;
        tree = second b.tree;
        is = ap right.Literal b.is;
        derived = λ vs d. by_second (b.derived vs d);
      }

  -- cmp ( operand | literal )

  abbrev with : Expression
  with = both cmp (either operand literal)

  abbrev Compared : List Tok → Right → Tree → Type 0
  Compared mid is = Both (Next mid) (IsRight names is)

  with-builds : (is : Right) (s left : List Tok) → BuildsApart (either operand literal) (IsRight names is) (drop 1 s) left → Builds with (Compared s is) s left
  with-builds is [] left right_is ps minus come = some-none come.parts
  with-builds is (t ∷ u) left right_is ps minus come = by (has terminals.COMPARISONS t.terminal) refl
    where
      by : (here : Bool) → has terminals.COMPARISONS t.terminal ≡ here → IsBuilt with (Compared (t ∷ u) is) ps (t ∷ u) left
      by true h =
          let reads = read-both rules cmp (either operand literal) (t ∷ u) ps ∙ read-one rules terminals.COMPARISONS t u (either operand literal ∷ ps) h in
          let behind = come-next minus (with ∷ ps) (either operand literal ∷ ps) t u come reads in
          let apart : Come false (either operand literal ∷ ps) u = rw (cmp-minus t.terminal h) at behind in
          let b = right_is ps apart in
          record {
            minus = b.minus;
            behind = b.behind;
            tree = pair (leaf t) b.tree;
            is = record { one = leaf t; two = b.tree; pair_is = refl; one_is = refl; two_is = b.is };
            derived = λ vs d. by_both (by_one h (b.derived vs d));
          }
      by false h = wrong-terminal terminals.COMPARISONS t u (either operand literal ∷ ps) h (sym (read-both rules cmp (either operand literal) (t ∷ u) ps) ∙ come.parts)

  -- a comparison of these
  abbrev compared : Operand → List Tok → Right → Comparison
  compared l mid r = record { left = l; op = op_of (next mid); right = r }

  pub cond-builds : (l : Operand) (r : Right) (s mid left : List Tok) → Builds operand (IsOperand names l) s mid
      → BuildsApart (either operand literal) (IsRight names r) (drop 1 mid) left → Builds cond (Gives (cond_from names) (compared l mid r)) s left
  cond-builds l r s mid left operand_is right_is =
      builds-as cond (Both (IsOperand names l) (Compared mid r)) (Gives (cond_from names) (compared l mid r)) s left
      (λ v b behind.
      ap (λ x. cond_from names x behind) (b.pair_is ∙ ap (λ x. pair b.one x) b.two_is.pair_is) ∙ rw (b.one_is, b.two_is.one_is, b.two_is.two_is) refl)
      (both-builds operand with (IsOperand names l) (Compared mid r) s mid left operand_is (with-builds r mid left right_is))

  -- Conditions behind the keyword WHERE.

  abbrev other_cond : Expression
  other_cond = both (keyword (codes "AND")) cond

  abbrev pub CondsSoFar : List Comparison → List Comparison → List Tok → List Tok → Type 0
  CondsSoFar = ListSoFar other_cond (more_conds names)

  pub conds-start : (old : List Comparison) (s : List Tok) → CondsSoFar old old s s
  conds-start old s = list-start other_cond (more_conds names) old s

  pub conds-next : (old found : List Comparison) (is : Comparison) (s mid left : List Tok) → begins (terminals.AND ∷ []) mid ≡ true → CondsSoFar old found s mid
      → Builds cond (Gives (cond_from names) is) (drop 1 mid) left → length left ≤ length (drop 1 mid) → CondsSoFar old (found ++ is ∷ []) s left
  conds-next old found is s mid left e far gives shorter =
      behind-next cond (cond_from names) (more_conds names) (terminals.AND ∷ []) old found is s mid left (λ a v w. refl) e far gives shorter

  module _ (is : Comparison) (found : List Comparison) (s mid left : List Tok) where
    abbrev Listed : Tree → Type 0
    Listed = Both (Gives (cond_from names) is) (λ v. is ∷ more_conds names v ≡ found)

    pub conds-end : begins (terminals.WHERE ∷ []) s ≡ true → begins (terminals.AND ∷ []) left ≡ false → Builds cond (Gives (cond_from names) is) (drop 1 s) mid
        → CondsSoFar (is ∷ []) found mid left → Builds (maybe where_part) (AreConds names found) s left
    conds-end e f gives far =
        put_in-builds where_part (AreConds names found) s left e
        (builds-as where_part (Both (Next s) Listed) (AreConds names found) s left
        (λ v b.
        let l = b.two_is in
        ap (conds_of names) (b.pair_is ∙ ap (λ x. pair b.one x) l.pair_is) ∙ l.one_is (more_conds names l.two) ∙ l.two_is)
        (both-builds (keyword (codes "WHERE")) (list_of (keyword (codes "AND")) cond) (Next s) Listed s (drop 1 s) left (one-builds (terminals.WHERE ∷ []) s)
        (behind-end cond (cond_from names) (more_conds names) (terminals.AND ∷ []) is found (drop 1 s) mid left refl f gives far)))

  pub conds-none : (s : List Tok) → begins (terminals.WHERE ∷ []) s ≡ false → Builds (maybe where_part) (AreConds names []) s s
  conds-none s e = builds-as (maybe where_part) (λ v. v ≡ nothing) (AreConds names []) s s (λ v f. ap (conds_of names) f) (left_out-builds where_part s e)
