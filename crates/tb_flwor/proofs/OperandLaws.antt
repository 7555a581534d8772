-- Operands are built from their paths.
use Rattle.std.proofs.Common.{◌≡◌, ℕ, true, false, List, [], ◌∷◌, drop, refl, ap, ◌∙◌}
use Rattle.std.specs.Prelude.{codes}
use Rattle.tb_token.specs.grammar.Grammar.{Tok, Expression, both, either}
use Rattle.tb_token.specs.grammar.Sentences.{Tree, pair, second}
use Rattle.tb_token.specs.grammar.Terminals.{sign, string}
use Rattle.tb_token.specs.grammar.Paths.{agg, operand, path}
use Rattle.tb_token.specs.grammar.Results.{braced}
use Rattle.tb_token.specs.tokens.TerminalNames as terminals
use Rattle.tb_pattern.specs.Value.{bytes_in, inside}
use Rattle.tb_pattern.specs.Building.{next, Next, begins, Builds}
use Rattle.tb_pattern.proofs.BuildingLaws.{one-builds, Both, both-builds, builds-as, First, Second, first-builds, second-builds}
use Rattle.tb_query.specs.declared.back.Content.TheVariants as content
use Rattle.tb_query.specs.declared.operand.Operand.{Operand}
use Rattle.tb_query.specs.declared.operand.Operand.TheVariants as operand
use Rattle.tb_query.specs.declared.path.Path.{Path}
use Rattle.tb_flwor.specs.Value.{BoundNames, agg_of, operand_of}
use Rattle.tb_flwor.specs.Results.{braced_of, content_of}
use Rattle.tb_flwor.specs.Built.{IsPath, IsOperand, IsBraced, IsContent}

abbrev pub path_terminals : List ℕ
path_terminals = terminals.DOCUMENT ∷ terminals.VARIABLE ∷ []

abbrev agg_terminals : List ℕ
agg_terminals = terminals.COUNT ∷ terminals.SUM ∷ terminals.MIN ∷ terminals.MAX ∷ []

module _ (names : BoundNames) (s left : List Tok) where
  abbrev closed : Expression
  closed = both path (sign (codes ")"))

  abbrev taken : Expression
  taken = both agg (both (sign (codes "(")) closed)

  pub operand-nodes : (is : Path) → begins path_terminals s ≡ true → Builds path (IsPath names is) s left → Builds operand (IsOperand names (operand.Nodes is)) s left
  operand-nodes is e path_is =
      builds-as operand (First (IsPath names is)) (IsOperand names (operand.Nodes is)) s left
      (λ v f. ap (operand_of names) f.first_is ∙ ap operand.Nodes f.one_is)
      (first-builds path taken (IsPath names is) s left e path_is)

  abbrev Inside : Path → Tree → Type 0
  Inside is = Both (Next s) (Both (Next (drop 1 s)) (Both (IsPath names is) (Next left)))

  pub operand-agg : (is : Path) → begins path_terminals s ≡ false → Builds path (IsPath names is) (drop 1 (drop 1 s)) left
      → Builds operand (IsOperand names (operand.Agg (agg_of (next s)) is)) s (drop 1 left)
  operand-agg is e path_is =
      builds-as operand (Second (Inside is)) (IsOperand names (operand.Agg (agg_of (next s)) is)) s (drop 1 left)
      (λ v f.
      let b = f.two_is in
      ap (operand_of names) (f.second_is ∙ ap second (b.pair_is ∙ ap (λ x. pair b.one x) (b.two_is.pair_is ∙ ap (λ x. pair b.two_is.one x) b.two_is.two_is.pair_is)))
      ∙ rw (b.one_is, b.two_is.two_is.one_is) refl)
      (second-builds path taken (Inside is) s (drop 1 left) refl e
      (both-builds agg (both (sign (codes "(")) closed) (Next s) (Both (Next (drop 1 s)) (Both (IsPath names is) (Next left))) s (drop 1 s) (drop 1 left) (one-builds agg_terminals s)
      (both-builds (sign (codes "(")) closed (Next (drop 1 s)) (Both (IsPath names is) (Next left)) (drop 1 s) (drop 1 (drop 1 s)) (drop 1 left) (one-builds (terminals.OPEN ∷ []) (drop 1 s))
      (both-builds path (sign (codes ")")) (IsPath names is) (Next left) (drop 1 (drop 1 s)) left (drop 1 left) path_is (one-builds (terminals.CLOSE ∷ []) left)))))

  braced-builds : (is : Operand) → Builds operand (IsOperand names is) (drop 1 s) left → Builds braced (IsBraced names (content.Operand is)) s (drop 1 left)
  braced-builds is operand_is =
      builds-as braced (Both (Next s) (Both (IsOperand names is) (Next left))) (IsBraced names (content.Operand is)) s (drop 1 left)
      (λ v b. ap (braced_of names) (b.pair_is ∙ ap (λ x. pair b.one x) b.two_is.pair_is) ∙ ap content.Operand b.two_is.one_is)
      (both-builds (sign (codes "{")) (both operand (sign (codes "}"))) (Next s) (Both (IsOperand names is) (Next left)) s (drop 1 s) (drop 1 left) (one-builds (terminals.OPEN_BRACE ∷ []) s)
      (both-builds operand (sign (codes "}")) (IsOperand names is) (Next left) (drop 1 s) left (drop 1 left) operand_is (one-builds (terminals.CLOSE_BRACE ∷ []) left)))

  pub content-operand : (is : Operand) → begins (terminals.QUOTED ∷ []) s ≡ false → Builds operand (IsOperand names is) (drop 1 s) left
      → Builds (either string braced) (IsContent names (content.Operand is)) s (drop 1 left)
  content-operand is e operand_is =
      builds-as (either string braced) (Second (IsBraced names (content.Operand is))) (IsContent names (content.Operand is)) s (drop 1 left)
      (λ v f. ap (content_of names) f.second_is ∙ f.two_is)
      (second-builds string braced (IsBraced names (content.Operand is)) s (drop 1 left) refl e (braced-builds is operand_is))

pub content-text : (names : BoundNames) (s : List Tok) → begins (terminals.QUOTED ∷ []) s ≡ true
    → Builds (either string braced) (IsContent names (content.Text (inside (bytes_in (next s))))) s (drop 1 s)
content-text names s e =
    builds-as (either string braced) (First (Next s)) (IsContent names (content.Text (inside (bytes_in (next s))))) s (drop 1 s)
    (λ v f. ap (content_of names) f.first_is ∙ ap (λ x. content.Text (inside (bytes_in x))) f.one_is)
    (first-builds string braced (Next s) s (drop 1 s) e (one-builds (terminals.QUOTED ∷ []) s))
