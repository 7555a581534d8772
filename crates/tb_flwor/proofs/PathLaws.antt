-- Paths are built step by step.
use Rattle.std.proofs.Common.{◌≡◌, ℕ, true, false, ◌-◌, ◌≤◌, List, [], ◌∷◌, ◌++◌, length, drop, refl, ap, ◌∙◌}
use Rattle.std.specs.Prelude.{codes}
use Rattle.tb_token.specs.grammar.Grammar.{Tok, Expression, both, either, many}
use Rattle.tb_token.specs.grammar.Sentences.{Tree, leaf, nothing, pair, first, second}
use Rattle.tb_token.specs.tokens.Lexemes.{place_in}
use Rattle.tb_token.specs.grammar.Terminals.{keyword, sign, string, variable}
use Rattle.tb_token.specs.grammar.Patterns.{doc, axis, test}
use Rattle.tb_token.specs.grammar.Paths.{step, steps, longpath, path}
use Rattle.tb_token.specs.tokens.TerminalNames as terminals
use Rattle.tb_tree.specs.declared.node_test.Test.{Test}
use Rattle.tb_pattern.specs.Value.{bytes_in, inside, axis_of}
use Rattle.tb_pattern.specs.Building.{next, Next, begins, Builds}
use Rattle.tb_pattern.specs.BuiltParts.{IsTest}
use Rattle.tb_pattern.proofs.BuildingLaws.{one-builds, Both, both-builds, builds-as, First, Second, first-builds, second-builds}
use Rattle.tb_query.specs.declared.path.Path.{Path}
use Rattle.tb_query.specs.declared.path.Start.{Start}
use Rattle.tb_query.specs.declared.path.Start.TheVariants as start
use Rattle.tb_query.specs.declared.path.Step.{Step}
use Rattle.tb_flwor.specs.Value.{BoundNames, step_from, more_steps, steps_of, path_of, longpath_of, document_in}
use Rattle.tb_flwor.specs.Built.{Gives, IsDocument, AreSteps, AreMore, IsStart, IsPath, IsLongpath}
use Rattle.tb_pattern.proofs.RunLaws.{ListSoFar, item-next, list-end, many-built, many-none}

pub step-builds : (s left : List Tok) (is : Test) → Builds test (IsTest is) (drop 1 s) left
    → Builds step (Gives step_from (record { axis = axis_of (next s); test = is })) s left
step-builds s left is test_is =
    builds-as step (Both (Next s) (IsTest is)) (Gives step_from (record { axis = axis_of (next s); test = is })) s left
    (λ v b behind. ap (λ x. step_from x behind) b.pair_is ∙ rw (b.one_is, b.two_is) refl)
    (both-builds axis test (Next s) (IsTest is) s (drop 1 s) left (one-builds terminals.AXES s) test_is)

-- { step }, behind the first

abbrev pub StepsSoFar : List Step → List Step → List Tok → List Tok → Type 0
StepsSoFar = ListSoFar step more_steps

pub steps-next : (old found : List Step) (is : Step) (s mid left : List Tok) → begins terminals.AXES mid ≡ true → StepsSoFar old found s mid
    → Builds step (Gives step_from is) mid left → length left ≤ length mid - 1 → StepsSoFar old (found ++ is ∷ []) s left
steps-next old found is s mid left e far gives shorter =
    item-next step step_from more_steps old found is s mid left (λ v w. refl) refl e far gives shorter

pub steps-end : (is : Step) (found : List Step) (s mid left : List Tok) → begins terminals.AXES left ≡ false → Builds step (Gives step_from is) s mid
    → StepsSoFar (is ∷ []) found mid left → Builds steps (AreSteps found) s left
steps-end is found s mid left e gives far =
    builds-as steps (Both (Gives step_from is) (λ v. is ∷ more_steps v ≡ found)) (AreSteps found) s left
    (λ v b. ap steps_of b.pair_is ∙ b.one_is (more_steps b.two) ∙ b.two_is)
    (both-builds step (many step) (Gives step_from is) (λ v. is ∷ more_steps v ≡ found) s mid left gives
    (list-end step more_steps (is ∷ []) found mid left refl e far))

steps-more : (v : Tree) (are : List Step) → AreSteps are v → AreMore are v
steps-more (pair v w) are is = is
steps-more nothing are is = is
steps-more (leaf t) are is = is
steps-more (first v) are is = is
steps-more (second v) are is = is

pub more-there : (are : List Step) (s left : List Tok) → begins terminals.AXES s ≡ true → Builds steps (AreSteps are) s left → Builds (many step) (AreMore are) s left
more-there are s left e is = many-built step (AreSteps are) (AreMore are) s left refl e (λ v. steps-more v are) is

pub more-none : (s : List Tok) → begins terminals.AXES s ≡ false → Builds (many step) (AreMore []) s s
more-none s e = builds-as (many step) (λ v. v ≡ nothing) (AreMore []) s s (λ v f. ap more_steps f) (many-none step s e)

-- Where a path starts.

module _ (s : List Tok) where
  abbrev s1 : List Tok
  s1 = drop 1 s

  abbrev s2 : List Tok
  s2 = drop 1 s1

  abbrev s3 : List Tok
  s3 = drop 1 s2

  abbrev Close : Tree → Type 0
  Close = Both (Next s2) (Next s3)

  abbrev Open : Tree → Type 0
  Open = Both (Next s1) Close

  abbrev name : List ℕ
  name = inside (bytes_in (next s2))

  pub document-builds : Builds doc (IsDocument name) s (drop 1 s3)
  document-builds =
      builds-as doc (Both (Next s) Open) (IsDocument name) s (drop 1 s3)
      (λ v b. ap document_in (b.pair_is ∙ ap (λ x. pair b.one x) (b.two_is.pair_is ∙ ap (λ x. pair b.two_is.one x) b.two_is.two_is.pair_is))
      ∙ ap (λ x. inside (bytes_in x)) b.two_is.two_is.one_is)
      (both-builds (keyword (codes "DOCUMENT")) (both (sign (codes "(")) (both string (sign (codes ")")))) (Next s) Open s s1 (drop 1 s3) (one-builds (terminals.DOCUMENT ∷ []) s)
      (both-builds (sign (codes "(")) (both string (sign (codes ")"))) (Next s1) Close s1 s2 (drop 1 s3) (one-builds (terminals.OPEN ∷ []) s1)
      (both-builds string (sign (codes ")")) (Next s2) (Next s3) s2 s3 (drop 1 s3) (one-builds (terminals.QUOTED ∷ []) s2) (one-builds (terminals.CLOSE ∷ []) s3))))

-- the variable of the next token
abbrev pub Var : BoundNames → List Tok → Start
Var names s = start.Var (place_in (bytes_in (next s)) names)

module _ (names : BoundNames) (s left : List Tok) where
  pub start-document : (name : List ℕ) → begins (terminals.DOCUMENT ∷ []) s ≡ true → Builds doc (IsDocument name) s left → Builds (either doc variable) (IsStart names (start.Document name)) s left
  start-document name e is =
      builds-as (either doc variable) (First (IsDocument name)) (IsStart names (start.Document name)) s left
      (λ v f w. ap (λ x. longpath_of names (pair x w)) f.first_is ∙ rw f.one_is refl)
      (first-builds doc variable (IsDocument name) s left e is)

  pub start-variable : begins (terminals.DOCUMENT ∷ []) s ≡ false → Builds (either doc variable) (IsStart names (Var names s)) s (drop 1 s)
  start-variable e =
      builds-as (either doc variable) (Second (Next s)) (IsStart names (Var names s)) s (drop 1 s)
      (λ v f w. ap (λ x. longpath_of names (pair x w)) f.second_is ∙ rw f.two_is refl)
      (second-builds doc variable (Next s) s (drop 1 s) refl e (one-builds (terminals.VARIABLE ∷ []) s))

  -- a path of this start and these steps
  abbrev pub from : Start → List Step → Path
  from is steps = record { start = is; steps = steps }

  pub longpath-builds : (mid : List Tok) (is : Start) (are : List Step) → Builds (either doc variable) (IsStart names is) s mid → Builds steps (AreSteps are) mid left
      → Builds longpath (IsLongpath names (from is are)) s left
  longpath-builds mid is are start_is steps_are =
      builds-as longpath (Both (IsStart names is) (AreSteps are)) (IsLongpath names (from is are)) s left
      (λ v b. ap (longpath_of names) b.pair_is ∙ b.one_is b.two ∙ ap (λ x. from is x) b.two_is)
      (both-builds (either doc variable) steps (IsStart names is) (AreSteps are) s mid left start_is steps_are)

  abbrev from_doc : Expression
  from_doc = both doc steps

  abbrev from_var : Expression
  from_var = both variable (many step)

  pub path-document : (mid : List Tok) (name : List ℕ) (are : List Step) → begins (terminals.DOCUMENT ∷ []) s ≡ true → Builds doc (IsDocument name) s mid → Builds steps (AreSteps are) mid left
      → Builds path (IsPath names (from (start.Document name) are)) s left
  path-document mid name are e doc_is steps_are =
      builds-as path (First (Both (IsDocument name) (AreSteps are))) (IsPath names (from (start.Document name) are)) s left
      (λ v f. ap (path_of names) (f.first_is ∙ ap first f.one_is.pair_is) ∙ rw (f.one_is.one_is, f.one_is.two_is) refl)
      (first-builds from_doc from_var (Both (IsDocument name) (AreSteps are)) s left e
      (both-builds doc steps (IsDocument name) (AreSteps are) s mid left doc_is steps_are))

  pub path-variable : (are : List Step) → begins (terminals.DOCUMENT ∷ []) s ≡ false → Builds (many step) (AreMore are) (drop 1 s) left → Builds path (IsPath names (from (Var names s) are)) s left
  path-variable are e steps_are =
      builds-as path (Second (Both (Next s) (AreMore are))) (IsPath names (from (Var names s) are)) s left
      (λ v f. ap (path_of names) (f.second_is ∙ ap second f.two_is.pair_is) ∙ rw (f.two_is.one_is, f.two_is.two_is) refl)
      (second-builds from_doc from_var (Both (Next s) (AreMore are)) s left refl e
      (both-builds variable (many step) (Next s) (AreMore are) s (drop 1 s) left (one-builds (terminals.VARIABLE ∷ []) s) steps_are))
