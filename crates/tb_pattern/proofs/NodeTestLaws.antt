-- A test is built by its first token.
use Rattle.std.proofs.Common.{◌≡◌, ℕ, true, false, List, [], ◌∷◌, drop, refl, ap, ◌∙◌}
use Rattle.std.specs.Prelude.{codes}
use Rattle.tb_token.specs.grammar.Grammar.{Tok, Expression, both, either}
use Rattle.tb_token.specs.grammar.Sentences.{pair, first, second}
use Rattle.tb_token.specs.grammar.Terminals.{sign, name, text_test}
use Rattle.tb_token.specs.grammar.Patterns.{test}
use Rattle.tb_token.specs.tokens.TerminalNames as terminals
use Rattle.tb_tree.specs.declared.node_test.Test.{Test}
use Rattle.tb_tree.specs.declared.node_test.Test.TheVariants.{Name, AnyElement, AttrName, AnyAttr, AnyText}
use Rattle.tb_pattern.specs.Value.{bytes_in, test_of}
use Rattle.tb_pattern.specs.Building.{next, Next, begins, Builds}
use Rattle.tb_pattern.specs.BuiltParts.{attribute, IsAttribute, IsTest}
use Rattle.tb_pattern.proofs.BuildingLaws.{First, Second, Both, one-builds, both-builds, builds-as, first-builds, second-builds}

abbrev star : List ℕ
star = terminals.STAR ∷ []

abbrev at_sign : List ℕ
at_sign = terminals.AT ∷ []

abbrev text_terminal : List ℕ
text_terminal = terminals.TEXT_TEST ∷ []

abbrev attr_test : Expression
attr_test = both (sign (codes "@")) attribute

abbrev attr_or_text : Expression
attr_or_text = either attr_test text_test

abbrev no_name : Expression
no_name = either (sign (codes "*")) attr_or_text

module _ (s : List Tok) where
  -- The next token is the name, or what stands in its place.

  pub attribute-named : begins terminals.NAMES s ≡ true → Builds attribute (IsAttribute (AttrName (bytes_in (next s)))) s (drop 1 s)
  attribute-named e =
      builds-as attribute (First (Next s)) (IsAttribute (AttrName (bytes_in (next s)))) s (drop 1 s)
      (λ v f a. ap (λ w. test_of (second (second (first (pair a w))))) f.first_is ∙ ap (λ w. AttrName (bytes_in w)) f.one_is)
      (first-builds name (sign (codes "*")) (Next s) s (drop 1 s) e (one-builds terminals.NAMES s))

  pub attribute-any : begins terminals.NAMES s ≡ false → Builds attribute (IsAttribute AnyAttr) s (drop 1 s)
  attribute-any e =
      builds-as attribute (Second (Next s)) (IsAttribute AnyAttr) s (drop 1 s)
      (λ v f a. ap (λ w. test_of (second (second (first (pair a w))))) f.second_is)
      (second-builds name (sign (codes "*")) (Next s) s (drop 1 s) refl e (one-builds star s))

  pub test-named : begins terminals.NAMES s ≡ true → Builds test (IsTest (Name (bytes_in (next s)))) s (drop 1 s)
  test-named e =
      builds-as test (First (Next s)) (IsTest (Name (bytes_in (next s)))) s (drop 1 s)
      (λ v f. ap test_of f.first_is ∙ ap (λ w. Name (bytes_in w)) f.one_is)
      (first-builds name no_name (Next s) s (drop 1 s) e (one-builds terminals.NAMES s))

  pub test-any : begins terminals.NAMES s ≡ false → begins star s ≡ true → Builds test (IsTest AnyElement) s (drop 1 s)
  test-any e f =
      builds-as test (Second (First (Next s))) (IsTest AnyElement) s (drop 1 s)
      (λ v g. ap test_of g.second_is ∙ ap (λ w. test_of (second w)) g.two_is.first_is)
      (second-builds name no_name (First (Next s)) s (drop 1 s) refl e
      (first-builds (sign (codes "*")) attr_or_text (Next s) s (drop 1 s) f (one-builds star s)))

  pub test-attribute : (is : Test) (left : List Tok) → begins terminals.NAMES s ≡ false → begins star s ≡ false → begins at_sign s ≡ true
      → Builds attribute (IsAttribute is) (drop 1 s) left → Builds test (IsTest is) s left
  test-attribute is left e f g built =
      builds-as test (Second (Second (First (Both (Next s) (IsAttribute is))))) (IsTest is) s left
      (λ v h. ap test_of h.second_is ∙ ap (λ w. test_of (second w)) h.two_is.second_is ∙ ap (λ w. test_of (second (second w))) h.two_is.two_is.first_is
      ∙ ap (λ w. test_of (second (second (first w)))) h.two_is.two_is.one_is.pair_is ∙ h.two_is.two_is.one_is.two_is h.two_is.two_is.one_is.one)
      (second-builds name no_name (Second (First (Both (Next s) (IsAttribute is)))) s left refl e
      (second-builds (sign (codes "*")) attr_or_text (First (Both (Next s) (IsAttribute is))) s left refl f
      (first-builds attr_test text_test (Both (Next s) (IsAttribute is)) s left g
      (both-builds (sign (codes "@")) attribute (Next s) (IsAttribute is) s (drop 1 s) left (one-builds at_sign s) built))))

  pub test-text : begins terminals.NAMES s ≡ false → begins star s ≡ false → begins at_sign s ≡ false → Builds test (IsTest AnyText) s (drop 1 s)
  test-text e f g =
      builds-as test (Second (Second (Second (Next s)))) (IsTest AnyText) s (drop 1 s)
      (λ v h. ap test_of h.second_is ∙ ap (λ w. test_of (second w)) h.two_is.second_is ∙ ap (λ w. test_of (second (second w))) h.two_is.two_is.second_is)
      (second-builds name no_name (Second (Second (Next s))) s (drop 1 s) refl e
      (second-builds (sign (codes "*")) attr_or_text (Second (Next s)) s (drop 1 s) refl f
      (second-builds attr_test text_test (Next s) s (drop 1 s) refl g (one-builds text_terminal s))))
