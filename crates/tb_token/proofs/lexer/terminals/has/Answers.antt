use Rattle.std.proofs.Common.{◌≡◌, ℕ, ◌==◌, ◌||◌, List, [], ◌∷◌, refl, ap, ◌∙◌}
use Rattle.std.specs.List.{list_any}
use Rattle.tb_token.specs.grammar.Grammar.{has}
use Rattle.tb_token.proofs.lexer.terminals.has.Goals as goal

has-any : (cs : List ℕ) (x : ℕ) → list_any (λ c. c == x) cs ≡ has cs x
has-any [] x = refl
has-any (c ∷ cs) x = ap (λ b. c == x || b) (has-any cs x)

pub returns : goal.returns
returns c = c.contains.ensures.value ∙ has-any c.args.terminals.now c.args.terminal
