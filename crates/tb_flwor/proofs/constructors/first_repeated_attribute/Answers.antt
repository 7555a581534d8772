-- A token that repeats no name leaves the first repeated one to those behind it.
use Rattle.std.proofs.Common.{◌≡◌, ◌+◌, ◌-◌, ◌∷◌, length, take, drop, sym, ap, ◌∙◌, arith}
use Rattle.std.proofs.lemmas.List.{drop_more, take_all, length-drop}
use Rattle.tb_flwor.specs.Constructors.{repeated_in}
use Rattle.tb_query.specs.Lent.{lent}
use Rattle.tb_flwor.proofs.AttributeLaws.{repeated-next}
use Rattle.tb_flwor.proofs.constructors.first_repeated_attribute.Goals as goal

pub tokens-preserved : goal.tokens-preserved
tokens-preserved c =
    let t = c.index-tokens-at.result in
    let tokens = c.args.tokens.now in
    let names = lent c.tokens.names.keys in
    let rest = drop (c.tokens.at + 1) tokens in
    let all : take (length tokens - (c.tokens.at + 1)) rest ≡ rest = take_all (length tokens - (c.tokens.at + 1)) rest (omega (arith, length-drop (c.tokens.at + 1) tokens)) in
    let here : drop c.tokens.at tokens ≡ t ∷ rest = drop_more tokens c.tokens.at t c.tokens-test.true ∙ ap (λ u. u ∷ rest) (sym c.index-tokens-at.is) in
    let new = c.in_ok-is_repeated.ensures.repeated in
    let more = c.in_ok-is_repeated.ensures.names in
    repeated-next names (lent c.is_repeated.new.names.keys) t rest (rw all at (sym new ∙ c.if-branch.false)) (rw all at more)
    ∙ ap (λ s. repeated_in names s) (sym here) ∙ c.tokens.invariant
