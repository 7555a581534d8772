-- A list has the tokens of its trees; and two laws on one terminal.
use Rattle.std.proofs.Common.{◌≡◌, ℕ, ◌==◌, List, [], ◌∷◌, ◌++◌, refl, sym, ap, ◌∙◌, append_assoc, arith}
use Rattle.tb_token.specs.grammar.Grammar.{Tok, Expression, either, has}
use Rattle.tb_token.specs.grammar.Sentences.{Tree, second, Derives, at_end, by_one, by_both, by_first, by_second, left_out, put_in, no_more, one_more, by_rule}
use Rattle.tb_token.specs.grammar.Queries.{rules}
use Rattle.tb_pattern.proofs.PartLaws.{Of, of_second}
use Rattle.tb_flwor.specs.Returned.{tokens_of}

-- the tokens of trees, one tree after the other
abbrev all_tokens : List Tree → List Tok
all_tokens [] = []
all_tokens (v ∷ vs) = tokens_of v ++ all_tokens vs

regroup : (v w : Tree) (vs : List Tree) → tokens_of v ++ (tokens_of w ++ all_tokens vs) ≡ (tokens_of v ++ tokens_of w) ++ all_tokens vs
regroup v w vs = sym (append_assoc (tokens_of v) (tokens_of w) (all_tokens vs))

-- a list has the tokens of its trees
pub tokens-derived : {ps : List Expression} {vs : List Tree} {s : List Tok} → Derives rules ps vs s → s ≡ all_tokens vs
tokens-derived at_end = refl
tokens-derived (by_one {t = t} h d) = ap (λ u. t ∷ u) (tokens-derived d)
tokens-derived (by_both {v = v} {w = w} {vs = vs} d) = tokens-derived d ∙ regroup v w vs
tokens-derived (by_first d) = tokens-derived d
tokens-derived (by_second d) = tokens-derived d
tokens-derived (left_out d) = tokens-derived d
tokens-derived (put_in d) = tokens-derived d
tokens-derived (no_more d) = tokens-derived d
tokens-derived (one_more {v = v} {w = w} {vs = vs} d) = tokens-derived d ∙ regroup v w vs
tokens-derived (by_rule {t = t} {v = v} {vs = vs} h d) = ap (λ u. t ∷ u) (tokens-derived d)

-- the tree of the second of two parts is one of that part
pub second-of : {p q : Expression} {v : Tree} → Of (either p q) (second v) → Of q v
second-of (of_second f) = f

pub swapped : (x y : ℕ) → (x == y) ≡ (y == x)
swapped x y = grind arith

-- a terminal is that of a list of one
pub has-one : (c x : ℕ) → (x == c) ≡ has (c ∷ []) x
has-one c x = grind arith
