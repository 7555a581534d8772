-- Trees of a part, wherever its tokens stand, and terminals that stand in none of them.
use Rattle.std.proofs.Common.{◌≡◌, ℕ, Bool, true, false, ◌&&◌, List, [], ◌∷◌}
use Rattle.std.specs.Prelude.{⊤}
use Rattle.tb_token.specs.grammar.Grammar.{Tok, Expression, one, both, either, maybe, many, opened, has}
use Rattle.tb_token.specs.grammar.Sentences.{Tree, leaf, nothing, pair, first, second, Derives, at_end, by_one, by_both, by_first, by_second, left_out, put_in, no_more, one_more, by_rule}
use Rattle.tb_token.specs.grammar.LL1.{are_apart}
use Rattle.tb_token.specs.grammar.Queries.{rules}

-- a tree of the part
pub data Of : Expression → Tree → Type 0 where
  of_one : {c : List ℕ} {t : Tok} → has c t.terminal ≡ true → Of (one c) (leaf t)
  of_both : {p q : Expression} {v w : Tree} → Of p v → Of q w → Of (both p q) (pair v w)
  of_first : {p q : Expression} {v : Tree} → Of p v → Of (either p q) (first v)
  of_second : {p q : Expression} {v : Tree} → Of q v → Of (either p q) (second v)
  of_nothing : {p : Expression} → Of (maybe p) nothing
  of_put : {p : Expression} {v : Tree} → Of p v → Of (maybe p) v
  of_none : {p : Expression} → Of (many p) nothing
  of_more : {p : Expression} {v w : Tree} → Of p v → Of (many p) w → Of (many p) (pair v w)
  of_rule : {c : List ℕ} {n : ℕ} {t : Tok} {v : Tree} → has c t.terminal ≡ true → Of (rules n) v → Of (opened c n) (pair (leaf t) v)

-- a tree of each part
abbrev pub AllOf : List Expression → List Tree → Type 0
AllOf [] [] = ⊤
AllOf [] (v ∷ vs) = ⊥
AllOf (p ∷ ps) [] = ⊥
AllOf (p ∷ ps) (v ∷ vs) = Of p v × AllOf ps vs

pub derived-of : {ps : List Expression} {vs : List Tree} {s : List Tok} → Derives rules ps vs s → AllOf ps vs
derived-of at_end = tt
derived-of (by_one h d) = (of_one h, derived-of d)
derived-of (by_both d) = let f = derived-of d in (of_both f.0 f.1.0, f.1.1)
derived-of (by_first d) = let f = derived-of d in (of_first f.0, f.1)
derived-of (by_second d) = let f = derived-of d in (of_second f.0, f.1)
derived-of (left_out d) = (of_nothing, derived-of d)
derived-of (put_in d) = let f = derived-of d in (of_put f.0, f.1)
derived-of (no_more d) = (of_none, derived-of d)
derived-of (one_more d) = let f = derived-of d in (of_more f.0 f.1.0, f.1.1)
derived-of (by_rule h d) = let f = derived-of d in (of_rule h f.0, f.1)

-- none of the terminals stands in the part; a rule is not looked into
abbrev pub lacks : List ℕ → Expression → Bool
lacks xs (one c) = are_apart c xs
lacks xs (both p q) = lacks xs p && lacks xs q
lacks xs (either p q) = lacks xs p && lacks xs q
lacks xs (maybe p) = lacks xs p
lacks xs (many p) = lacks xs p
lacks xs (opened c n) = false
