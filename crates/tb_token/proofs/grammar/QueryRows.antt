-- Texts of queries worked out by hand: where each stops being the prefix of a query.
use Rattle.std.proofs.Common.{◌≡◌, ℕ, zero, suc, ◌+◌, ◌-◌, true, false, List, [], ◌∷◌, drop, length, Option, Some, None, refl}
use Rattle.std.specs.Prelude.{codes}
use Rattle.tb_token.specs.grammar.Grammar.{Tok, Expression}
use Rattle.tb_token.specs.grammar.Reading.{read}
use Rattle.tb_token.specs.grammar.LL1.{is_ll1}
use Rattle.tb_token.specs.tokens.Bytes.{is_blank}
use Rattle.tb_token.specs.tokens.Prefixes.{prefix_of}
use Rattle.tb_token.specs.tokens.Cuts.{token}
use Rattle.tb_token.specs.tokens.Lexemes.{toks_of}
use Rattle.tb_token.specs.grammar.Patterns.{match_query}
use Rattle.tb_token.specs.grammar.Paths.{written_path}
use Rattle.tb_token.specs.grammar.Queries.{rules, follow, query}
use Rattle.tb_token.specs.declared.lexer.token.Token.{Token}

-- the tokens of a text without a fault, for so many bytes and from this place on
abbrev scan : ℕ → ℕ → List ℕ → List Token
scan zero at bytes = []
scan (suc n) at [] = []
scan (suc n) at (b ∷ bs) = elim (is_blank b) [
  | true ↦ scan n (at + 1) bs
  | false ↦ elim (prefix_of (b ∷ bs)) [
    | None ↦ []
    | Some prefix ↦ token prefix.kind at (at + prefix.size) ∷ scan n (at + prefix.size) (drop prefix.size (b ∷ bs))
  ]
]

-- the tokens of a text as the grammar sees them
abbrev pub toks : List ℕ → List Tok
toks text = toks_of text (scan (length text) 0 text)

abbrev left_of : Expression → List ℕ → Option ℕ
left_of part text = read rules (toks text) (Some (part ∷ []))

-- the number of the token where a text is wrong; none where it is a query
abbrev pub wrong_at : List ℕ → Option ℕ
wrong_at text = elim (left_of query text) [ None ↦ None | Some left ↦ Some (length (toks text) - left + 1) ]

-- a text of ten tokens ends too early, so token 11 is missed
pub early-is : left_of query (codes "FOR $x IN document(\"d\")//x RETURN") ≡ Some 0
early-is = refl

pub early-tokens : length (toks (codes "FOR $x IN document(\"d\")//x RETURN")) ≡ 10
early-tokens = refl

-- no query begins with `)`, and the token is left
pub paren-is : left_of query (codes ")") ≡ Some 1
paren-is = refl

-- blanks alone
pub blanks-is : left_of query (codes " \n") ≡ Some 0
blanks-is = refl

pub match-is : left_of query (codes "MATCH document(\"n\") (//- a [>= 3 AND < -4]! (/? @b, //* text()), /+ FOR)") ≡ None
match-is = refl

-- `MATCH` without edges
pub match-early : left_of match_query (codes "MATCH document(\"n\")") ≡ Some 0
match-early = refl

-- what a `MATCH` query alone may be
pub match-no_clause : left_of match_query (codes "FOR $x") ≡ Some 2
match-no_clause = refl

pub flwor-is : left_of query (codes "for $b allowing empty in document(\"bib\")//BOOK let $a := $b/AUTHOR where $b/@YEAR > 1995 and count($a) = $b/n group by $g := $b order by $b/TITLE descending, max($b/x) return <hit year={$b/@YEAR} z=\"1\">{$b/TITLE}<n>{count($b/AUTHOR)}</n>\"t\"<m/></hit>") ≡ None
flwor-is = refl

-- two marks: the second is token 9 of 11
pub mark-twice : left_of query (codes "MATCH document(\"n\") (//--a)") ≡ Some 3
mark-twice = refl

-- a literal stands on the right of a comparison alone
pub literal-left : left_of query (codes "FOR $x IN $y/a WHERE 1 = $x RETURN $x") ≡ Some 5
literal-left = refl

-- a path as it is written has two choices that begin with one token
pub written_path-not_ll1 : is_ll1 follow [] written_path ≡ false
written_path-not_ll1 = refl
