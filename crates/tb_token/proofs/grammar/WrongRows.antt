-- Texts beside queries, with the number of the token where each is wrong, and texts that are queries.
use Rattle.std.proofs.Common.{◌≡◌, ℕ, ◌+◌, Bool, ◌||◌, ◌&&◌, true, List, [], ◌∷◌, ◌++◌, length, Some, None, refl}
use Rattle.std.specs.Prelude.{codes, nat_le, nat_lt}
use Rattle.std.specs.List.{list_all}
use Rattle.tb_token.specs.grammar.Grammar.{Expression, one, both, either, maybe, many, opened}
use Rattle.tb_token.specs.grammar.Sentences.{IsWrongAt}
use Rattle.tb_token.proofs.grammar.ReadLaws.{read-wrong}
use Rattle.tb_token.specs.tokens.Kinds.{signs}
use Rattle.tb_token.specs.tokens.Names.{keywords}
use Rattle.tb_token.specs.grammar.Queries.{rules, follow, query}
use Rattle.tb_token.proofs.grammar.QueryLaws.{readable}
use Rattle.tb_token.proofs.grammar.QueryRows.{toks, wrong_at}

-- the terminals that an expression names
abbrev terminals : Expression → List ℕ
terminals (one c) = c
terminals (both p q) = terminals p ++ terminals q
terminals (either p q) = terminals p ++ terminals q
terminals (maybe p) = terminals p
terminals (many p) = terminals p
terminals (opened c n) = c

-- some token has the terminal
abbrev is_terminal : ℕ → Bool
is_terminal x =
    nat_lt x 5 || (nat_le 8 x && nat_lt x (8 + length signs))
    || (nat_le 64 x && nat_lt x (64 + length keywords))

-- so no text of a keyword or of a sign is misspelt in the grammar
pub terminals-known : list_all is_terminal (terminals query ++ terminals (rules 0) ++ terminals (rules 1)) ≡ true
terminals-known = refl

-- what a row says, in the words of the definitions
pub stands-wrong : IsWrongAt rules (query ∷ []) (toks (codes "FOR $x IN $y RETURN $x")) 5
stands-wrong =
    read-wrong rules follow readable.good (toks (codes "FOR $x IN $y RETURN $x")) (query ∷ []) 2
    readable.queries refl

pub wrong-let-from_variable : wrong_at (codes "LET $x := $y RETURN $x") ≡ Some 5
wrong-let-from_variable = refl

pub wrong-for-from_variable : wrong_at (codes "FOR $x IN $y RETURN $x") ≡ Some 5
wrong-for-from_variable = refl

pub wrong-for-allowing : wrong_at (codes "FOR $x ALLOWING IN $y/a RETURN $x") ≡ Some 4
wrong-for-allowing = refl

pub wrong-no-return : wrong_at (codes "FOR $x IN $y/a") ≡ Some 7
wrong-no-return = refl

pub wrong-let-alone : wrong_at (codes "LET $x := document(\"d\")") ≡ Some 8
wrong-let-alone = refl

pub wrong-cond-half : wrong_at (codes "FOR $x IN $y/a WHERE $x RETURN $x") ≡ Some 9
wrong-cond-half = refl

pub wrong-cond-assigned : wrong_at (codes "FOR $x IN $y/a WHERE $x := 1 RETURN $x") ≡ Some 9
wrong-cond-assigned = refl

pub wrong-minus-string : wrong_at (codes "FOR $x IN $y/a WHERE $x = -\"1\" RETURN $x") ≡ Some 11
wrong-minus-string = refl

pub wrong-agg-of_agg : wrong_at (codes "FOR $x IN $y/a WHERE count(sum($x)) = 1 RETURN $x") ≡ Some 10
wrong-agg-of_agg = refl

pub wrong-group-by_agg : wrong_at (codes "FOR $x IN $y/a GROUP BY $k := count($x) RETURN $k") ≡ Some 11
wrong-group-by_agg = refl

pub wrong-order-before_group : wrong_at (codes "FOR $x IN $y/a ORDER BY $x GROUP BY $k := $x RETURN $k") ≡ Some 10
wrong-order-before_group = refl

pub wrong-order-twice : wrong_at (codes "FOR $x IN $y/a ORDER BY $x ASCENDING DESCENDING RETURN $x") ≡ Some 11
wrong-order-twice = refl

pub wrong-attribute-text : wrong_at (codes "FOR $x IN $y/@text() RETURN $x") ≡ Some 7
wrong-attribute-text = refl

pub wrong-back-agg : wrong_at (codes "FOR $x IN $y/a RETURN count($x)") ≡ Some 8
wrong-back-agg = refl

pub wrong-back-two : wrong_at (codes "FOR $x IN $y/a RETURN <a>{$x}</a>x") ≡ Some 17
wrong-back-two = refl

pub wrong-back-number : wrong_at (codes "FOR $x IN $y/a RETURN <a b=7/>") ≡ Some 12
wrong-back-number = refl

pub wrong-end-without_name : wrong_at (codes "FOR $x IN $y/a RETURN <a></ >") ≡ Some 12
wrong-end-without_name = refl

pub wrong-document-name : wrong_at (codes "MATCH document(d) (/- a)") ≡ Some 4
wrong-document-name = refl

pub wrong-edges-none : wrong_at (codes "MATCH document(\"d\") ()") ≡ Some 7
wrong-edges-none = refl

pub wrong-conds-none : wrong_at (codes "MATCH document(\"d\") (/- a [])") ≡ Some 11
wrong-conds-none = refl

pub wrong-conds-behind_shown : wrong_at (codes "MATCH document(\"d\") (/- a ! [= 1])") ≡ Some 11
wrong-conds-behind_shown = refl

pub wrong-shown-twice : wrong_at (codes "MATCH document(\"d\") (/- a !!)") ≡ Some 11
wrong-shown-twice = refl

pub wrong-match-twice : wrong_at (codes "match match") ≡ Some 2
wrong-match-twice = refl

pub is-hit : wrong_at (codes "FOR $b IN document(\"bib\")//BOOK WHERE $b/@YEAR > 1995 ORDER BY $b/TITLE RETURN <hit year={$b/@YEAR}>{$b/TITLE}<n>{count($b/AUTHOR)}</n></hit>") ≡ None
is-hit = refl

pub is-grouped : wrong_at (codes "FOR $b IN document(\"bib\")//BOOK, $a IN $b/AUTHOR GROUP BY $k := $b/@YEAR RETURN <y v={$k} n={count($a)}/>") ≡ None
is-grouped = refl

pub is-joined : wrong_at (codes "FOR $x IN document(\"p\")//i, $y IN document(\"q\")//i WHERE $x != $y RETURN <t>{$x}{$y}</t>") ≡ None
is-joined = refl

pub is-empty : wrong_at (codes "FOR $b IN document(\"m\")//b, $c ALLOWING EMPTY IN $b/c WHERE $c = \"x\" RETURN <t>{$c}</t>") ≡ None
is-empty = refl

pub is-text : wrong_at (codes "FOR $v IN document(\"k\")//v WHERE $v <= min($v/w) RETURN $v/text()") ≡ None
is-text = refl

pub is-star : wrong_at (codes "FOR $n IN document(\"x\")/* RETURN $n") ≡ None
is-star = refl

pub is-keys : wrong_at (codes "FOR $x IN $y/a ORDER BY sum($x/b) ASCENDING, $x RETURN <for in=\"1\"/>") ≡ None
is-keys = refl

pub is-let : wrong_at (codes "LET $x := $y//b FOR $z IN $x/c RETURN <a>{max($z)}</a>") ≡ None
is-let = refl

pub is-marks : wrong_at (codes "MATCH document('d') (/-*, /?@*, //+text() [!= -0 AND <= \"a\"] (/*a !))") ≡ None
is-marks = refl

pub is-nested : wrong_at (codes "MATCH document(\"bib\") (/- BIB (/- BOOK (/- @YEAR [< 1995] !)))") ≡ None
is-nested = refl

pub is-names_differ : wrong_at (codes "FOR $x IN document(\"d\")//x RETURN <a></b>") ≡ None
is-names_differ = refl

pub is-unbound : wrong_at (codes "FOR $x IN document(\"d\")//x RETURN $y") ≡ None
is-unbound = refl
