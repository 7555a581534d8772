-- The variables of texts worked out by hand, computed; tokens are numbered from 1.
use Rattle.std.proofs.Common.{◌≡◌, ℕ, List, [], ◌∷◌, Option, Some, None, refl}
use Rattle.std.specs.Prelude.{codes}
use Rattle.tb_flwor.specs.Variables.{bound, clauses_in, first_repeated, first_unknown}
use Rattle.tb_token.proofs.grammar.QueryRows.{toks}

abbrev unknown_in : List ℕ → Option ℕ
unknown_in text = first_unknown (toks text)

abbrev repeated_in : List ℕ → Option ℕ
repeated_in text = first_repeated (toks text)

-- a variable is not known in its own path
pub own-path : unknown_in (codes "FOR $x IN $x/a RETURN $x") ≡ Some 4
own-path = refl

pub own-path_of_let : unknown_in (codes "LET $x := $x/a RETURN $x") ≡ Some 4
own-path_of_let = refl

-- the path of the second variable may begin with the first, but not the other way round
pub second-uses_first : unknown_in (codes "FOR $x IN document(\"d\")/a, $y IN $x/b RETURN $y") ≡ None
second-uses_first = refl

pub first-uses_second : unknown_in (codes "FOR $x IN $y/a, $y IN document(\"d\")/b RETURN $y") ≡ Some 4
first-uses_second = refl

-- behind ALLOWING EMPTY comes the variable's own path, too
pub own-path_allowing : unknown_in (codes "FOR $x ALLOWING EMPTY IN $x/a RETURN $x") ≡ Some 6
own-path_allowing = refl

-- GROUP BY's variable is not known before it, nor in its own path, and is known behind it
pub group-before : unknown_in (codes "FOR $x IN document(\"d\")/a WHERE $k = 1 GROUP BY $k := $x RETURN $k") ≡ Some 11
group-before = refl

pub group-own_path : unknown_in (codes "FOR $x IN document(\"d\")/a GROUP BY $k := $k RETURN $x") ≡ Some 14
group-own_path = refl

pub group-behind : unknown_in (codes "FOR $x IN document(\"d\")/a GROUP BY $k := $x ORDER BY $k RETURN <r k={$k}/>") ≡ None
group-behind = refl

-- names compare by bytes, with case
pub other-case : unknown_in (codes "FOR $x IN document(\"d\")/a RETURN $X") ≡ Some 11
other-case = refl

-- a name may be used in the path of its second binding: the path of the first has ended
pub repeated-own_path : unknown_in (codes "FOR $x IN document(\"d\")/a, $x IN $x/b RETURN $x") ≡ None
repeated-own_path = refl

-- the second binding of a name is the one that is told, of whatever clause
pub repeated-for : repeated_in (codes "FOR $x IN document(\"d\")/a, $x IN $x/b RETURN $x") ≡ Some 11
repeated-for = refl

pub repeated-group : repeated_in (codes "FOR $x IN document(\"d\")/a LET $y := $x/b GROUP BY $x := $y RETURN $x") ≡ Some 18
repeated-group = refl

-- a use is no binding
pub repeated-none : repeated_in (codes "FOR $x IN document(\"d\")/a, $y IN $x/b WHERE $x = $y RETURN $x") ≡ None
repeated-none = refl

-- the names in the order of their bindings
pub bound-in_order : bound (toks (codes "FOR $b IN document(\"d\")/a, $a IN $b/c LET $t := $a/d GROUP BY $k := $t RETURN $b"))
    ≡ codes "$b" ∷ codes "$a" ∷ codes "$t" ∷ codes "$k" ∷ []
bound-in_order = refl

-- a `MATCH` query has no clauses
pub clauses-none : clauses_in (toks (codes "match document(\"d\") (/- a)")) ≡ []
clauses-none = refl
