-- The constructors of texts worked out by hand, computed; tokens are numbered from 1.
use Rattle.std.proofs.Common.{◌≡◌, ℕ, zero, suc, true, false, List, [], ◌∷◌, ◌++◌, map, Option, Some, None, refl}
use Rattle.std.specs.Prelude.{codes}
use Rattle.tb_token.specs.grammar.Grammar.{Tok}
use Rattle.tb_flwor.specs.Constructors.{results, is_nested, first_wrong_tag, first_repeated_attribute}
use Rattle.tb_token.proofs.grammar.QueryRows.{toks}

-- the texts of tokens
abbrev texts : List Tok → List (List ℕ)
texts s = map (λ t. t.bytes) s

-- RETURN is a name behind `/`, `//` and `@`
pub results-behind : texts (results (toks (codes "FOR $x IN document(\"d\")/RETURN//return/@RETURN return $x"))) ≡ codes "$x" ∷ []
results-behind = refl

-- signs before RETURN compare: they name no attribute and begin no constructor
abbrev equal_twice : List ℕ
equal_twice = codes "FOR $x IN document(\"d\")/a WHERE $x = 3 AND $x = 4 RETURN <a></a>"

pub equal-all : first_repeated_attribute (toks equal_twice) ≡ Some 15
equal-all = refl

pub equal-results : first_repeated_attribute (results (toks equal_twice)) ≡ None
equal-results = refl

abbrev conditions : ℕ → List ℕ
conditions zero = codes "$x < 1 "
conditions (suc n) = codes "$x < 1 AND " ++ conditions n

abbrev compared : List ℕ
compared = codes "FOR $x IN document(\"d\")/a WHERE " ++ conditions 32 ++ codes "RETURN <a/>"

pub compared-all : is_nested (toks compared) ≡ true
compared-all = refl

pub compared-results : is_nested (results (toks compared)) ≡ false
compared-results = refl

-- constructors inside each other, and nothing closes them
abbrev opened : ℕ → List ℕ
opened zero = []
opened (suc n) = codes "<a>" ++ opened n

pub nested-32 : is_nested (toks (opened 32)) ≡ false
nested-32 = refl

pub nested-33 : is_nested (toks (opened 33)) ≡ true
nested-33 = refl

-- those side by side count once
abbrev beside : ℕ → List ℕ
beside zero = []
beside (suc n) = codes "<b/><c></c>" ++ beside n

pub nested-beside : is_nested (toks (opened 31 ++ beside 4)) ≡ false
nested-beside = refl

abbrev wrong_in : List ℕ → Option ℕ
wrong_in text = first_wrong_tag (toks text)

-- names compare by bytes, with case, whether they are keywords or not
pub wrong-case : wrong_in (codes "<a></A>") ≡ Some 5
wrong-case = refl

pub wrong-case_of_word : wrong_in (codes "<in></IN>") ≡ Some 5
wrong-case_of_word = refl

-- each end is that of the constructor that was opened last and is open
pub wrong-none : wrong_in (codes "<a><b/><c d='1'></c><b></b></a>") ≡ None
wrong-none = refl

pub wrong-crossed : wrong_in (codes "<a><b></a></b>") ≡ Some 8
wrong-crossed = refl

pub wrong-outer : wrong_in (codes "<a><b/></b>") ≡ Some 8
wrong-outer = refl

-- the first of two
pub wrong-first : wrong_in (codes "<a><b></c></d>") ≡ Some 8
wrong-first = refl

abbrev attribute_in : List ℕ → Option ℕ
attribute_in text = first_repeated_attribute (toks text)

-- the second attribute of a name is told, by its name's token
pub attribute-twice : attribute_in (codes "<a b='1' c='2' b={$x}>") ≡ Some 9
attribute-twice = refl

-- the same name in another constructor, or as the element's own, is none
pub attribute-inner : attribute_in (codes "<a b='1'><c b='2'/><c b='3'/></a>") ≡ None
attribute-inner = refl

pub attribute-element : attribute_in (codes "<a a='1'/>") ≡ None
attribute-element = refl

-- one in an inner constructor, and an inner one that ends between
pub attribute-in_inner : attribute_in (codes "<a b='1'><c b='2' b='3'/></a>") ≡ Some 12
attribute-in_inner = refl

pub attribute-behind_inner : attribute_in (codes "<a b='1'><c b='2'/><d e='3' e='4'/></a>") ≡ Some 18
attribute-behind_inner = refl

-- names compare with case
pub attribute-case : attribute_in (codes "<a b='1' B='2'/>") ≡ None
attribute-case = refl
