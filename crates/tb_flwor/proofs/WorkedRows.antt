-- Texts and their first faults, worked out by hand: each is computed.
use Rattle.std.proofs.Common.{◌≡◌, Some, None, refl}
use Rattle.std.specs.Prelude.{codes}
use Rattle.tb_token.proofs.grammar.QueryRows.{toks}
use Rattle.tb_number.specs.Reading as numbers
use Rattle.tb_flwor.specs.Faults.{first_fault}
use Rattle.tb_flwor.specs.declared.fault.QueryFault.TheVariants.{UnknownVariable, RepeatedVariable, LiteralPast, WrongTag, RepeatedAttribute}

pub no-fault : first_fault (toks (codes "FOR $x IN document(\"d\")//x RETURN <a b=\"1\"><a b=\"1\"/></a>")) ≡ None
no-fault = refl

pub unknown : first_fault (toks (codes "FOR $x IN document(\"d\")//x RETURN $y")) ≡ Some (UnknownVariable 11)
unknown = refl

pub wrong-tag : first_fault (toks (codes "FOR $x IN document(\"d\")//x RETURN <a></b>")) ≡ Some (WrongTag 15)
wrong-tag = refl

pub repeated-attribute : first_fault (toks (codes "FOR $x IN document(\"d\")//x RETURN <a b=\"1\" b=\"2\"/>")) ≡ Some (RepeatedAttribute 16)
repeated-attribute = refl

pub literal-past : first_fault (toks (codes "MATCH document(\"d\") (//- v [= 170141183460469231731687303715884105728])")) ≡ Some (LiteralPast 12)
unfolding numbers.integer_of
literal-past = refl

pub repeated-variable : first_fault (toks (codes "FOR $x IN document(\"d\")//x, $x IN document(\"d\")//x RETURN $x")) ≡ Some (RepeatedVariable 11)
repeated-variable = refl

-- kinds go before places: the unknown variable is behind the name that is bound twice
pub unknown-last : first_fault (toks (codes "FOR $x IN document(\"d\")//x, $x IN document(\"d\")//x RETURN <a d={$y}></b>")) ≡ Some (UnknownVariable 25)
unknown-last = refl

-- a past literal goes before the wrong tag, and this before the attribute that is there twice
pub literal-first : first_fault (toks (codes "FOR $x IN document(\"d\")//x WHERE $x = 170141183460469231731687303715884105728 RETURN <a b=\"\" b=\"\"></c>")) ≡ Some (LiteralPast 13)
unfolding numbers.integer_of
literal-first = refl

pub tag-first : first_fault (toks (codes "FOR $x IN document(\"d\")//x RETURN <a b=\"\" b=\"\"></c>")) ≡ Some (WrongTag 21)
tag-first = refl
