-- Rows worked out by hand: what the definitions come to.
use Rattle.std.proofs.Common.{◌≡◌, true, false, refl, ◌∷◌, []}
use Rattle.std.specs.Prelude.{codes, None}
use Rattle.tb_token.specs.tokens.Names.{is_name, is_keyword}
use Rattle.tb_token.specs.tokens.Kinds.{is_token}
use Rattle.tb_token.specs.tokens.Prefixes.{prefix_of, found}
use Rattle.tb_token.specs.declared.lexer.token.Kind.TheVariants.{Name, Word, Variable, Number, Quoted, TextTest, Sign}

pub name-colon : is_name (codes "a:b-c.d_1") ≡ true
name-colon = refl

pub name-colon_last : is_name (codes "a:") ≡ false
name-colon_last = refl

pub name-colon_digit : is_name (codes "a:1") ≡ false
name-colon_digit = refl

pub name-high : is_name (195 ∷ 164 ∷ []) ≡ true
name-high = refl

pub keyword-capitals : is_keyword (codes "DESCENDING") ≡ true
keyword-capitals = refl

pub keyword-small : is_keyword (codes "descending") ≡ true
keyword-small = refl

pub keyword-mixed : is_keyword (codes "For") ≡ false
keyword-mixed = refl

pub quoted-other : is_token Quoted (codes "\"it's\"") ≡ true
quoted-other = refl

pub quoted-wrong : is_token Quoted (codes "\"a'") ≡ false
quoted-wrong = refl

pub prefix-number : prefix_of (codes "7a") ≡ found Number 1
prefix-number = refl

pub prefix-colons : prefix_of (codes "a::b") ≡ found Name 1
prefix-colons = refl

pub prefix-colon : prefix_of (codes ":b") ≡ None
prefix-colon = refl

pub prefix-text : prefix_of (codes "text()") ≡ found TextTest 6
prefix-text = refl

pub prefix-text_blank : prefix_of (codes "text ()") ≡ found Name 4
prefix-text_blank = refl

pub prefix-keyword : prefix_of (codes "for$x") ≡ found Word 3
prefix-keyword = refl

pub prefix-variable : prefix_of (codes "$x/y") ≡ found Variable 2
prefix-variable = refl

pub prefix-dollar : prefix_of (codes "$ x") ≡ None
prefix-dollar = refl

pub prefix-end : prefix_of (codes "</a") ≡ found Sign 2
prefix-end = refl
