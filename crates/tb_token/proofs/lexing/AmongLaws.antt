-- What all texts of a list have, each text has that is among them.
use Rattle.std.proofs.Common.{◌≡◌, ℕ, Bool, true, false, ◌||◌, List, [], ◌∷◌, refl}
use Rattle.std.specs.List.{list_all}
use Rattle.std.specs.Str.{bytes_eq}
use Rattle.std.specs.Cmp.Lexicographic.{bytes_decides}
use Rattle.std.proofs.lemmas.Bool.{and_parts}
use Rattle.std.specs.Prelude.{map}
use Rattle.std.specs.Char.{to_ascii_lowercase}
use Rattle.tb_token.specs.tokens.Names.{keywords, is_keyword, is_among}

pub or-by : {P : Type 0} (x y : Bool) → (x ≡ true → P) → (y ≡ true → P) → (x || y) ≡ true → P
or-by true y one two e = one refl
or-by false y one two e = two e

pub among-passes : (test : List ℕ → Bool) (bytes : List ℕ) (texts : List (List ℕ)) → list_all test texts ≡ true → is_among bytes texts ≡ true → test bytes ≡ true
among-passes test bytes [] all among = absurd (let d : ◌≡◌ {A = Bool} false true = among in cc)
among-passes test bytes (text ∷ texts) all among =
    let parts = and_parts (test text) (list_all test texts) all in
    or-by (bytes_eq bytes text) (is_among bytes texts)
    (λ here. let same = (bytes_decides bytes text).0 here in rw same parts.0)
    (λ there. among-passes test bytes texts parts.1 there) among

-- what all keywords have, in capitals and in small letters
pub keyword-passes : (test : List ℕ → Bool) (bytes : List ℕ) → list_all test keywords ≡ true → list_all test (map (map to_ascii_lowercase) keywords) ≡ true → is_keyword bytes ≡ true → test bytes ≡ true
keyword-passes test bytes capital small keyword =
    or-by (is_among bytes keywords) (is_among bytes (map (map to_ascii_lowercase) keywords))
    (λ among. among-passes test bytes keywords capital among)
    (λ among. among-passes test bytes (map (map to_ascii_lowercase) keywords) small among) keyword
