-- BoundNames of attributes one token after the other; only which names are among them tells.
use Rattle.std.proofs.Common.{◌≡◌, ◌==◌, ℕ, Bool, true, false, not, ◌&&◌, List, [], ◌∷◌, ◌++◌, refl, ◌∙◌}
use Rattle.std.specs.List.{list_any}
use Rattle.std.specs.Str.{bytes_eq}
use Rattle.tb_token.specs.grammar.Grammar.{Tok}
use Rattle.tb_token.specs.tokens.TerminalNames as terminals
use Rattle.tb_flwor.specs.Constructors.{is_named, repeated_in}
use Rattle.tb_flwor.specs.Started.{is_repeated, attributes_behind}
use Rattle.tb_flwor.specs.Borrowed.{AreAlike}
use Rattle.tb_flwor.proofs.NameLaws.{alike-behind}

-- an attribute's name
module _ (names : List (List ℕ)) (t : Tok) (s : List Tok) (within : (t.terminal == terminals.LESS) ≡ false) (named : is_named s ≡ true) where
  pub repeated-named : is_repeated names t s ≡ list_any (bytes_eq t.bytes) names
  repeated-named = rw (within, named) refl

  pub behind-named : attributes_behind names t s ≡ names ++ t.bytes ∷ []
  behind-named = rw (within, named) refl

pub repeated-alike : (s : List Tok) (some others : List (List ℕ)) → AreAlike some others → repeated_in some s ≡ repeated_in others s
repeated-alike [] some others alike = refl
repeated-alike (t ∷ s) some others alike =
    let among = alike t.bytes in
    let more = repeated-alike s (some ++ t.bytes ∷ []) (others ++ t.bytes ∷ []) (alike-behind some others t.bytes alike) in
    let same = repeated-alike s some others alike in
    rw (among, more, same) refl

next-step : (opens named old : Bool) (names : List (List ℕ)) (t : Tok) (s : List Tok)
    → (t.terminal == terminals.LESS) ≡ opens → is_named s ≡ named → list_any (bytes_eq t.bytes) names ≡ old
    → (not opens && (named && old)) ≡ false
    → repeated_in (attributes_behind names t s) s ≡ repeated_in names (t ∷ s)
next-step true named old names t s e f g new = rw e refl
next-step false false old names t s e f g new = rw (e, f) refl
next-step false true false names t s e f g new = rw (e, f, g) refl
next-step false true true names t s e f g new = absurd (cc)

-- a token that repeats no name leaves the first repeated one to those behind it
pub repeated-next : (names behind : List (List ℕ)) (t : Tok) (s : List Tok) → is_repeated names t s ≡ false
    → AreAlike behind (attributes_behind names t s) → repeated_in behind s ≡ repeated_in names (t ∷ s)
repeated-next names behind t s new alike =
    repeated-alike s behind (attributes_behind names t s) alike
    ∙ next-step (t.terminal == terminals.LESS) (is_named s) (list_any (bytes_eq t.bytes) names) names t s refl refl refl new
