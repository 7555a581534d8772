-- Words of the private clauses: what is cut from the prefix of the bytes that are left.
use Rattle.std.specs.Prelude.{◌≡◌, ℕ, ◌+◌, ◌<◌, ◌≤◌, Bool, List, [], ◌∷◌, ◌++◌, Option, Some, None, length}
use Rattle.tb_script.specs.Lines.{whole_lines, text_of}
use Rattle.tb_script.specs.Entries.{no_body, load_body, query_text, entry, alone, opened, entries}
use Rattle.tb_script.specs.declared.form.Form.{Form}
use Rattle.tb_script.specs.declared.entry.Said.TheVariants.{Load, Query}
use Rattle.tb_script.specs.declared.entry.Entry.{Entry}

-- a line without its end, the line with it, and the bytes behind
pub record Cut : Type 0 where
  pub line : List ℕ
  pub whole : List ℕ
  pub rest : List ℕ

pub record CutsFirst (bytes : List ℕ) (cut : Cut) : Type 0 where
  pub shorter : length cut.rest < length bytes
  pub joined : bytes ≡ cut.whole ++ cut.rest
  pub lines : whole_lines bytes ≡ cut.whole ∷ whole_lines cut.rest
  pub line_is : cut.line ≡ text_of cut.whole

-- the first line, or none where there is no byte
abbrev pub NextWhole : List ℕ → Option Cut → Type 0
NextWhole bytes (Some cut) = CutsFirst bytes cut
NextWhole bytes None = bytes ≡ []

-- The entries from line n on go on from line m with the bytes left, which leave room for their numbers.
pub record GoesOn (prefix all : List Entry) (n : ℕ) (bytes : List ℕ) (m : ℕ) (rest : List ℕ)
    : Type 0 where
  pub entries_are : all ≡ prefix ++ entries no_body m (whole_lines rest)
  pub numbers : m + length rest ≤ n + length bytes
  pub later : n ≤ m

-- a load's body, which begins with line n
abbrev pub HasBody : List ℕ → ℕ → List ℕ → Bool → List ℕ → ℕ → Type 0
HasBody bytes n lines closed rest m =
    (at : ℕ) (name : List ℕ)
    → GoesOn (entry at (Load name lines closed))
    (entries (load_body at name []) n (whole_lines bytes)) n bytes m rest

-- a query's text, which begins with line n
abbrev pub HasText : List ℕ → ℕ → List ℕ → Bool → List ℕ → ℕ → Type 0
HasText bytes n text closed rest m =
    (at : ℕ)
    → GoesOn (entry at (Query text closed))
    (entries (query_text at []) n (whole_lines bytes)) n bytes m rest

-- all entries from a line of this form on, which has number n
abbrev pub entries_from : Form → ℕ → List ℕ → List ℕ → List Entry
entries_from form n name rest =
    alone form n name ++ entries (opened form n name) (n + 1) (whole_lines rest)

-- an entry with the bytes left and the number of their first line
pub record Found : Type 0 where
  pub entry : Entry
  pub rest : List ℕ
  pub line : ℕ

-- the entry of a line with number n, or none where the line is passed over
abbrev pub Says : Form → ℕ → List ℕ → List ℕ → Option Found → Type 0
Says form n name bytes (Some f) =
    GoesOn (f.entry ∷ []) (entries_from form n name bytes) (n + 1) bytes f.line f.rest
Says form n name bytes None =
    entries_from form n name bytes ≡ entries no_body (n + 1) (whole_lines bytes)

-- the next entry, or none where there is none left
abbrev pub NextEntry : ℕ → List ℕ → Option Found → Type 0
NextEntry n bytes (Some f) =
    GoesOn (f.entry ∷ []) (entries no_body n (whole_lines bytes)) n bytes f.line f.rest
    × (n < f.line)
NextEntry n bytes None = entries no_body n (whole_lines bytes) ≡ []
