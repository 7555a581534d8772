-- What the lines of a script say: one entry for each line that says something, with its body.
use Rattle.std.specs.Prelude.{ℕ, ◌+◌, true, false, if◌then◌else◌, List, [], ◌∷◌, ◌++◌}
use Rattle.tb_script.specs.Lines.{whole_lines, text_of}
use Rattle.tb_script.specs.Forms.{is_dot, form_of, name_in}
use Rattle.tb_script.specs.declared.form.Form.{Form}
use Rattle.tb_script.specs.declared.form.Form.TheVariants as form
use Rattle.tb_script.specs.declared.entry.Said.{Said}
use Rattle.tb_script.specs.declared.entry.Said.TheVariants.{Unknown, Session, Load, Query, Tell, Hear}
use Rattle.tb_script.specs.declared.entry.Entry.{Entry}

-- what a line stands in: no body, the body of the load at line `at`, or the text of the query there
pub data Within : Type 0 where
  no_body : Within
  load_body : ℕ → List ℕ → List ℕ → Within
  query_text : ℕ → List ℕ → Within

abbrev pub entry : ℕ → Said → List Entry
entry n said = record { line = n; said = said } ∷ []

-- the entry of a line of one of the forms that have no body
abbrev pub alone : Form → ℕ → List ℕ → List Entry
alone form.Unknown n name = entry n Unknown
alone form.Session n name = entry n Session
alone form.Tell n name = entry n (Tell name)
alone form.Hear n name = entry n (Hear name)
alone _ n name = []

-- the body that a line opens
abbrev pub opened : Form → ℕ → List ℕ → Within
opened form.Load n name = load_body n name []
opened form.Query n name = query_text n []
opened _ n name = no_body

-- the entry that is whole with line n
abbrev pub ended_by : Within → ℕ → List ℕ → List Entry
ended_by no_body n line = alone (form_of (text_of line)) n (name_in (text_of line))
ended_by (load_body at name lines) n line =
    if is_dot (text_of line) then entry at (Load name lines true) else []
ended_by (query_text at text) n line =
    if is_dot (text_of line) then entry at (Query text true) else []

-- what the line behind line n stands in. A load's body keeps its lines as they are, and each line of a
-- query's text ends with byte 10.
abbrev pub behind : Within → ℕ → List ℕ → Within
behind no_body n line = opened (form_of (text_of line)) n (name_in (text_of line))
behind (load_body at name lines) n line =
    if is_dot (text_of line) then no_body else load_body at name (lines ++ line)
behind (query_text at text) n line =
    if is_dot (text_of line) then no_body else query_text at (text ++ text_of line ++ 10 ∷ [])

-- the entry of a body that has no end
abbrev pub left_open : Within → List Entry
left_open no_body = []
left_open (load_body at name lines) = entry at (Load name lines false)
left_open (query_text at text) = entry at (Query text false)

-- the entries of the lines, the first of which is line n
abbrev pub entries : Within → ℕ → List (List ℕ) → List Entry
entries within n [] = left_open within
entries within n (line ∷ lines) =
    ended_by within n line ++ entries (behind within n line) (n + 1) lines

-- the entries of a script
abbrev pub entries_of : List ℕ → List Entry
entries_of bytes = entries no_body 1 (whole_lines bytes)
