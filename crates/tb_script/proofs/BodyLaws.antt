-- A body that grows by a line.
use Rattle.std.proofs.Common.{◌≡◌, ℕ, ◌+◌, true, false, List, ◌++◌, refl, sym, ap, ◌∙◌, append_assoc}
use Rattle.tb_script.specs.Lines.{whole_lines, text_of}
use Rattle.tb_script.specs.Forms.{is_dot}
use Rattle.tb_script.specs.Entries.{no_body, load_body, entry, entries}
use Rattle.tb_script.specs.declared.entry.Said.TheVariants.{Load}
use Rattle.tb_script.specs.Cuts.{Cut, CutsFirst}

pub prefix_more : (bytes prefix rest : List ℕ) (cut : Cut) → bytes ≡ prefix ++ rest → CutsFirst rest cut → bytes ≡ (prefix ++ cut.whole) ++ cut.rest
prefix_more bytes prefix rest cut e c = e ∙ ap (λ r. prefix ++ r) c.joined ∙ sym (append_assoc prefix cut.whole cut.rest)

-- a line that isn't `.` alone goes into the body
pub body_more : (at n : ℕ) (name prefix rest : List ℕ) (cut : Cut) → CutsFirst rest cut → is_dot cut.line ≡ false
    → entries (load_body at name prefix) n (whole_lines rest) ≡ entries (load_body at name (prefix ++ cut.whole)) (n + 1) (whole_lines cut.rest)
body_more at n name prefix rest cut c e =
    let dot : is_dot (text_of cut.whole) ≡ false = ap is_dot (sym c.line_is) ∙ e in
    rw (c.lines, dot) refl

-- a line `.` ends the body
pub body_ends : (at n : ℕ) (name prefix rest : List ℕ) (cut : Cut) → CutsFirst rest cut → is_dot cut.line ≡ true
    → entries (load_body at name prefix) n (whole_lines rest) ≡ entry at (Load name prefix true) ++ entries no_body (n + 1) (whole_lines cut.rest)
body_ends at n name prefix rest cut c e =
    let dot : is_dot (text_of cut.whole) ≡ true = ap is_dot (sym c.line_is) ∙ e in
    rw (c.lines, dot) refl

-- the bytes before a line, with what is passed up to it
pub passed_more : (bytes prefix rest passed dotted : List ℕ) → bytes ≡ prefix ++ rest → rest ≡ passed ++ dotted → bytes ≡ (prefix ++ passed) ++ dotted
passed_more bytes prefix rest passed dotted e f = e ∙ ap (λ r. prefix ++ r) f ∙ sym (append_assoc prefix passed dotted)
