-- The body of a load is no longer than the script.
use Rattle.std.proofs.Common.{◌≡◌, ℕ, ◌+◌, ◌≤◌, Bool, true, false, cond, List, [], ◌∷◌, ◌++◌, length, flat_map, refl, ap, arith, length-append}
use Rattle.std.specs.List.{AllByRecursion}
use Rattle.tb_tree.proofs.lists.Alls.{all-append}
use Rattle.tb_script.specs.Lines.{whole_lines, text_of}
use Rattle.tb_script.specs.Forms.{is_dot, form_of, name_in}
use Rattle.tb_script.specs.Entries.{Within, no_body, load_body, query_text, alone, opened, ended_by, behind, left_open, entries, entries_of}
use Rattle.tb_script.specs.Sessions.{lined_of, is_session, prefix_turns, sessions_in}
use Rattle.tb_script.specs.Runnable.{HasBodyThatFits}
use Rattle.tb_script.specs.declared.form.Form.{Form}
use Rattle.tb_script.specs.declared.form.Form.TheVariants as form
use Rattle.tb_script.specs.declared.lined_command.LinedCommand.{LinedCommand}
use Rattle.tb_script.specs.declared.entry.Said.{Said}
use Rattle.tb_script.specs.declared.entry.Said.TheVariants.{Unknown, Session, Load, Query, Tell, Hear}
use Rattle.tb_script.specs.declared.entry.Entry.{Entry}
use Rattle.tb_script.proofs.LineLaws.{joined-whole}
use Rattle.tb_script.proofs.EndLaws.{plain, plains}

-- the body of what a line says has at most so many bytes
abbrev pub SaidFits : Said → Type 0
SaidFits (Load name lines closed) = length lines ≤ 67108864
SaidFits _ = Unit {0}

abbrev pub Fits : Entry → Type 0
Fits e = SaidFits e.said

-- how many bytes of a body are gathered
abbrev gathered : Within → ℕ
gathered no_body = 0
gathered (load_body at name lines) = length lines
gathered (query_text at text) = 0

alone-fits : (f : Form) (n : ℕ) (name : List ℕ) → AllByRecursion Fits (alone f n name)
alone-fits form.Passed n name = tt
alone-fits form.Unknown n name = (tt, tt)
alone-fits form.Session n name = (tt, tt)
alone-fits form.Load n name = tt
alone-fits form.Query n name = tt
alone-fits form.Tell n name = (tt, tt)
alone-fits form.Hear n name = (tt, tt)

opened-gathers : (f : Form) (n : ℕ) (name : List ℕ) → gathered (opened f n name) ≡ 0
opened-gathers form.Passed n name = refl
opened-gathers form.Unknown n name = refl
opened-gathers form.Session n name = refl
opened-gathers form.Load n name = refl
opened-gathers form.Query n name = refl
opened-gathers form.Tell n name = refl
opened-gathers form.Hear n name = refl

-- a line within a body, by whether it ends it
load-fits : (at n left : ℕ) (name lines line : List ℕ) (dot : Bool) → is_dot (text_of line) ≡ dot → length lines + (length line + left) ≤ 67108864
    → AllByRecursion Fits (ended_by (load_body at name lines) n line) × (gathered (behind (load_body at name lines) n line) + left ≤ 67108864)
load-fits at n left name lines line true e few = rw e ((omega (arith, few), tt), omega (arith, few))
load-fits at n left name lines line false e few = rw e (tt, omega (arith, length-append lines line, few))

query-fits : (at n left : ℕ) (text line : List ℕ) (dot : Bool) → is_dot (text_of line) ≡ dot → left ≤ 67108864
    → AllByRecursion Fits (ended_by (query_text at text) n line) × (gathered (behind (query_text at text) n line) + left ≤ 67108864)
query-fits at n left text line true e few = rw e ((tt, tt), omega (arith, few))
query-fits at n left text line false e few = rw e (tt, omega (arith, few))

line-fits : (within : Within) (n left : ℕ) (line : List ℕ) → gathered within + (length line + left) ≤ 67108864
    → AllByRecursion Fits (ended_by within n line) × (gathered (behind within n line) + left ≤ 67108864)
line-fits no_body n left line few =
    (alone-fits (form_of (text_of line)) n (name_in (text_of line)), omega (arith, opened-gathers (form_of (text_of line)) n (name_in (text_of line)), few))
line-fits (load_body at name lines) n left line few = load-fits at n left name lines line (is_dot (text_of line)) refl few
line-fits (query_text at text) n left line few = query-fits at n left text line (is_dot (text_of line)) refl (omega (arith, few))

open-fits : (within : Within) → gathered within ≤ 67108864 → AllByRecursion Fits (left_open within)
open-fits no_body few = tt
open-fits (load_body at name lines) few = (few, tt)
open-fits (query_text at text) few = (tt, tt)

entries-fit : (within : Within) (n : ℕ) (lines : List (List ℕ)) → gathered within + length (flat_map (λ l. l) lines) ≤ 67108864 → AllByRecursion Fits (entries within n lines)
entries-fit within n [] few = open-fits within (omega (arith, few))
entries-fit within n (line ∷ lines) few =
    let left = length (flat_map (λ l. l) lines) in
    let parts = line-fits within n left line (omega (arith, few, length-append line (flat_map (λ l. l) lines))) in
    all-append Fits (ended_by within n line) (entries (behind within n line) (n + 1) lines) parts.0 (entries-fit (behind within n line) (n + 1) lines parts.1)

pub script-fits : (bytes : List ℕ) → length bytes ≤ 67108864 → AllByRecursion Fits (entries_of bytes)
script-fits bytes few = entries-fit no_body 1 (whole_lines bytes) (omega (arith, few, ap length (joined-whole bytes)))

said-fits : (names : List (List ℕ)) (n : ℕ) (said : Said) → SaidFits said → AllByRecursion HasBodyThatFits (plain (lined_of names n said))
said-fits names n Unknown f = tt
said-fits names n Session f = tt
said-fits names n (Load name lines closed) f = (f, tt)
said-fits names n (Query text closed) f = (tt, tt)
said-fits names n (Tell name) f = (tt, tt)
said-fits names n (Hear name) f = (tt, tt)

plain-append : (xs ys : List LinedCommand) → plain (xs ++ ys) ≡ plain xs ++ plain ys
plain-append [] ys = refl
plain-append (x ∷ xs) ys = ap (λ cs. x.command ∷ cs) (plain-append xs ys)

commands_fit_case : (names : List (List ℕ)) (n : ℕ) (said : Said) (es : List Entry) (session : Bool) → is_session said ≡ session → SaidFits said
    → AllByRecursion HasBodyThatFits (plain (prefix_turns names es)) × AllByRecursion (AllByRecursion HasBodyThatFits) (plains (sessions_in names es))
    → AllByRecursion HasBodyThatFits (plain (cond (is_session said) [] (lined_of names n said ++ prefix_turns names es)))
    × AllByRecursion (AllByRecursion HasBodyThatFits) (plains (cond (is_session said) (prefix_turns names es ∷ sessions_in names es) (sessions_in names es)))
commands_fit_case names n said es true e f more = rw e (tt, (more.0, more.1))
commands_fit_case names n said es false e f more =
    rw (e, plain-append (lined_of names n said) (prefix_turns names es))
    (all-append HasBodyThatFits (plain (lined_of names n said)) (plain (prefix_turns names es)) (said-fits names n said f) more.0, more.1)

pub bodies-fit : (names : List (List ℕ)) (es : List Entry) → AllByRecursion Fits es
    → AllByRecursion HasBodyThatFits (plain (prefix_turns names es)) × AllByRecursion (AllByRecursion HasBodyThatFits) (plains (sessions_in names es))
bodies-fit names [] f = (tt, tt)
bodies-fit names (e ∷ es) f = commands_fit_case names e.line e.said es (is_session e.said) refl f.0 (bodies-fit names es f.1)
