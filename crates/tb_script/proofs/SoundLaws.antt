-- What lines without a fault meet: the limits, the names, and the numbers of their marks.
use Rattle.std.proofs.Common.{◌≡◌, ◌≢◌, ℕ, suc, ◌+◌, ◌<◌, ◌≤◌, Bool, true, false, cond, Option, Some, None, List, [], ◌∷◌, ◌++◌, map, length, refl, sym, ap, ap₂, ◌∙◌, arith, length-append, append_assoc}
use Rattle.std.specs.List.{AllByRecursion, range_with_len}
use Rattle.std.specs.Option.{option_map, option_map_or}
use Rattle.std.specs.Str.{bytes_eq}
use Rattle.std.proofs.lemmas.Bool.{leb-false, eqb-false}
use Rattle.tb_script.specs.Forms.{is_label}
use Rattle.tb_tree.specs.NameTables.{place_of}
use Rattle.tb_script.specs.Faults.{Counts, at_start, fault_of, and_then, first_fault, or_else}
use Rattle.tb_script.specs.Sessions.{told_by, marks_of, number_of, lined_of, is_session, prefix_turns, sessions_in, unknown_at, unknown_mark}
use Rattle.tb_script.specs.Runnable.{IsNamed, HasMarkBelow, loads_of, loads_in, tells_of, tells_in, AreRunnable}
use Rattle.tb_script.specs.declared.command.Command.{Command}
use Rattle.tb_script.specs.declared.lined_command.LinedCommand.{LinedCommand}
use Rattle.tb_script.specs.declared.entry.Said.{Said}
use Rattle.tb_script.specs.declared.entry.Said.TheVariants.{Unknown, Session, Load, Query, Tell, Hear}
use Rattle.tb_script.specs.declared.entry.Entry.{Entry}
use Rattle.tb_script.specs.declared.fault.ScriptFault.{ScriptFault}
use Rattle.tb_script.specs.declared.fault.ScriptFault.TheVariants.{MarkUnknown}
use Rattle.tb_script.specs.Walks.{HaveMarksBelow}
use Rattle.tb_script.specs.Calls.{sessions_of}
use Rattle.tb_script.specs.Rounds.{stuck_line}
use Rattle.tb_script.proofs.BodyFitLaws.{Fits, bodies-fit}
use Rattle.tb_script.proofs.EndLaws.{all-through, plain, plains}
use Rattle.tb_script.proofs.MarkLaws.{nowhere}
use Rattle.std.proofs.lemmas.List.{length-map}
use Rattle.std.proofs.lemmas.Slice.Eq.{bytes_eq-Decides}
use Rattle.tb_tree.proofs.lists.Options.{cond-none, is_some-none}
use Rattle.tb_tree.proofs.lists.Bools.{denied}

pub neither : (a b : Option ScriptFault) → or_else a b ≡ None → (a ≡ None) × (b ≡ None)
neither None b e = (refl, e)
neither (Some f) b e = absurd (let d : ◌≡◌ {A = Option ScriptFault} (Some f) None = e in cc)

-- what the tests at a line that has no fault say
abbrev Passes : Counts → Said → Type 0
Passes t Unknown = ⊥
Passes t Session = t.sessions < 64
Passes t (Load name lines closed) = (t.sessions ≢ 0) × (is_label name ≡ true) × (t.commands < 10000) × (t.loads < 65536)
Passes t (Query text closed) = (t.sessions ≢ 0) × (t.commands < 10000)
Passes t (Tell name) = (t.sessions ≢ 0) × (is_label name ≡ true) × (t.commands < 10000) × (place_of name t.told ≡ None)
Passes t (Hear name) = (t.sessions ≢ 0) × (is_label name ≡ true) × (t.commands < 10000)

passes : (t : Counts) (n : ℕ) (said : Said) → fault_of t n said ≡ None → Passes t said
passes t n Unknown e = absurd (let d : ◌≡◌ {A = Option ScriptFault} (fault_of t n Unknown) None = e in cc)
passes t n Session e = leb-false 64 t.sessions (cond-none _ _ _ e).0
passes t n (Load name lines closed) e =
    let a = cond-none _ _ _ e in
    let b = cond-none _ _ _ a.1 in
    let c = cond-none _ _ _ b.1 in
    let d = cond-none _ _ _ c.1 in
    (eqb-false t.sessions 0 a.0, denied (is_label name) b.0, leb-false 10000 t.commands c.0, leb-false 65536 t.loads d.0)
passes t n (Query text closed) e =
    let a = cond-none _ _ _ e in
    let b = cond-none _ _ _ a.1 in
    (eqb-false t.sessions 0 a.0, leb-false 10000 t.commands b.0)
passes t n (Tell name) e =
    let a = cond-none _ _ _ e in
    let b = cond-none _ _ _ a.1 in
    let c = cond-none _ _ _ b.1 in
    let d = cond-none _ _ _ c.1 in
    (eqb-false t.sessions 0 a.0, denied (is_label name) b.0, leb-false 10000 t.commands d.0, is_some-none (place_of name t.told) c.0)
passes t n (Hear name) e =
    let a = cond-none _ _ _ e in
    let b = cond-none _ _ _ a.1 in
    let c = cond-none _ _ _ b.1 in
    (eqb-false t.sessions 0 a.0, denied (is_label name) b.0, leb-false 10000 t.commands c.0)

-- all lines pass
abbrev AllPass : Counts → List Entry → Type 0
AllPass t [] = Unit {0}
AllPass t (e ∷ es) = Passes t e.said × AllPass (and_then t e.said) es

all_pass : (t : Counts) (es : List Entry) → first_fault t es ≡ None → AllPass t es
all_pass t [] e = tt
all_pass t (d ∷ es) e =
    let parts = neither (fault_of t d.line d.said) (first_fault (and_then t d.said) es) e in
    (passes t d.line d.said parts.0, all_pass (and_then t d.said) es parts.1)

sessions-fit : (names : List (List ℕ)) (t : Counts) (es : List Entry) → AllPass t es → t.sessions ≤ 64 → t.sessions + length (sessions_in names es) ≤ 64
sessions-fit names t [] p few = omega (arith, few)
sessions-fit names t (e ∷ es) p few = by e.said p.0 p.1 (λ u q f. sessions-fit names u es q f)
  where
    by : (said : Said) → Passes t said → AllPass (and_then t said) es → ((u : Counts) → AllPass u es → u.sessions ≤ 64 → u.sessions + length (sessions_in names es) ≤ 64)
        → t.sessions + length (cond (is_session said) (prefix_turns names es ∷ sessions_in names es) (sessions_in names es)) ≤ 64
    by Unknown q p ih = absurd q
    by Session q p ih = omega (arith, ih (and_then t Session) p (omega (arith, q)))
    by (Load name lines closed) q p ih = ih (and_then t (Load name lines closed)) p few
    by (Query text closed) q p ih = ih (and_then t (Query text closed)) p few
    by (Tell name) q p ih = ih (and_then t (Tell name)) p few
    by (Hear name) q p ih = ih (and_then t (Hear name)) p few

-- the commands up to the next session, and those of each session behind it
commands-fit : (names : List (List ℕ)) (t : Counts) (es : List Entry) → AllPass t es → t.commands ≤ 10000
    → (t.commands + length (plain (prefix_turns names es)) ≤ 10000) × AllByRecursion (λ cs. length cs ≤ 10000) (plains (sessions_in names es))
commands-fit names t [] p few = (omega (arith, few), tt)
commands-fit names t (e ∷ es) p few = by e.line e.said p.0 p.1 (λ u q f. commands-fit names u es q f)
  where
    by : (n : ℕ) (said : Said) → Passes t said → AllPass (and_then t said) es
        → ((u : Counts) → AllPass u es → u.commands ≤ 10000 → (u.commands + length (plain (prefix_turns names es)) ≤ 10000) × AllByRecursion (λ cs. length cs ≤ 10000) (plains (sessions_in names es)))
        → (t.commands + length (plain (cond (is_session said) [] (lined_of names n said ++ prefix_turns names es))) ≤ 10000)
        × AllByRecursion (λ cs. length cs ≤ 10000) (plains (cond (is_session said) (prefix_turns names es ∷ sessions_in names es) (sessions_in names es)))
    by n Unknown q p ih = absurd q
    by n Session q p ih =
        let r = ih (and_then t Session) p (omega arith) in
        (omega (arith, few), (omega (arith, r.0), r.1))
    by n (Load name lines closed) q p ih =
        let r = ih (and_then t (Load name lines closed)) p (omega (arith, q.2)) in
        (omega (arith, r.0), r.1)
    by n (Query text closed) q p ih =
        let r = ih (and_then t (Query text closed)) p (omega (arith, q.1)) in
        (omega (arith, r.0), r.1)
    by n (Tell name) q p ih =
        let r = ih (and_then t (Tell name)) p (omega (arith, q.2)) in
        (omega (arith, r.0), r.1)
    by n (Hear name) q p ih =
        let r = ih (and_then t (Hear name)) p (omega (arith, q.2)) in
        (omega (arith, r.0), r.1)

loads-fit : (names : List (List ℕ)) (t : Counts) (es : List Entry) → AllPass t es → t.loads ≤ 65536
    → t.loads + (loads_of (plain (prefix_turns names es)) + loads_in (plains (sessions_in names es))) ≤ 65536
loads-fit names t [] p few = omega (arith, few)
loads-fit names t (e ∷ es) p few = by e.line e.said p.0 p.1 (λ u q f. loads-fit names u es q f)
  where
    by : (n : ℕ) (said : Said) → Passes t said → AllPass (and_then t said) es
        → ((u : Counts) → AllPass u es → u.loads ≤ 65536 → u.loads + (loads_of (plain (prefix_turns names es)) + loads_in (plains (sessions_in names es))) ≤ 65536)
        → t.loads + (loads_of (plain (cond (is_session said) [] (lined_of names n said ++ prefix_turns names es)))
        + loads_in (plains (cond (is_session said) (prefix_turns names es ∷ sessions_in names es) (sessions_in names es)))) ≤ 65536
    by n Unknown q p ih = absurd q
    by n Session q p ih = omega (arith, ih (and_then t Session) p few)
    by n (Load name lines closed) q p ih = omega (arith, ih (and_then t (Load name lines closed)) p (omega (arith, q.3)))
    by n (Query text closed) q p ih = ih (and_then t (Query text closed)) p few
    by n (Tell name) q p ih = ih (and_then t (Tell name)) p few
    by n (Hear name) q p ih = ih (and_then t (Hear name)) p few

named : (names : List (List ℕ)) (t : Counts) (es : List Entry) → AllPass t es
    → AllByRecursion IsNamed (plain (prefix_turns names es)) × AllByRecursion (AllByRecursion IsNamed) (plains (sessions_in names es))
named names t [] p = (tt, tt)
named names t (e ∷ es) p = by e.line e.said p.0 (named names (and_then t e.said) es p.1)
  where
    by : (n : ℕ) (said : Said) → Passes t said → AllByRecursion IsNamed (plain (prefix_turns names es)) × AllByRecursion (AllByRecursion IsNamed) (plains (sessions_in names es))
        → AllByRecursion IsNamed (plain (cond (is_session said) [] (lined_of names n said ++ prefix_turns names es)))
        × AllByRecursion (AllByRecursion IsNamed) (plains (cond (is_session said) (prefix_turns names es ∷ sessions_in names es) (sessions_in names es)))
    by n Unknown q ih = absurd q
    by n Session q ih = (tt, ih)
    by n (Load name lines closed) q ih = ((q.1, ih.0), ih.1)
    by n (Query text closed) q ih = ((tt, ih.0), ih.1)
    by n (Tell name) q ih = ((q.1, ih.0), ih.1)
    by n (Hear name) q ih = ((q.1, ih.0), ih.1)

-- a name that is told here has the next number
place-told : (name : List ℕ) (told rest : List (List ℕ)) → place_of name told ≡ None → place_of name (told ++ name ∷ rest) ≡ Some (length told)
place-told name [] rest e = rw ((bytes_eq-Decides name name).1 refl) refl
place-told name (first ∷ told) rest e =
    let apart = nowhere name first told e in
    let more : length told + 1 ≡ suc (length told) = omega arith in
    rw (apart.0, place-told name told rest apart.1) (ap Some more)

place-below : (q : List ℕ) (names : List (List ℕ)) (k : ℕ) → place_of q names ≡ Some k → k < length names
place-below q [] k e = absurd (let d : ◌≡◌ {A = Option ℕ} None (Some k) = e in cc)
place-below q (first ∷ names) k e = by (bytes_eq q first) (place_of q names) refl e (λ j f. place-below q names j f)
  where
    by : (b : Bool) (o : Option ℕ) → place_of q names ≡ o → cond b (Some 0) (option_map (λ n. n + 1) o) ≡ Some k
        → ((j : ℕ) → place_of q names ≡ Some j → j < length names) → k < length (first ∷ names)
    by true o f e ih = let d : ◌≡◌ {A = ℕ} 0 k = cc in omega (arith, d)
    by false None f e ih = absurd (let d : ◌≡◌ {A = Option ℕ} None (Some k) = e in cc)
    by false (Some j) f e ih =
        let d : ◌≡◌ {A = ℕ} (j + 1) k = cc in
        omega (arith, d, ih j f)

-- the names told so far, and those that follow
abbrev AreNames : List (List ℕ) → Counts → List Entry → Type 0
AreNames names t es = names ≡ t.told ++ marks_of es

tell-number : (names : List (List ℕ)) (t : Counts) (name : List ℕ) (es : List Entry) → names ≡ t.told ++ name ∷ marks_of es → place_of name t.told ≡ None → number_of names name ≡ length t.told
tell-number names t name es is new = ap (λ o. option_map_or (λ n. n) o 0) (ap (place_of name) is ∙ place-told name t.told (marks_of es) new)

-- the marks are told in the order of their numbers
tells-range : (names : List (List ℕ)) (t : Counts) (es : List Entry) → AllPass t es → AreNames names t es
    → tells_of (plain (prefix_turns names es)) ++ tells_in (plains (sessions_in names es)) ≡ range_with_len (length t.told) (length (marks_of es))
tells-range names t [] p is = refl
tells-range names t (e ∷ es) p is = by e.line e.said p.0 p.1 is (λ u q f. tells-range names u es q f)
  where
    by : (n : ℕ) (said : Said) → Passes t said → AllPass (and_then t said) es → names ≡ t.told ++ (told_by said ++ marks_of es)
        → ((u : Counts) → AllPass u es → AreNames names u es → tells_of (plain (prefix_turns names es)) ++ tells_in (plains (sessions_in names es)) ≡ range_with_len (length u.told) (length (marks_of es)))
        → tells_of (plain (cond (is_session said) [] (lined_of names n said ++ prefix_turns names es)))
        ++ tells_in (plains (cond (is_session said) (prefix_turns names es ∷ sessions_in names es) (sessions_in names es)))
        ≡ range_with_len (length t.told) (length (told_by said ++ marks_of es))
    by n Unknown q p is ih = absurd q
    by n Session q p is ih = ih (and_then t Session) p is
    by n (Load name lines closed) q p is ih = ih (and_then t (Load name lines closed)) p is
    by n (Query text closed) q p is ih = ih (and_then t (Query text closed)) p is
    by n (Tell name) q p is ih =
        let more : length (t.told ++ name ∷ []) ≡ length t.told + 1 = length-append t.told (name ∷ []) in
        let rest = ih (and_then t (Tell name)) p (is ∙ sym (append_assoc t.told (name ∷ []) (marks_of es))) in
        ap₂ (λ x xs. x ∷ xs) (tell-number names t name es is q.3) (rest ∙ ap (λ k. range_with_len k (length (marks_of es))) more)
    by n (Hear name) q p is ih = ih (and_then t (Hear name)) p is

hear-below : (names : List (List ℕ)) (n : ℕ) (name : List ℕ) → unknown_at names n (Hear name) ≡ None → number_of names name < length names
hear-below names n name e = by (place_of name names) refl e
  where
    by : (o : Option ℕ) → place_of name names ≡ o → option_map_or (λ k. None) o (Some (MarkUnknown n)) ≡ None → option_map_or (λ k. k) o 0 < length names
    by None f e = absurd (let d : ◌≡◌ {A = Option ScriptFault} (Some (MarkUnknown n)) None = e in cc)
    by (Some k) f e = place-below name names k f

-- marks have numbers below their count
marks-below : (names : List (List ℕ)) (t : Counts) (es : List Entry) → AllPass t es → AreNames names t es → unknown_mark names es ≡ None
    → AllByRecursion (λ (u : LinedCommand). HasMarkBelow (length names) u.command) (prefix_turns names es)
    × AllByRecursion (AllByRecursion (λ (u : LinedCommand). HasMarkBelow (length names) u.command)) (sessions_in names es)
marks-below names t [] p is known = (tt, tt)
marks-below names t (e ∷ es) p is known =
    let parts = neither (unknown_at names e.line e.said) (unknown_mark names es) known in
    by e.line e.said p.0 p.1 is parts.0 (λ u q f. marks-below names u es q f parts.1)
  where
    by : (n : ℕ) (said : Said) → Passes t said → AllPass (and_then t said) es → names ≡ t.told ++ (told_by said ++ marks_of es) → unknown_at names n said ≡ None
        → ((u : Counts) → AllPass u es → AreNames names u es → AllByRecursion (λ (u : LinedCommand). HasMarkBelow (length names) u.command) (prefix_turns names es)
        × AllByRecursion (AllByRecursion (λ (u : LinedCommand). HasMarkBelow (length names) u.command)) (sessions_in names es))
        → AllByRecursion (λ (u : LinedCommand). HasMarkBelow (length names) u.command) (cond (is_session said) [] (lined_of names n said ++ prefix_turns names es))
        × AllByRecursion (AllByRecursion (λ (u : LinedCommand). HasMarkBelow (length names) u.command)) (cond (is_session said) (prefix_turns names es ∷ sessions_in names es) (sessions_in names es))
    by n Unknown q p is known ih = absurd q
    by n Session q p is known ih = (tt, ih (and_then t Session) p is)
    by n (Load name lines closed) q p is known ih = let r = ih (and_then t (Load name lines closed)) p is in ((tt, r.0), r.1)
    by n (Query text closed) q p is known ih = let r = ih (and_then t (Query text closed)) p is in ((tt, r.0), r.1)
    by n (Tell name) q p is known ih =
        let r = ih (and_then t (Tell name)) p (is ∙ sym (append_assoc t.told (name ∷ []) (marks_of es))) in
        let long = ap length is ∙ length-append t.told (name ∷ marks_of es) in
        let below : number_of names name < length names = omega (arith, long, tell-number names t name es is q.3) in
        ((below, r.0), r.1)
    by n (Hear name) q p is known ih = let r = ih (and_then t (Hear name)) p is in ((hear-below names n name known, r.0), r.1)

all-plain : (P : Command → Type 0) (ts : List LinedCommand) → AllByRecursion (λ (u : LinedCommand). P u.command) ts → AllByRecursion P (plain ts)
all-plain P [] all = tt
all-plain P (t ∷ ts) all = (all.0, all-plain P ts all.1)

all-plains : (P : Command → Type 0) (ss : List (List LinedCommand)) → AllByRecursion (AllByRecursion (λ (u : LinedCommand). P u.command)) ss → AllByRecursion (AllByRecursion P) (plains ss)
all-plains P [] all = tt
all-plains P (s ∷ ss) all = (all-plain P s all.0, all-plains P ss all.1)

-- no command stands before the first session
prefix-none : (names : List (List ℕ)) (t : Counts) (es : List Entry) → AllPass t es → t.sessions ≡ 0 → prefix_turns names es ≡ []
prefix-none names t [] p none = refl
prefix-none names t (e ∷ es) p none = by e.line e.said p.0
  where
    by : (n : ℕ) (said : Said) → Passes t said → cond (is_session said) [] (lined_of names n said ++ prefix_turns names es) ≡ []
    by n Unknown q = absurd q
    by n Session q = refl
    by n (Load name lines closed) q = absurd (q.0 none)
    by n (Query text closed) q = absurd (q.0 none)
    by n (Tell name) q = absurd (q.0 none)
    by n (Hear name) q = absurd (q.0 none)

-- The marks of the commands have numbers below their count.
pub have_below : (es : List Entry) → first_fault at_start es ≡ None → unknown_mark (marks_of es) es ≡ None → HaveMarksBelow (length (marks_of es)) (sessions_of es)
have_below es sound known = (marks-below (marks_of es) at_start es (all_pass at_start es sound) refl known).1

-- A script without a fault meets what later calls ask for.
pub are_runnable : (es : List Entry) → AllByRecursion Fits es → first_fault at_start es ≡ None → unknown_mark (marks_of es) es ≡ None → stuck_line (sessions_of es) ≡ None → AreRunnable (plains (sessions_of es)) (length (marks_of es))
are_runnable es short sound known free =
    let names = marks_of es in
    let p = all_pass at_start es sound in
    let none : tells_of (plain (prefix_turns names es)) ≡ [] = ap (λ ts. tells_of (plain ts)) (prefix-none names at_start es p refl) in
    record {
      sessions_fit = omega (arith, sessions-fit names at_start es p (omega arith), length-map (sessions_of es) (map (λ (t : LinedCommand). t.command)));
      commands_fit = (commands-fit names at_start es p (omega arith)).1;
      loads_fit = omega (arith, loads-fit names at_start es p (omega arith));
      bodies_fit = (bodies-fit names es short).1;
      named = (named names at_start es p).1;
      below = all-plains (HasMarkBelow (length names)) (sessions_of es) (have_below es sound known);
      told = ap (λ ms. ms ++ tells_in (plains (sessions_of es))) (sym none) ∙ tells-range names at_start es p refl;
      through = all-through (sessions_of es) free;
    }
