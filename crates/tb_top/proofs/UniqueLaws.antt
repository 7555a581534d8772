-- A script has one run, and so one transcript.
use Rattle.std.proofs.Common.{◌≡◌, ℕ, suc, Option, Some, None, List, [], ◌∷◌, ◌++◌, map, take, length, refl, sym, ap, ap₂, ◌∙◌, subst, arith, append-nil, append_assoc}
use Rattle.std.specs.List.{AllByRecursion}
use Rattle.std.proofs.lemmas.List.{map-append, length-append, length-map, take_at}
use Rattle.tb_esis.proofs.CompleteLaws.{read-clean, read-unique}
use Rattle.tb_esis.specs.declared.fault.EsisFault.{EsisFault}
use Rattle.tb_script.specs.Runnable.{commands_in}
use Rattle.tb_script.specs.Schedule.{command_at}
use Rattle.tb_script.specs.declared.command.Command.{Command}
use Rattle.tb_script.specs.declared.command.Command.TheVariants.{Load, Query, Tell, Hear}
use Rattle.tb_script.specs.declared.command.Workload.{Workload}
use Rattle.tb_script.specs.declared.turnstep.Turnstep.{Turnstep}
use Rattle.tb_core.specs.declared.event.Event.TheVariants as event_kind
use Rattle.tb_core.specs.World.{State, with_seen, answer, after, run, after_all}
use Rattle.tb_core.specs.Replay.{NumberedEvent}
use Rattle.tb_core.specs.declared.event.Event.{Event}
use Rattle.tb_query.specs.Answer as query
use Rattle.tb_top.specs.History.{Change, documents_in}
use Rattle.tb_top.specs.Deeds.{Record, loaded, refused, answered, refused_query, told, heard, Deed, event_of, events_of, change_by, changes_behind, history_of, IsAnswer, IsResult}
use Rattle.tb_top.specs.Single.{step_of, world_of, IsRun, IsTranscript}
use Rattle.tb_top.specs.Transcript.{transcript_of}
use Rattle.tb_top.proofs.DoneLaws.{run-append, changes_behind-append}
use Rattle.tb_top.proofs.AskedLaws.{asked-once, asked-clean}
use Rattle.tb_flwor.proofs.OneFault.{refused-once, never-both}
use Rattle.tb_tree.proofs.lists.Parts.{parts-same, first-same}
use Rattle.std.proofs.lemmas.Option.{same_Some}
use Rattle.tb_core.proofs.ChangeLaws.{history-with_seen}

abbrev event : NumberedEvent → Event
event x = x.event

abbrev number : NumberedEvent → Option ℕ
number x = Some x.number

-- the events of a command, answered just the numbers that they have
abbrev Answers : State → List NumberedEvent → Type 0
Answers w xs = run w (map event xs) ≡ map number xs

run-length : (w : State) (es : List Event) → length (run w es) ≡ length es
run-length w [] = refl
run-length w (e ∷ es) = ap suc (run-length (after w e) es)

-- answers of two lists of events, one behind the other
answers-parts : (w : State) (xs ys : List NumberedEvent) → Answers w (xs ++ ys) → Answers w xs × Answers (after_all w (map event xs)) ys
answers-parts w xs ys answers =
    let both : run w (map event xs) ++ run (after_all w (map event xs)) (map event ys) ≡ map number xs ++ map number ys =
    sym (run-append w (map event xs) (map event ys)) ∙ ap (run w) (sym (map-append event xs ys)) ∙ answers ∙ map-append number xs ys in
    parts-same _ _ _ _ (run-length w (map event xs) ∙ length-map xs event ∙ sym (length-map xs number)) both

-- a command adds a change exactly where its event lengthens the history
longer : (w : State) (session : ℕ) (history cs : List Change) (c : Command) (r : Record) → IsResult history c r → length w.history ≡ length cs
    → length (after_all w (map event (event_of session c r))).history ≡ length (cs ++ change_by cs session c r)
longer w session history cs (Load name lines) (loaded k tree) may same = omega (arith, length-append w.history (session ∷ []), length-append cs (change_by cs session (Load name lines) (loaded k tree)))
longer w session history cs (Load name lines) (refused fault) may same = same ∙ ap length (sym (append-nil cs))
longer w session history cs (Query t) (answered front answer) may same = same ∙ ap length (sym (append-nil cs))
longer w session history cs (Query t) (refused_query fault) may same = same ∙ ap length (sym (append-nil cs))
longer w session history cs (Tell mark name) (told k) may same = same ∙ ap length (sym (append-nil cs))
longer w session history cs (Hear mark name) (heard k) may same = ap length (history-with_seen w session (answer w (event_kind.Hear session mark))) ∙ same ∙ ap length (sym (append-nil cs))
longer w session history cs (Load name lines) (answered a b) may same = absurd may
longer w session history cs (Load name lines) (refused_query a) may same = absurd may
longer w session history cs (Load name lines) (told a) may same = absurd may
longer w session history cs (Load name lines) (heard a) may same = absurd may
longer w session history cs (Query t) (loaded a b) may same = absurd may
longer w session history cs (Query t) (refused a) may same = absurd may
longer w session history cs (Query t) (told a) may same = absurd may
longer w session history cs (Query t) (heard a) may same = absurd may
longer w session history cs (Tell mark name) (loaded a b) may same = absurd may
longer w session history cs (Tell mark name) (refused a) may same = absurd may
longer w session history cs (Tell mark name) (answered a b) may same = absurd may
longer w session history cs (Tell mark name) (refused_query a) may same = absurd may
longer w session history cs (Tell mark name) (heard a) may same = absurd may
longer w session history cs (Hear mark name) (loaded a b) may same = absurd may
longer w session history cs (Hear mark name) (refused a) may same = absurd may
longer w session history cs (Hear mark name) (answered a b) may same = absurd may
longer w session history cs (Hear mark name) (refused_query a) may same = absurd may
longer w session history cs (Hear mark name) (told a) may same = absurd may

-- the changes so far stand first in what follows
begins : (cs : List Change) (ds : List Deed) → (more : List Change) × (changes_behind cs ds ≡ cs ++ more)
begins cs [] = ([], sym (append-nil cs))
begins cs (d ∷ ds) =
    let made = change_by cs d.session d.command d.result in
    let rest = begins (cs ++ made) ds in
    (made ++ rest.0, rest.1 ∙ append_assoc cs made rest.0)

front-of : (cs : List Change) (ds : List Deed) → take (length cs) (changes_behind cs ds) ≡ cs
front-of cs ds = let rest = begins cs ds in ap (take (length cs)) rest.1 ∙ take_at cs rest.0 (length cs) refl

-- the number of an event that is answered twice
number-same : (w : State) (e : Event) (k l : ℕ) → answer w e ∷ [] ≡ Some k ∷ [] → answer w e ∷ [] ≡ Some l ∷ [] → k ≡ l
number-same w e k l a b = same_Some k l (sym (first-same (answer w e) (Some k) [] [] a) ∙ first-same (answer w e) (Some l) [] [] b)

-- two answers of a query at one front, over histories that are the same up to there
answer-same : (cs one two : List Change) (t : List ℕ) (f g : ℕ) (a b : _) → take (length cs) one ≡ cs → take (length cs) two ≡ cs → f ≡ length cs → g ≡ length cs
    → IsAnswer one t f a → IsAnswer two t g b → answered f a ≡ answered g b
answer-same cs one two t f g a b begins_one begins_two at_one at_two is also =
    let docs_one : take f one ≡ cs = ap (λ n. take n one) at_one ∙ begins_one in
    let docs_two : take g two ≡ cs = ap (λ n. take n two) at_two ∙ begins_two in
    let docs = ap documents_in (docs_one ∙ sym docs_two) in
    ap₂ answered (at_one ∙ sym at_two)
    (is.answer_is ∙ ap (λ ds. query.answer ds is.query) docs ∙ asked-once t is.query also.query is.reads also.reads (documents_in (take g two)) ∙ sym also.answer_is)

-- What a command comes to is one: it has one number there, one reading, one answer and one fault.
result-same : (w : State) (session : ℕ) (cs one two : List Change) (c : Command) (r s : Record) → length w.history ≡ length cs → take (length cs) one ≡ cs → take (length cs) two ≡ cs
    → Answers w (event_of session c r) → Answers w (event_of session c s) → IsResult one c r → IsResult two c s → r ≡ s
result-same w session cs one two (Load name lines) (loaded k t) (loaded l u) long b1 b2 a1 a2 m1 m2 = ap₂ loaded (number-same w (event_kind.Change session) k l a1 a2) (read-unique lines t u m1 m2)
result-same w session cs one two (Load name lines) (loaded k t) (refused f) long b1 b2 a1 a2 m1 m2 =
    absurd (let d : ◌≡◌ {A = Option EsisFault} None (Some f) = sym (read-clean lines t m1).0 ∙ m2 in cc)
result-same w session cs one two (Load name lines) (refused f) (loaded k t) long b1 b2 a1 a2 m1 m2 =
    absurd (let d : ◌≡◌ {A = Option EsisFault} None (Some f) = sym (read-clean lines t m2).0 ∙ m1 in cc)
result-same w session cs one two (Load name lines) (refused f) (refused g) long b1 b2 a1 a2 m1 m2 = ap refused (same_Some f g (sym m1 ∙ m2))
result-same w session cs one two (Query t) (answered f a) (answered g b) long b1 b2 a1 a2 m1 m2 =
    let at_f = same_Some (length w.history) f (first-same (Some (length w.history)) (Some f) [] [] a1) in
    let at_g = same_Some (length w.history) g (first-same (Some (length w.history)) (Some g) [] [] a2) in
    answer-same cs one two t f g a b b1 b2 (sym at_f ∙ long) (sym at_g ∙ long) m1 m2
result-same w session cs one two (Query t) (refused_query f) (refused_query g) long b1 b2 a1 a2 m1 m2 = ap refused_query (refused-once t f g m1 m2)
result-same w session cs one two (Query t) (answered f a) (refused_query g) long b1 b2 a1 a2 m1 m2 = absurd (never-both t g (asked-clean t m1.query m1.reads) m2)
result-same w session cs one two (Query t) (refused_query f) (answered g b) long b1 b2 a1 a2 m1 m2 = absurd (never-both t f (asked-clean t m2.query m2.reads) m1)
result-same w session cs one two (Tell mark name) (told k) (told l) long b1 b2 a1 a2 m1 m2 = ap told (number-same w (event_kind.Tell session mark) k l a1 a2)
result-same w session cs one two (Hear mark name) (heard k) (heard l) long b1 b2 a1 a2 m1 m2 = ap heard (number-same w (event_kind.Hear session mark) k l a1 a2)
result-same w session cs one two (Load name lines) (answered g b) s long b1 b2 a1 a2 m1 m2 = absurd m1
result-same w session cs one two (Load name lines) (refused_query q) s long b1 b2 a1 a2 m1 m2 = absurd m1
result-same w session cs one two (Load name lines) (told l) s long b1 b2 a1 a2 m1 m2 = absurd m1
result-same w session cs one two (Load name lines) (heard i) s long b1 b2 a1 a2 m1 m2 = absurd m1
result-same w session cs one two (Load name lines) (loaded k t) (answered g2 b2x) long b1 b2 a1 a2 m1 m2 = absurd m2
result-same w session cs one two (Load name lines) (loaded k t) (refused_query q2) long b1 b2 a1 a2 m1 m2 = absurd m2
result-same w session cs one two (Load name lines) (loaded k t) (told l2) long b1 b2 a1 a2 m1 m2 = absurd m2
result-same w session cs one two (Load name lines) (loaded k t) (heard i2) long b1 b2 a1 a2 m1 m2 = absurd m2
result-same w session cs one two (Load name lines) (refused f) (answered g2 b2x) long b1 b2 a1 a2 m1 m2 = absurd m2
result-same w session cs one two (Load name lines) (refused f) (refused_query q2) long b1 b2 a1 a2 m1 m2 = absurd m2
result-same w session cs one two (Load name lines) (refused f) (told l2) long b1 b2 a1 a2 m1 m2 = absurd m2
result-same w session cs one two (Load name lines) (refused f) (heard i2) long b1 b2 a1 a2 m1 m2 = absurd m2
result-same w session cs one two (Query t0) (loaded k t) s long b1 b2 a1 a2 m1 m2 = absurd m1
result-same w session cs one two (Query t0) (refused f) s long b1 b2 a1 a2 m1 m2 = absurd m1
result-same w session cs one two (Query t0) (told l) s long b1 b2 a1 a2 m1 m2 = absurd m1
result-same w session cs one two (Query t0) (heard i) s long b1 b2 a1 a2 m1 m2 = absurd m1
result-same w session cs one two (Query t0) (answered g b) (loaded k2 t2) long b1 b2 a1 a2 m1 m2 = absurd m2
result-same w session cs one two (Query t0) (answered g b) (refused f2) long b1 b2 a1 a2 m1 m2 = absurd m2
result-same w session cs one two (Query t0) (answered g b) (told l2) long b1 b2 a1 a2 m1 m2 = absurd m2
result-same w session cs one two (Query t0) (answered g b) (heard i2) long b1 b2 a1 a2 m1 m2 = absurd m2
result-same w session cs one two (Query t0) (refused_query q) (loaded k2 t2) long b1 b2 a1 a2 m1 m2 = absurd m2
result-same w session cs one two (Query t0) (refused_query q) (refused f2) long b1 b2 a1 a2 m1 m2 = absurd m2
result-same w session cs one two (Query t0) (refused_query q) (told l2) long b1 b2 a1 a2 m1 m2 = absurd m2
result-same w session cs one two (Query t0) (refused_query q) (heard i2) long b1 b2 a1 a2 m1 m2 = absurd m2
result-same w session cs one two (Tell mark name) (loaded k t) s long b1 b2 a1 a2 m1 m2 = absurd m1
result-same w session cs one two (Tell mark name) (refused f) s long b1 b2 a1 a2 m1 m2 = absurd m1
result-same w session cs one two (Tell mark name) (answered g b) s long b1 b2 a1 a2 m1 m2 = absurd m1
result-same w session cs one two (Tell mark name) (refused_query q) s long b1 b2 a1 a2 m1 m2 = absurd m1
result-same w session cs one two (Tell mark name) (heard i) s long b1 b2 a1 a2 m1 m2 = absurd m1
result-same w session cs one two (Tell mark name) (told l) (loaded k2 t2) long b1 b2 a1 a2 m1 m2 = absurd m2
result-same w session cs one two (Tell mark name) (told l) (refused f2) long b1 b2 a1 a2 m1 m2 = absurd m2
result-same w session cs one two (Tell mark name) (told l) (answered g2 b2x) long b1 b2 a1 a2 m1 m2 = absurd m2
result-same w session cs one two (Tell mark name) (told l) (refused_query q2) long b1 b2 a1 a2 m1 m2 = absurd m2
result-same w session cs one two (Tell mark name) (told l) (heard i2) long b1 b2 a1 a2 m1 m2 = absurd m2
result-same w session cs one two (Hear mark name) (loaded k t) s long b1 b2 a1 a2 m1 m2 = absurd m1
result-same w session cs one two (Hear mark name) (refused f) s long b1 b2 a1 a2 m1 m2 = absurd m1
result-same w session cs one two (Hear mark name) (answered g b) s long b1 b2 a1 a2 m1 m2 = absurd m1
result-same w session cs one two (Hear mark name) (refused_query q) s long b1 b2 a1 a2 m1 m2 = absurd m1
result-same w session cs one two (Hear mark name) (told l) s long b1 b2 a1 a2 m1 m2 = absurd m1
result-same w session cs one two (Hear mark name) (heard i) (loaded k2 t2) long b1 b2 a1 a2 m1 m2 = absurd m2
result-same w session cs one two (Hear mark name) (heard i) (refused f2) long b1 b2 a1 a2 m1 m2 = absurd m2
result-same w session cs one two (Hear mark name) (heard i) (answered g2 b2x) long b1 b2 a1 a2 m1 m2 = absurd m2
result-same w session cs one two (Hear mark name) (heard i) (refused_query q2) long b1 b2 a1 a2 m1 m2 = absurd m2
result-same w session cs one two (Hear mark name) (heard i) (told l2) long b1 b2 a1 a2 m1 m2 = absurd m2

-- Two runs that are one so far are one.
same-from : (w : Workload) (pre ds es : List Deed)
    → map step_of ds ≡ map step_of es
    → AllByRecursion (λ d. command_at (commands_in w) (step_of d) ≡ Some d.command) ds → AllByRecursion (λ d. command_at (commands_in w) (step_of d) ≡ Some d.command) es
    → (one two : List Change) → changes_behind (history_of pre) ds ≡ one → changes_behind (history_of pre) es ≡ two
    → (v : State) → length v.history ≡ length (history_of pre) → Answers v (events_of ds) → Answers v (events_of es)
    → AllByRecursion (λ d. IsResult one d.command d.result) ds → AllByRecursion (λ d. IsResult two d.command d.result) es → ds ≡ es
same-from w pre [] [] order c1 c2 one two h1 h2 v long a1 a2 m1 m2 = refl
same-from w pre [] (e ∷ es) order c1 c2 one two h1 h2 v long a1 a2 m1 m2 = absurd (let d : ◌≡◌ {A = List Turnstep} [] (step_of e ∷ map step_of es) = order in cc)
same-from w pre (d ∷ ds) [] order c1 c2 one two h1 h2 v long a1 a2 m1 m2 = absurd (let e : ◌≡◌ {A = List Turnstep} (step_of d ∷ map step_of ds) [] = order in cc)
same-from w pre (d ∷ ds) (e ∷ es) order c1 c2 one two h1 h2 v long a1 a2 m1 m2 =
    let step : step_of d ≡ step_of e = cc in
    let rest : map step_of ds ≡ map step_of es = cc in
    let session : d.session ≡ e.session = ap (λ (s : Turnstep). s.session) step in
    let place : d.place ≡ e.place = ap (λ (s : Turnstep). s.command) step in
    let command : d.command ≡ e.command = same_Some d.command e.command (sym c1.0 ∙ ap (command_at (commands_in w)) step ∙ c2.0) in
    let cs = history_of pre in
    let x = answers-parts v (event_of d.session d.command d.result) (events_of ds) a1 in
    let y = answers-parts v (event_of e.session e.command e.result) (events_of es) a2 in
    let moved : Answers v (event_of d.session d.command e.result) = ap₂ (λ s c. run v (map event (event_of s c e.result))) session command ∙ y.0 ∙ ap₂ (λ s c. map number (event_of s c e.result)) (sym session) (sym command) in
    let may : IsResult two d.command e.result = subst (λ c. IsResult two c e.result) (sym command) m2.0 in
    let begins_one : take (length cs) one ≡ cs = ap (take (length cs)) (sym h1) ∙ front-of cs (d ∷ ds) in
    let begins_two : take (length cs) two ≡ cs = ap (take (length cs)) (sym h2) ∙ front-of cs (e ∷ es) in
    let result = result-same v d.session cs one two d.command d.result e.result long begins_one begins_two x.0 moved m1.0 may in
    let same : d ≡ e = deed d e session place command result in
    let next = pre ++ d ∷ [] in
    let more = changes_behind-append [] pre (d ∷ []) in
    let history = ap (λ ds'. changes_behind ds' ds) more ∙ h1 in
    let also = ap (λ ds'. changes_behind ds' es) more ∙ ap (λ (z : Deed). changes_behind (cs ++ change_by cs z.session z.command z.result) es) same ∙ h2 in
    let state = after_all v (map event (event_of d.session d.command d.result)) in
    let step_on : Answers state (events_of es) = subst (λ (z : Deed). Answers (after_all v (map event (event_of z.session z.command z.result))) (events_of es)) (sym same) y.1 in
    ap₂ (λ z zs. z ∷ zs) same
    (same-from w next ds es rest c1.1 c2.1 one two history also state (longer v d.session one cs d.command d.result m1.0 long ∙ ap length (sym more)) x.1 step_on m1.1 m2.1)
  where
    deed : (d e : Deed) → d.session ≡ e.session → d.place ≡ e.place → d.command ≡ e.command → d.result ≡ e.result → d ≡ e
    deed d e a b c r =
        ap₂ (λ (x y : ℕ). let z : Deed = record { session = x; place = y; command = d.command; result = d.result } in z) a b
        ∙ ap₂ (λ (x : Command) (y : Record). let z : Deed = record { session = e.session; place = e.place; command = x; result = y } in z) c r

-- A script has one run.
pub run-unique : (w : Workload) (ds es : List Deed) → IsRun w ds → IsRun w es → ds ≡ es
run-unique w ds es one two =
    same-from w [] ds es (one.order ∙ sym two.order) one.commands two.commands (history_of ds) (history_of es) refl refl (world_of w) refl one.numbers two.numbers one.results two.results

-- And so it has one transcript.
pub transcript-unique : (w : Workload) (t u : List ℕ) → IsTranscript w t → IsTranscript w u → t ≡ u
transcript-unique w t u one two = one.2 ∙ ap (transcript_of (length w.sessions.items)) (run-unique w one.0 two.0 one.1 two.1) ∙ sym two.2
