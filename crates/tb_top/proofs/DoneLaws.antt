-- What is done of a script: the deeds so far, one more, and the transcript of all.
use Rattle.std.proofs.Common.{◌≡◌, ℕ, ◌+◌, ◌<◌, ◌==◌, ◌⊎◌, inl, inr, Bool, true, false, cond, Some, List, [], ◌∷◌, ◌++◌, map, length, get_or, set, codes, refl, sym, ap, ap₂, ◌∙◌, subst, arith, append-nil, append_assoc, eqb-true, eq-eqb}
use Rattle.std.specs.List.{AllByRecursion, flat_map, filter, range_with_len}
use Rattle.std.proofs.lemmas.Bool.{cases_eq, false_from_ne_true}
use Rattle.std.proofs.lemmas.List.{map-append, length-append, length-set, get_or-set_same, get_or-set_other, ext_get_or, take-append-le}
use Rattle.std.proofs.lemmas.List.Concat.{flat_map-append}
use Rattle.std.proofs.lemmas.List.Elements.{filter-append}
use Rattle.std.proofs.lemmas.List.Folds.{flat_map-map}
use Rattle.std.proofs.lemmas.List.FromFn.{length-map-range_with_len, get_or-map-range_with_len}
use Rattle.tb_tree.proofs.lists.Alls.{all-append, all-weaker}
use Rattle.tb_script.specs.Runnable.{commands_in}
use Rattle.tb_script.specs.Schedule.{schedule_of, command_at}
use Rattle.tb_script.specs.declared.command.Command.{Command}
use Rattle.tb_script.specs.declared.command.Command.TheVariants.{Load, Query, Tell, Hear}
use Rattle.tb_script.specs.declared.command.Workload.{Workload}
use Rattle.tb_script.specs.declared.turnstep.Turnstep.{Turnstep}
use Rattle.tb_core.specs.World.{State, answer, after, run, after_all}
use Rattle.tb_core.specs.Replay.{NumberedEvent}
use Rattle.tb_core.specs.declared.event.Event.{Event}
use Rattle.tb_query.specs.Answer as query
use Rattle.tb_top.specs.History.{Change, documents_in}
use Rattle.tb_top.specs.Deeds.{Record, loaded, refused, answered, refused_query, told, heard, Deed, event_of, events_of, change_by, changes_behind, history_of, IsAnswer, IsResult}
use Rattle.tb_top.specs.Single.{step_of, world_of, IsBuilt, AreBuilt, IsRun, IsTranscript}
use Rattle.tb_top.specs.Transcript.{block_of, blocks_of, history_part}
use Rattle.tb_top.specs.Running.{Progress, Does, begun, at_start, ended}
use Rattle.tb_tree.proofs.lists.Maps.{map-alike}

-- the answers of events, and what they leave, one after the other
pub run-append : (w : State) (es fs : List Event) → run w (es ++ fs) ≡ run w es ++ run (after_all w es) fs
run-append w [] fs = refl
run-append w (e ∷ es) fs = ap (λ os. answer w e ∷ os) (run-append (after w e) es fs)

pub after_all-append : (w : State) (es fs : List Event) → after_all w (es ++ fs) ≡ after_all (after_all w es) fs
after_all-append w [] fs = refl
after_all-append w (e ∷ es) fs = after_all-append (after w e) es fs

pub changes_behind-append : (cs : List Change) (ds es : List Deed) → changes_behind cs (ds ++ es) ≡ changes_behind (changes_behind cs ds) es
changes_behind-append cs [] es = refl
changes_behind-append cs (d ∷ ds) es = changes_behind-append (cs ++ change_by cs d.session d.command d.result) ds es

-- the events of one deed more
events-more : (ds : List Deed) (d : Deed) → events_of (ds ++ d ∷ []) ≡ events_of ds ++ event_of d.session d.command d.result
events-more ds d =
    flat_map-append (λ (x : Deed). event_of x.session x.command x.result) ds (d ∷ [])
    ∙ ap (λ l. events_of ds ++ l) (append-nil (event_of d.session d.command d.result))

-- a history that goes on keeps the documents of its fronts
answer-stays : (history more : List Change) (text : List ℕ) (front : ℕ) (answer : _) → IsAnswer history text front answer → IsAnswer (history ++ more) text front answer
answer-stays history more text front answer is =
    record {
      query = is.query;
      reads = is.reads;
      within = omega (arith, is.within, length-append history more);
      answer_is = is.answer_is ∙ ap (λ cs. query.answer (documents_in cs) is.query) (sym (take-append-le front history more is.within));
    }

pub result-stays : (history more : List Change) (c : Command) (r : Record) → IsResult history c r → IsResult (history ++ more) c r
result-stays history more (Query text) (answered front answer) is = answer-stays history more text front answer is
result-stays history more (Query text) (refused_query fault) is = is
result-stays history more (Load name lines) (loaded k tree) is = is
result-stays history more (Load name lines) (refused fault) is = is
result-stays history more (Tell mark name) (told k) is = is
result-stays history more (Hear mark name) (heard k) is = is
result-stays history more _ _ is = is

-- the blocks of a session behind one deed more
one_block : (d : Deed) (mine : Bool) → flat_map (λ (x : Deed). block_of (x.place + 1) x.command x.result) (cond mine (d ∷ []) []) ≡ cond mine (block_of (d.place + 1) d.command d.result) []
one_block d true = append-nil (block_of (d.place + 1) d.command d.result)
one_block d false = refl

blocks-more : (session : ℕ) (ds : List Deed) (d : Deed) → blocks_of session (ds ++ d ∷ []) ≡ blocks_of session ds ++ cond (d.session == session) (block_of (d.place + 1) d.command d.result) []
blocks-more session ds d =
    let block = λ (x : Deed). block_of (x.place + 1) x.command x.result in
    let mine = λ (x : Deed). x.session == session in
    ap (flat_map block) (filter-append mine ds (d ∷ [])) ∙ flat_map-append block (filter mine ds) (filter mine (d ∷ []))
    ∙ ap (λ l. blocks_of session ds ++ l) (one_block d (d.session == session))

-- the part of a session so far
abbrev pub part_of : List Deed → ℕ → List ℕ
part_of ds session = begun session ++ blocks_of session ds

abbrev pub parts_of : ℕ → List Deed → List (List ℕ)
parts_of n ds = map (part_of ds) (range_with_len 0 n)

part-more : (ds : List Deed) (d : Deed) (session : ℕ) → part_of (ds ++ d ∷ []) session ≡ part_of ds session ++ cond (d.session == session) (block_of (d.place + 1) d.command d.result) []
part-more ds d session = ap (λ l. begun session ++ l) (blocks-more session ds d) ∙ sym (append_assoc (begun session) (blocks_of session ds) _)

-- one deed more makes the part of its session longer, and leaves the others
parts-more : (n : ℕ) (ds : List Deed) (d : Deed) → d.session < n
    → set (parts_of n ds) d.session (get_or (parts_of n ds) d.session [] ++ block_of (d.place + 1) d.command d.result) ≡ parts_of n (ds ++ d ∷ [])
parts-more n ds d within =
    let old = parts_of n ds in
    let block = block_of (d.place + 1) d.command d.result in
    let new = set old d.session (get_or old d.session [] ++ block) in
    let long : length old ≡ n = length-map-range_with_len (part_of ds) 0 n in
    let len : length new ≡ n = length-set old d.session _ ∙ long in
    ext_get_or [] new (parts_of n (ds ++ d ∷ [])) (len ∙ sym (length-map-range_with_len (part_of (ds ++ d ∷ [])) 0 n))
    (λ i less. by i (omega (arith, less, len)) (cases_eq d.session i))
  where
    read : (es : List Deed) (i : ℕ) → i < n → get_or (parts_of n es) i [] ≡ part_of es i
    read es i less = get_or-map-range_with_len (part_of es) 0 n i i [] less (omega arith)

    mine : (i : ℕ) → d.session ≡ i → (d.session == i) ≡ true
    mine i same = eq-eqb d.session i same

    by : (i : ℕ) → i < n → (d.session ≡ i) ⊎ (d.session ≡ i → ⊥)
        → get_or (set (parts_of n ds) d.session (get_or (parts_of n ds) d.session [] ++ block_of (d.place + 1) d.command d.result)) i [] ≡ get_or (parts_of n (ds ++ d ∷ [])) i []
    by i less (inl same) =
        let block = block_of (d.place + 1) d.command d.result in
        let old = parts_of n ds in
        subst (λ j. get_or (set old d.session (get_or old d.session [] ++ block)) j [] ≡ part_of ds j ++ block) same
        (get_or-set_same old d.session (get_or old d.session [] ++ block) [] (omega (arith, within, length-map-range_with_len (part_of ds) 0 n)) ∙ ap (λ l. l ++ block) (read ds d.session within))
        ∙ sym (read (ds ++ d ∷ []) i less ∙ part-more ds d i ∙ ap (λ b. part_of ds i ++ cond b block []) (mine i same))
    by i less (inr other) =
        let block = block_of (d.place + 1) d.command d.result in
        let old = parts_of n ds in
        get_or-set_other old d.session i (get_or old d.session [] ++ block) [] (λ e. other (sym e)) ∙ read ds i less
        ∙ sym (read (ds ++ d ∷ []) i less ∙ part-more ds d i ∙ ap (λ b. part_of ds i ++ cond b block []) (false_from_ne_true (d.session == i) (λ t. other (eqb-true d.session i t))) ∙ append-nil (part_of ds i))

-- what the deeds of these steps leave
pub record Done (w : Workload) (steps : List Turnstep) (p : Progress) : Type 0 where
  pub ds : List Deed
  pub order : map step_of ds ≡ steps
  pub commands : AllByRecursion (λ d. command_at (commands_in w) (step_of d) ≡ Some d.command) ds
  pub built : AllByRecursion (λ d. IsBuilt d.command) ds
  pub numbers : run (world_of w) (map (λ x. x.event) (events_of ds)) ≡ map (λ x. Some x.number) (events_of ds)
  pub results : AllByRecursion (λ d. IsResult (history_of ds) d.command d.result) ds
  pub world_is : p.world ≡ after_all (world_of w) (map (λ x. x.event) (events_of ds))
  pub changes_are : p.changes ≡ history_of ds
  pub sessions_are : p.sessions ≡ length w.sessions.items
  pub parts_are : p.parts ≡ parts_of (length w.sessions.items) ds

pub done-start : (w : Workload) → Done w [] (at_start w)
done-start w =
    record {
      ds = [];
      order = refl;
      commands = tt;
      built = tt;
      numbers = refl;
      results = tt;
      world_is = refl;
      changes_are = refl;
      sessions_are = refl;
      parts_are = map-alike begun (part_of []) (λ session. sym (append-nil (begun session))) (range_with_len 0 (length w.sessions.items));
    }

-- One command more is done.
pub done-more : (w : Workload) (steps : List Turnstep) (p q : Progress) (step : Turnstep) (c : Command) → Done w steps p → command_at (commands_in w) step ≡ Some c → step.session < p.sessions
    → Does step c p q → Done w (steps ++ step ∷ []) q
done-more w steps p q step c done is within does =
    let d : Deed = record { session = step.session; place = step.command; command = c; result = does.result } in
    let more = event_of step.session c does.result in
    let event = λ (x : NumberedEvent). x.event in
    let old = map event (events_of done.ds) in
    let history = history_of done.ds in
    let events : events_of (done.ds ++ d ∷ []) ≡ events_of done.ds ++ more = events-more done.ds d in
    let named : map event (events_of (done.ds ++ d ∷ [])) ≡ old ++ map event more = ap (map event) events ∙ map-append event (events_of done.ds) more in
    let longer : history_of (done.ds ++ d ∷ []) ≡ history ++ change_by history step.session c does.result = changes_behind-append [] done.ds (d ∷ []) in
    let answers : run (after_all (world_of w) old) (map event more) ≡ map (λ x. Some x.number) more =
    ap (λ v. run v (map event more)) (sym done.world_is) ∙ does.numbers in
    let made : List Change = change_by history step.session c does.result in
    let may : IsResult history c does.result = subst (λ cs. IsResult cs c does.result) done.changes_are does.may in
    record {
      ds = done.ds ++ d ∷ [];
      order = map-append step_of done.ds (d ∷ []) ∙ ap (λ l. l ++ step ∷ []) done.order;
      commands = all-append _ done.ds (d ∷ []) done.commands (is, tt);
      built = all-append _ done.ds (d ∷ []) done.built (does.built, tt);
      numbers =
          ap (run (world_of w)) named ∙ run-append (world_of w) old (map event more) ∙ ap₂ (λ a b. a ++ b) done.numbers answers
          ∙ sym (map-append (λ (x : NumberedEvent). Some x.number) (events_of done.ds) more) ∙ ap (map (λ x. Some x.number)) (sym events);
      results =
          subst (λ cs. AllByRecursion (λ x. IsResult cs x.command x.result) (done.ds ++ d ∷ [])) (sym longer)
          (all-append _ done.ds (d ∷ []) (all-weaker _ _ done.ds (λ x r. result-stays history made x.command x.result r) done.results) (result-stays history made c does.result may, tt));
      world_is =
          ap (λ x. x.world) does.left ∙ ap (λ v. after_all v (map event more)) done.world_is ∙ sym (after_all-append (world_of w) old (map event more)) ∙ ap (after_all (world_of w)) (sym named);
      changes_are =
          ap (λ x. x.changes) does.left ∙ ap (λ cs. cs ++ change_by cs step.session c does.result) done.changes_are ∙ sym longer;
      sessions_are = ap (λ x. x.sessions) does.left ∙ done.sessions_are;
      parts_are =
          ap (λ x. x.parts) does.left ∙ ap (λ ps. set ps step.session (get_or ps step.session [] ++ block_of (step.command + 1) c does.result)) done.parts_are
          ∙ parts-more (length w.sessions.items) done.ds d (subst (λ n. step.session < n) done.sessions_are within);
    }

-- what is done of all commands is a run
pub done-run : (w : Workload) (p : Progress) (done : Done w (schedule_of (commands_in w)) p) → IsRun w done.ds
done-run w p done = record { order = done.order; commands = done.commands; numbers = done.numbers; results = done.results }

-- The parts with their ends, and the history, are the transcript.
pub done-transcript : (w : Workload) (p : Progress) → Done w (schedule_of (commands_in w)) p → IsTranscript w (ended p)
done-transcript w p done =
    let n = length w.sessions.items in (
      done.ds,
      done-run w p done,
      ap₂ (λ ps cs. flat_map (λ part. part ++ codes "end\n") ps ++ history_part cs) done.parts_are done.changes_are
          ∙ ap (λ l. l ++ history_part (history_of done.ds)) (flat_map-map (λ part. part ++ codes "end\n") (part_of done.ds) (range_with_len 0 n)),
    )
