-- One command more: what it leaves, and that it was done.
use Rattle.std.proofs.Common.{◌≡◌, ℕ, ◌+◌, ◌<◌, List, [], ◌∷◌, ◌++◌, Vec, Global, map, length, get_or, set, Some, sym, ap, ◌∙◌, append-nil, arith}
use Rattle.std.proofs.lemmas.List.{length-map, map-set, get_or-map}
use Rattle.tb_tree.specs.Plain.{Plain}
use Rattle.tb_esis.specs.Reading.{IsReadAs}
use Rattle.tb_script.specs.declared.command.Command.{Command}
use Rattle.tb_script.specs.declared.command.Command.TheVariants as command
use Rattle.tb_script.specs.declared.turnstep.Turnstep.{Turnstep}
use Rattle.tb_core.specs.World.{State, answer, after, run, after_all}
use Rattle.tb_core.specs.declared.event.Event.TheVariants as event
use Rattle.tb_top.specs.History.{Change, count_of}
use Rattle.tb_top.specs.Deeds.{Record, loaded, event_of, change_by, IsResult}
use Rattle.tb_top.specs.Single.{IsBuilt}
use Rattle.tb_top.specs.Transcript.{block_of}
use Rattle.tb_top.specs.Running.{Progress, progress_of, behind, Stands, Does}
use Rattle.tb_top.specs.declared.running.Running as running_code

abbrev Part : Type 0
Part = Vec ℕ Global

abbrev texts : List Part → List (List ℕ)
texts parts = map (λ part. part.items) parts

-- a session that is there has its part
pub part-within : (r : running_code.Running) (step : Turnstep) → Stands (progress_of r) step → step.session < length r.parts.items
part-within r step stands = omega (arith, stands.session, stands.parts, length-map r.parts.items (λ part. part.items))

-- one of the parts grows
pub part-grows : (parts : List Part) (at : ℕ) (part new : Part) (more : List ℕ) → at < length parts → part ≡ get_or parts at part → new.items ≡ part.items ++ more
    → texts (set parts at new) ≡ set (texts parts) at (get_or (texts parts) at [] ++ more)
part-grows parts at part new more within is grown =
    let read : get_or (texts parts) at [] ≡ part.items = get_or-map (λ p. p.items) parts at part [] within ∙ ap (λ p. p.items) (sym is) in
    map-set (λ p. p.items) parts at new ∙ ap (set (texts parts) at) (grown ∙ ap (λ t. t ++ more) (sym read))

same : (p : Progress) (world : State) (changes : List Change) (sessions : ℕ) (parts : List (List ℕ)) → p.world ≡ world → p.changes ≡ changes → p.sessions ≡ sessions → p.parts ≡ parts
    → p ≡ record { world = world; changes = changes; sessions = sessions; parts = parts }
same p world changes sessions parts a b c d =
    ap (λ (x : State). let q : Progress = record { world = x; changes = p.changes; sessions = p.sessions; parts = p.parts } in q) a
    ∙ ap (λ (x : List Change). let q : Progress = record { world = world; changes = x; sessions = p.sessions; parts = p.parts } in q) b
    ∙ ap (λ (x : ℕ). let q : Progress = record { world = world; changes = changes; sessions = x; parts = p.parts } in q) c
    ∙ ap (λ (x : List (List ℕ)). let q : Progress = record { world = world; changes = changes; sessions = sessions; parts = x } in q) d

-- a command with an event that makes no change
pub does-look : (step : Turnstep) (c : Command) (r : Record) (old new : Progress) → IsBuilt c → change_by old.changes step.session c r ≡ []
    → run old.world (map (λ x. x.event) (event_of step.session c r)) ≡ map (λ x. Some x.number) (event_of step.session c r)
    → IsResult old.changes c r → new.world ≡ after_all old.world (map (λ x. x.event) (event_of step.session c r))
    → new.changes ≡ old.changes → new.sessions ≡ old.sessions
    → new.parts ≡ set old.parts step.session (get_or old.parts step.session [] ++ block_of (step.command + 1) c r) → Does step c old new
does-look step c r old new built none numbers may world changes sessions parts =
    let unchanged : new.changes ≡ old.changes ++ change_by old.changes step.session c r = changes ∙ sym (ap (λ l. old.changes ++ l) none ∙ append-nil old.changes) in
    let left : new ≡ behind old step c r = same new _ _ _ _ world unchanged sessions parts in
    record { built = built; result = r; numbers = numbers; may = may; left = left }

-- a load that is accepted
pub does-load : (step : Turnstep) (name lines : List ℕ) (k : ℕ) (tree : Plain) (old new : Progress) → answer old.world (event.Change step.session) ≡ Some k
    → IsReadAs lines tree → new.world ≡ after old.world (event.Change step.session)
    → new.changes ≡ old.changes ++ record { session = step.session; count = count_of step.session old.changes + 1; name = name; tree = tree } ∷ []
    → new.sessions ≡ old.sessions
    → new.parts ≡ set old.parts step.session (get_or old.parts step.session [] ++ block_of (step.command + 1) (command.Load name lines) (loaded k tree))
    → Does step (command.Load name lines) old new
does-load step name lines k tree old new number read world changes sessions parts =
    let left : new ≡ behind old step (command.Load name lines) (loaded k tree) = same new _ _ _ _ world changes sessions parts in
    record { built = tt; result = loaded k tree; numbers = ap (λ o. o ∷ []) number; may = read; left = left }
