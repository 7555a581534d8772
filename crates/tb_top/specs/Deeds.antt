-- What the commands of a script come to.
use Rattle.std.specs.Prelude.{◌≡◌, ℕ, ◌+◌, ◌≤◌, List, [], ◌∷◌, ◌++◌, Option, Some, Ok, length}
use Rattle.std.specs.List.{flat_map}
use Rattle.tb_tree.specs.Plain.{Plain}
use Rattle.tb_esis.specs.Reading.{IsReadAs}
use Rattle.tb_esis.specs.Faults.{fault_of}
use Rattle.tb_esis.specs.declared.fault.EsisFault.{EsisFault}
use Rattle.tb_script.specs.declared.command.Command.{Command}
use Rattle.tb_script.specs.declared.command.Command.TheVariants as command
use Rattle.tb_flwor.specs.declared.fault.QueryFault.{QueryFault}
use Rattle.tb_core.specs.Replay.{NumberedEvent}
use Rattle.tb_core.specs.declared.event.Event.{Event}
use Rattle.tb_core.specs.declared.event.Event.TheVariants as event
use Rattle.tb_flwor.specs.Calls.{Reads}
use Rattle.tb_flwor.specs.Faults.{IsRefused}
use Rattle.tb_query.specs.Answer.{answer}
use Rattle.tb_query.specs.declared.query.Query.{Query}
use Rattle.tb_top.specs.History.{Change, count_of, documents_at}

-- what a command came to
pub data Record : Type 0 where
  -- a load: it is that change of the history, and its body is read as the tree
  loaded : ℕ → Plain → Record
  -- a load: its body has the fault
  refused : EsisFault → Record
  -- a query: answered over the first changes, so many, by the number of its trees and their lines, or by none
  -- where a sum is past the range of signed numbers of 128 bits
  answered : ℕ → Option (ℕ × List ℕ) → Record
  -- a query: its text has the fault
  refused_query : QueryFault → Record
  -- a `tell`: what its session had seen
  told : ℕ → Record
  -- a `hear`: what its session has then seen
  heard : ℕ → Record

-- a command of a session, both numbered from 0, and what it came to
pub record Deed : Type 0 where
  pub session : ℕ
  pub place : ℕ
  pub command : Command
  pub result : Record

abbrev pub numbered : Event → ℕ → List NumberedEvent
numbered e n = record { event = e; number = n } ∷ []

-- the event of a command, with its number; a load or a query that is refused has none
abbrev pub event_of : ℕ → Command → Record → List NumberedEvent
event_of session (command.Load name lines) (loaded k tree) = numbered (event.Change session) k
event_of session (command.Query text) (answered front answer) = numbered (event.Look session) front
event_of session (command.Tell mark name) (told k) = numbered (event.Tell session mark) k
event_of session (command.Hear mark name) (heard k) = numbered (event.Hear session mark) k
event_of session _ _ = []

abbrev pub events_of : List Deed → List NumberedEvent
events_of ds = flat_map (λ d. event_of d.session d.command d.result) ds

-- the change that a command made, behind these
abbrev pub change_by : List Change → ℕ → Command → Record → List Change
change_by cs session (command.Load name lines) (loaded k tree) =
    record { session = session; count = count_of session cs + 1; name = name; tree = tree } ∷ []
change_by cs session _ _ = []

-- the changes, these and those that the deeds made, in order
abbrev pub changes_behind : List Change → List Deed → List Change
changes_behind cs [] = cs
changes_behind cs (d ∷ ds) = changes_behind (cs ++ change_by cs d.session d.command d.result) ds

-- the history of the deeds
abbrev pub history_of : List Deed → List Change
history_of ds = changes_behind [] ds

-- What is answered of a text that has no fault, over the documents of a front.
pub record IsAnswer (history : List Change) (text : List ℕ) (front : ℕ) (answered : Option (ℕ × List ℕ)) : Type 0 where
  pub query : Query
  pub reads : Reads text (Ok query)
  pub within : front ≤ length history
  pub answer_is : answered ≡ answer (documents_at history front) query

-- What a command may come to, where this is the history: a load is accepted with the tree that its
-- body is read as, or refused with the first fault of it; a query is answered, or refused with the
-- first fault of its text.
abbrev pub IsResult : List Change → Command → Record → Type 0
IsResult history (command.Load name lines) (loaded k tree) = IsReadAs lines tree
IsResult history (command.Load name lines) (refused fault) = fault_of lines ≡ Some fault
IsResult history (command.Query text) (answered front answer) = IsAnswer history text front answer
IsResult history (command.Query text) (refused_query fault) = IsRefused text fault
IsResult history (command.Tell mark name) (told k) = Unit {0}
IsResult history (command.Hear mark name) (heard k) = Unit {0}
IsResult history _ _ = ⊥
