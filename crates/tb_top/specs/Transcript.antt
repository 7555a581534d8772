-- The text of a transcript.
use Rattle.std.specs.Prelude.{ℕ, ◌+◌, ◌==◌, List, [], ◌∷◌, ◌++◌, Option, Some, None, codes, decimal, length}
use Rattle.std.specs.List.{flat_map, filter, range_with_len}
use Rattle.tb_esis.specs.declared.fault.EsisFault.{EsisFault}
use Rattle.tb_flwor.specs.declared.fault.QueryFault.{QueryFault}
use Rattle.tb_script.specs.declared.command.Command.{Command}
use Rattle.tb_script.specs.declared.command.Command.TheVariants.{Load, Query, Tell, Hear}
use Rattle.tb_top.specs.FaultText.{esis_fault_text, query_fault_text}
use Rattle.tb_top.specs.History.{Change}
use Rattle.tb_top.specs.Deeds.{Record, loaded, refused, answered, refused_query, told, heard, Deed, history_of}

-- `I load NAME at K`: command I loaded a document, as change K of the history
abbrev pub load_line : ℕ → List ℕ → ℕ → List ℕ
load_line number name change =
    decimal number ++ codes " load " ++ name ++ codes " at " ++ decimal change ++ codes "\n"

-- `I load refused FAULT L`: its body has that fault
abbrev pub refused_line : ℕ → EsisFault → List ℕ
refused_line number fault =
    decimal number ++ codes " load refused " ++ esis_fault_text fault ++ codes "\n"

-- `I query front K trees T`: command I was answered over the first K changes, by T trees
abbrev pub answered_line : ℕ → ℕ → ℕ → List ℕ
answered_line number front trees =
    decimal number ++ codes " query front " ++ decimal front ++ codes " trees " ++ decimal trees ++ codes "\n"

-- `I query refused FAULT`, or `I query refused FAULT N`: its text has that fault
abbrev pub refused_query_line : ℕ → QueryFault → List ℕ
refused_query_line number fault =
    decimal number ++ codes " query refused " ++ query_fault_text fault ++ codes "\n"

-- `I tell MARK front K` and `I hear MARK front K`: the session had seen, or has then seen, K
-- changes
abbrev pub told_line : ℕ → List ℕ → ℕ → List ℕ
told_line number name front =
    decimal number ++ codes " tell " ++ name ++ codes " front " ++ decimal front ++ codes "\n"

abbrev pub heard_line : ℕ → List ℕ → ℕ → List ℕ
heard_line number name front =
    decimal number ++ codes " hear " ++ name ++ codes " front " ++ decimal front ++ codes "\n"

-- `I query front K refused past-128-bits`: over the first K changes a sum of command I is past the range
abbrev pub past_line : ℕ → ℕ → List ℕ
past_line number front =
    decimal number ++ codes " query front " ++ decimal front ++ codes " refused past-128-bits\n"

-- the block of a query: its line, the lines of its trees, and a line `.`; or that one line
abbrev pub query_block : ℕ → ℕ → Option (ℕ × List ℕ) → List ℕ
query_block number front (Some answer) =
    answered_line number front answer.0 ++ answer.1 ++ codes ".\n"
query_block number front None = past_line number front

-- the block of a command, numbered from 1 in its session, by what it came to
abbrev pub block_of : ℕ → Command → Record → List ℕ
block_of number (Load name lines) (loaded k tree) = load_line number name k
block_of number (Load name lines) (refused fault) = refused_line number fault
block_of number (Query text) (answered front answer) = query_block number front answer
block_of number (Query text) (refused_query fault) = refused_query_line number fault
block_of number (Tell mark name) (told k) = told_line number name k
block_of number (Hear mark name) (heard k) = heard_line number name k
block_of number _ _ = []

-- the blocks of a session, in the order in which its commands were done
abbrev pub blocks_of : ℕ → List Deed → List ℕ
blocks_of session ds =
    flat_map (λ d. block_of (d.place + 1) d.command d.result) (filter (λ d. d.session == session) ds)

-- `session N` and `end` around the blocks of the session, which is numbered from 1 here and from 0
-- else
abbrev pub session_part : ℕ → List Deed → List ℕ
session_part session ds =
    codes "session " ++ decimal (session + 1) ++ codes "\n" ++ blocks_of session ds ++ codes "end\n"

-- `K session S change C load NAME`: change K of the history is the load of that name, which is the
-- C-th accepted one of session S
abbrev pub history_line : ℕ → Change → List ℕ
history_line number change =
    decimal number ++ codes " session " ++ decimal (change.session + 1) ++ codes " change "
    ++ decimal change.count ++ codes " load " ++ change.name ++ codes "\n"

-- the lines of changes, the first of which has the number
abbrev pub history_lines : ℕ → List Change → List ℕ
history_lines number [] = []
history_lines number (c ∷ cs) = history_line number c ++ history_lines (number + 1) cs

-- `history H`, a line for each change, and `ok`
abbrev pub history_part : List Change → List ℕ
history_part history =
    codes "history " ++ decimal (length history) ++ codes "\n" ++ history_lines 1 history ++ codes "ok\n"

-- the transcript of so many sessions: a part for each, and the history
abbrev pub transcript_of : ℕ → List Deed → List ℕ
transcript_of sessions ds =
    flat_map (λ session. session_part session ds) (range_with_len 0 sessions) ++ history_part (history_of ds)
