-- What `check` prints: a line for each load whose body has a fault and each query whose text has one,
-- and the counts.
use Rattle.std.specs.Prelude.{◌≡◌, ℕ, ◌+◌, List, [], ◌∷◌, ◌++◌, Option, Some, None, codes, decimal, length}
use Rattle.tb_esis.specs.Faults.{fault_of}
use Rattle.tb_esis.specs.declared.fault.EsisFault.{EsisFault}
use Rattle.tb_flwor.specs.declared.fault.QueryFault.{QueryFault}
use Rattle.tb_script.specs.declared.command.Command.{Command}
use Rattle.tb_script.specs.declared.command.Command.TheVariants.{Load, Query}
use Rattle.tb_script.specs.Runnable.{loads_in}
use Rattle.tb_flwor.specs.Faults.{IsFaultOf}
use Rattle.tb_top.specs.FaultText.{esis_fault_text}
use Rattle.tb_top.specs.Transcript.{refused_query_line}

-- `S I load refused FAULT L`: the body of command I of session S, both from 1, has that fault
abbrev pub refused_load : ℕ → ℕ → EsisFault → List ℕ
refused_load session number fault =
    decimal session ++ codes " " ++ decimal number ++ codes " load refused " ++ esis_fault_text fault ++ codes "\n"

abbrev pub load_refusal : ℕ → ℕ → Option EsisFault → List ℕ
load_refusal session number None = []
load_refusal session number (Some fault) = refused_load session number fault

-- `S I query refused FAULT`, or `S I query refused FAULT N`: the text of the command has that fault
abbrev pub refused_query : ℕ → ℕ → QueryFault → List ℕ
refused_query session number fault = decimal session ++ codes " " ++ refused_query_line number fault

abbrev pub query_refusal : ℕ → ℕ → Option QueryFault → List ℕ
query_refusal session number None = []
query_refusal session number (Some fault) = refused_query session number fault

-- The line of a command that is refused, nothing of another. A text has one fault or none.
abbrev pub IsRefusal : ℕ → ℕ → Command → List ℕ → Type 0
IsRefusal session number (Load name lines) line =
    line ≡ load_refusal session number (fault_of lines)
IsRefusal session number (Query text) line =
    (fault : Option QueryFault) × IsFaultOf text fault × (line ≡ query_refusal session number fault)
IsRefusal session number _ line = line ≡ []

-- the lines of each, one behind the other; this holds of the lines of one and its number, and the
-- first has the number
abbrev pub AreLines : {X : Type 0} → (ℕ → X → List ℕ → Type 0) → ℕ → List X → List ℕ → Type 0
AreLines Is number [] lines = lines ≡ []
AreLines Is number (x ∷ xs) lines =
    (first : List ℕ) × (more : List ℕ) × (Is number x first × AreLines Is (number + 1) xs more × (lines ≡ first ++ more))

-- the refusals of a session's commands, and of all sessions
abbrev pub AreRefusals : ℕ → List Command → List ℕ → Type 0
AreRefusals session cs lines = AreLines (IsRefusal session) 1 cs lines

abbrev pub AreAllRefusals : List (List Command) → List ℕ → Type 0
AreAllRefusals css lines = AreLines AreRefusals 1 css lines

-- how many commands there are
abbrev pub commands_count : List (List Command) → ℕ
commands_count [] = 0
commands_count (cs ∷ css) = length cs + commands_count css

-- how many of them are queries
abbrev pub queries_of : List Command → ℕ
queries_of [] = 0
queries_of (Query text ∷ cs) = 1 + queries_of cs
queries_of (_ ∷ cs) = queries_of cs

abbrev pub queries_in : List (List Command) → ℕ
queries_in [] = 0
queries_in (cs ∷ css) = queries_of cs + queries_in css

-- `check sessions S commands C loads L queries Q`
abbrev pub counts_line : ℕ → ℕ → ℕ → ℕ → List ℕ
counts_line sessions commands loads queries =
    codes "check sessions " ++ decimal sessions ++ codes " commands " ++ decimal commands ++ codes " loads "
    ++ decimal loads ++ codes " queries " ++ decimal queries ++ codes "\n"

-- the counts of these sessions
abbrev pub counts_of : List (List Command) → List ℕ
counts_of sessions =
    counts_line (length sessions) (commands_count sessions) (loads_in sessions) (queries_in sessions)

-- the whole text
abbrev pub IsCheck : List (List Command) → List ℕ → Type 0
IsCheck sessions text =
    (refusals : List ℕ) × AreAllRefusals sessions refusals × (text ≡ refusals ++ counts_of sessions)
