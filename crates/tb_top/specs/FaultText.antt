-- How faults are printed: the name of the variant in small letters with `-` between its words, and
-- the number of the line, of the token or of the byte, where the fault has one.
use Rattle.std.specs.Prelude.{ℕ, List, [], ◌++◌, Option, Some, None, codes, decimal}
use Rattle.tb_esis.specs.declared.fault.EsisFault.{EsisFault}
use Rattle.tb_esis.specs.declared.fault.EsisFault.TheVariants as esis
use Rattle.tb_script.specs.declared.fault.ScriptFault.{ScriptFault}
use Rattle.tb_script.specs.declared.fault.ScriptFault.TheVariants as script
use Rattle.tb_flwor.specs.declared.fault.QueryFault.{QueryFault}
use Rattle.tb_flwor.specs.declared.fault.QueryFault.TheVariants as query

abbrev pub esis_fault_name : EsisFault → List ℕ
esis_fault_name (esis.BadEscape line) = codes "bad-escape"
esis_fault_name (esis.BadName line) = codes "bad-name"
esis_fault_name (esis.BadAttribute line) = codes "bad-attribute"
esis_fault_name (esis.NoElement line) = codes "no-element"
esis_fault_name (esis.WrongEnd line) = codes "wrong-end"
esis_fault_name (esis.NotEnded line) = codes "not-ended"
esis_fault_name (esis.SecondRoot line) = codes "second-root"
esis_fault_name (esis.TextOutside line) = codes "text-outside"
esis_fault_name (esis.TooDeep line) = codes "too-deep"
-- want of memory is no fault of a body, and is printed nowhere
esis_fault_name esis.NoMemory = codes "no-memory"

abbrev pub esis_fault_line : EsisFault → ℕ
esis_fault_line (esis.BadEscape line) = line
esis_fault_line (esis.BadName line) = line
esis_fault_line (esis.BadAttribute line) = line
esis_fault_line (esis.NoElement line) = line
esis_fault_line (esis.WrongEnd line) = line
esis_fault_line (esis.NotEnded line) = line
esis_fault_line (esis.SecondRoot line) = line
esis_fault_line (esis.TextOutside line) = line
esis_fault_line (esis.TooDeep line) = line
esis_fault_line esis.NoMemory = 0

-- `FAULT L`
abbrev pub esis_fault_text : EsisFault → List ℕ
esis_fault_text fault = esis_fault_name fault ++ codes " " ++ decimal (esis_fault_line fault)

abbrev pub query_fault_name : QueryFault → List ℕ
query_fault_name query.TooLong = codes "too-long"
query_fault_name (query.BadByte at) = codes "bad-byte"
query_fault_name (query.OpenString at) = codes "open-string"
query_fault_name (query.Syntax token) = codes "syntax"
query_fault_name query.TooNested = codes "too-nested"
query_fault_name query.TooManyNodes = codes "too-many-nodes"
query_fault_name query.TooManyVariables = codes "too-many-variables"
query_fault_name (query.UnknownVariable token) = codes "unknown-variable"
query_fault_name (query.RepeatedVariable token) = codes "repeated-variable"
query_fault_name (query.LiteralPast token) = codes "literal-past"
query_fault_name (query.WrongTag token) = codes "wrong-tag"
query_fault_name (query.RepeatedAttribute token) = codes "repeated-attribute"
-- want of memory is no fault of a text, and is printed nowhere
query_fault_name query.NoMemory = codes "no-memory"

-- the number of its token, from 1, or of its byte, from 0
abbrev pub query_fault_number : QueryFault → Option ℕ
query_fault_number (query.BadByte at) = Some at
query_fault_number (query.OpenString at) = Some at
query_fault_number (query.Syntax token) = Some token
query_fault_number (query.UnknownVariable token) = Some token
query_fault_number (query.RepeatedVariable token) = Some token
query_fault_number (query.LiteralPast token) = Some token
query_fault_number (query.WrongTag token) = Some token
query_fault_number (query.RepeatedAttribute token) = Some token
query_fault_number _ = None

-- a number behind a blank, where there is one
abbrev pub number_text : Option ℕ → List ℕ
number_text None = []
number_text (Some number) = codes " " ++ decimal number

-- `FAULT`, or `FAULT N`
abbrev pub query_fault_text : QueryFault → List ℕ
query_fault_text fault = query_fault_name fault ++ number_text (query_fault_number fault)

-- `script L FAULT`
abbrev pub at_line : ℕ → List ℕ → List ℕ
at_line line name = codes "script " ++ decimal line ++ codes " " ++ name ++ codes "\n"

-- the line that a script's fault is answered with: `script L FAULT`, or `script input-too-long`
abbrev pub script_line : ScriptFault → List ℕ
script_line script.InputTooLong = codes "script input-too-long\n"
script_line (script.UnknownLine line) = at_line line (codes "unknown-line")
script_line (script.NoSession line) = at_line line (codes "no-session")
script_line (script.BadName line) = at_line line (codes "bad-name")
script_line (script.MarkTwice line) = at_line line (codes "mark-twice")
script_line (script.TooManySessions line) = at_line line (codes "too-many-sessions")
script_line (script.TooManyCommands line) = at_line line (codes "too-many-commands")
script_line (script.TooManyChanges line) = at_line line (codes "too-many-changes")
script_line (script.NotClosed line) = at_line line (codes "not-closed")
script_line (script.MarkUnknown line) = at_line line (codes "mark-unknown")
script_line (script.MarkStuck line) = at_line line (codes "mark-stuck")
script_line script.NoMemory = []
