-- What the calls answer.
use Rattle.std.specs.Prelude.{List, Result, Ok, Err, ⊤}
use Rattle.tb_token.specs.grammar.Grammar.{Tok}
use Rattle.tb_pattern.specs.Faults.{HasFault, HasNoFault}
use Rattle.tb_pattern.specs.Value.{AskFor}
use Rattle.tb_pattern.specs.View.{edges_of}
use Rattle.tb_pattern.specs.declared.fault.PatternFault.{PatternFault}
use Rattle.tb_pattern.specs.declared.pattern.Pattern.{Pattern}

-- whether the tokens are a query without fault
abbrev pub Tested : List Tok → Result (⊤) PatternFault → Type 0
Tested s (Ok done) = HasNoFault s
Tested s (Err f) = HasFault s f

-- the pattern that the tokens ask for, where they are a query without fault, or their first fault
abbrev pub Reads : List Tok → Result Pattern PatternFault → Type 0
Reads s (Ok p) = HasNoFault s × AskFor s p.document (edges_of p.edges)
Reads s (Err f) = HasFault s f
