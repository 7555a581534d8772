-- The number that the program ends with, for each status.
use Rattle.std.specs.Prelude.{ℕ}
use Rattle.tb_top.specs.declared.status.Status.{Status}
use Rattle.tb_top.specs.declared.status.Status.TheVariants as status

abbrev pub code_of : Status → ℕ
code_of status.Ok = 0
code_of status.Words = 2
code_of status.ReadFault = 3
code_of (status.Script fault) = 4
code_of status.WriteFault = 5
code_of status.Memory = 6
code_of status.NotBuilt = 9
