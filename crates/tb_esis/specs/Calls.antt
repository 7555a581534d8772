-- What the calls answer.
use Rattle.std.specs.Prelude.{◌≡◌, ℕ, ⊤, List, Some, Result, Ok, Err}
use Rattle.tb_tree.specs.View.{plain_of}
use Rattle.tb_tree.specs.declared.node.Node.{Node}
use Rattle.tb_esis.specs.Reading.{IsReadAs}
use Rattle.tb_esis.specs.Faults.{fault_of}
use Rattle.tb_esis.specs.declared.fault.EsisFault.{EsisFault}
use Rattle.tb_esis.specs.declared.fault.EsisFault.TheVariants.{NoMemory}

-- nothing is said where memory was refused
abbrev pub UnlessMemory : EsisFault → Type 0 → Type 0
UnlessMemory NoMemory P = ⊤
UnlessMemory _ P = P

-- the tree that the bytes are read as, or their first fault
abbrev pub Reads : List ℕ → Result Node EsisFault → Type 0
Reads bytes (Ok tree) = IsReadAs bytes (plain_of tree)
Reads bytes (Err fault) = UnlessMemory fault (fault_of bytes ≡ Some fault)
