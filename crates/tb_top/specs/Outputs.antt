-- What a script whose queries are built comes to: words of private clauses.
use Rattle.std.specs.Prelude.{ℕ, Bool, true, false, List, Option, Some, None}
use Rattle.std.proofs.Common.{Vec, Global}
use Rattle.std.specs.List.{AllByRecursion}
use Rattle.tb_script.specs.declared.command.Command.{Command}
use Rattle.tb_script.specs.declared.command.Workload.{Workload}
use Rattle.tb_top.specs.Check.{IsCheck}
use Rattle.tb_top.specs.Single.{IsBuilt, AreBuilt}
use Rattle.tb_top.specs.Pieces.{joined}

-- all queries are built, and this holds of the text; or not all are
abbrev pub ComesToText : Workload → (List ℕ → Type 0) → Option (Vec (Vec ℕ Global) Global) → Type 0
ComesToText w P (Some pieces) = AreBuilt w × P (joined pieces.items)
ComesToText w P None = AreBuilt w → ⊥

-- what is read is built, and this is done; or it isn't
abbrev pub Passes : Bool → Type 0 → Type 0 → Type 0
Passes true built done = built × done
Passes false built done = built → ⊥

-- what `check` prints of these commands, where their queries are built
abbrev pub ChecksTo : List (List Command) → Option (Vec ℕ Global) → Type 0
ChecksTo css (Some text) = AllByRecursion (AllByRecursion IsBuilt) css × IsCheck css text.items
ChecksTo css None = AllByRecursion (AllByRecursion IsBuilt) css → ⊥
