-- The words of the commands.
use Rattle.std.specs.Prelude.{◌≡◌, ℕ, List, [], ◌∷◌, map, codes, String, string_bytes}
use Rattle.std.specs.declared.alloc.Global.{Global}
use Rattle.tb_top.specs.declared.task.Task.{Task}
use Rattle.tb_top.specs.declared.task.Task.TheVariants as task

abbrev pub word_of : Task → List ℕ
word_of task.Single = codes "single"
word_of task.Check = codes "check"

-- the words are the command's word alone
abbrev pub Spells : Task → List (String Global) → Type 0
Spells t words = map string_bytes words ≡ word_of t ∷ []

-- the words are those of no command
abbrev pub SpellsNone : List (String Global) → Type 0
SpellsNone words = (t : Task) → Spells t words → ⊥
