-- Commands done in any order in which they can be.
use Rattle.std.specs.Prelude.{◌≡◌, ℕ, true, List, ◌∷◌}
use Rattle.tb_script.specs.Rounds.{can_go, once_done}
use Rattle.tb_script.specs.declared.lined_command.LinedCommand.{LinedCommand}

-- one command is done, in any session
pub data Steps (told : List ℕ) : List (List LinedCommand) → List ℕ → List (List LinedCommand) → Type 0 where
  here : (t : LinedCommand) (ts : List LinedCommand) (ss : List (List LinedCommand)) → can_go told t.command ≡ true
      → Steps told ((t ∷ ts) ∷ ss) (once_done told t.command) (ts ∷ ss)
  there : {ss rs : List (List LinedCommand)} {told1 : List ℕ} (s : List LinedCommand) → Steps told ss told1 rs
      → Steps told (s ∷ ss) told1 (s ∷ rs)

-- some commands are done, one after the other
pub data Runs (told : List ℕ) (ss : List (List LinedCommand)) : List ℕ → List (List LinedCommand) → Type 0 where
  stop : Runs told ss told ss
  go : {told1 told2 : List ℕ} {rs us : List (List LinedCommand)} → Runs told ss told1 rs
      → Steps told1 rs told2 us → Runs told ss told2 us
