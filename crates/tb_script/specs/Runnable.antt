-- What a workload that is read meets, as the calls that run it ask for it.
use Rattle.std.specs.Prelude.{◌≡◌, ℕ, ◌+◌, ◌<◌, ◌≤◌, IsTrue, List, [], ◌∷◌, ◌++◌, length, map}
use Rattle.std.specs.List.{AllByRecursion, range_with_len}
use Rattle.tb_script.specs.Forms.{is_label}
use Rattle.tb_script.specs.Rounds.{left_at_end, numbered}
use Rattle.tb_script.specs.declared.command.Command.{Command}
use Rattle.tb_script.specs.declared.command.Command.TheVariants.{Load, Query, Tell, Hear}
use Rattle.tb_script.specs.declared.command.Workload.{Workload}

-- the commands of each session
abbrev pub commands_in : Workload → List (List Command)
commands_in w = map (λ s. s.commands.items) w.sessions.items

-- the name of a document or a mark is 1 to 64 letters, digits, `_`, `-` or `.`
abbrev pub IsNamed : Command → Type 0
IsNamed (Load name lines) = IsTrue (is_label name)
IsNamed (Query text) = Unit {0}
IsNamed (Tell mark name) = IsTrue (is_label name)
IsNamed (Hear mark name) = IsTrue (is_label name)

-- the body of a load has at most as many bytes as a script
abbrev pub HasBodyThatFits : Command → Type 0
HasBodyThatFits (Load name lines) = length lines ≤ 67108864
HasBodyThatFits _ = Unit {0}

-- the mark of a command, where it has one, has a smaller number
abbrev pub HasMarkBelow : ℕ → Command → Type 0
HasMarkBelow n (Tell mark name) = mark < n
HasMarkBelow n (Hear mark name) = mark < n
HasMarkBelow n _ = Unit {0}

-- how many loads there are
abbrev pub loads_of : List Command → ℕ
loads_of [] = 0
loads_of (Load name lines ∷ cs) = 1 + loads_of cs
loads_of (_ ∷ cs) = loads_of cs

abbrev pub loads_in : List (List Command) → ℕ
loads_in [] = 0
loads_in (cs ∷ css) = loads_of cs + loads_in css

-- the marks that are told, in order
abbrev pub tells_of : List Command → List ℕ
tells_of [] = []
tells_of (Tell mark name ∷ cs) = mark ∷ tells_of cs
tells_of (_ ∷ cs) = tells_of cs

abbrev pub tells_in : List (List Command) → List ℕ
tells_in [] = []
tells_in (cs ∷ css) = tells_of cs ++ tells_in css

-- no command is left of any session
abbrev pub AreThrough : List (List Command) → Type 0
AreThrough sessions = AllByRecursion (λ cs. cs ≡ []) sessions

-- At most 64 sessions of at most 10,000 commands, and 65,536 loads, whose bodies fit. Names are
-- names, marks have numbers below the count, each of these numbers is told once, in order, and the
-- rounds leave no command.
pub record AreRunnable (sessions : List (List Command)) (marks : ℕ) : Type 0 where
  pub sessions_fit : length sessions ≤ 64
  pub commands_fit : AllByRecursion (λ cs. length cs ≤ 10000) sessions
  pub loads_fit : loads_in sessions ≤ 65536
  pub bodies_fit : AllByRecursion (AllByRecursion HasBodyThatFits) sessions
  pub named : AllByRecursion (AllByRecursion IsNamed) sessions
  pub below : AllByRecursion (AllByRecursion (HasMarkBelow marks)) sessions
  pub told : tells_in sessions ≡ range_with_len 0 marks
  pub through : AreThrough (map (map (λ t. t.command)) (left_at_end (map (numbered 0) sessions)))

abbrev pub IsRunnable : Workload → Type 0
IsRunnable w = AreRunnable (commands_in w) w.marks
