-- Names and steps that are shared, as lists and paths without that.
use Rattle.std.specs.Prelude.{ℕ, List, flat_map, Option, Some, None}
use Rattle.std.specs.Global.{Global}
use Rattle.std.specs.declared.rc.Rc.{Rc}
use Rattle.tb_query.specs.declared.path.Step.{Step}
use Rattle.tb_query.specs.declared.path.Start.{Start}
use Rattle.tb_query.specs.declared.path.Start.TheVariants.{Document, Var}

-- steps that stand in parts
abbrev pub parts_of : List (Rc (List Step) Global) → List Step
parts_of = flat_map (λ part. part.value)

-- a start at the document of the name, or at the variable where there is none
abbrev pub start_of : Option (List ℕ) → ℕ → Start
start_of None var = Var var
start_of (Some name) var = Document name

-- the variable at which a path starts that starts at none of a document
abbrev pub variable_of : Start → Option ℕ
variable_of (Document name) = None
variable_of (Var var) = Some var
