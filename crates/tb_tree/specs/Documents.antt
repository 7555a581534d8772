-- Documents by their names.
use Rattle.std.specs.Prelude.{ℕ, if◌then◌else◌, List, [], ◌∷◌, Option, Some, None}
use Rattle.std.specs.Str.{bytes_eq}
use Rattle.tb_tree.specs.Plain.{Plain}

-- documents by their names, each by its root
abbrev pub Docs : Type 0
Docs = List (List ℕ × Plain)

-- the root of the document of the name, or none
abbrev pub found : List ℕ → Docs → Option Plain
found name [] = None
found name (d ∷ docs) = if bytes_eq name d.0 then Some d.1 else found name docs
