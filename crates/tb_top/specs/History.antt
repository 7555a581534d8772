-- The history of a script's loads, and the documents of a front.
use Rattle.std.specs.Prelude.{ℕ, ◌+◌, ◌==◌, if◌then◌else◌, List, [], ◌∷◌, ◌++◌, take}
use Rattle.tb_tree.specs.Documents.{Docs}
use Rattle.tb_tree.specs.Plain.{Plain}

-- A load that was accepted: its session, from 0, which of the session's accepted loads it is, from
-- 1, the document's name, and the tree that its body is read as.
pub record Change : Type 0 where
  pub session : ℕ
  pub count : ℕ
  pub name : List ℕ
  pub tree : Plain

-- how many of the changes are the session's
abbrev pub count_of : ℕ → List Change → ℕ
count_of session [] = 0
count_of session (c ∷ cs) =
    if c.session == session then count_of session cs + 1 else count_of session cs

-- The documents that changes leave, the oldest change standing first: those of later changes come first, so
-- that of each name the last one is found.
abbrev pub documents_in : List Change → Docs
documents_in [] = []
documents_in (c ∷ cs) = documents_in cs ++ (c.name, c.tree) ∷ []

-- the documents of a front, which is the first so many changes of a history
abbrev pub documents_at : List Change → ℕ → Docs
documents_at history front = documents_in (take front history)
