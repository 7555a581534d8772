-- Documents in the order in which they were added, as contracts see them: each a name and the document's root.
use Rattle.std.specs.Prelude.{ℕ, List, map}
use Rattle.indexmap.specs.IndexMap.{IndexMap}
use Rattle.std.specs.Global.{Global}
use Rattle.std.specs.declared.sync.Arc.{Arc}
use Rattle.tb_tree.specs.Documents.{Docs}
use Rattle.tb_tree.specs.View.{plain_of}
use Rattle.tb_tree.specs.declared.node.Node.{Node}
use Rattle.tb_table.specs.declared.secret.Secret.{Secret}

-- what the program keeps, without the secret
abbrev pub named_roots : IndexMap (List ℕ) (Arc Node Global) Secret → List (List ℕ × Node)
named_roots stores = map (λ e. (e.0, e.1.value)) stores.entries

-- the names, and the roots, by number
abbrev pub names_of : List (List ℕ × Node) → List (List ℕ)
names_of documents = map (λ d. d.0) documents

abbrev pub roots_of : List (List ℕ × Node) → List Node
roots_of documents = map (λ d. d.1) documents

-- the documents as the meaning of queries has them
abbrev pub docs_of : List (List ℕ × Node) → Docs
docs_of documents = map (λ d. (d.0, plain_of d.1)) documents
