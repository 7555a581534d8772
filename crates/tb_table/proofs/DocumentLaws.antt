-- Documents as the program keeps them: their names and roots, and one more.
use Rattle.std.proofs.Common.{◌≡◌, ℕ, List, [], ◌∷◌, ◌++◌, map, None, position, refl, sym, ap, ◌∙◌}
use Rattle.std.specs.Global.{Global}
use Rattle.std.specs.Str.{bytes_eq}
use Rattle.std.specs.declared.sync.Arc.{Arc}
use Rattle.std.proofs.lemmas.List.{map-append}
use Rattle.indexmap.specs.IndexMap.{insert_entry}
use Rattle.indexmap.proofs.MapLemmas.{insert_entry-absent, Missing-position}
use Rattle.tb_tree.specs.declared.node.Node.{Node}
use Rattle.tb_table.specs.Documents.{names_of, roots_of}

abbrev pub Kept : Type 0
Kept = List (List ℕ × Arc Node Global)

abbrev pub seen : Kept → List (List ℕ × Node)
seen es = map (λ e. (e.0, e.1.value)) es

pub names-kept : (es : Kept) → names_of (seen es) ≡ map (λ e. e.0) es
names-kept [] = refl
names-kept (e ∷ es) = ap (λ ns. e.0 ∷ ns) (names-kept es)

pub values-kept : (es : Kept) → roots_of (seen es) ≡ map (λ a. a.value) (map (λ e. e.1) es)
values-kept [] = refl
values-kept (e ∷ es) = ap (λ rs. e.1.value ∷ rs) (values-kept es)

-- a new name goes last
pub added : (es : Kept) (name : List ℕ) (store : Arc Node Global) → position (bytes_eq name) (names_of (seen es)) ≡ None
    → seen (insert_entry bytes_eq es name store) ≡ seen es ++ (name, store.value) ∷ []
added es name store none =
    ap seen (insert_entry-absent bytes_eq name store es (Missing-position (bytes_eq name) es (ap (position (bytes_eq name)) (sym (names-kept es)) ∙ none)).absent) ∙ map-append (λ e. (e.0, e.1.value)) es ((name, store) ∷ [])
