-- Offered trees have no attribute among them.
use Rattle.std.proofs.Common.{◌≡◌, ℕ, ◌+◌, Bool, List, [], ◌∷◌, ◌++◌, Some, None, take, drop, map, flat_map, refl, ap₂, ◌∙◌}
use Rattle.std.specs.List.{AllByRecursion}
use Rattle.tb_tree.specs.Plain.{Plain, elem, attr, text, Plains, no_kids, kid, plains}
use Rattle.tb_tree.specs.Printed.{attribute_lines}
use Rattle.tb_tree.proofs.lists.Alls.{all-map, all-flat_map}
use Rattle.tb_pattern.specs.Plain.{PlainEdges, no_edges, edge, matching, nodes_in}
use Rattle.tb_pattern.specs.WitnessTree.{shown}
use Rattle.tb_pattern.specs.declared.pattern.Mark.{Mark}
use Rattle.tb_pattern.specs.declared.pattern.Mark.TheVariants as mark
use Rattle.tb_engine.specs.Choices.{Choice, chosen_at, rows_at}
use Rattle.tb_engine.specs.Shown.{Ground, chosen_tree, by_mark, content_by}
use Rattle.tb_engine.proofs.CodeLaws.{all_of}
use Rattle.tb_engine.proofs.WritingLaws.{attributes-append}

abbrev Bare : Plain → Type 0
Bare t = (rest : Plains) → attribute_lines (kid t rest) ≡ attribute_lines rest

shown-bare : (whole : Bool) (node : Plain) (inside : Plains) → Bare (shown whole node inside)
shown-bare whole (elem name kids) inside rest = refl
shown-bare whole (attr name value) inside rest = refl
shown-bare whole (text value) inside rest = refl

all-bare : (ts : List Plain) → AllByRecursion Bare ts → attribute_lines (plains ts) ≡ []
all-bare [] all = refl
all-bare (t ∷ ts) all = all.0 (plains ts) ∙ all-bare ts all.1

chosen-bare : (tree : ℕ → Plain) → ((v : ℕ) → Bare (tree v)) → (c : Choice) → attribute_lines (chosen_tree tree c) ≡ []
chosen-bare tree bare None = refl
chosen-bare tree bare (Some v) = bare v no_kids

mark-bare : (m : Mark) (a b : Plains) → attribute_lines a ≡ [] → attribute_lines b ≡ [] → attribute_lines (by_mark m a b) ≡ []
mark-bare mark.One a b alone group = alone
mark-bare mark.Optional a b alone group = alone
mark-bare mark.Some a b alone group = group
mark-bare mark.Any a b alone group = group

group-bare : (tree : ℕ → List Choice → Plain) → ((v : ℕ) (r : List Choice) → Bare (tree v r)) → (rows : ℕ → List (List Choice)) (ns : List ℕ)
    → attribute_lines (plains (flat_map (λ v. map (tree v) (rows v)) ns)) ≡ []
group-bare tree bare rows ns =
    all-bare (flat_map (λ v. map (tree v) (rows v)) ns)
    (all-flat_map Bare (λ v. map (tree v) (rows v)) ns
    (all_of (λ v. AllByRecursion Bare (map (tree v) (rows v))) (λ v. all-map Bare (tree v) (rows v) (all_of (λ r. Bare (tree v r)) (bare v) (rows v))) ns))

pub content-bare : (g : Ground) (f : ℕ) (es : PlainEdges) (n : ℕ) (row : List Choice) → attribute_lines (content_by g f es n row) ≡ []
content-bare g f no_edges n row = refl
content-bare g f (edge axis m (matching test conds whole below) others) n row =
    let size = nodes_in below in
    let chosen = λ (v : ℕ). shown whole (g.look v) (content_by g (f + 1) below v (take size (drop 1 row))) in
    let tree = λ (v : ℕ) (r : List Choice). shown whole (g.look v) (content_by g (f + 1) below v (drop 1 r)) in
    let rows = λ (v : ℕ). rows_at g.run g.laid (f + 1) size v in
    attributes-append (by_mark m (chosen_tree chosen (chosen_at row 0)) (plains (flat_map (λ v. map (tree v) (rows v)) (g.run f n)))) (content_by g (f + 1 + size) others n (drop (1 + size) row))
    ∙ ap₂ (λ a b. a ++ b)
    (mark-bare m (chosen_tree chosen (chosen_at row 0)) (plains (flat_map (λ v. map (tree v) (rows v)) (g.run f n)))
    (chosen-bare chosen (λ v. shown-bare whole (g.look v) (content_by g (f + 1) below v (take size (drop 1 row)))) (chosen_at row 0))
    (group-bare tree (λ v r. shown-bare whole (g.look v) (content_by g (f + 1) below v (drop 1 r))) rows (g.run f n)))
    (content-bare g (f + 1 + size) others n (drop (1 + size) row))
