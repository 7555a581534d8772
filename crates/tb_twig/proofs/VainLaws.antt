-- An edge that asks for a witness and has none leaves no row.
use Rattle.std.proofs.Common.{◌≡◌, ℕ, ◌+◌, Bool, true, false, List, [], ◌∷◌, drop, map, flat_map, refl, sym, ap, ◌∙◌}
use Rattle.tb_tree.specs.Plain.{Plain}
use Rattle.tb_span.specs.declared.item.Axis.{Axis}
use Rattle.tb_pattern.specs.Plain.{PlainPattern, matching, PlainEdges, edge, PlainEdge, nodes_in}
use Rattle.tb_pattern.specs.View.{edge_of, edges_of}
use Rattle.tb_pattern.specs.Witness.{witness, offer, Witnesses, offered}
use Rattle.tb_pattern.specs.declared.pattern.Edge.{Edge}
use Rattle.tb_pattern.specs.declared.pattern.Mark.{Mark}
use Rattle.tb_pattern.specs.declared.pattern.Mark.TheVariants.{One, Optional, Some, Any}
use Rattle.tb_twig.specs.Branches.{inside, below_of}
use Rattle.tb_twig.specs.Links.{leading_from, run, built_by}
use Rattle.tb_twig.specs.Narrowed.{asks}
use Rattle.tb_twig.specs.declared.link.Link.{Link}

no_rows : (xs : List Witnesses) → flat_map (λ ws. map (offer ws) []) xs ≡ []
no_rows [] = refl
no_rows (x ∷ xs) = no_rows xs

none-offered : (mark : Mark) → asks mark ≡ true → offered mark [] ≡ []
none-offered One e = refl
none-offered Some e = refl
none-offered Optional e = absurd (let g : ◌≡◌ {A = Bool} true false = sym e in cc)
none-offered Any e = absurd (let g : ◌≡◌ {A = Bool} true false = sym e in cc)

pub nowhere : (look : ℕ → Plain) (links : ℕ → List Link) (at n : ℕ) (e : PlainEdge) (others : PlainEdges) → asks e.mark ≡ true → leading_from n (links at) ≡ []
    → built_by look links at (edge e.axis e.mark e.to others) n ≡ []
nowhere look links at n e others asked none = by e.axis e.mark e.to asked
  where
    by : (axis : Axis) (mark : Mark) (to : PlainPattern) → asks mark ≡ true → built_by look links at (edge axis mark to others) n ≡ []
    by axis mark (matching test conds whole below) is =
        ap (λ ls. flat_map (λ ws. map (offer ws) (built_by look links (at + 1 + nodes_in below) others n))
        (offered mark (flat_map (λ m. map (witness m (look m)) (built_by look links (at + 1) below m)) (map (λ (l : Link). l.below) ls)))) none
        ∙ ap (λ os. flat_map (λ ws. map (offer ws) (built_by look links (at + 1 + nodes_in below) others n)) os) (none-offered mark is)

rest-none : (look : ℕ → Plain) (links : ℕ → List Link) (at n : ℕ) (e : PlainEdge) (others : PlainEdges) → built_by look links (at + 1 + nodes_in (below_of e)) others n ≡ []
    → built_by look links at (edge e.axis e.mark e.to others) n ≡ []
rest-none look links at n e others none = by e.axis e.mark e.to none
  where
    by : (axis : Axis) (mark : Mark) (to : PlainPattern) → built_by look links (at + 1 + nodes_in (inside to)) others n ≡ [] → built_by look links at (edge axis mark to others) n ≡ []
    by axis mark (matching test conds whole below) is =
        let os = offered mark (flat_map (λ m. map (witness m (look m)) (built_by look links (at + 1) below m)) (run (links at) n)) in
        ap (λ rs. flat_map (λ ws. map (offer ws) rs) os) is ∙ no_rows os

-- one edge more: where those behind it have no row, nor have they with it
pub vain-turn : (look : ℕ → Plain) (links : ℕ → List Link) (at size n i : ℕ) (es : List Edge) (e : Edge) → drop i es ≡ e ∷ drop (i + 1) es → size ≡ nodes_in (below_of (edge_of e))
    → built_by look links (at + 1 + size) (edges_of (drop (i + 1) es)) n ≡ [] → built_by look links at (edges_of (drop i es)) n ≡ []
vain-turn look links at size n i es e here size-is none =
    ap (λ xs. built_by look links at (edges_of xs) n) here
    ∙ rest-none look links at n (edge_of e) (edges_of (drop (i + 1) es)) (ap (λ k. built_by look links (at + 1 + k) (edges_of (drop (i + 1) es)) n) (sym size-is) ∙ none)
