-- Where no link is in vain, each link leads to a node that has a row.
use Rattle.std.proofs.Common.{◌≡◌, ℕ, ◌+◌, ◌-◌, ◌≤◌, Bool, true, not, nat_eq, List, [], ◌∷◌, length, get_or, map, flat_map, All, refl, ap, ◌∙◌, subst, arith}
use Rattle.std.specs.List.{AllByRecursion}
use Rattle.std.proofs.lemmas.Bool.{false≢true, and_from, ne_eqb}
use Rattle.std.proofs.lemmas.List.{get_or-map, length-map}
use Rattle.std.proofs.lemmas.List.Elements.{recursion_from_All}
use Rattle.tb_tree.specs.Plain.{Plain}
use Rattle.tb_tree.proofs.lists.Alls.{all-weaker, all-both, all-kept}
use Rattle.tb_pattern.specs.Plain.{PlainEdges, no_edges, edge, matching, nodes_in}
use Rattle.tb_pattern.specs.Witness.{witness, offer, offered}
use Rattle.tb_pattern.specs.declared.pattern.Mark.{Mark}
use Rattle.tb_pattern.specs.declared.pattern.Mark.TheVariants.{One, Optional, Some, Any}
use Rattle.tb_twig.specs.Branches.{Branch, branches, branches_of, branch_at, no_branch}
use Rattle.tb_twig.specs.Lists.{branch_of}
use Rattle.tb_twig.specs.Links.{run, leading_from, built_by}
use Rattle.tb_twig.specs.Narrowed.{asks, is_met, leads_from}
use Rattle.tb_twig.specs.Trimmed.{laid_at, no_laid, asks_above, AreTrimmed}
use Rattle.tb_twig.specs.declared.branch.Branch as code
use Rattle.tb_twig.specs.declared.link.Link.{Link}
use Rattle.tb_twig.proofs.HasLaws.{has, has-append, has-map, has-product, has-offered}
use Rattle.tb_twig.proofs.LinkLaws.{has-filter}
use Rattle.tb_twig.proofs.BuiltLaws.{AllFrom, parts-of}
use Rattle.tb_twig.proofs.StandsLaws.{from-zero}

-- node m has a link of each of these edges that asks for one
abbrev pub Met : (ℕ → List Link) → ℕ → PlainEdges → ℕ → Type 0
Met links e no_edges m = Unit {0}
Met links e (edge axis mark (matching test conds whole below) others) m =
    (asks mark ≡ true → has (run (links e) m) ≡ true) × Met links (e + 1 + nodes_in below) others m

-- each link leads to such a node, and none to the document node
abbrev pub Full : (ℕ → List Link) → ℕ → PlainEdges → Type 0
Full links e no_edges = Unit {0}
Full links e (edge axis mark (matching test conds whole below) others) =
    ((n : ℕ) → AllByRecursion (λ m. (1 ≤ m) × Met links (e + 1) below m) (run (links e) n))
    × (Full links (e + 1) below × Full links (e + 1 + nodes_in below) others)

-- what is known of each edge
abbrev pub Leads : (ℕ → List Link) → ℕ → Branch → Type 0
Leads links f s = asks s.mark ≡ true → not (nat_eq s.up 0) ≡ true → AllByRecursion (λ l. leads_from (links f) l.below ≡ true) (links (s.up - 1))

each_asked : {X : Type 0} (Q : Type 0) (P : X → Type 0) (xs : List X) → (Q → AllByRecursion P xs) → AllByRecursion (λ x. Q → P x) xs
each_asked Q P [] all = tt
each_asked Q P (x ∷ xs) all = ((λ q. (all q).0), each_asked Q P xs (λ q. (all q).1))

run-leads : (ls : List Link) (m : ℕ) → leads_from ls m ≡ true → has (run ls m) ≡ true
run-leads ls m leads = has-map (λ (l : Link). l.below) (leading_from m ls) ∙ has-filter (λ (l : Link). nat_eq l.above m) ls ∙ leads

module _ (links : ℕ → List Link) where
  met-from : (x f : ℕ) (es : PlainEdges) → AllFrom (Leads links) f (branches (x + 1) f es) → AllByRecursion (λ l. Met links f es l.below) (links x)
  met-from x f no_edges all = none (links x)
    where
      none : (ls : List Link) → AllByRecursion (λ l. Unit {0}) ls
      none [] = tt
      none (l ∷ ls) = (tt, none ls)
  met-from x f (edge axis mark (matching test conds whole below) others) all =
      let p = parts-of (Leads links) (x + 1) f axis mark (matching test conds whole below) below others all in
      all-both (λ l. asks mark ≡ true → has (run (links f) l.below) ≡ true) (λ l. Met links (f + 1 + nodes_in below) others l.below) (links x)
      (all-weaker (λ l. asks mark ≡ true → leads_from (links f) l.below ≡ true) (λ l. asks mark ≡ true → has (run (links f) l.below) ≡ true) (links x)
      (λ l k asked. run-leads (links f) l.below (k asked))
      (each_asked (asks mark ≡ true) (λ l. leads_from (links f) l.below ≡ true) (links x)
      (λ asked.
      subst (λ k. AllByRecursion (λ l. leads_from (links f) l.below ≡ true) (links k)) (let g : (x + 1) - 1 ≡ x = omega arith in g)
      (p.this asked (ap not (ne_eqb (x + 1) 0 (λ g. omega (arith, g))))))))
      (met-from x (f + 1 + nodes_in below) others p.behind)

  pub full-from : (n e : ℕ) (es : PlainEdges) → AllFrom (Leads links) e (branches n e es) → ((f : ℕ) → AllByRecursion (λ l. 1 ≤ l.below) (links f)) → Full links e es
  full-from n e no_edges all later = tt
  full-from n e (edge axis mark (matching test conds whole below) others) all later =
      let p = parts-of (Leads links) n e axis mark (matching test conds whole below) below others all in (
        λ m.
            all-kept (λ l. (1 ≤ l.below) × Met links (e + 1) below l.below) (λ k. (1 ≤ k) × Met links (e + 1) below k) (λ (l : Link). l.below) (λ l. nat_eq l.above m) (links e) (λ l k. k)
            (all-both (λ l. 1 ≤ l.below) (λ l. Met links (e + 1) below l.below) (links e) (later e) (met-from e (e + 1) below p.inside)),
        (full-from (e + 1) (e + 1) below p.inside later, full-from n (e + 1 + nodes_in below) others p.behind later),
      )

met_if : (mark : Mark) (b : Bool) → (asks mark ≡ true → b ≡ true) → is_met mark b ≡ true
met_if One b some = some refl
met_if Optional b some = refl
met_if Some b some = some refl
met_if Any b some = refl

pub has-some : {X : Type 0} (f : ℕ → List X) (ns : List ℕ) → has ns ≡ true → AllByRecursion (λ n. has (f n) ≡ true) ns → has (flat_map f ns) ≡ true
has-some f [] some all = absurd (false≢true some)
has-some f (n ∷ ns) some all = has-append (f n) (flat_map f ns) ∙ rw all.0 refl

module _ (look : ℕ → Plain) (links : ℕ → List Link) where
  -- a node with the links that its edges ask for has a row
  pub has-row : (e : ℕ) (es : PlainEdges) (n : ℕ) → Full links e es → Met links e es n → has (built_by look links e es n) ≡ true
  has-row e no_edges n full met = refl
  has-row e (edge axis mark (matching test conds whole below) others) n full met =
      let W = λ (m : ℕ). map (witness m (look m)) (built_by look links (e + 1) below m) in
      let rest = built_by look links (e + 1 + nodes_in below) others n in
      let ws = flat_map W (run (links e) n) in
      has-product offer (offered mark ws) rest
      ∙ and_from (has rest) (has (offered mark ws)) (has-row (e + 1 + nodes_in below) others n full.1.1 met.1)
      (has-offered mark ws
      ∙ met_if mark (has ws) (λ asked.
      has-some W (run (links e) n) (met.0 asked)
      (all-weaker (λ m. (1 ≤ m) × Met links (e + 1) below m) (λ m. has (W m) ≡ true) (run (links e) n)
      (λ m k. has-map (witness m (look m)) (built_by look links (e + 1) below m) ∙ has-row (e + 1) below m full.1.0 k.1) (full.0 n))))

-- Links that are trimmed are full.
pub full-trimmed : (es : PlainEdges) (laid : List code.Branch) (ls : List (List Link)) → laid ≡ map branch_of (branches_of es) → AreTrimmed laid ls
    → ((f : ℕ) → AllByRecursion (λ l. 1 ≤ l.below) (get_or ls f [])) → Full (λ f. get_or ls f []) 0 es
full-trimmed es laid ls laid_are trimmed later =
    full-from (λ f. get_or ls f []) 0 0 es
    (from-zero (Leads (λ f. get_or ls f [])) (branches_of es) (λ f less asked some.
    let at : laid_at laid f ≡ branch_of (branch_at es f) = ap (λ bs. get_or bs f no_laid) laid_are ∙ get_or-map branch_of (branches_of es) f no_branch no_laid less in
    recursion_from_All (λ l. leads_from (get_or ls f []) l.below ≡ true) (get_or ls ((branch_at es f).up - 1) [])
    (subst (λ (b : code.Branch). All (λ l. leads_from (get_or ls f []) l.below ≡ true) (get_or ls (b.up - 1) [])) at
    (trimmed f (omega (arith, less, ap length laid_are, length-map (branches_of es) branch_of))
    (ap asks_above at ∙ and_from (asks (branch_at es f).mark) (not (nat_eq (branch_at es f).up 0)) asked some)))))
    later
