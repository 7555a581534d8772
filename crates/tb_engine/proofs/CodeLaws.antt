-- Rows that are chosen edge after edge are those of the pattern, edge by edge with all that is below it.
use Rattle.std.proofs.Common.{◌≡◌, ℕ, ◌+◌, ◌-◌, ◌<◌, ◌≤◌, List, [], ◌∷◌, ◌++◌, Some, None, length, get_or, replicate, take, drop, map, flat_map, Bool, refl, sym, ap, ap₂, ◌∙◌, arith, append_assoc, append-nil, length-append}
use Rattle.std.specs.List.{AllByRecursion}
use Rattle.std.proofs.lemmas.List.{map-append, length-replicate, replicate-append-replicate, get_or_append_left, get_or_push}
use Rattle.std.proofs.lemmas.List.Elements.{All-from_recursion}
use Rattle.std.proofs.lemmas.List.Concat.{flat_map-append}
use Rattle.std.proofs.lemmas.List.Folds.{flat_map-map}
use Rattle.tb_tree.proofs.lists.Alls.{all-weaker, all-map, all-flat_map}
use Rattle.tb_tree.proofs.lists.Maps.{flat_map_same}
use Rattle.tb_span.specs.declared.item.Axis.{Axis}
use Rattle.tb_pattern.specs.Plain.{matching, PlainEdges, no_edges, edge, nodes_in}
use Rattle.tb_pattern.specs.declared.cond.Cond.{Cond}
use Rattle.tb_pattern.specs.declared.pattern.Mark.{Mark}
use Rattle.tb_tree.specs.declared.node_test.Test.{Test}
use Rattle.tb_twig.specs.Branches.{branches}
use Rattle.tb_twig.specs.Lists.{branch_of}
use Rattle.tb_twig.specs.declared.branch.Branch.{Branch}
use Rattle.tb_engine.specs.Choices.{Choice, taken, choices, chosen_at, rows_by, rows_at}

-- the edges of a pattern as they are laid out
abbrev pub rungs : ℕ → ℕ → PlainEdges → List Branch
rungs n e es = map branch_of (branches n e es)

-- the parts of rows for an edge with all below it, by what is chosen for it
abbrev pub codes_of : ℕ → (ℕ → List (List Choice)) → Choice → List (List Choice)
codes_of size codes None = (None ∷ replicate size None) ∷ []
codes_of size codes (Some v) = map (λ d. Some v ∷ d) (codes v)

-- the parts of rows for edges that leave node n, the first of which has the number e
abbrev pub codes_by : (ℕ → ℕ → List ℕ) → ℕ → PlainEdges → ℕ → List (List Choice)
codes_by run e no_edges n = [] ∷ []
codes_by run e (edge axis mark (matching test conds whole below) others) n =
    flat_map (λ o. map (λ c. o ++ c) (codes_by run (e + 1 + nodes_in below) others n))
    (flat_map (codes_of (nodes_in below) (λ v. codes_by run (e + 1) below v)) (taken mark (run e n)))

pub all_of : {X : Type 0} (P : X → Type 0) → ((x : X) → P x) → (xs : List X) → AllByRecursion P xs
all_of P each [] = tt
all_of P each (x ∷ xs) = (each x, all_of P each xs)

pub flat_map-flat_map : {X Y Z : Type 0} (g : Y → List Z) (f : X → List Y) (xs : List X) → flat_map g (flat_map f xs) ≡ flat_map (λ x. flat_map g (f x)) xs
flat_map-flat_map g f [] = refl
flat_map-flat_map g f (x ∷ xs) = flat_map-append g (f x) (flat_map f xs) ∙ ap (λ ys. flat_map g (f x) ++ ys) (flat_map-flat_map g f xs)

-- A part has an entry for each edge.
abbrev Long : ℕ → List Choice → Type 0
Long n c = length c ≡ n

pub length-code : (size : ℕ) (codes : ℕ → List (List Choice)) → ((v : ℕ) → AllByRecursion (Long size) (codes v)) → (c : Choice) → AllByRecursion (Long (1 + size)) (codes_of size codes c)
length-code size codes long None = (omega (arith, length-replicate size (let none : Choice = None in none)), tt)
length-code size codes long (Some v) =
    all-map (Long (1 + size)) (λ d. Some v ∷ d) (codes v) (all-weaker (Long size) (λ d. Long (1 + size) (Some v ∷ d)) (codes v) (λ d k. omega (arith, k)) (long v))

pub length-codes : (run : ℕ → ℕ → List ℕ) (e : ℕ) (es : PlainEdges) (n : ℕ) → AllByRecursion (λ c. length c ≡ nodes_in es) (codes_by run e es n)
length-codes run e no_edges n = (refl, tt)
length-codes run e (edge axis mark (matching test conds whole below) others) n =
    let size = nodes_in below in
    let rest = codes_by run (e + 1 + size) others n in
    let offers = flat_map (codes_of size (λ v. codes_by run (e + 1) below v)) (taken mark (run e n)) in
    let long = length-codes run (e + 1 + size) others n in
    all-flat_map (Long (1 + size + nodes_in others)) (λ o. map (λ c. o ++ c) rest) offers
    (all-weaker (Long (1 + size)) (λ o. AllByRecursion (Long (1 + size + nodes_in others)) (map (λ c. o ++ c) rest)) offers
    (λ o k.
    all-map (Long (1 + size + nodes_in others)) (λ c. o ++ c) rest
    (all-weaker (Long (nodes_in others)) (λ c. Long (1 + size + nodes_in others) (o ++ c)) rest (λ c j. omega (arith, length-append o c, k, j)) long))
    (all-flat_map (Long (1 + size)) (codes_of size (λ v. codes_by run (e + 1) below v)) (taken mark (run e n))
    (all_of (λ c. AllByRecursion (Long (1 + size)) (codes_of size (λ v. codes_by run (e + 1) below v) c))
    (length-code size (λ v. codes_by run (e + 1) below v) (λ v. length-codes run (e + 1) below v)) (taken mark (run e n)))))

-- what stands in a row stays when it grows
pub still : (C D : List Choice) (k : ℕ) (c : Choice) → chosen_at C k ≡ c → k < length C → chosen_at (C ++ D) k ≡ c
still C D k c is less = get_or_append_left C D None k less ∙ is

module _ (run : ℕ → ℕ → List ℕ) (b : ℕ) where
  -- one edge and those below it, and the others
  rows-edge : (n e : ℕ) (axis : Axis) (mark : Mark) (test : Test) (conds : List Cond) (whole : Bool) (below others : PlainEdges) (R : List Branch) (C : List Choice)
      → rows_by run b (rungs n e (edge axis mark (matching test conds whole below) others) ++ R) e C
      ≡ flat_map (λ c. rows_by run b (rungs (e + 1) (e + 1) below ++ (rungs n (e + 1 + nodes_in below) others ++ R)) (e + 1) (C ++ c ∷ [])) (choices mark (run e) (chosen_at C (n - b)))
  rows-edge n e axis mark test conds whole below others R C =
      ap (λ rs. flat_map (λ c. rows_by run b rs (e + 1) (C ++ c ∷ [])) (choices mark (run e) (chosen_at C (n - b))))
      (ap (λ rs. rs ++ R) (map-append branch_of (branches (e + 1) (e + 1) below) (branches n (e + 1 + nodes_in below) others))
      ∙ append_assoc (rungs (e + 1) (e + 1) below) (rungs n (e + 1 + nodes_in below) others) R)

  -- Below none, none is chosen.
  pub blank-rows : (es : PlainEdges) (n e : ℕ) (R : List Branch) (C : List Choice) → chosen_at C (n - b) ≡ None → n - b < length C → b ≤ n → b + length C ≡ e + 1
      → rows_by run b (rungs n e es ++ R) e C ≡ rows_by run b R (e + nodes_in es) (C ++ replicate (nodes_in es) None)
  blank-rows no_edges n e R C none within low long = ap₂ (λ k c. rows_by run b R k c) (let g : e ≡ e + 0 = omega arith in g) (sym (append-nil C))
  blank-rows (edge axis mark (matching test conds whole below) others) n e R C none within low long =
      let size = nodes_in below in
      let rest = rungs n (e + 1 + size) others ++ R in
      let C' = C ++ None ∷ [] in
      let C'' = C' ++ replicate size None in
      let F = λ (c : Choice). rows_by run b (rungs (e + 1) (e + 1) below ++ rest) (e + 1) (C ++ c ∷ []) in
      let long' = length-append C (let c : Choice = None in c ∷ []) in
      let long'' = length-append C' (replicate size (let c : Choice = None in c)) in
      let many = length-replicate size (let c : Choice = None in c) in
      rows-edge n e axis mark test conds whole below others R C
      ∙ ap (λ c. flat_map F (choices mark (run e) c)) none
      ∙ append-nil (F None)
      ∙ blank-rows below (e + 1) (e + 1) rest C' (get_or_push C None None (e + 1 - b) (omega (arith, long))) (omega (arith, long, long')) (omega (arith, long, low, within)) (omega (arith, long, long'))
      ∙ blank-rows others n (e + 1 + size) R C'' (still C' (replicate size None) (n - b) None (still C (None ∷ []) (n - b) None none within) (omega (arith, within, long'))) (omega (arith, within, long', long''))
      low (omega (arith, long, long', long'', many))
      ∙ ap₂ (λ k c. rows_by run b R k c) (let g : e + 1 + size + nodes_in others ≡ e + (1 + size + nodes_in others) = omega arith in g)
      (append_assoc C' (replicate size None) (replicate (nodes_in others) None) ∙ append_assoc C (None ∷ []) (replicate size None ++ replicate (nodes_in others) None)
      ∙ ap (λ ys. C ++ ys) (ap (λ ys. None ∷ ys) (replicate-append-replicate size (nodes_in others) None) ∙ replicate-append-replicate 1 (size + nodes_in others) None
      ∙ ap (λ k. replicate k None) (let g : 1 + (size + nodes_in others) ≡ 1 + size + nodes_in others = omega arith in g)))

  -- The rows go on by an edge with all below it, where they do by those below it and by the others.
  rows-step : (n e v : ℕ) (axis : Axis) (mark : Mark) (test : Test) (conds : List Cond) (whole : Bool) (below others : PlainEdges) (R : List Branch) (C : List Choice)
      → chosen_at C (n - b) ≡ Some v → n - b < length C → b ≤ n → b + length C ≡ e + 1
      → ((u : ℕ) (D : List Choice) → chosen_at D (e + 1 - b) ≡ Some u → e + 1 - b < length D → b ≤ e + 1 → b + length D ≡ e + 1 + 1
      → rows_by run b (rungs (e + 1) (e + 1) below ++ (rungs n (e + 1 + nodes_in below) others ++ R)) (e + 1) D
      ≡ flat_map (λ c. rows_by run b (rungs n (e + 1 + nodes_in below) others ++ R) (e + 1 + nodes_in below) (D ++ c)) (codes_by run (e + 1) below u))
      → ((D : List Choice) → chosen_at D (n - b) ≡ Some v → n - b < length D → b + length D ≡ e + 1 + nodes_in below + 1
      → rows_by run b (rungs n (e + 1 + nodes_in below) others ++ R) (e + 1 + nodes_in below) D
      ≡ flat_map (λ c. rows_by run b R (e + 1 + nodes_in below + nodes_in others) (D ++ c)) (codes_by run (e + 1 + nodes_in below) others v))
      → rows_by run b (rungs n e (edge axis mark (matching test conds whole below) others) ++ R) e C
      ≡ flat_map (λ c. rows_by run b R (e + (1 + nodes_in below + nodes_in others)) (C ++ c)) (codes_by run e (edge axis mark (matching test conds whole below) others) v)
  rows-step n e v axis mark test conds whole below others R C some within low long ih_below ih_others =
      rows-edge n e axis mark test conds whole below others R C
      ∙ ap (λ c. flat_map F (choices mark (run e) c)) some
      ∙ flat_map_same F (λ c. flat_map G (codes_of size below_codes c)) (taken mark (run e v)) (λ k d less. turn (get_or (taken mark (run e v)) k d))
      ∙ sym (flat_map-flat_map G (codes_of size below_codes) (taken mark (run e v)))
      ∙ flat_map_same G (λ o. flat_map H (map (λ c. o ++ c) other_codes)) offers (λ k d less. regroup (get_or offers k d))
      ∙ sym (flat_map-flat_map H (λ o. map (λ c. o ++ c) other_codes) offers)
    where
      size : ℕ
      size = nodes_in below

      rest : List Branch
      rest = rungs n (e + 1 + size) others ++ R

      below_codes : ℕ → List (List Choice)
      below_codes u = codes_by run (e + 1) below u

      other_codes : List (List Choice)
      other_codes = codes_by run (e + 1 + size) others v

      offers : List (List Choice)
      offers = flat_map (codes_of size below_codes) (taken mark (run e v))

      F : Choice → List (List Choice)
      F c = rows_by run b (rungs (e + 1) (e + 1) below ++ rest) (e + 1) (C ++ c ∷ [])

      G : List Choice → List (List Choice)
      G o = flat_map (λ c. rows_by run b R (e + 1 + size + nodes_in others) ((C ++ o) ++ c)) other_codes

      H : List Choice → List (List Choice)
      H c = rows_by run b R (e + (1 + size + nodes_in others)) (C ++ c)

      regroup : (o : List Choice) → G o ≡ flat_map H (map (λ c. o ++ c) other_codes)
      regroup o =
          flat_map_same (λ c. rows_by run b R (e + 1 + size + nodes_in others) ((C ++ o) ++ c)) (λ c. H (o ++ c)) other_codes
          (λ k d less. ap₂ (λ j c. rows_by run b R j c) (let g : e + 1 + size + nodes_in others ≡ e + (1 + size + nodes_in others) = omega arith in g) (append_assoc C o (get_or other_codes k d)))
          ∙ sym (flat_map-map H (λ c. o ++ c) other_codes)

      -- the others behind an edge with all below it
      behind : (c : Choice) (d : List Choice) → length d ≡ size → rows_by run b rest (e + 1 + size) ((C ++ c ∷ []) ++ d) ≡ G (c ∷ d)
      behind c d many =
          let long' = length-append C (c ∷ []) in
          let long'' = length-append (C ++ c ∷ []) d in
          ih_others ((C ++ c ∷ []) ++ d) (still (C ++ c ∷ []) d (n - b) (Some v) (still C (c ∷ []) (n - b) (Some v) some within) (omega (arith, within, long')))
          (omega (arith, within, long', long'')) (omega (arith, long, long', long'', many))
          ∙ ap (λ x. flat_map (λ c. rows_by run b R (e + 1 + size + nodes_in others) (x ++ c)) other_codes) (append_assoc C (c ∷ []) d)

      turn : (c : Choice) → F c ≡ flat_map G (codes_of size below_codes c)
      turn None =
          let long' = length-append C (let c : Choice = None in c ∷ []) in
          blank-rows below (e + 1) (e + 1) rest (C ++ None ∷ []) (get_or_push C None None (e + 1 - b) (omega (arith, long))) (omega (arith, long, long')) (omega (arith, long, low, within)) (omega (arith, long, long'))
          ∙ behind None (replicate size None) (length-replicate size None)
          ∙ sym (append-nil (G (None ∷ replicate size None)))
      turn (Some u) =
          let long' = length-append C (let c : Choice = Some u in c ∷ []) in
          ih_below u (C ++ Some u ∷ []) (get_or_push C (Some u) None (e + 1 - b) (omega (arith, long))) (omega (arith, long, long')) (omega (arith, long, low, within)) (omega (arith, long, long'))
          ∙ flat_map_same (λ d. rows_by run b rest (e + 1 + size) ((C ++ Some u ∷ []) ++ d)) (λ d. G (Some u ∷ d)) (below_codes u)
          (All-from_recursion (λ d. rows_by run b rest (e + 1 + size) ((C ++ Some u ∷ []) ++ d) ≡ G (Some u ∷ d)) (below_codes u)
          (all-weaker (λ d. length d ≡ size) (λ d. rows_by run b rest (e + 1 + size) ((C ++ Some u ∷ []) ++ d) ≡ G (Some u ∷ d)) (below_codes u) (λ d k. behind (Some u) d k) (length-codes run (e + 1) below u)))
          ∙ sym (flat_map-map G (λ d. Some u ∷ d) (below_codes u))

  -- Below node v the rows go on by the parts of these edges, whatever stands before and behind.
  pub rows-codes : (es : PlainEdges) (n e v : ℕ) (R : List Branch) (C : List Choice) → chosen_at C (n - b) ≡ Some v → n - b < length C → b ≤ n → b + length C ≡ e + 1
      → rows_by run b (rungs n e es ++ R) e C ≡ flat_map (λ c. rows_by run b R (e + nodes_in es) (C ++ c)) (codes_by run e es v)
  rows-codes no_edges n e v R C some within low long =
      ap₂ (λ k c. rows_by run b R k c) (let g : e ≡ e + 0 = omega arith in g) (sym (append-nil C)) ∙ sym (append-nil (rows_by run b R (e + 0) (C ++ [])))
  rows-codes (edge axis mark (matching test conds whole below) others) n e v R C some within low long =
      rows-step n e v axis mark test conds whole below others R C some within low long
      (λ u D. rows-codes below (e + 1) (e + 1) u (rungs n (e + 1 + nodes_in below) others ++ R) D)
      (λ D here less many. rows-codes others n (e + 1 + nodes_in below) v R D here less low many)

  -- The rows of one node.
  pub rows-all : (laid : List Branch) (es : PlainEdges) (v : ℕ) → take (nodes_in es) (drop b laid) ≡ rungs b b es → rows_at run laid b (nodes_in es) v ≡ map (λ c. Some v ∷ c) (codes_by run b es v)
  rows-all laid es v laid_is =
      ap (λ rs. rows_by run b rs b (Some v ∷ [])) (laid_is ∙ sym (append-nil (rungs b b es)))
      ∙ rows-codes es b b v [] (Some v ∷ []) (ap (chosen_at (Some v ∷ [])) (let g : b - b ≡ 0 = omega arith in g)) (let g : b - b < 1 = omega arith in g) (omega arith) refl
      ∙ one_each (codes_by run b es v)
    where
      one_each : (cs : List (List Choice)) → flat_map (λ c. rows_by run b [] (b + nodes_in es) ((Some v ∷ []) ++ c)) cs ≡ map (λ c. Some v ∷ c) cs
      one_each [] = refl
      one_each (c ∷ cs) = ap (λ xs. (Some v ∷ c) ∷ xs) (one_each cs)
