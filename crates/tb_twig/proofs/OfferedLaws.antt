-- The nodes that rows offer for an edge are lower nodes of its pairs; so there are no more different ones than
-- nodes in the list that was joined for it.
use Rattle.std.proofs.Common.{◌≡◌, ℕ, ◌+◌, ◌≤◌, Bool, true, false, cond, not, nat_eq, ◌⊎◌, inl, inr, List, [], ◌∷◌, length, map, filter, flat_map, refl, sym, ap, ◌∙◌, arith}
use Rattle.std.specs.List.{AllByRecursion, list_any}
use Rattle.std.proofs.lemmas.Bool.{false≢true, or_cases, or_parts, or_left, or_right, eqb-true, not_from_true, not_from_false}
use Rattle.tb_tree.specs.Numbers.{Numbered}
use Rattle.tb_tree.proofs.lists.Alls.{all-append, all-both, all-weaker, all-map, all-flat_map, all-passing}
use Rattle.tb_pattern.specs.Plain.{matching, PlainEdges, no_edges, edge, nodes_in}
use Rattle.tb_pattern.specs.Witness.{Witness, witness, offer, together, each_alone, offered}
use Rattle.tb_pattern.specs.declared.pattern.Mark.{Mark}
use Rattle.tb_pattern.specs.declared.pattern.Mark.TheVariants.{One, Optional, Some, Any}
use Rattle.tb_twig.specs.Branches.{Branch, branches, axis_of}
use Rattle.tb_twig.specs.Offered.{offered_for, offered_by_all, offered_by, different}
use Rattle.tb_twig.proofs.BuiltLaws.{built, AllFrom, parts-of, Closed}

module _ (Q : ℕ → Type 0) (t : ℕ) where
  -- what witnesses offer is what each of them offers
  all-together : (e : ℕ) (below : PlainEdges) (ws : List Witness) → AllByRecursion (λ w. AllByRecursion Q (offered_by t e below w)) ws → AllByRecursion Q (offered_by_all t e below (together ws))
  all-together e below [] all = tt
  all-together e below (w ∷ ws) all = all-append Q (offered_by t e below w) (offered_by_all t e below (together ws)) all.0 (all-together e below ws all.1)

  all-alone : (e : ℕ) (below : PlainEdges) (ws : List Witness) → AllByRecursion (λ w. AllByRecursion Q (offered_by t e below w)) ws
      → AllByRecursion (λ os. AllByRecursion Q (offered_by_all t e below os)) (each_alone ws)
  all-alone e below [] all = tt
  all-alone e below (w ∷ ws) all = (all-append Q (offered_by t e below w) [] all.0 tt, all-alone e below ws all.1)

  all-offered : (e : ℕ) (below : PlainEdges) (mark : Mark) (ws : List Witness) → AllByRecursion (λ w. AllByRecursion Q (offered_by t e below w)) ws
      → AllByRecursion (λ os. AllByRecursion Q (offered_by_all t e below os)) (offered mark ws)
  all-offered e below One ws all = all-alone e below ws all
  all-offered e below Optional [] all = (tt, tt)
  all-offered e below Optional (w ∷ ws) all = all-alone e below (w ∷ ws) all
  all-offered e below Some [] all = tt
  all-offered e below Some (w ∷ ws) all = (all-together e below (w ∷ ws) all, tt)
  all-offered e below Any ws all = (all-together e below ws all, tt)

  -- the lower nodes of the pairs of edge t are such nodes
  abbrev pub Offers_of : (Numbered → Type 0) → (ℕ → Numbered → Numbered → Bool) → ℕ → Branch → Type 0
  Offers_of In pairs f s = (u : Numbered) → In u → AllByRecursion (λ v. nat_eq t f ≡ true → pairs f u v ≡ true → Q v.number) (axis_of s.axis u)

  own : (e : ℕ) (b : Bool) (n : ℕ) → (b ≡ true → Q n) → AllByRecursion Q (cond b (n ∷ []) [])
  own e true n is = (is refl, tt)
  own e false n is = tt

  pub offered-found : (In : Numbered → Type 0) → Closed In → (pairs : ℕ → Numbered → Numbered → Bool) (n e : ℕ) (es : PlainEdges) → AllFrom (Offers_of In pairs) e (branches n e es)
      → (u : Numbered) → In u → AllByRecursion (λ row. AllByRecursion Q (offered_for t e es row)) (built pairs e es u)
  offered-found In closed pairs n e no_edges are u here = (tt, tt)
  offered-found In closed pairs n e (edge axis mark (matching test conds whole below) others) are u here =
      let to = matching test conds whole below in
      let p = parts-of (Offers_of In pairs) n e axis mark to below others are in
      let vs = axis_of axis u in
      let behind = built pairs (e + 1 + nodes_in below) others u in
      let found = λ (v : Numbered). map (witness v.number v.node) (built pairs (e + 1) below v) in
      let rest = offered-found In closed pairs n (e + 1 + nodes_in below) others p.behind u here in
      let each =
      all-passing (λ v. AllByRecursion (λ w. AllByRecursion Q (offered_by t e below w)) (found v)) (pairs e u) vs
      (all-weaker (λ v. (nat_eq t e ≡ true → pairs e u v ≡ true → Q v.number) × In v) (λ v. pairs e u v ≡ true → AllByRecursion (λ w. AllByRecursion Q (offered_by t e below w)) (found v)) vs
      (λ v k pair.
      all-map (λ w. AllByRecursion Q (offered_by t e below w)) (witness v.number v.node) (built pairs (e + 1) below v)
      (all-weaker (λ row. AllByRecursion Q (offered_for t (e + 1) below row)) (λ row. AllByRecursion Q (offered_by t e below (witness v.number v.node row))) (built pairs (e + 1) below v)
      (λ row all. all-append Q (cond (nat_eq t e) (v.number ∷ []) []) (offered_for t (e + 1) below row) (own e (nat_eq t e) v.number (λ g. k.0 g pair)) all)
      (offered-found In closed pairs (e + 1) (e + 1) below p.inside v k.1)))
      (all-both (λ v. nat_eq t e ≡ true → pairs e u v ≡ true → Q v.number) In vs (p.this u here) (closed axis u here))) in
      all-flat_map (λ row. AllByRecursion Q (offered_for t e (edge axis mark to others) row)) (λ os. map (offer os) behind) (offered mark (flat_map found (filter (pairs e u) vs)))
      (all-weaker (λ os. AllByRecursion Q (offered_by_all t e below os)) (λ os. AllByRecursion (λ row. AllByRecursion Q (offered_for t e (edge axis mark to others) row)) (map (offer os) behind))
      (offered mark (flat_map found (filter (pairs e u) vs)))
      (λ os all.
      all-map (λ row. AllByRecursion Q (offered_for t e (edge axis mark to others) row)) (offer os) behind
      (all-weaker (λ row. AllByRecursion Q (offered_for t (e + 1 + nodes_in below) others row)) (λ row. AllByRecursion Q (offered_for t e (edge axis mark to others) (offer os row))) behind
      (λ row more. all-append Q (offered_by_all t e below os) (offered_for t (e + 1 + nodes_in below) others row) all more) rest))
      (all-offered e below mark (flat_map found (filter (pairs e u) vs))
      (all-flat_map (λ w. AllByRecursion Q (offered_by t e below w)) found (filter (pairs e u) vs) each)))

-- Different numbers of a list are no more than the list has places.
abbrev without : ℕ → List ℕ → List ℕ
without n ys = filter (λ y. not (nat_eq n y)) ys

abbrev pub IsIn : List ℕ → ℕ → Type 0
IsIn ys x = list_any (nat_eq x) ys ≡ true

kept-in : (n z y : ℕ) (ys : List ℕ) (b : Bool) → not (nat_eq n y) ≡ b → nat_eq n z ≡ false → (nat_eq z y ≡ true) ⊎ IsIn (without n ys) z → IsIn (cond b (y ∷ without n ys) (without n ys)) z
kept-in n z y ys true is other (inl e) = or_left (nat_eq z y) (list_any (nat_eq z) (without n ys)) e
kept-in n z y ys true is other (inr e) = or_right (nat_eq z y) (list_any (nat_eq z) (without n ys)) e
kept-in n z y ys false is other (inl e) =
    absurd (false≢true (sym is ∙ not_from_false (nat_eq n y) (ap (nat_eq n) (sym (eqb-true z y e)) ∙ other)))
kept-in n z y ys false is other (inr e) = e

in-without : (n z : ℕ) (ys : List ℕ) → nat_eq n z ≡ false → IsIn ys z → IsIn (without n ys) z
in-without n z [] other is = is
in-without n z (y ∷ ys) other is = kept-in n z y ys (not (nat_eq n y)) refl other (at (or_cases (nat_eq z y) (list_any (nat_eq z) ys) is) (in-without n z ys other))
  where
    at : (nat_eq z y ≡ true) ⊎ (list_any (nat_eq z) ys ≡ true) → (IsIn ys z → IsIn (without n ys) z) → (nat_eq z y ≡ true) ⊎ IsIn (without n ys) z
    at (inl e) rest = inl e
    at (inr e) rest = inr (rest e)

kept-shorter : (y : ℕ) (kept ys : List ℕ) (b : Bool) → length kept ≤ length ys → length (cond b (y ∷ kept) kept) ≤ length (y ∷ ys)
kept-shorter y kept ys true less = omega (arith, less)
kept-shorter y kept ys false less = omega (arith, less)

no-longer : (n : ℕ) (ys : List ℕ) → length (without n ys) ≤ length ys
no-longer n [] = omega arith
no-longer n (y ∷ ys) = kept-shorter y (without n ys) ys (not (nat_eq n y)) (no-longer n ys)

dropped-shorter : (n y : ℕ) (ys : List ℕ) (b : Bool) → not (nat_eq n y) ≡ b → (nat_eq n y ≡ true) ⊎ (length (without n ys) + 1 ≤ length ys) → length (without n ys) ≤ length ys
    → length (cond b (y ∷ without n ys) (without n ys)) + 1 ≤ length (y ∷ ys)
dropped-shorter n y ys true is (inl e) most = absurd (false≢true (sym (not_from_true (nat_eq n y) e) ∙ is))
dropped-shorter n y ys true is (inr less) most = omega (arith, less)
dropped-shorter n y ys false is some most = omega (arith, most)

shorter : (n : ℕ) (ys : List ℕ) → IsIn ys n → length (without n ys) + 1 ≤ length ys
shorter n [] is = absurd (false≢true is)
shorter n (y ∷ ys) is = dropped-shorter n y ys (not (nat_eq n y)) refl (at (or_cases (nat_eq n y) (list_any (nat_eq n) ys) is) (shorter n ys)) (no-longer n ys)
  where
    at : (nat_eq n y ≡ true) ⊎ (list_any (nat_eq n) ys ≡ true) → (IsIn ys n → length (without n ys) + 1 ≤ length ys) → (nat_eq n y ≡ true) ⊎ (length (without n ys) + 1 ≤ length ys)
    at (inl e) rest = inl e
    at (inr e) rest = inr (rest e)

none-equal : (n : ℕ) (xs : List ℕ) → list_any (nat_eq n) xs ≡ false → AllByRecursion (λ z. nat_eq n z ≡ false) xs
none-equal n [] none = tt
none-equal n (x ∷ xs) none = let parts = or_parts (nat_eq n x) (list_any (nat_eq n) xs) none in (parts.0, none-equal n xs parts.1)

pub different-within : (xs ys : List ℕ) → AllByRecursion (IsIn ys) xs → different xs ≤ length ys
different-within [] ys all = omega arith
different-within (x ∷ xs) ys all = at (list_any (nat_eq x) xs) refl (different-within xs ys all.1) (different-within xs (without x ys))
  where
    at : (b : Bool) → list_any (nat_eq x) xs ≡ b → different xs ≤ length ys → (AllByRecursion (IsIn (without x ys)) xs → different xs ≤ length (without x ys)) → cond b (different xs) (1 + different xs) ≤ length ys
    at true e same fewer = same
    at false e same fewer =
        let most =
        fewer
        (all-weaker (λ z. (nat_eq x z ≡ false) × IsIn ys z) (IsIn (without x ys)) xs (λ z k. in-without x z ys k.0 k.1) (all-both (λ z. nat_eq x z ≡ false) (IsIn ys) xs (none-equal x xs e) all.1)) in
        omega (arith, most, shorter x ys all.0)
