-- The trees that are written by numbers are those of the witnesses that the links give.
use Rattle.std.proofs.Common.{◌≡◌, ℕ, ◌+◌, ◌≤◌, Bool, true, false, List, [], ◌∷◌, ◌++◌, length, take, drop, get_or, map, flat_map, Some, codes, refl, sym, ap, ap₂, ◌∙◌, subst, arith, length-append}
use Rattle.std.specs.List.{AllByRecursion}
use Rattle.std.proofs.lemmas.Bool.{false≢true}
use Rattle.std.proofs.lemmas.List.{map-append, length-map, take-take, take_at, take_all, drop_at, drop-drop, drop-take}
use Rattle.std.proofs.lemmas.List.Elements.{All-from_recursion}
use Rattle.std.proofs.lemmas.List.Folds.{flat_map-map}
use Rattle.std.proofs.lemmas.Simd.{map-map}
use Rattle.tb_tree.specs.Plain.{Plain, elem, Plains, no_kids, kid, one, plains, joined_kids}
use Rattle.tb_tree.proofs.lists.Alls.{all-weaker, all-flat_map}
use Rattle.tb_tree.proofs.lists.Maps.{map-flat_map, flat_map_same, map_same}
use Rattle.tb_pattern.specs.Plain.{PlainPattern, matching, PlainEdges, no_edges, edge, nodes_in}
use Rattle.tb_pattern.specs.Witness.{Witness, witness, Offers, offer, Witnesses, no_witnesses, then_witness, together, offered}
use Rattle.tb_pattern.specs.WitnessTree.{shown, tree_of, trees_of, trees_of_all, witness_tree}
use Rattle.tb_pattern.specs.declared.pattern.Mark.{Mark}
use Rattle.tb_pattern.specs.declared.pattern.Mark.TheVariants as mark
use Rattle.tb_twig.specs.Branches.{branches}
use Rattle.tb_twig.specs.Lists.{branch_of}
use Rattle.tb_twig.specs.Links.{run, built_by}
use Rattle.tb_twig.specs.declared.branch.Branch.{Branch}
use Rattle.tb_twig.specs.declared.link.Link.{Link}
use Rattle.tb_twig.proofs.HasLaws.{has, has-map}
use Rattle.tb_twig.proofs.BuiltLaws.{length-branches}
use Rattle.tb_engine.specs.Choices.{Choice, taken, chosen_at, rows_at}
use Rattle.tb_engine.specs.Shown.{Ground, chosen_tree, by_mark, content_by, trees_at}
use Rattle.tb_engine.proofs.CodeLaws.{rungs, codes_of, codes_by, all_of, length-code, length-codes, rows-all}
use Rattle.tb_engine.proofs.FullLaws.{Met, Full, has-row, has-some}

-- these edges stand in the list from number e on
abbrev pub Laid : List Branch → ℕ → List Branch → Type 0
Laid laid e part = take (length part) (drop e laid) ≡ part

laid-first : (laid : List Branch) (at : ℕ) (x y : List Branch) → Laid laid at (x ++ y) → Laid laid at x
laid-first laid at x y s =
    sym (take-take (length x) (length (x ++ y)) (drop at laid) (omega (arith, length-append x y))) ∙ ap (take (length x)) s ∙ take_at x y (length x) refl

laid-behind : (laid : List Branch) (at n : ℕ) (x y : List Branch) → length x ≡ n → Laid laid at (x ++ y) → Laid laid (at + n) y
laid-behind laid at n x y long s =
    ap (take (length y)) (ap (λ k. drop k laid) (ap (λ k. at + k) (sym long)) ∙ sym (drop-drop (length x) at laid))
    ∙ sym (drop-take (length x) (length y) (drop at laid))
    ∙ ap (λ n. drop (length x) (take n (drop at laid))) (sym (length-append x y))
    ∙ ap (drop (length x)) s ∙ drop_at x y (length x) refl

length-rungs : (n e : ℕ) (es : PlainEdges) → length (rungs n e es) ≡ nodes_in es
length-rungs n e es = length-map (branches n e es) branch_of ∙ length-branches n e es

-- The trees of witnesses together.
all-together : (to : PlainPattern) (ws : List Witness) → trees_of_all to (together ws) ≡ plains (map (tree_of to) ws)
all-together to [] = refl
all-together to (w ∷ ws) = ap (kid (tree_of to w)) (all-together to ws)

each-alone : (to : PlainPattern) (ws : List Witness) → map (trees_of_all to) (map (λ w. then_witness w no_witnesses) ws) ≡ map one (map (tree_of to) ws)
each-alone to [] = refl
each-alone to (w ∷ ws) = ap (λ ts. one (tree_of to w) ∷ ts) (each-alone to ws)

optional-some : (to : PlainPattern) (ws : List Witness) → has ws ≡ true → map (trees_of_all to) (offered mark.Optional ws) ≡ map one (map (tree_of to) ws)
optional-some to [] some = absurd (false≢true some)
optional-some to (w ∷ ws) some = each-alone to (w ∷ ws)

some-together : (to : PlainPattern) (ws : List Witness) → has ws ≡ true → map (trees_of_all to) (offered mark.Some ws) ≡ plains (map (tree_of to) ws) ∷ []
some-together to [] some = absurd (false≢true some)
some-together to (w ∷ ws) some = ap (λ t. t ∷ []) (all-together to (w ∷ ws))

-- Parts of rows for one edge, each with its trees: `tree` is that of a node by the part below it, `group` those of
-- all together.
module _ (size : ℕ) (codes : ℕ → List (List Choice)) (tree : ℕ → List Choice → Plain) (group : Plains) where
  abbrev pub of_code : Mark → List Choice → Plains
  of_code m o = by_mark m (chosen_tree (λ v. tree v (drop 1 o)) (chosen_at o 0)) group

  one-code : (m : Mark) → ((a b : Plains) → by_mark m a b ≡ a) → (v : ℕ) → map (of_code m) (map (λ d. Some v ∷ d) (codes v)) ≡ map one (map (tree v) (codes v))
  one-code m alone v = each (codes v)
    where
      each : (ds : List (List Choice)) → map (of_code m) (map (λ d. Some v ∷ d) ds) ≡ map one (map (tree v) ds)
      each [] = refl
      each (d ∷ ds) = ap₂ (λ t ts. t ∷ ts) (alone (one (tree v d)) group) (each ds)

  alone-codes : (m : Mark) → ((a b : Plains) → by_mark m a b ≡ a) → (ns : List ℕ)
      → map (of_code m) (flat_map (codes_of size codes) (map Some ns)) ≡ map one (flat_map (λ v. map (tree v) (codes v)) ns)
  alone-codes m alone [] = refl
  alone-codes m alone (n ∷ ns) =
      map-append (of_code m) (map (λ d. Some n ∷ d) (codes n)) (flat_map (codes_of size codes) (map Some ns))
      ∙ ap₂ (λ a b. a ++ b) (one-code m alone n) (alone-codes m alone ns)
      ∙ sym (map-append one (map (tree n) (codes n)) (flat_map (λ v. map (tree v) (codes v)) ns))

  -- They are the trees of what the edge offers.
  pub offered-codes : (m : Mark) (to : PlainPattern) (W : ℕ → List Witness) (ns : List ℕ) → AllByRecursion (λ v. map (tree v) (codes v) ≡ map (tree_of to) (W v)) ns
      → AllByRecursion (λ v. has (W v) ≡ true) ns → group ≡ plains (map (tree_of to) (flat_map W ns))
      → map (of_code m) (flat_map (codes_of size codes) (taken m ns)) ≡ map (trees_of_all to) (offered m (flat_map W ns))
  offered-codes m to W ns same full group_is = by m ns same full group_is
    where
      all : (ns : List ℕ) → AllByRecursion (λ v. map (tree v) (codes v) ≡ map (tree_of to) (W v)) ns → flat_map (λ v. map (tree v) (codes v)) ns ≡ map (tree_of to) (flat_map W ns)
      all ns same =
          flat_map_same (λ v. map (tree v) (codes v)) (λ v. map (tree_of to) (W v)) ns (All-from_recursion (λ v. map (tree v) (codes v) ≡ map (tree_of to) (W v)) ns same)
          ∙ sym (map-flat_map (tree_of to) W ns)

      by : (m : Mark) (ns : List ℕ) → AllByRecursion (λ v. map (tree v) (codes v) ≡ map (tree_of to) (W v)) ns → AllByRecursion (λ v. has (W v) ≡ true) ns
          → group ≡ plains (map (tree_of to) (flat_map W ns)) → map (of_code m) (flat_map (codes_of size codes) (taken m ns)) ≡ map (trees_of_all to) (offered m (flat_map W ns))
      by mark.One ns same full group_is = alone-codes mark.One (λ a b. refl) ns ∙ ap (map one) (all ns same) ∙ sym (each-alone to (flat_map W ns))
      by mark.Optional [] same full group_is = refl
      by mark.Optional (n ∷ ns) same full group_is =
          alone-codes mark.Optional (λ a b. refl) (n ∷ ns) ∙ ap (map one) (all (n ∷ ns) same) ∙ sym (optional-some to (flat_map W (n ∷ ns)) (has-some W (n ∷ ns) refl full))
      by mark.Some [] same full group_is = refl
      by mark.Some (n ∷ ns) same full group_is = ap (λ t. t ∷ []) group_is ∙ sym (some-together to (flat_map W (n ∷ ns)) (has-some W (n ∷ ns) refl full))
      by mark.Any ns same full group_is = ap (λ t. t ∷ []) (group_is ∙ sym (all-together to (flat_map W ns)))

module _ (links : ℕ → List Link) (look looked : ℕ → Plain) (alike : (m : ℕ) → 1 ≤ m → looked m ≡ look m) (laid : List Branch) where
  abbrev pub g : Ground
  g = record { run = λ f n. run (links f) n; look = looked; laid = laid }

  -- the trees of one node
  node-trees : (e : ℕ) (whole : Bool) (below : PlainEdges) (to : PlainPattern) (v : ℕ) → ((os : Offers) → tree_of to (witness v (look v) os) ≡ shown whole (look v) (trees_of below os)) → 1 ≤ v
      → map (content_by g (e + 1) below v) (codes_by g.run (e + 1) below v) ≡ map (trees_of below) (built_by look links (e + 1) below v)
      → map (λ d. shown whole (looked v) (content_by g (e + 1) below v d)) (codes_by g.run (e + 1) below v) ≡ map (tree_of to) (map (witness v (look v)) (built_by look links (e + 1) below v))
  node-trees e whole below to v tree_is later same =
      let cs = codes_by g.run (e + 1) below v in
      let bs = built_by look links (e + 1) below v in
      sym (map-map (shown whole (looked v)) (content_by g (e + 1) below v) cs)
      ∙ ap₂ (λ node ts. map (shown whole node) ts) (alike v later) same
      ∙ map-map (shown whole (look v)) (trees_of below) bs
      ∙ map_same (λ os. shown whole (look v) (trees_of below os)) (λ os. tree_of to (witness v (look v) os)) bs (λ k d less. sym (tree_is _))
      ∙ sym (map-map (tree_of to) (witness v (look v)) bs)

  -- one edge, and the others behind it
  trees-step : (e n : ℕ) (m : Mark) (to : PlainPattern) (size : ℕ) (O : List (List Choice)) (C : List (List Choice)) (B : List Offers) (W : List Witnesses)
      (A : List Choice → Plains) (T : List Choice → Plains) (U : Offers → Plains) (V : List Choice → Plains) (others : PlainEdges)
      → AllByRecursion (λ o. length o ≡ 1 + size) O
      → ((o c : List Choice) → length o ≡ 1 + size → T (o ++ c) ≡ joined_kids (A o) (V c))
      → ((ws : Witnesses) (os : Offers) → U (offer ws os) ≡ joined_kids (trees_of_all to ws) (trees_of others os))
      → map V C ≡ map (trees_of others) B → map A O ≡ map (trees_of_all to) W
      → map T (flat_map (λ o. map (λ c. o ++ c) C) O) ≡ map U (flat_map (λ ws. map (offer ws) B) W)
  trees-step e n m to size O C B W A T U V others long T_is U_is rest first =
      map-flat_map T (λ o. map (λ c. o ++ c) C) O
      ∙ flat_map_same (λ o. map T (map (λ c. o ++ c) C)) (λ o. map (joined_kids (A o)) (map V C)) O
      (All-from_recursion (λ o. map T (map (λ c. o ++ c) C) ≡ map (joined_kids (A o)) (map V C)) O
      (all-weaker (λ o. length o ≡ 1 + size) (λ o. map T (map (λ c. o ++ c) C) ≡ map (joined_kids (A o)) (map V C)) O (λ o k. of_part o k C) long))
      ∙ ap (λ ts. flat_map (λ o. map (joined_kids (A o)) ts) O) rest
      ∙ sym (flat_map-map (λ a. map (joined_kids a) (map (trees_of others) B)) A O)
      ∙ ap (flat_map (λ a. map (joined_kids a) (map (trees_of others) B))) first
      ∙ flat_map-map (λ a. map (joined_kids a) (map (trees_of others) B)) (trees_of_all to) W
      ∙ flat_map_same (λ ws. map (joined_kids (trees_of_all to ws)) (map (trees_of others) B)) (λ ws. map U (map (offer ws) B)) W (λ k d less. of_offer _ B)
      ∙ sym (map-flat_map U (λ ws. map (offer ws) B) W)
    where
      of_part : (o : List Choice) → length o ≡ 1 + size → (cs : List (List Choice)) → map T (map (λ c. o ++ c) cs) ≡ map (joined_kids (A o)) (map V cs)
      of_part o k [] = refl
      of_part o k (c ∷ cs) = ap₂ (λ t ts. t ∷ ts) (T_is o c k) (of_part o k cs)

      of_offer : (ws : Witnesses) (bs : List Offers) → map (joined_kids (trees_of_all to ws)) (map (trees_of others) bs) ≡ map U (map (offer ws) bs)
      of_offer ws [] = refl
      of_offer ws (b ∷ bs) = ap₂ (λ t ts. t ∷ ts) (sym (U_is ws b)) (of_offer ws bs)

  pub trees-built : (x e : ℕ) (es : PlainEdges) (n : ℕ) → Full links e es → Laid laid e (rungs x e es)
      → map (content_by g e es n) (codes_by g.run e es n) ≡ map (trees_of es) (built_by look links e es n)
  trees-built x e no_edges n full laid_is = refl
  trees-built x e (edge axis m (matching test conds whole below) others) n full laid_is =
      let to = matching test conds whole below in
      let size = nodes_in below in
      let inner = rungs (e + 1) (e + 1) below in
      let behind = rungs x (e + 1 + size) others in
      let first = branch_of (record { up = x; axis = axis; mark = m; to = to }) in
      let split = subst (Laid laid e) (ap (λ bs. first ∷ bs) (map-append branch_of (branches (e + 1) (e + 1) below) (branches x (e + 1 + size) others))) laid_is in
      let after = laid-behind laid e 1 (first ∷ []) (inner ++ behind) refl split in
      let inner_laid = laid-first laid (e + 1) inner behind after in
      let behind_laid = laid-behind laid (e + 1) size inner behind (length-rungs (e + 1) (e + 1) below) after in
      let ns = run (links e) n in
      let W = λ (v : ℕ). map (witness v (look v)) (built_by look links (e + 1) below v) in
      let cs = λ (v : ℕ). codes_by g.run (e + 1) below v in
      let tree = λ (v : ℕ) (d : List Choice). shown whole (looked v) (content_by g (e + 1) below v d) in
      let group = plains (flat_map (λ v. map (λ r. tree v (drop 1 r)) (rows_at g.run laid (e + 1) size v)) ns) in
      let A = of_code size cs tree group m in
      let same =
      all-weaker (λ v. (1 ≤ v) × Met links (e + 1) below v) (λ v. map (tree v) (cs v) ≡ map (tree_of to) (W v)) ns
      (λ v k. node-trees e whole below to v (λ os. refl) k.0 (trees-built (e + 1) (e + 1) below v full.1.0 inner_laid)) (full.0 n) in
      let group_is : group ≡ plains (map (tree_of to) (flat_map W ns)) =
      ap plains
      (flat_map_same (λ v. map (λ r. tree v (drop 1 r)) (rows_at g.run laid (e + 1) size v)) (λ v. map (tree v) (cs v)) ns
      (λ k d less.
      let v = get_or ns k d in
      ap (map (λ r. tree v (drop 1 r))) (rows-all g.run (e + 1) laid below v (subst (λ k. take k (drop (e + 1) laid) ≡ inner) (length-rungs (e + 1) (e + 1) below) inner_laid))
      ∙ map-map (λ r. tree v (drop 1 r)) (λ c. Some v ∷ c) (cs v))
      ∙ flat_map_same (λ v. map (tree v) (cs v)) (λ v. map (tree_of to) (W v)) ns (All-from_recursion (λ v. map (tree v) (cs v) ≡ map (tree_of to) (W v)) ns same)
      ∙ sym (map-flat_map (tree_of to) W ns)) in
      trees-step e n m to size (flat_map (codes_of size cs) (taken m ns)) (codes_by g.run (e + 1 + size) others n) (built_by look links (e + 1 + size) others n) (offered m (flat_map W ns))
      A (content_by g e (edge axis m to others) n) (trees_of (edge axis m to others)) (content_by g (e + 1 + size) others n) others
      (all-flat_map (λ o. length o ≡ 1 + size) (codes_of size cs) (taken m ns)
      (all_of (λ c. AllByRecursion (λ o. length o ≡ 1 + size) (codes_of size cs c)) (length-code size cs (λ v. length-codes g.run (e + 1) below v)) (taken m ns)))
      (λ o c long. cut o c long)
      (λ ws os. refl)
      (trees-built x (e + 1 + size) others n full.1.1 behind_laid)
      (offered-codes size cs tree group m to W ns same
      (all-weaker (λ v. (1 ≤ v) × Met links (e + 1) below v) (λ v. has (W v) ≡ true) ns
      (λ v k. has-map (witness v (look v)) (built_by look links (e + 1) below v) ∙ has-row look links (e + 1) below v full.1.0 k.1) (full.0 n)) group_is)
    where
      cut : (o c : List Choice) → length o ≡ 1 + nodes_in below
          → content_by g e (edge axis m (matching test conds whole below) others) n (o ++ c)
          ≡ joined_kids (of_code (nodes_in below) (λ v. codes_by g.run (e + 1) below v) (λ v d. shown whole (looked v) (content_by g (e + 1) below v d))
          (plains (flat_map (λ v. map (λ r. shown whole (looked v) (content_by g (e + 1) below v (drop 1 r))) (rows_at g.run laid (e + 1) (nodes_in below) v)) (run (links e) n))) m o)
          (content_by g (e + 1 + nodes_in below) others n c)
      cut [] c long = absurd (omega (arith, long))
      cut (first ∷ o) c long =
          ap₂ (λ a b. joined_kids
          (by_mark m (chosen_tree (λ v. shown whole (looked v) (content_by g (e + 1) below v a)) first)
          (plains (flat_map (λ v. map (λ r. shown whole (looked v) (content_by g (e + 1) below v (drop 1 r))) (rows_at g.run laid (e + 1) (nodes_in below) v)) (run (links e) n))))
          (content_by g (e + 1 + nodes_in below) others n b))
          (take_at o c (nodes_in below) (omega (arith, long)))
          (drop_at (first ∷ o) c (1 + nodes_in below) long)

  -- The trees of the document node are those of the witnesses.
  pub witnesses-built : (es : PlainEdges) → Full links 0 es → laid ≡ rungs 0 0 es → looked 0 ≡ elem (codes "witness") no_kids
      → trees_at g 0 false es 0 ≡ map (witness_tree es) (built_by look links 0 es 0)
  witnesses-built es full laid_is top =
      let here : Laid laid 0 (rungs 0 0 es) = subst (Laid laid 0) laid_is (take_all (length laid) laid (omega arith)) in
      ap (map (λ r. shown false (looked 0) (content_by g 0 es 0 (drop 1 r)))) (rows-all g.run 0 laid es 0 (subst (λ k. take k (drop 0 laid) ≡ rungs 0 0 es) (length-rungs 0 0 es) here))
      ∙ map-map (λ r. shown false (looked 0) (content_by g 0 es 0 (drop 1 r))) (λ c. Some 0 ∷ c) (codes_by g.run 0 es 0)
      ∙ sym (map-map (shown false (looked 0)) (content_by g 0 es 0) (codes_by g.run 0 es 0))
      ∙ ap₂ (λ node ts. map (shown false node) ts) top (trees-built 0 0 es 0 full here)
      ∙ map-map (shown false (elem (codes "witness") no_kids)) (trees_of es) (built_by look links 0 es 0)
