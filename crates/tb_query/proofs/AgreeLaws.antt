-- Where two lists of documents agree on the names of a query, its answer is the same over both.
use Rattle.std.proofs.Common.{◌≡◌, ℕ, Bool, true, false, ◌==◌, if◌then◌else◌, List, [], ◌∷◌, ◌++◌, Option, Some, None, option_map, option_and_then, map, refl, ap, ◌∙◌}
use Rattle.std.specs.List.{flat_map, fold, AllByRecursion}
use mathlib.Core.Path.{fun_ext}
use Rattle.tb_tree.specs.Plain.{Plain}
use Rattle.tb_pattern.specs.View.{edges_of}
use Rattle.tb_query.specs.Lists.{all_given, joined, sorted, each_once}
use Rattle.tb_query.specs.Nodes.{nodes_from}
use Rattle.tb_tree.specs.Documents.{Docs, found}
use Rattle.tb_query.specs.Tuples.{Tuple, Lets, let_path, behind_variable, start_in, from_root, nodes_in, standing, standing_from, extended, Bindings, bound_by, bindings}
use Rattle.tb_query.specs.Comparisons.{nodes_at}
use Rattle.tb_query.specs.Groups.{groups_of, grouped_by, nodes_over, is_same_node}
use Rattle.tb_query.specs.Order.{sort_value, sort_values_cmp}
use Rattle.tb_query.specs.Parts.{PlainBack, back_of}
use Rattle.tb_query.specs.Answer.{kept_tuples, ordered_groups, trees_of_groups, bound_trees, flwor_trees, match_trees, trees_of_query, counted}
use Rattle.tb_query.specs.Names.{names_of_start, names_of_path, names_of_clause, names_of_comparison, names_of_group, names_of_key, names_of_back, names_of_flwor, written_names, names_once}
use Rattle.tb_query.specs.NameLaw.{Agree, AreEnough, DependsOnNames}
use Rattle.tb_query.proofs.NamesLaws.{contains-once}
use Rattle.tb_query.specs.declared.path.Path.{Path}
use Rattle.tb_query.specs.declared.path.Start.{Start}
use Rattle.tb_query.specs.declared.path.Start.TheVariants.{Document, Var}
use Rattle.tb_query.specs.declared.path.Step.{Step}
use Rattle.tb_query.specs.declared.operand.Comparison.{Comparison}
use Rattle.tb_query.specs.declared.clause.Clause.{Clause}
use Rattle.tb_query.specs.declared.clause.Clause.TheVariants.{For, Let}
use Rattle.tb_query.specs.declared.clause.GroupBy.{GroupBy}
use Rattle.tb_query.specs.declared.clause.Key.{Key}
use Rattle.tb_query.specs.declared.query.Flwor as flwor
use Rattle.tb_query.specs.declared.query.Query.{Query}
use Rattle.tb_query.specs.declared.query.Query.TheVariants.{Match, Flwor}
use Rattle.tb_query.proofs.AlikeLaws.{Alike, listed-same, conds-same, key-same, back-same}
use Rattle.std.proofs.lemmas.List.Elements.{Contains-append_left, Contains-append_right}
use Rattle.std.proofs.Common.{arith}

module _ (docs other : Docs) where
  -- Agreement on some of the names.

  agree-left : (xs ys : List (List ℕ)) → Agree (xs ++ ys) docs other → Agree xs docs other
  agree-left xs ys agree name has = agree name (Contains-append_left xs ys name has)

  agree-right : (xs ys : List (List ℕ)) → Agree (xs ++ ys) docs other → Agree ys docs other
  agree-right xs ys agree name has = agree name (Contains-append_right xs ys name has)

  agree-first : (name : List ℕ) (names : List (List ℕ)) → Agree (name ∷ names) docs other → found name docs ≡ found name other
  agree-first name names agree = agree name (0, omega arith, refl)

  -- A start is the same over both, in every tuple.
  abbrev IsSameStart : Start → Type 0
  IsSameStart start = (t : Tuple) → start_in docs t start ≡ start_in other t start

  start-same : (start : Start) → Agree (names_of_start start) docs other → IsSameStart start
  start-same (Document name) agree = λ t. ap from_root (agree-first name [] agree)
  start-same (Var var) agree = λ t. refl

  -- The paths of variables of LET start so.
  abbrev AreSame : Lets → Type 0
  AreSame lets = AllByRecursion (λ l. IsSameStart l.1.start) lets

  with_let : (b : Bool) (var : ℕ) (path : Path) (found : Option Path) (steps : List Step) → IsSameStart path.start
      → IsSameStart (behind_variable var found steps).start
      → IsSameStart (behind_variable var (if b then Some path else found) steps).start
  with_let true var path found steps this others = this
  with_let false var path found steps this others = others

  let-same : (lets : Lets) (var : ℕ) (steps : List Step) → AreSame lets → IsSameStart (behind_variable var (let_path var lets) steps).start
  let-same [] var steps same = λ t. refl
  let-same (l ∷ lets) var steps same = with_let (var == l.0) var l.1 (let_path var lets) steps same.0 (let-same lets var steps same.1)

  standing_from-same : (lets : Lets) (start : Start) (steps : List Step) → AreSame lets → Agree (names_of_start start) docs other
      → IsSameStart (standing_from lets start steps).start
  standing_from-same lets (Document name) steps same agree = start-same (Document name) agree
  standing_from-same lets (Var var) steps same agree = let-same lets var steps same

  -- A path has the same nodes over both, in every tuple.
  nodes-same : (lets : Lets) (path : Path) → AreSame lets → Agree (names_of_path path) docs other
      → nodes_in docs (standing lets path) ≡ nodes_in other (standing lets path)
  nodes-same lets path same agree =
      fun_ext (λ t. ap (nodes_from (standing lets path).steps) (standing_from-same lets path.start path.steps same agree t))

  at-alike : (lets : Lets) → AreSame lets → (names : List (List ℕ)) → Agree names docs other → (t : Tuple)
      → Alike (nodes_at docs lets t) (nodes_at other lets t) names
  at-alike lets same names agree t path within =
      ap (λ f. f t) (nodes-same lets path same (λ name has. agree name (within name has)))

  over-alike : (lets : Lets) → AreSame lets → (names : List (List ℕ)) → Agree names docs other → (g : List Tuple)
      → Alike (nodes_over docs lets g) (nodes_over other lets g) names
  over-alike lets same names agree g path within =
      ap (λ f. each_once is_same_node (flat_map f g)) (nodes-same lets path same (λ name has. agree name (within name has)))

  -- Clauses bind the same.

  bound-same : (b : Bindings) (c : Clause) → AreSame b.lets → Agree (names_of_clause c) docs other → bound_by docs b c ≡ bound_by other b c
  bound-same b (For var empty path) same agree =
      ap (λ f. record { tuples = flat_map (λ t. extended var empty t (f t)) b.tuples; lets = b.lets }) (nodes-same b.lets path same agree)
  bound-same b (Let var path) same agree = refl

  bound-lets : (b : Bindings) (c : Clause) → AreSame b.lets → Agree (names_of_clause c) docs other → AreSame (bound_by docs b c).lets
  bound-lets b (For var empty path) same agree = same
  bound-lets b (Let var path) same agree = (standing_from-same b.lets path.start path.steps same agree, same)

  clauses-same : (b : Bindings) (cs : List Clause) → AreSame b.lets → Agree (flat_map names_of_clause cs) docs other
      → fold (bound_by docs) b cs ≡ fold (bound_by other) b cs
  clauses-same b [] same agree = refl
  clauses-same b (c ∷ cs) same agree =
      let first = agree-left (names_of_clause c) (flat_map names_of_clause cs) agree in
      let behind = agree-right (names_of_clause c) (flat_map names_of_clause cs) agree in
      clauses-same (bound_by docs b c) cs (bound-lets b c same first) behind
      ∙ ap (λ bound. fold (bound_by other) bound cs) (bound-same b c same first)

  clauses-lets : (b : Bindings) (cs : List Clause) → AreSame b.lets → Agree (flat_map names_of_clause cs) docs other
      → AreSame (fold (bound_by docs) b cs).lets
  clauses-lets b [] same agree = same
  clauses-lets b (c ∷ cs) same agree =
      let first = agree-left (names_of_clause c) (flat_map names_of_clause cs) agree in
      clauses-lets (bound_by docs b c) cs (bound-lets b c same first) (agree-right (names_of_clause c) (flat_map names_of_clause cs) agree)

  -- Conditions, groups, orders and results are the same of the same bindings.

  kept-same : (b : Bindings) (conds : List Comparison) → AreSame b.lets → Agree (flat_map names_of_comparison conds) docs other
      → kept_tuples docs b conds ≡ kept_tuples other b conds
  kept-same b conds same agree =
      ap (λ pass. option_map joined (all_given pass b.tuples))
      (fun_ext (λ t. ap (option_map (λ held. if held then t ∷ [] else []))
      (conds-same (nodes_at docs b.lets t) (nodes_at other b.lets t) conds (at-alike b.lets same (flat_map names_of_comparison conds) agree t))))

  groups-same : (lets : Lets) (group : Option GroupBy) → AreSame lets → Agree (names_of_group group) docs other
      → groups_of docs lets group ≡ groups_of other lets group
  groups-same lets None same agree = refl
  groups-same lets (Some by) same agree = ap (λ f. grouped_by f by.var) (nodes-same lets by.path same agree)

  ordered-same : (lets : Lets) (keys : List Key) → AreSame lets → Agree (flat_map names_of_key keys) docs other
      → ordered_groups docs lets keys ≡ ordered_groups other lets keys
  ordered-same lets keys same agree =
      ap (λ give groups. option_map (λ ks. map (λ k. k.1) (sorted (λ k l. sort_values_cmp k.0 l.0) ks)) (all_given give groups))
      (fun_ext (λ g. ap (option_map (λ vs. (vs, g)))
      (listed-same (nodes_over docs lets g) (nodes_over other lets g) names_of_key (sort_value (nodes_over docs lets g)) (sort_value (nodes_over other lets g))
      (key-same (nodes_over docs lets g) (nodes_over other lets g)) keys (over-alike lets same (flat_map names_of_key keys) agree g))))

  trees-same : (lets : Lets) (back : PlainBack) → AreSame lets → Agree (names_of_back back) docs other
      → trees_of_groups docs lets back ≡ trees_of_groups other lets back
  trees-same lets back same agree =
      ap (λ give groups. option_map joined (all_given give groups))
      (fun_ext (λ g. back-same (nodes_over docs lets g) (nodes_over other lets g) back (over-alike lets same (names_of_back back) agree g)))

  -- the four together
  together : (trees trees' : List (List Tuple) → Option (List Plain)) (ordered ordered' : List (List Tuple) → Option (List (List Tuple)))
      (groups groups' : List Tuple → List (List Tuple)) (kept kept' : Option (List Tuple))
      → trees ≡ trees' → ordered ≡ ordered' → groups ≡ groups' → kept ≡ kept'
      → option_and_then trees (option_and_then (λ tuples. ordered (groups tuples)) kept)
      ≡ option_and_then trees' (option_and_then (λ tuples. ordered' (groups' tuples)) kept')
  together trees trees' ordered ordered' groups groups' kept kept' a b c d =
      λ i. option_and_then (a i) (option_and_then (λ tuples. b i (c i tuples)) (d i))

  flwor-same : (q : flwor.Flwor) → Agree (names_of_flwor q) docs other → flwor_trees docs q (back_of q.back) ≡ flwor_trees other q (back_of q.back)
  flwor-same q agree =
      let clauses = flat_map names_of_clause q.clauses in
      let conds = flat_map names_of_comparison q.conds in
      let group = names_of_group q.group in
      let keys = flat_map names_of_key q.keys in
      let back = names_of_back (back_of q.back) in
      let start : Bindings = record { tuples = [] ∷ []; lets = [] } in
      let b = bindings docs q.clauses in
      let most = agree-left (((clauses ++ conds) ++ group) ++ keys) back agree in
      let many = agree-left ((clauses ++ conds) ++ group) keys most in
      let some = agree-left (clauses ++ conds) group many in
      let bound = agree-left clauses conds some in
      let same = clauses-lets start q.clauses tt bound in
      together (trees_of_groups docs b.lets (back_of q.back)) (trees_of_groups other b.lets (back_of q.back))
      (ordered_groups docs b.lets q.keys) (ordered_groups other b.lets q.keys)
      (groups_of docs b.lets q.group) (groups_of other b.lets q.group)
      (kept_tuples docs b q.conds) (kept_tuples other b q.conds)
      (trees-same b.lets (back_of q.back) same (agree-right (((clauses ++ conds) ++ group) ++ keys) back agree))
      (ordered-same b.lets q.keys same (agree-right ((clauses ++ conds) ++ group) keys most))
      (groups-same b.lets q.group same (agree-right (clauses ++ conds) group many))
      (kept-same b q.conds same (agree-right clauses conds some))
      ∙ ap (λ bindings. bound_trees other bindings q (back_of q.back)) (clauses-same start q.clauses tt bound)

  query-same : (q : Query) → Agree (written_names q) docs other → trees_of_query docs q ≡ trees_of_query other q
  query-same (Match p) agree = ap (λ root. Some (match_trees (edges_of p.edges) root)) (agree-first p.document [] agree)
  query-same (Flwor q) agree = flwor-same q agree

pub depends_on-names : DependsOnNames
depends_on-names docs other q agree = ap (option_map counted) (query-same docs other q agree)

-- each name once is enough
pub enough-once : (q : Query) → AreEnough (names_once (written_names q)) q
enough-once q docs other agree =
    depends_on-names docs other q (λ name has. agree name (contains-once (written_names q) name has))
