-- The plan of a query of clauses means what the query means, over any documents.
use Rattle.std.proofs.Common.{◌≡◌, ap₂, subst, ℕ, List, [], ◌∷◌, ◌++◌, map, refl, sym, ap, ◌∙◌, Option, Some, None, option_map, option_and_then}
use Rattle.std.specs.List.{AllByRecursion}
use Rattle.tb_tree.specs.Documents.{Docs}
use Rattle.tb_tree.specs.Plain.{Plain}
use Rattle.tb_tree.specs.Rows.{Row, first_rows}
use Rattle.tb_tree.specs.declared.shape.Shape.{Shape}
use Rattle.tb_tree.proofs.lists.Alls.{all-append, all-weaker}
use Rattle.tb_query.specs.Answer.{kept_tuples, ordered_groups, trees_of_groups, bound_trees, flwor_trees, counted, answer}
use Rattle.tb_query.specs.Comparisons.{as_tested}
use Rattle.tb_query.specs.Groups.{groups_of, nodes_over}
use Rattle.tb_query.specs.Lists.{all_given, sorted}
use Rattle.tb_query.specs.Order.{SortValue, sort_values_cmp, keyed}
use Rattle.tb_query.specs.Parts.{PlainBack, back_of}
use Rattle.tb_query.specs.Results.{group_trees}
use Rattle.tb_query.specs.Shapes.{constructed}
use Rattle.tb_query.specs.Tuples.{Tuple, Lets, Bindings, extended, standing, nodes_in}
use Rattle.tb_query.specs.declared.clause.GroupBy.{GroupBy}
use Rattle.tb_query.specs.declared.clause.Key.{Key}
use Rattle.tb_query.specs.declared.operand.Comparison.{Comparison}
use Rattle.tb_query.specs.declared.query.Flwor as flwor
use Rattle.tb_query.specs.declared.query.Query.{Query}
use Rattle.tb_query.specs.declared.query.Query.TheVariants as queries
use Rattle.tb_pattern.specs.declared.pattern.Mark.TheVariants as mark
use Rattle.tb_tlc.specs.declared.plan.Op.TheVariants.{Group, Construct}
use Rattle.tb_tlc.specs.Meaning.{trees_after, plan_trees, meaning}
use Rattle.tb_tlc.specs.Planned.{Draft, path_op, conds_ops, keys_ops, order_ops, with_for, with_clause, with_clauses, first_draft, with_conds, with_group, with_keys}
use Rattle.tb_tlc.specs.Returned.{back_ops, back_shape, planned, planned_flwor}
use Rattle.tb_tlc.specs.Translated.{translated}
use Rattle.tb_tlc.proofs.RowLaws.{rows_after, rows-append, trees-append, MakesRows, LooksAlone, alone-makes, each-trees}
use Rattle.tb_tlc.proofs.AloneLaws.{alone-conds, alone-keys, alone-back}
use Rattle.tb_tlc.proofs.ServedLaws.{Serves}
use Rattle.tb_tlc.proofs.ClauseLaws.{Plans, for-plans, let-plans, first-plans}
use Rattle.tb_tlc.proofs.JoinPlans.{join-plans}
use Rattle.tb_tlc.proofs.EarlyLaws.{cut_by, cut, early, chosen, early-kept, early-lets}
use Rattle.tb_tlc.specs.Ties.{Tie, tie_for, ties, with_let, lets_after}
use Rattle.tb_query.specs.declared.path.Start.{Start}
use Rattle.tb_query.specs.declared.clause.Clause.{Clause}
use Rattle.tb_query.specs.declared.clause.Clause.TheVariants.{For, Let}
use Rattle.std.specs.List.{flat_map}
use Rattle.tb_tlc.proofs.KeptLaws.{conds-rows, conds-plan}
use Rattle.tb_tlc.proofs.GroupPlans.{Serving, serving-alone, serving-groups}
use Rattle.tb_tlc.proofs.OrderPlans.{keys-past, keys-serving}
use Rattle.tb_tlc.proofs.ShapePlans.{back-one}

built : (shape : Shape) (o : Option (List Row)) → option_and_then (λ rows. Some (constructed shape rows)) o ≡ option_map (constructed shape) o
built shape None = refl
built shape (Some rows) = refl

-- All parts of a draft make rows.

makes-conds : (d : Draft) (conds : List Comparison) → AllByRecursion MakesRows d.ops → AllByRecursion MakesRows (with_conds d conds).ops
makes-conds d conds make =
    all-append MakesRows d.ops (conds_ops d.scope d.next (as_tested conds)) make
    (all-weaker LooksAlone MakesRows (conds_ops d.scope d.next (as_tested conds)) alone-makes (alone-conds d.scope d.next (as_tested conds)))

makes-group : (d : Draft) (group : Option GroupBy) → AllByRecursion MakesRows d.ops → AllByRecursion MakesRows (with_group d group).ops
makes-group d None make = make
makes-group d (Some by) make = all-append MakesRows d.ops (path_op d.scope d.next mark.Any by.path ∷ Group d.next ∷ []) make (tt, (tt, tt))

makes-order : (n : ℕ) (keys : List Key) → AllByRecursion MakesRows (order_ops n keys)
makes-order n [] = tt
makes-order n (k ∷ keys) = (tt, tt)

makes-keys : (d : Draft) (keys : List Key) → AllByRecursion MakesRows d.ops → AllByRecursion MakesRows (with_keys d keys).ops
makes-keys d keys make =
    all-append MakesRows d.ops (keys_ops d.scope d.next keys ++ order_ops d.next keys) make
    (all-append MakesRows (keys_ops d.scope d.next keys) (order_ops d.next keys)
    (all-weaker LooksAlone MakesRows (keys_ops d.scope d.next keys) alone-makes (alone-keys d.scope d.next keys)) (makes-order d.next keys))

module _ (docs : Docs) where
  -- what the operators of the results make of rows
  abbrev trees_behind : Draft → PlainBack → List Row → Option (List Plain)
  trees_behind d back rows = trees_after docs (back_ops d.scope d.next back ++ Construct (back_shape d.next back) ∷ []) rows

  behind-rows : (d : Draft) (back : PlainBack) (rows : List Row)
      → trees_behind d back rows ≡ option_map (constructed (back_shape d.next back)) (rows_after docs (back_ops d.scope d.next back) rows)
  behind-rows d back rows =
      trees-append docs (back_ops d.scope d.next back) (Construct (back_shape d.next back) ∷ [])
      (all-weaker LooksAlone MakesRows (back_ops d.scope d.next back) alone-makes (alone-back d.scope d.next back)) rows
      ∙ built (back_shape d.next back) (rows_after docs (back_ops d.scope d.next back) rows)

  serving-trees : (d : Draft) (lets : Lets) (groups : List (List Tuple)) (back : PlainBack) → Serving docs d lets groups
      → option_and_then (trees_behind d back) (rows_after docs d.ops first_rows) ≡ trees_of_groups docs lets back groups
  serving-trees d lets groups back serving =
      ap (option_and_then (trees_behind d back)) serving.rows
      ∙ behind-rows d back (map serving.row groups)
      ∙ each-trees docs (back_ops d.scope d.next back) (alone-back d.scope d.next back) (back_shape d.next back) serving.row (λ g. group_trees back (nodes_over docs d.scope.lets g)) groups
      (all-weaker (λ g. Serves docs d.scope d.next serving.at (nodes_over docs d.scope.lets g) (serving.row g)) _ groups
      (λ g serves. back-one docs d.scope serving.at (nodes_over docs d.scope.lets g) d.next (serving.row g) back serves) serving.each)
      ∙ ap (λ ls. trees_of_groups docs ls back groups) serving.lets

  -- groups, in their order
  ordered-trees : (d : Draft) (lets : Lets) (groups : List (List Tuple)) (keys : List Key) (back : PlainBack) → Serving docs d lets groups
      → option_and_then (trees_behind (with_keys d keys) back) (rows_after docs (with_keys d keys).ops first_rows)
      ≡ option_and_then (trees_of_groups docs lets back) (ordered_groups docs lets keys groups)
  ordered-trees d lets groups keys back serving =
      by (all_given (keyed (nodes_over docs d.scope.lets) keys) groups) refl
      ∙ ap (λ ls. option_and_then (trees_of_groups docs lets back) (ordered_groups docs ls keys groups)) serving.lets
    where
      by : (o : Option (List (List SortValue × List Tuple))) → all_given (keyed (nodes_over docs d.scope.lets) keys) groups ≡ o
          → option_and_then (trees_behind (with_keys d keys) back) (rows_after docs (with_keys d keys).ops first_rows)
          ≡ option_and_then (trees_of_groups docs lets back) (option_map (λ ks. map (λ k. k.1) (sorted (λ k l. sort_values_cmp k.0 l.0) ks)) (all_given (keyed (nodes_over docs d.scope.lets) keys) groups))
      by None is =
          ap (option_and_then (trees_behind (with_keys d keys) back)) (keys-past docs d lets groups serving keys is)
          ∙ ap (λ o. option_and_then (trees_of_groups docs lets back) (option_map (λ ks. map (λ k. k.1) (sorted (λ k l. sort_values_cmp k.0 l.0) ks)) o)) (sym is)
      by (Some ks) is =
          serving-trees (with_keys d keys) lets (map (λ k. k.1) (sorted (λ k l. sort_values_cmp k.0 l.0) ks)) back (keys-serving docs d lets groups serving keys ks is)
          ∙ ap (λ o. option_and_then (trees_of_groups docs lets back) (option_map (λ ks. map (λ k. k.1) (sorted (λ k l. sort_values_cmp k.0 l.0) ks)) o)) (sym is)

  group-serving : (d : Draft) (b : Bindings) (group : Option GroupBy) → Plans docs d b → Serving docs (with_group d group) b.lets (groups_of docs b.lets group b.tuples)
  group-serving d b None plans = serving-alone docs d b plans
  group-serving d b (Some by) plans = serving-groups docs d b plans by

  -- where a condition is past
  past-rows : (d : Draft) (group : Option GroupBy) (keys : List Key) → rows_after docs d.ops first_rows ≡ None
      → rows_after docs (with_keys (with_group d group) keys).ops first_rows ≡ None
  past-rows d group keys past =
      let g = with_group d group in
      let more = keys_ops g.scope g.next keys ++ order_ops g.next keys in
      rows-append docs g.ops more first_rows ∙ ap (option_and_then (rows_after docs more)) (grouping group)
    where
      grouping : (some : Option GroupBy) → rows_after docs (with_group d some).ops first_rows ≡ None
      grouping None = past
      grouping (Some by) =
          let ops = path_op d.scope d.next mark.Any by.path ∷ Group d.next ∷ [] in
          rows-append docs d.ops ops first_rows ∙ ap (option_and_then (rows_after docs ops)) past

  abbrev behind_clauses : Draft → flwor.Flwor → Draft
  behind_clauses d q = with_keys (with_group (with_conds d q.conds) q.group) q.keys

  -- A draft whose rows are those of tuples goes on to the trees of these tuples.
  pub plan-trees : (d : Draft) (b : Bindings) (q : flwor.Flwor) (back : PlainBack) → Plans docs d b
      → plan_trees docs (planned (behind_clauses d q) back) ≡ bound_trees docs b q back
  plan-trees d b q back plans =
      trees-append docs (behind_clauses d q).ops (back_ops (behind_clauses d q).scope (behind_clauses d q).next back ++ Construct (back_shape (behind_clauses d q).next back) ∷ [])
      (makes-keys (with_group (with_conds d q.conds) q.group) q.keys (makes-group (with_conds d q.conds) q.group (makes-conds d q.conds plans.make))) first_rows
      ∙ by (kept_tuples docs b q.conds) refl
    where
      by : (o : Option (List Tuple)) → kept_tuples docs b q.conds ≡ o
          → option_and_then (trees_behind (behind_clauses d q) back) (rows_after docs (behind_clauses d q).ops first_rows) ≡ bound_trees docs b q back
      by None is =
          ap (option_and_then (trees_behind (behind_clauses d q) back)) (past-rows (with_conds d q.conds) q.group q.keys (conds-rows docs d b q.conds plans ∙ ap (option_map (map _)) is))
          ∙ ap (λ o. option_and_then (trees_of_groups docs b.lets back) (option_and_then (λ tuples. ordered_groups docs b.lets q.keys (groups_of docs b.lets q.group tuples)) o)) (sym is)
      by (Some ts) is =
          ordered-trees (with_group (with_conds d q.conds) q.group) b.lets (groups_of docs b.lets q.group ts) q.keys back
          (group-serving (with_conds d q.conds) (record { tuples = ts; lets = b.lets }) q.group (conds-plan docs d b q.conds plans ts is))
          ∙ ap (λ o. option_and_then (trees_of_groups docs b.lets back) (option_and_then (λ tuples. ordered_groups docs b.lets q.keys (groups_of docs b.lets q.group tuples)) o)) (sym is)

  -- The operators of a clause make rows of the tuples that it leaves, the early join's test included.
  clause-plans : (all : List Tie) (later : List Clause) (conds : List Comparison) (d : Draft) (b : Bindings) (c : Clause) → all ≡ ties (lets_after (with_let b.lets c) later) conds
      → Plans docs d b → Plans docs (with_clause all later d c) (cut docs all later d b c)
  clause-plans all later conds d b (Let var path) are plans = let-plans docs d b var path plans
  clause-plans all later conds d b (For var empty path) are plans =
      subst (λ lets. Plans docs (with_for d var empty path (tie_for all d.scope.columns var from later))
      (record { tuples = cut_by docs (tie_for all d.scope.columns var from later) (flat_map (λ t. extended var empty t (nodes_in docs (standing lets path) t)) b.tuples); lets = b.lets }))
      plans.lets (by (tie_for all d.scope.columns var from later) refl)
    where
      from : Start
      from = (standing d.scope.lets path).start

      by : (o : Option Tie) → tie_for all d.scope.columns var from later ≡ o
          → Plans docs (with_for d var empty path o) (record { tuples = cut_by docs o (flat_map (λ t. extended var empty t (nodes_in docs (standing d.scope.lets path) t)) b.tuples); lets = b.lets })
      by None is = for-plans docs d b plans var empty path
      by (Some tie) is =
          join-plans docs d b plans var empty path tie
          (chosen docs conds d.scope.columns var from b.lets later tie (ap (λ ks. tie_for ks d.scope.columns var from later) (sym are) ∙ is)).elsewhere

  clauses-plan : (all : List Tie) (conds : List Comparison) (cs : List Clause) (d : Draft) (b : Bindings) → all ≡ ties (lets_after b.lets cs) conds
      → Plans docs d b → Plans docs (with_clauses all d cs) (early docs all d b cs)
  clauses-plan all conds [] d b are plans = plans
  clauses-plan all conds (For var empty path ∷ later) d b are plans =
      let c = For var empty path in
      clauses-plan all conds later (with_clause all later d c) (cut docs all later d b c) are (clause-plans all later conds d b c are plans)
  clauses-plan all conds (Let var path ∷ later) d b are plans =
      let c = Let var path in
      clauses-plan all conds later (with_clause all later d c) (cut docs all later d b c) are (clause-plans all later conds d b c are plans)

  pub plan-means : (q : flwor.Flwor) → plan_trees docs (planned_flwor q) ≡ flwor_trees docs q (back_of q.back)
  plan-means q =
      let b : Bindings = record { tuples = [] ∷ []; lets = [] } in
      let all = ties (lets_after [] q.clauses) q.conds in
      let back = back_of q.back in
      let rest = λ (lets : Lets) (o : Option (List Tuple)). option_and_then (trees_of_groups docs lets back) (option_and_then (λ tuples. ordered_groups docs lets q.keys (groups_of docs lets q.group tuples)) o) in
      plan-trees (with_clauses all first_draft q.clauses) (early docs all first_draft b q.clauses) q back
      (clauses-plan all q.conds q.clauses first_draft b refl (first-plans docs))
      ∙ ap₂ rest (early-lets docs all q.clauses first_draft b) (early-kept docs q.conds all q.clauses first_draft b refl)

-- and so does the plan of any query
pub translated-means : (q : Query) (docs : Docs) → meaning docs (translated q) ≡ answer docs q
translated-means (queries.Match p) docs = refl
translated-means (queries.Flwor q) docs = ap (option_map counted) (plan-means docs q)
