-- The answer of a query over documents: its trees and their lines, or `None`, which says that a sum
-- is past the range of signed numbers of 128 bits.
use Rattle.std.specs.Prelude.{ℕ, List, [], Option, Some, None, option_map, option_and_then, map, flat_map, length}
use Rattle.tb_tree.specs.Plain.{Plain}
use Rattle.tb_tree.specs.Printed.{printed_node}
use Rattle.tb_pattern.specs.Plain.{PlainEdges}
use Rattle.tb_pattern.specs.View.{edges_of}
use Rattle.tb_pattern.specs.Witness.{naive_witnesses}
use Rattle.tb_pattern.specs.WitnessTree.{witness_tree}
use Rattle.tb_query.specs.Lists.{sorted, all_given, joined}
use Rattle.tb_tree.specs.Documents.{Docs, found}
use Rattle.tb_query.specs.Tuples.{Tuple, Lets, Bindings, bindings}
use Rattle.tb_query.specs.Comparisons.{passing}
use Rattle.tb_query.specs.Groups.{groups_of, nodes_over}
use Rattle.tb_query.specs.Order.{keyed, sort_values_cmp}
use Rattle.tb_query.specs.Results.{group_trees}
use Rattle.tb_query.specs.Parts.{PlainBack, back_of}
use Rattle.tb_query.specs.declared.clause.Key.{Key}
use Rattle.tb_query.specs.declared.operand.Comparison.{Comparison}
use Rattle.tb_query.specs.declared.query.Flwor as flwor
use Rattle.tb_query.specs.declared.query.Query.{Query}
use Rattle.tb_query.specs.declared.query.Query.TheVariants.{Match, Flwor}

-- the tuples that the conditions keep, in order
abbrev pub kept_tuples : Docs → Bindings → List Comparison → Option (List Tuple)
kept_tuples docs b conds = option_map joined (all_given (passing docs b.lets conds) b.tuples)

-- the groups in order: they are sorted stably by the first values of their keys, key after key
abbrev pub ordered_groups : Docs → Lets → List Key → List (List Tuple) → Option (List (List Tuple))
ordered_groups docs lets keys groups =
    option_map (λ ks. map (λ k. k.1) (sorted (λ k l. sort_values_cmp k.0 l.0) ks))
    (all_given (keyed (nodes_over docs lets) keys) groups)

-- the trees of groups, one group after the other
abbrev pub trees_of_groups : Docs → Lets → PlainBack → List (List Tuple) → Option (List Plain)
trees_of_groups docs lets back groups =
    option_map joined (all_given (λ g. group_trees back (nodes_over docs lets g)) groups)

-- tuples, conditions, groups, order, results
abbrev pub bound_trees : Docs → Bindings → flwor.Flwor → PlainBack → Option (List Plain)
bound_trees docs b q back =
    option_and_then (trees_of_groups docs b.lets back)
    (option_and_then
    (λ tuples. ordered_groups docs b.lets q.keys (groups_of docs b.lets q.group tuples))
    (kept_tuples docs b q.conds))

-- the trees of a query of clauses
abbrev pub flwor_trees : Docs → flwor.Flwor → PlainBack → Option (List Plain)
flwor_trees docs q back = bound_trees docs (bindings docs q.clauses) q back

-- the trees of the witnesses over a document, in their order; none where there is no document
abbrev pub match_trees : PlainEdges → Option Plain → List Plain
match_trees edges None = []
match_trees edges (Some root) = map (witness_tree edges) (naive_witnesses edges root)

-- the trees of any query
abbrev pub trees_of_query : Docs → Query → Option (List Plain)
trees_of_query docs (Match p) = Some (match_trees (edges_of p.edges) (found p.document docs))
trees_of_query docs (Flwor q) = flwor_trees docs q (back_of q.back)

-- how many trees, and their printed lines, one tree after the other
abbrev pub counted : List Plain → ℕ × List ℕ
counted trees = (length trees, flat_map printed_node trees)

-- the answer
abbrev pub answer : Docs → Query → Option (ℕ × List ℕ)
answer docs q = option_map counted (trees_of_query docs q)
