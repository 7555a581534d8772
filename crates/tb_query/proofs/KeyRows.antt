-- The keys of groups and of their order, computed.
use Rattle.std.proofs.Common.{◌≡◌, ℕ, true, false, List, [], ◌∷◌, refl, rules, codes, Some, None}
use Rattle.tb_tree.specs.Plain.{Plain, attr}
use Rattle.tb_number.specs.Reading.{integer_of}
use Rattle.tb_number.specs.Canonical.{canonical_text}
use Rattle.tb_number.specs.declared.agg.AggKind.TheVariants.{Count, Sum}
use Rattle.tb_query.specs.Parts.{cons_back, element, no_parts}
use Rattle.tb_tree.specs.Documents.{Docs}
use Rattle.tb_query.specs.declared.back.AttrPart.{AttrPart}
use Rattle.tb_query.specs.declared.back.Back.TheVariants.{Nodes, Cons}
use Rattle.tb_query.specs.declared.back.Part.{the_lemmas}
use Rattle.tb_query.specs.declared.clause.Clause.{Clause}
use Rattle.tb_query.specs.declared.clause.Clause.TheVariants.{For}
use Rattle.tb_query.specs.declared.clause.Key.{Key}
use Rattle.tb_query.specs.declared.path.Path.{Path}
use Rattle.tb_query.specs.declared.query.Flwor.{Flwor}
use Rattle.tb_query.proofs.Shorthand.{el, leaf, child, below, attribute, in_document, at_var, nodes, agg, constructor, named_by, query, answered}
use Rattle.tb_query.proofs.Asked.{answer-back}

-- elements `i` of one document, each a variable of the query
abbrev items : List Plain → Docs
items kids = (codes "d", el (codes "r") kids) ∷ []

abbrev each_item : List Clause
each_item = For 0 false (in_document (codes "d") (below (codes "i") ∷ [])) ∷ []

abbrev keyed_item : List ℕ → Plain
keyed_item key = el (codes "i") (attr (codes "k") key ∷ [])

-- `GROUP BY $k := path RETURN <g k={$k} n={count($i)}/>`
abbrev counts : List AttrPart
counts = named_by (codes "k") (nodes (at_var 1 [])) ∷ named_by (codes "n") (agg Count (at_var 0 [])) ∷ []

abbrev grouped_by : Path → Flwor
grouped_by path = query each_item [] (Some (record { var = 1; path = path })) [] (Cons (constructor (codes "g") counts []))

-- keys b, a, b, none, a, none: a group's tuples need not stand together, groups stand in the order of
-- their first tuples, and those without a key are one
abbrev mixed_keys : Docs
mixed_keys =
    items (keyed_item (codes "b") ∷ keyed_item (codes "a") ∷ keyed_item (codes "b") ∷ el (codes "i") [] ∷ keyed_item (codes "a") ∷ el (codes "i") [] ∷ [])

pub groups-apart : answered mixed_keys (grouped_by (at_var 0 (attribute (codes "k") ∷ [])))
    ≡ Some (3, codes "Ak CDATA b\nAn CDATA 2\n(g\n)g\nAk CDATA a\nAn CDATA 2\n(g\n)g\nAk CDATA \nAn CDATA 2\n(g\n)g\n")
unfolding integer_of canonical_text
groups-apart = answer-back mixed_keys (grouped_by (at_var 0 (attribute (codes "k") ∷ []))) (cons_back (element (codes "g") counts no_parts)) _ (search (rules, the_lemmas)) refl

-- two nodes of a key: the first is the key, and what the variable stands for
abbrev pair_item : List ℕ → List ℕ → Plain
pair_item one two = el (codes "i") (leaf (codes "k") one ∷ leaf (codes "k") two ∷ [])

abbrev pair_keys : Docs
pair_keys = items (pair_item (codes "1") (codes "9") ∷ pair_item (codes "01") (codes "8") ∷ [])

pub group-first_node : answered pair_keys (grouped_by (at_var 0 (child (codes "k") ∷ [])))
    ≡ Some (1, codes "Ak CDATA 1\nAn CDATA 2\n(g\n)g\n")
unfolding integer_of canonical_text
group-first_node = answer-back pair_keys (grouped_by (at_var 0 (child (codes "k") ∷ []))) (cons_back (element (codes "g") counts no_parts)) _ (search (rules, the_lemmas)) refl

-- `ORDER BY keys RETURN $i/n`
abbrev ordered_by : List Key → Flwor
ordered_by keys = query each_item [] None keys (Nodes (at_var 0 (child (codes "n") ∷ [])))

abbrev up : List ℕ → Key
up name = record { operand = nodes (at_var 0 (child name ∷ [])); descending = false }

abbrev down : List ℕ → Key
down name = record { operand = nodes (at_var 0 (child name ∷ [])); descending = true }

-- the first value of an operand is the key
pub order-first_value : answered
    (items
    (el (codes "i") (leaf (codes "k") (codes "2") ∷ leaf (codes "k") (codes "0") ∷ leaf (codes "n") (codes "two") ∷ [])
    ∷ el (codes "i") (leaf (codes "k") (codes "1") ∷ leaf (codes "k") (codes "9") ∷ leaf (codes "n") (codes "one") ∷ []) ∷ []))
    (ordered_by (up (codes "k") ∷ []))
    ≡ Some (2, codes "(n\n-one\n)n\n(n\n-two\n)n\n")
unfolding integer_of
order-first_value = refl

-- key after key, each with its own direction
abbrev two_keys : List ℕ → List ℕ → List ℕ → Plain
two_keys one two name = el (codes "i") (leaf (codes "k") one ∷ leaf (codes "l") two ∷ leaf (codes "n") name ∷ [])

pub order-two_keys : answered
    (items (two_keys (codes "2") (codes "x") (codes "c") ∷ two_keys (codes "1") (codes "a") (codes "b") ∷ two_keys (codes "1") (codes "b") (codes "a") ∷ []))
    (ordered_by (up (codes "k") ∷ down (codes "l") ∷ []))
    ≡ Some (3, codes "(n\n-a\n)n\n(n\n-b\n)n\n(n\n-c\n)n\n")
unfolding integer_of
order-two_keys = refl

-- a sum past the range in a key, or in an attribute, leaves no answer
abbrev past_items : Docs
past_items = items (leaf (codes "i") (codes "170141183460469231731687303715884105728") ∷ [])

abbrev sum_attribute : List AttrPart
sum_attribute = named_by (codes "s") (agg Sum (at_var 0 [])) ∷ []

pub key-past : answered past_items (ordered_by (record { operand = agg Sum (at_var 0 []); descending = false } ∷ [])) ≡ None
unfolding integer_of
key-past = refl

abbrev summed : Flwor
summed = query each_item [] None [] (Cons (constructor (codes "t") sum_attribute []))

pub attribute-past : answered past_items summed ≡ None
unfolding integer_of
attribute-past = answer-back past_items summed (cons_back (element (codes "t") sum_attribute no_parts)) _ (search (rules, the_lemmas)) refl
