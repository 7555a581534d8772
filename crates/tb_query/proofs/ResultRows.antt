-- Aggregates and result trees, computed.
use Rattle.std.proofs.Common.{◌≡◌, ℕ, false, List, [], ◌∷◌, refl, ap, ◌∙◌, rules, codes, Option, Some, None}
use Rattle.std.specs.Prelude.{pos}
use Rattle.tb_tree.specs.Plain.{attr, text, plains}
use Rattle.tb_tree.specs.declared.node_test.Test.TheVariants.{AnyText}
use Rattle.tb_span.specs.declared.item.Axis.TheVariants.{Descendant}
use Rattle.tb_number.specs.IntText.{number_of}
use Rattle.tb_number.specs.Reading.{integer_of}
use Rattle.tb_number.proofs.CanonicalLaws.{decimal_text-number_of}
use Rattle.tb_number.specs.Canonical.{canonical_text}
use Rattle.tb_number.specs.declared.agg.AggKind.{AggKind}
use Rattle.tb_number.specs.declared.agg.AggKind.TheVariants.{Count, Sum, Min, Max}
use Rattle.tb_pattern.specs.Plain.{no_edges, edge, matching}
use Rattle.tb_pattern.specs.declared.pattern.Edge as pattern_edge
use Rattle.tb_pattern.specs.declared.pattern.PNode.{roll-PNode}
use Rattle.tb_pattern.specs.declared.pattern.Pattern.{Pattern}
use Rattle.tb_pattern.specs.declared.pattern.Mark.TheVariants.{Any}
use Rattle.tb_query.specs.Answer.{answer, counted}
use Rattle.tb_query.specs.Results.{made}
use Rattle.tb_query.specs.Parts.{PlainBack, cons_back, element, content, no_parts}
use Rattle.tb_tree.specs.Documents.{Docs}
use Rattle.tb_query.specs.declared.back.AttrPart.{AttrPart}
use Rattle.tb_query.specs.declared.back.Back.TheVariants.{Nodes, Cons}
use Rattle.tb_query.specs.declared.back.Content.TheVariants.{Text, Operand}
use Rattle.tb_query.specs.declared.back.Part.{the_lemmas}
use Rattle.tb_query.specs.declared.clause.Clause.TheVariants.{For}
use Rattle.tb_query.specs.declared.query.Flwor.{Flwor}
use Rattle.tb_query.specs.declared.query.Query.TheVariants.{Match}
use Rattle.tb_query.proofs.Shorthand.{el, leaf, child, below, attribute, texts, in_document, at_var, nodes, agg, constructor, string, braced, named_by, query, answered}
use Rattle.tb_query.proofs.Asked.{answer-back, answer-edges}

-- 2^127 - 1, 1 and -1, whose sum is within the range, and the total of the first two isn't
abbrev deep : Docs
deep = (
  codes "s",
  el (codes "r")
      (leaf (codes "v") (codes "170141183460469231731687303715884105727")
      ∷ leaf (codes "v") (codes "1") ∷ leaf (codes "v") (codes "-1") ∷ []),
) ∷ []

-- `FOR $r IN document("s")/r RETURN <t>{kind($r/v)}</t>`
abbrev taken : AggKind → Flwor
taken kind = query (For 0 false (in_document (codes "s") (child (codes "r") ∷ [])) ∷ []) [] None []
    (Cons (constructor (codes "t") [] (braced (agg kind (at_var 0 (child (codes "v") ∷ []))) ∷ [])))

abbrev of_kind : AggKind → PlainBack
of_kind kind = cons_back (element (codes "t") [] (content (Operand (agg kind (at_var 0 (child (codes "v") ∷ [])))) no_parts))

pub sum-past : answered deep (taken Sum) ≡ None
unfolding integer_of canonical_text
sum-past = answer-back deep (taken Sum) (of_kind Sum) _ (search (rules, the_lemmas)) refl

pub least-text : answered deep (taken Min) ≡ Some (1, codes "(t\n--1\n)t\n")
unfolding integer_of canonical_text
least-text = answer-back deep (taken Min) (of_kind Min) _ (search (rules, the_lemmas)) refl

-- a number of 39 digits is not written out digit by digit, but by the law on digits that are kept
abbrev largest : List ℕ
largest = codes "170141183460469231731687303715884105727"

largest-text : canonical_text (pos (number_of largest)) ≡ largest
unfolding canonical_text
largest-text = decimal_text-number_of false 49 (codes "70141183460469231731687303715884105727") refl

abbrev element_of : List ℕ → Option (ℕ × List ℕ)
element_of value = Some (counted (made (codes "t") [] (plains (text value ∷ [])) ∷ []))

pub greatest-text : answered deep (taken Max) ≡ Some (1, codes "(t\n-170141183460469231731687303715884105727\n)t\n")
unfolding integer_of
greatest-text =
    answer-back deep (taken Max) (of_kind Max) (element_of (canonical_text (pos (number_of largest))))
    (search (rules, the_lemmas)) refl
    ∙ ap element_of largest-text

pub count-text : answered deep (taken Count) ≡ Some (1, codes "(t\n-3\n)t\n")
unfolding integer_of canonical_text
count-text = answer-back deep (taken Count) (of_kind Count) _ (search (rules, the_lemmas)) refl

-- a sum and a least number of words: the sum of nothing is 0, and the least of nothing has no value
abbrev words : Docs
words = (codes "s", el (codes "r") (leaf (codes "v") (codes "x") ∷ [])) ∷ []

pub sum-of_words : answered words (taken Sum) ≡ Some (1, codes "(t\n-0\n)t\n")
unfolding integer_of canonical_text
sum-of_words = answer-back words (taken Sum) (of_kind Sum) _ (search (rules, the_lemmas)) refl

pub least-of_words : answered words (taken Min) ≡ Some (1, codes "(t\n)t\n")
unfolding integer_of canonical_text
least-of_words = answer-back words (taken Min) (of_kind Min) _ (search (rules, the_lemmas)) refl

-- one element whose sum is past the range, behind one whose sum isn't: there is no answer
abbrev one_past : Docs
one_past = (
  codes "s",
  el (codes "r")
      (el (codes "i") (leaf (codes "v") (codes "1") ∷ [])
      ∷ el (codes "i") (leaf (codes "v") (codes "170141183460469231731687303715884105728") ∷ []) ∷ []),
) ∷ []

abbrev each_sum : Flwor
each_sum = query (For 0 false (in_document (codes "s") (below (codes "i") ∷ [])) ∷ []) [] None []
    (Cons (constructor (codes "t") [] (braced (agg Sum (at_var 0 (child (codes "v") ∷ []))) ∷ [])))

pub any_sum-past : answered one_past each_sum ≡ None
unfolding integer_of canonical_text
any_sum-past = answer-back one_past each_sum (of_kind Sum) _ (search (rules, the_lemmas)) refl

-- an element with an attribute, and texts on both sides of an element
abbrev mixed : Docs
mixed = (
  codes "m",
  el (codes "p")
      (attr (codes "id") (codes "7") ∷ text (codes "one") ∷ el (codes "br") [] ∷ text (codes "two") ∷ []),
) ∷ []

-- `FOR $p IN document("m")/p RETURN $p/text()`: texts are results of their own
pub texts-apart : answered mixed (query
    (For 0 false (in_document (codes "m") (child (codes "p") ∷ [])) ∷ []) [] None []
    (Nodes (at_var 0 (texts ∷ []))))
    ≡ Some (2, codes "-one\n-two\n")
texts-apart = refl

-- `FOR $p IN document("m")/p RETURN <t at={$p/text()}>"and "{$p/text()}""{$p/@id}</t>`: in an
-- attribute values are joined by a space, and inside texts side by side join
abbrev at_texts : List AttrPart
at_texts = named_by (codes "at") (nodes (at_var 0 (texts ∷ []))) ∷ []

abbrev joining : Flwor
joining = query (For 0 false (in_document (codes "m") (child (codes "p") ∷ [])) ∷ []) [] None []
    (Cons (constructor (codes "t") at_texts
    (string (codes "and ") ∷ braced (nodes (at_var 0 (texts ∷ []))) ∷ string [] ∷ braced (nodes (at_var 0 (attribute (codes "id") ∷ []))) ∷ [])))

abbrev joint : PlainBack
joint = cons_back (element (codes "t") at_texts
    (content (Text (codes "and ")) (content (Operand (nodes (at_var 0 (texts ∷ []))))
    (content (Text []) (content (Operand (nodes (at_var 0 (attribute (codes "id") ∷ [])))) no_parts)))))

pub texts-join : answered mixed joining
    ≡ Some (1, codes "Aat CDATA one two\n(t\n-and onetwo\n(@id\n-7\n)@id\n)t\n")
texts-join = answer-back mixed joining joint _ (search (rules, the_lemmas)) refl

-- `FOR $p IN document("e")/p RETURN $p/@id`, where its value is empty: an element without kids
pub attribute-empty : answered ((codes "e", el (codes "p") (attr (codes "id") [] ∷ [])) ∷ [])
    (query (For 0 false (in_document (codes "e") (child (codes "p") ∷ [])) ∷ []) [] None []
    (Nodes (at_var 0 (attribute (codes "id") ∷ []))))
    ≡ Some (1, codes "(@id\n)@id\n")
attribute-empty = refl

-- `FOR $p IN document("e")/p RETURN $p/text()` over an empty text, which no document has: no tree
pub empty_text-none : answered ((codes "e", el (codes "p") (text [] ∷ [])) ∷ [])
    (query (For 0 false (in_document (codes "e") (child (codes "p") ∷ [])) ∷ []) [] None []
    (Nodes (at_var 0 (texts ∷ []))))
    ≡ Some (0, [])
empty_text-none = refl

-- `MATCH document("m") (//* text())`: in a witness tree they join, too
abbrev all_texts : Pattern
all_texts = record {
  document = codes "m";
  edges = pattern_edge.roll-Edge
      (record { axis = Descendant; mark = Any; to = roll-PNode (record { test = AnyText; conds = []; whole = false; edges = [] }) }) ∷ [];
}

pub witness-joins : answer mixed (Match all_texts) ≡ Some (1, codes "(witness\n-onetwo\n)witness\n")
witness-joins = answer-edges mixed all_texts (edge Descendant Any (matching AnyText [] false no_edges) no_edges) _
    (search (rules, pattern_edge.the_lemmas)) refl
