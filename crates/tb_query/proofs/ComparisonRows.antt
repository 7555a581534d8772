-- Which tuples conditions keep, computed.
use Rattle.std.proofs.Common.{◌≡◌, ℕ, true, false, List, [], ◌∷◌, refl, rules, codes, Option, Some, None}
use Rattle.std.specs.Prelude.{pos}
use Rattle.tb_tree.specs.Plain.{Plain}
use Rattle.tb_number.specs.Canonical.{canonical_text}
use Rattle.tb_number.specs.Reading.{integer_of}
use Rattle.tb_number.specs.declared.op.CmpOp.{CmpOp}
use Rattle.tb_number.specs.declared.op.CmpOp.TheVariants.{Eq, Ne, Lt, Gt}
use Rattle.tb_number.specs.declared.agg.AggKind.TheVariants.{Sum}
use Rattle.tb_pattern.specs.declared.cond.Literal.{Literal}
use Rattle.tb_pattern.specs.declared.cond.Literal.TheVariants.{Number, Text}
use Rattle.tb_query.specs.Parts.{PlainBack, cons_back, element, content, no_parts}
use Rattle.tb_tree.specs.Documents.{Docs}
use Rattle.tb_query.specs.declared.back.Back.TheVariants.{Nodes, Cons}
use Rattle.tb_query.specs.declared.back.Content.TheVariants.{Operand}
use Rattle.tb_query.specs.declared.back.Part.{the_lemmas}
use Rattle.tb_query.specs.declared.clause.Clause.TheVariants.{For}
use Rattle.tb_query.specs.declared.operand.Comparison.{Comparison}
use Rattle.tb_query.specs.declared.query.Flwor.{Flwor}
use Rattle.tb_query.proofs.Shorthand.{el, leaf, child, below, texts, in_document, at_var, nodes, agg, compared, compared_to, constructor, braced, query, answered}
use Rattle.tb_query.proofs.Asked.{answer-back}

-- `1` and `2`, in two documents
abbrev ones : Plain
ones = el (codes "r") (leaf (codes "i") (codes "1") ∷ leaf (codes "i") (codes "2") ∷ [])

abbrev p_and_q : Docs
p_and_q = (codes "p", ones) ∷ (codes "q", ones) ∷ []

-- `FOR $x IN document("p")//i, $y IN document("q")//i WHERE $x op $y RETURN <t>{$x}{$y}</t>`
abbrev join : CmpOp → Flwor
join op = query
    (For 0 false (in_document (codes "p") (below (codes "i") ∷ []))
    ∷ For 1 false (in_document (codes "q") (below (codes "i") ∷ [])) ∷ [])
    (compared (nodes (at_var 0 [])) op (nodes (at_var 1 [])) ∷ []) None []
    (Cons (constructor (codes "t") [] (braced (nodes (at_var 0 [])) ∷ braced (nodes (at_var 1 [])) ∷ [])))

abbrev both : PlainBack
both = cons_back (element (codes "t") []
    (content (Operand (nodes (at_var 0 []))) (content (Operand (nodes (at_var 1 []))) no_parts)))

pub join-unequal : answered p_and_q (join Ne)
    ≡ Some (2, codes "(t\n(i\n-1\n)i\n(i\n-2\n)i\n)t\n(t\n(i\n-2\n)i\n(i\n-1\n)i\n)t\n")
unfolding integer_of
join-unequal = answer-back p_and_q (join Ne) both _ (search (rules, the_lemmas)) refl

pub join-equal : answered p_and_q (join Eq)
    ≡ Some (2, codes "(t\n(i\n-1\n)i\n(i\n-1\n)i\n)t\n(t\n(i\n-2\n)i\n(i\n-2\n)i\n)t\n")
unfolding integer_of
join-equal = answer-back p_and_q (join Eq) both _ (search (rules, the_lemmas)) refl

-- `FOR $r IN document("d")/r WHERE conds RETURN $r/n`: one tree where the conditions hold
abbrev kept : List Plain → List Comparison → Option (ℕ × List ℕ)
kept kids conds = answered ((codes "d", el (codes "r") (el (codes "n") [] ∷ kids)) ∷ [])
    (query (For 0 false (in_document (codes "d") (child (codes "r") ∷ [])) ∷ []) conds None []
    (Nodes (at_var 0 (child (codes "n") ∷ []))))

abbrev holding : Option (ℕ × List ℕ)
holding = Some (1, codes "(n\n)n\n")

abbrev failing : Option (ℕ × List ℕ)
failing = Some (0, [])

-- `$r/name op $r/other`, `$r/name op literal`
abbrev stand : List ℕ → CmpOp → List ℕ → List Comparison
stand name op other =
    compared (nodes (at_var 0 (child name ∷ []))) op (nodes (at_var 0 (child other ∷ []))) ∷ []

abbrev stand_to : List ℕ → CmpOp → Literal → List Comparison
stand_to name op to = compared_to (nodes (at_var 0 (child name ∷ []))) op to ∷ []

-- two `a`, one of which equals the one `b`
abbrev two_and_one : List Plain
two_and_one = leaf (codes "a") (codes "1") ∷ leaf (codes "a") (codes "2") ∷ leaf (codes "b") (codes "1") ∷ []

-- A comparison asks for some value on either side, so `=` and `!=` may both hold.
pub some-equal : kept two_and_one (stand (codes "a") Eq (codes "b")) ≡ holding
unfolding integer_of
some-equal = refl

pub some-unequal : kept two_and_one (stand (codes "a") Ne (codes "b")) ≡ holding
unfolding integer_of
some-unequal = refl

pub some-unequal_right : kept two_and_one (stand (codes "b") Ne (codes "a")) ≡ holding
unfolding integer_of
some-unequal_right = refl

-- where a side has no value it fails, `!=` too
pub no_value-left : kept two_and_one (stand (codes "z") Ne (codes "a")) ≡ failing
unfolding integer_of
no_value-left = refl

pub no_value-right : kept two_and_one (stand (codes "a") Ne (codes "z")) ≡ failing
unfolding integer_of
no_value-right = refl

pub no_value-literal : kept two_and_one (stand_to (codes "z") Ne (Number (pos 5))) ≡ failing
unfolding integer_of
no_value-literal = refl

-- Three equalities: `007` is the number 7, is not the bytes `7`, and equals an operand `7`.
abbrev sevens : List Plain
sevens = leaf (codes "a") (codes "007") ∷ leaf (codes "b") (codes "7") ∷ leaf (codes "x") (codes "x7") ∷ []

pub number-equal : kept sevens (stand_to (codes "a") Eq (Number (pos 7))) ≡ holding
unfolding integer_of
number-equal = refl

pub string-not_equal : kept sevens (stand_to (codes "a") Eq (Text (codes "7"))) ≡ failing
unfolding integer_of
string-not_equal = refl

pub operand-equal : kept sevens (stand (codes "a") Eq (codes "b")) ≡ holding
unfolding integer_of
operand-equal = refl

-- A value that is no integer text stands to no number in any way; to an operand it stands by bytes.
pub number-unequal_word : kept sevens (stand_to (codes "x") Ne (Number (pos 7))) ≡ failing
unfolding integer_of
number-unequal_word = refl

pub operand-unequal_word : kept sevens (stand (codes "x") Ne (codes "b")) ≡ holding
unfolding integer_of
operand-unequal_word = refl

-- values with signs, zeros and blanks, and a long one
abbrev signs : Docs
signs = (
  codes "k",
  el (codes "r")
      (leaf (codes "v") (codes "007") ∷ leaf (codes "v") (codes "+7") ∷ leaf (codes "v") (codes "7 ")
      ∷ leaf (codes "v") (codes "100000000000000000000000000000000000000000000000000000000000") ∷ []),
) ∷ []

-- `FOR $v IN document("k")//v WHERE $v op 7 RETURN $v/text()`
abbrev seven : CmpOp → Flwor
seven op = query (For 0 false (in_document (codes "k") (below (codes "v") ∷ [])) ∷ [])
    (compared_to (nodes (at_var 0 [])) op (Number (pos 7)) ∷ []) None [] (Nodes (at_var 0 (texts ∷ [])))

pub signs-equal : answered signs (seven Eq) ≡ Some (3, codes "-007\n-+7\n-7 \n")
unfolding integer_of
signs-equal = refl

pub signs-greater : answered signs (seven Gt)
    ≡ Some (1, codes "-100000000000000000000000000000000000000000000000000000000000\n")
unfolding integer_of
signs-greater = refl

-- `FOR $b IN document("m")//b, $c ALLOWING EMPTY IN $b/c WHERE conds RETURN <t>{$c}</t>` over `b`
abbrev lone : Docs
lone = (codes "m", el (codes "b") []) ∷ []

abbrev allowing : List Comparison → Flwor
allowing conds = query
    (For 0 false (in_document (codes "m") (below (codes "b") ∷ []))
    ∷ For 1 true (at_var 0 (child (codes "c") ∷ [])) ∷ []) conds None []
    (Cons (constructor (codes "t") [] (braced (nodes (at_var 1 [])) ∷ [])))

abbrev of_c : PlainBack
of_c = cons_back (element (codes "t") [] (content (Operand (nodes (at_var 1 []))) no_parts))

pub empty-kept : answered lone (allowing []) ≡ Some (1, codes "(t\n)t\n")
empty-kept = answer-back lone (allowing []) of_c _ (search (rules, the_lemmas)) refl

-- an empty variable has no value
pub empty-fails : answered lone (allowing (compared_to (nodes (at_var 1 [])) Eq (Text (codes "x")) ∷ [])) ≡ Some (0, [])
empty-fails = answer-back lone (allowing (compared_to (nodes (at_var 1 [])) Eq (Text (codes "x")) ∷ [])) of_c _ (search (rules, the_lemmas)) refl

-- `sum($r/v) > 0` over 2^127, which is past the range
abbrev past : List Plain
past = leaf (codes "v") (codes "170141183460469231731687303715884105728") ∷ []

abbrev positive : Comparison
positive = compared_to (agg Sum (at_var 0 (child (codes "v") ∷ []))) Gt (Number (pos 0))

pub sum-past : kept past (positive ∷ []) ≡ None
unfolding integer_of
sum-past = refl

-- it waits for the condition behind it, which fails, so that the sum is not taken
pub sum-waits : kept past (positive ∷ stand_to (codes "z") Eq (Text [])) ≡ failing
unfolding integer_of
sum-waits = refl

-- where that one holds the sum is taken
pub sum-then_taken : kept past (positive ∷ stand_to (codes "n") Eq (Text [])) ≡ None
unfolding integer_of
sum-then_taken = refl

-- both operands are taken, also where the left one has no value
pub right-taken : kept past (compared (nodes (at_var 0 (child (codes "z") ∷ []))) Eq (agg Sum (at_var 0 (child (codes "v") ∷ []))) ∷ []) ≡ None
unfolding integer_of
right-taken = refl

-- those with a sum are tested in written order: the sum of `n`, 0, isn't above 5
abbrev small : Comparison
small = compared_to (agg Sum (at_var 0 (child (codes "n") ∷ []))) Gt (Number (pos 5))

pub sums-first_fails : kept past (small ∷ positive ∷ []) ≡ failing
unfolding integer_of canonical_text
sums-first_fails = refl

pub sums-first_past : kept past (positive ∷ small ∷ []) ≡ None
unfolding integer_of
sums-first_past = refl

-- a sum on the right waits, too, and is taken where the left side has no value
abbrev right_sum : Comparison
right_sum = compared (nodes (at_var 0 (child (codes "z") ∷ []))) Eq (agg Sum (at_var 0 (child (codes "v") ∷ [])))

pub right_sum-taken : kept past (right_sum ∷ []) ≡ None
unfolding integer_of
right_sum-taken = refl

pub right_sum-waits : kept past (right_sum ∷ stand_to (codes "z") Eq (Text [])) ≡ failing
unfolding integer_of
right_sum-waits = refl

-- operands are compared as numbers where both are integer texts, and else by bytes
pub operand-less_number : kept (leaf (codes "a") (codes "9") ∷ leaf (codes "b") (codes "10") ∷ []) (stand (codes "a") Lt (codes "b")) ≡ holding
unfolding integer_of
operand-less_number = refl

pub operand-less_bytes : kept (leaf (codes "a") (codes "9x") ∷ leaf (codes "b") (codes "10") ∷ []) (stand (codes "b") Lt (codes "a")) ≡ holding
unfolding integer_of
operand-less_bytes = refl

-- `FOR $b IN document("m")//b, $c ALLOWING EMPTY IN $b/c, $e IN $c/e RETURN $b`: from an empty
-- variable a path gives no node
pub empty-no_path : answered lone (query
    (For 0 false (in_document (codes "m") (below (codes "b") ∷ []))
    ∷ For 1 true (at_var 0 (child (codes "c") ∷ []))
    ∷ For 2 false (at_var 1 (child (codes "e") ∷ [])) ∷ []) [] None [] (Nodes (at_var 0 [])))
    ≡ Some (0, [])
empty-no_path = refl
