-- Groups and their order, computed.
use Rattle.std.proofs.Common.{◌≡◌, ℕ, true, false, List, [], ◌∷◌, refl, rules, codes, Some, None}
use Rattle.std.specs.Prelude.{pos, Bool}
use Rattle.tb_tree.specs.Plain.{Plain, attr}
use Rattle.tb_number.specs.Reading.{integer_of}
use Rattle.tb_number.specs.Canonical.{canonical_text}
use Rattle.tb_number.specs.declared.op.CmpOp.TheVariants.{Eq, Gt}
use Rattle.tb_number.specs.declared.agg.AggKind.TheVariants.{Count}
use Rattle.tb_pattern.specs.declared.cond.Literal.TheVariants.{Number}
use Rattle.tb_query.specs.Parts.{PlainBack, cons_back, element, inner, content, no_parts}
use Rattle.tb_tree.specs.Documents.{Docs}
use Rattle.tb_query.specs.declared.back.AttrPart.{AttrPart}
use Rattle.tb_query.specs.declared.back.Back.TheVariants.{Nodes, Cons}
use Rattle.tb_query.specs.declared.back.Content.TheVariants.{Operand}
use Rattle.tb_query.specs.declared.back.Part.{the_lemmas}
use Rattle.tb_query.specs.declared.clause.Clause.TheVariants.{For}
use Rattle.tb_query.specs.declared.query.Flwor.{Flwor}
use Rattle.tb_query.proofs.Shorthand.{el, leaf, child, below, attribute, any_child, in_document, at_var, nodes, agg, compared, compared_to, constructor, inside, braced, named_by, query, answered}
use Rattle.tb_query.proofs.Asked.{answer-back}

-- three books: of 1994 with one author, of 2000 with three, of 1999 with none
abbrev pub book : List ℕ → List ℕ → List ℕ → List Plain → Plain
book id year title authors =
    el (codes "BOOK") (attr (codes "ID") id ∷ attr (codes "YEAR") year ∷ leaf (codes "TITLE") title ∷ authors)

abbrev pub bibliography : Docs
bibliography = (
  codes "bib",
  el (codes "BIB")
      (book (codes "B1") (codes "1994") (codes "TCP/IP Illustrated") (leaf (codes "AUTHOR") (codes "Stevens") ∷ [])
      ∷ book (codes "B2") (codes "2000") (codes "Data on the Web")
      (leaf (codes "AUTHOR") (codes "Abiteboul") ∷ leaf (codes "AUTHOR") (codes "Buneman") ∷ leaf (codes "AUTHOR") (codes "Suciu") ∷ [])
      ∷ book (codes "B3") (codes "1999") (codes "Digital TV") [] ∷ []),
) ∷ []

-- `FOR $b IN document("bib")//BOOK, $a IN $b/AUTHOR GROUP BY $k := $b/@YEAR
-- RETURN <y v={$k} n={count($a)}/>`
abbrev counts_by_year : List AttrPart
counts_by_year = named_by (codes "v") (nodes (at_var 2 [])) ∷ named_by (codes "n") (agg Count (at_var 1 [])) ∷ []

abbrev by_year : Flwor
by_year = query
    (For 0 false (in_document (codes "bib") (below (codes "BOOK") ∷ []))
    ∷ For 1 false (at_var 0 (child (codes "AUTHOR") ∷ [])) ∷ [])
    [] (Some (record { var = 2; path = at_var 0 (attribute (codes "YEAR") ∷ []) })) []
    (Cons (constructor (codes "y") counts_by_year []))

pub grouped-years : answered bibliography by_year
    ≡ Some (2, codes "Av CDATA 1994\nAn CDATA 1\n(y\n)y\nAv CDATA 2000\nAn CDATA 3\n(y\n)y\n")
unfolding integer_of canonical_text
grouped-years = answer-back bibliography by_year
    (cons_back (element (codes "y") counts_by_year no_parts)) _ (search (rules, the_lemmas)) refl

-- `FOR $b IN document("bib")//BOOK ORDER BY $b/TITLE RETURN $b/TITLE`
pub ordered-titles : answered bibliography (query
    (For 0 false (in_document (codes "bib") (below (codes "BOOK") ∷ [])) ∷ []) [] None
    (record { operand = nodes (at_var 0 (child (codes "TITLE") ∷ [])); descending = false } ∷ [])
    (Nodes (at_var 0 (child (codes "TITLE") ∷ []))))
    ≡ Some (3, codes "(TITLE\n-Data on the Web\n)TITLE\n(TITLE\n-Digital TV\n)TITLE\n(TITLE\n-TCP/IP Illustrated\n)TITLE\n")
unfolding integer_of
ordered-titles = refl

-- `FOR $b IN document("bib")//BOOK WHERE $b/@YEAR > 1995 ORDER BY $b/TITLE
-- RETURN <hit year={$b/@YEAR}>{$b/TITLE}<n>{count($b/AUTHOR)}</n></hit>`
abbrev year_of : List AttrPart
year_of = named_by (codes "year") (nodes (at_var 0 (attribute (codes "YEAR") ∷ []))) ∷ []

abbrev hits : Flwor
hits = query
    (For 0 false (in_document (codes "bib") (below (codes "BOOK") ∷ [])) ∷ [])
    (compared_to (nodes (at_var 0 (attribute (codes "YEAR") ∷ []))) Gt (Number (pos 1995)) ∷ []) None
    (record { operand = nodes (at_var 0 (child (codes "TITLE") ∷ [])); descending = false } ∷ [])
    (Cons (constructor (codes "hit") year_of
    (braced (nodes (at_var 0 (child (codes "TITLE") ∷ [])))
    ∷ inside (constructor (codes "n") [] (braced (agg Count (at_var 0 (child (codes "AUTHOR") ∷ []))) ∷ [])) ∷ [])))

abbrev hit : PlainBack
hit = cons_back (element (codes "hit") year_of
    (content (Operand (nodes (at_var 0 (child (codes "TITLE") ∷ []))))
    (inner (element (codes "n") [] (content (Operand (agg Count (at_var 0 (child (codes "AUTHOR") ∷ [])))) no_parts))
    no_parts)))

pub ordered-hits : answered bibliography hits
    ≡ Some (2, codes "Ayear CDATA 2000\n(hit\n(TITLE\n-Data on the Web\n)TITLE\n(n\n-3\n)n\n)hit\nAyear CDATA 1999\n(hit\n(TITLE\n-Digital TV\n)TITLE\n(n\n-0\n)n\n)hit\n")
unfolding integer_of canonical_text
ordered-hits = answer-back bibliography hits hit _ (search (rules, the_lemmas)) refl

-- `FOR $i IN document("s")//i GROUP BY $k := $i RETURN <g k={$k} n={count($i)}/>` over `007`, `7`
-- and ` +7`: one group, and the variable stands for its first node
abbrev sevens : Docs
sevens = (
  codes "s",
  el (codes "r")
      (leaf (codes "i") (codes "007") ∷ leaf (codes "i") (codes "7") ∷ leaf (codes "i") (codes " +7") ∷ []),
) ∷ []

abbrev counts : List AttrPart
counts = named_by (codes "k") (nodes (at_var 1 [])) ∷ named_by (codes "n") (agg Count (at_var 0 [])) ∷ []

abbrev by_value : Flwor
by_value = query (For 0 false (in_document (codes "s") (below (codes "i") ∷ [])) ∷ [])
    [] (Some (record { var = 1; path = at_var 0 [] })) [] (Cons (constructor (codes "g") counts []))

pub sevens-one_group : answered sevens by_value ≡ Some (1, codes "Ak CDATA 007\nAn CDATA 3\n(g\n)g\n")
unfolding integer_of canonical_text
sevens-one_group = answer-back sevens by_value
    (cons_back (element (codes "g") counts no_parts)) _ (search (rules, the_lemmas)) refl

-- `x` with the keys 2, 1, 2, and `y` with the keys 1, 2
abbrev crossed : Docs
crossed = (
  codes "d",
  el (codes "r")
      (el (codes "x") (attr (codes "k") (codes "2") ∷ []) ∷ el (codes "x") (attr (codes "k") (codes "1") ∷ [])
      ∷ el (codes "x") (attr (codes "k") (codes "2") ∷ [])
      ∷ el (codes "y") (attr (codes "k") (codes "1") ∷ []) ∷ el (codes "y") (attr (codes "k") (codes "2") ∷ []) ∷ []),
) ∷ []

-- `FOR $x IN document("d")//x, $y IN document("d")//y WHERE $x/@k = $y/@k GROUP BY $g := $x/none
-- RETURN $y`: no tuple has a key, so all are one
-- group, over which each `y` is there once, in the order of tuples and not of the document
pub group-each_once : answered crossed (query
    (For 0 false (in_document (codes "d") (below (codes "x") ∷ []))
    ∷ For 1 false (in_document (codes "d") (below (codes "y") ∷ [])) ∷ [])
    (compared (nodes (at_var 0 (attribute (codes "k") ∷ []))) Eq (nodes (at_var 1 (attribute (codes "k") ∷ []))) ∷ [])
    (Some (record { var = 2; path = at_var 0 (child (codes "none") ∷ []) })) [] (Nodes (at_var 1 [])))
    ≡ Some (2, codes "Ak CDATA 2\n(y\n)y\nAk CDATA 1\n(y\n)y\n")
unfolding integer_of
group-each_once = refl

-- `FOR $i IN document("o")/r/* ORDER BY $i/@k RETURN $i`, where `b` and `d` have one key and `c` none
abbrev tied : Docs
tied = (
  codes "o",
  el (codes "r")
      (el (codes "a") (attr (codes "k") (codes "1") ∷ []) ∷ el (codes "b") (attr (codes "k") (codes "2") ∷ [])
      ∷ el (codes "c") [] ∷ el (codes "d") (attr (codes "k") (codes "02") ∷ []) ∷ []),
) ∷ []

abbrev by_k : Bool → Flwor
by_k descending = query (For 0 false (in_document (codes "o") (child (codes "r") ∷ any_child ∷ [])) ∷ []) [] None
    (record { operand = nodes (at_var 0 (attribute (codes "k") ∷ [])); descending = descending } ∷ [])
    (Nodes (at_var 0 []))

pub ascending-ties : answered tied (by_k false)
    ≡ Some (4, codes "(c\n)c\nAk CDATA 1\n(a\n)a\nAk CDATA 2\n(b\n)b\nAk CDATA 02\n(d\n)d\n")
unfolding integer_of
ascending-ties = refl

-- DESCENDING keeps ties in their order, and puts no value last
pub descending-ties : answered tied (by_k true)
    ≡ Some (4, codes "Ak CDATA 2\n(b\n)b\nAk CDATA 02\n(d\n)d\nAk CDATA 1\n(a\n)a\n(c\n)c\n")
unfolding integer_of
descending-ties = refl
