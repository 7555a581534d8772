-- Worked rows of the definitions, computed.
use Rattle.std.proofs.Common.{◌≡◌, ℕ, true, false, List, [], ◌∷◌, map, length, refl, codes}
use Rattle.std.specs.Prelude.{pos}
use Rattle.std.specs.List.{flat_map}
use Rattle.tb_tree.specs.Plain.{Plain, elem, attr, text, no_kids, kid}
use Rattle.tb_tree.specs.Printed.{printed_node}
use Rattle.tb_tree.specs.declared.node_test.Test.{Test}
use Rattle.tb_tree.specs.declared.node_test.Test.TheVariants.{Name, AttrName, AnyAttr, AnyText}
use Rattle.tb_number.specs.Reading.{integer_of}
use Rattle.tb_number.specs.declared.op.CmpOp.{CmpOp}
use Rattle.tb_number.specs.declared.op.CmpOp.TheVariants.{Eq, Ne, Lt, Ge}
use Rattle.tb_span.specs.declared.item.Axis.{Axis}
use Rattle.tb_span.specs.declared.item.Axis.TheVariants.{Child, Descendant}
use Rattle.tb_pattern.specs.declared.cond.Cond.{Cond}
use Rattle.tb_pattern.specs.declared.cond.Literal.{Literal}
use Rattle.tb_pattern.specs.declared.cond.Literal.TheVariants.{Number, Text}
use Rattle.tb_pattern.specs.declared.pattern.Mark.{Mark}
use Rattle.tb_pattern.specs.declared.pattern.Mark.TheVariants.{One, Optional, Some, Any}
use Rattle.tb_pattern.specs.Conditions.{stands, all_hold}
use Rattle.tb_pattern.specs.Plain.{PlainPattern, matching, PlainEdges, PlainEdge, no_edges, edge, numbered_edges}
use Rattle.tb_pattern.specs.Witness.{naive_witnesses, numbers_in}
use Rattle.tb_pattern.specs.WitnessTree.{witness_tree}

-- a pattern node with a name and edges alone
abbrev named : List ℕ → PlainEdges → PlainPattern
named name es = matching (Name name) [] false es

-- one edge
abbrev only : Axis → Mark → PlainPattern → PlainEdges
only axis mark below = edge axis mark below no_edges

abbrev lines : PlainEdges → Plain → List ℕ
lines es root = flat_map (λ w. printed_node (witness_tree es w)) (naive_witnesses es root)

abbrev cond : CmpOp → Literal → Cond
cond op with = record { op = op; with = with }

-- a book of the year
abbrev book : List ℕ → Plain
book year = elem (codes "BOOK") (kid (attr (codes "YEAR") year) no_kids)

-- books of 1994, 1995, an unknown year, and 994 with blanks and zeros
abbrev bibliography : Plain
bibliography =
    elem (codes "BIB") (kid (book (codes "1994")) (kid (book (codes "1995")) (kid (book (codes "n.d.")) no_kids)))

-- `(/- BIB (/- BOOK (/- @YEAR [cond] !)))`
abbrev of_year : Cond → PlainEdges
of_year c =
    only Child One (named (codes "BIB") (only Child One (named (codes "BOOK") (only Child One (matching (AttrName (codes "YEAR")) (c ∷ []) true no_edges)))))

-- `[< 1995]`: the value that is no number is not below 1995
pub year-lines : lines (of_year (cond Lt (Number (pos 1995)))) bibliography
    ≡ codes "(witness\n(BIB\n(BOOK\n(@YEAR\n-1994\n)@YEAR\n)BOOK\n)BIB\n)witness\n"
unfolding integer_of
year-lines = refl

-- `[>= "1995"]`: by bytes, the value that is no number among them
pub year-bytes : map numbers_in (naive_witnesses (of_year (cond Ge (Text (codes "1995")))) bibliography)
    ≡ (1 ∷ 4 ∷ 5 ∷ []) ∷ (1 ∷ 6 ∷ 7 ∷ []) ∷ []
year-bytes = refl

-- ` 007` is the number 7, and other bytes than `7`
pub seven-stands : stands Eq (codes " 007") (Number (pos 7)) ≡ true
unfolding integer_of
seven-stands = refl

pub seven-bytes : stands Eq (codes " 007") (Text (codes "7")) ≡ false
seven-bytes = refl

-- `a` in `a` in `a`
abbrev nested : Plain
nested = elem (codes "a") (kid (elem (codes "a") (kid (elem (codes "a") no_kids) no_kids)) no_kids)

-- `(//- a (AXIS- a))`
abbrev a_in_a : Axis → PlainEdges
a_in_a axis = only Descendant One (named (codes "a") (only axis One (named (codes "a") no_edges)))

-- three pairs: no node is paired with itself; and a grandchild is no child
pub nested-descendants : map numbers_in (naive_witnesses (a_in_a Descendant) nested)
    ≡ (1 ∷ 2 ∷ []) ∷ (1 ∷ 3 ∷ []) ∷ (2 ∷ 3 ∷ []) ∷ []
nested-descendants = refl

pub nested-children : map numbers_in (naive_witnesses (a_in_a Child) nested) ≡ (1 ∷ 2 ∷ []) ∷ (2 ∷ 3 ∷ []) ∷ []
nested-children = refl

-- `b` with no kid, and with two kids `c`
abbrev alone : Plain
alone = elem (codes "b") no_kids

abbrev with_two : Plain
with_two = elem (codes "b") (kid (elem (codes "c") no_kids) (kid (elem (codes "c") no_kids) no_kids))

-- `(//- b (/X c))` for each mark X
abbrev c_in_b : Mark → PlainEdges
c_in_b mark = only Descendant One (named (codes "b") (only Child mark (named (codes "c") no_edges)))

abbrev found : Plain → List ℕ
found root = map (λ mark. length (naive_witnesses (c_in_b mark) root)) (One ∷ Optional ∷ Some ∷ Any ∷ [])

pub alone-witnesses : found alone ≡ 0 ∷ 1 ∷ 0 ∷ 1 ∷ []
alone-witnesses = refl

pub with_two-witnesses : found with_two ≡ 2 ∷ 2 ∷ 1 ∷ 1 ∷ []
with_two-witnesses = refl

pub with_two-lines : lines (c_in_b Any) with_two ≡ codes "(witness\n(b\n(c\n)c\n(c\n)c\n)b\n)witness\n"
with_two-lines = refl

-- `(//- b (/- c, /- c))`: a choice for each edge, the first edge varying slowest
abbrev c_and_c : PlainEdges
c_and_c =
    only Descendant One (named (codes "b") (edge Child One (named (codes "c") no_edges) (only Child One (named (codes "c") no_edges))))

pub with_two-choices : map numbers_in (naive_witnesses c_and_c with_two)
    ≡ (1 ∷ 2 ∷ 2 ∷ []) ∷ (1 ∷ 2 ∷ 3 ∷ []) ∷ (1 ∷ 3 ∷ 2 ∷ []) ∷ (1 ∷ 3 ∷ 3 ∷ []) ∷ []
with_two-choices = refl

-- `(//- @id !, //* text())`: an attribute becomes an element, and texts side by side join
abbrev written : Plain
written =
    elem (codes "r")
    (kid (elem (codes "p") (kid (attr (codes "id") (codes "7")) (kid (text (codes "one")) no_kids))) (kid (text (codes "two")) no_kids))

abbrev id_and_texts : PlainEdges
id_and_texts =
    edge Descendant One (matching AnyAttr [] true no_edges) (only Descendant Any (matching AnyText [] false no_edges))

pub written-joined : lines id_and_texts written ≡ codes "(witness\n(@id\n-7\n)@id\n-onetwo\n)witness\n"
written-joined = refl

-- the three pairs of nested `a` as text
pub nested-lines : lines (a_in_a Descendant) nested
    ≡ codes "(witness\n(a\n(a\n)a\n)a\n)witness\n(witness\n(a\n(a\n)a\n)a\n)witness\n(witness\n(a\n(a\n)a\n)a\n)witness\n"
nested-lines = refl

-- `b` without `c`, where none need be
pub alone-lines : lines (c_in_b Optional) alone ≡ codes "(witness\n(b\n)b\n)witness\n"
alone-lines = refl

-- `a` below `x` below the root `r`: it is a descendant of the root, and no child
abbrev grandchild : Plain
grandchild = elem (codes "r") (kid (elem (codes "x") (kid (elem (codes "a") no_kids) no_kids)) no_kids)

abbrev a_in_r : Axis → PlainEdges
a_in_r axis = only Child One (named (codes "r") (only axis One (named (codes "a") no_edges)))

pub grandchild-as_child : length (naive_witnesses (a_in_r Child) grandchild) ≡ 0
grandchild-as_child = refl

pub grandchild-as_descendant : length (naive_witnesses (a_in_r Descendant) grandchild) ≡ 1
grandchild-as_descendant = refl

-- `(/- r (/- p !, /- text()))`: a node marked `!` brings its own attributes and kids
abbrev whole_p : PlainEdges
whole_p =
    only Child One (named (codes "r") (edge Child One (matching (Name (codes "p")) [] true no_edges) (only Child One (matching AnyText [] false no_edges))))

pub written-lines : lines whole_p written ≡ codes "(witness\n(r\nAid CDATA 7\n(p\n-one\n)p\n-two\n)r\n)witness\n"
written-lines = refl

-- the edges of `(/- a (/- b, //- c), /- d)` by number, each before those below it
abbrev numbered : PlainEdges
numbered =
    edge Child One (named (codes "a") (edge Child One (named (codes "b") no_edges) (only Descendant One (named (codes "c") no_edges))))
    (only Child One (named (codes "d") no_edges))

abbrev tested : PlainPattern → Test
tested (matching test conds whole below) = test

abbrev test_at : PlainEdge → Test
test_at e = tested e.to

pub edges-numbered : map test_at (numbered_edges numbered) ≡ Name (codes "a") ∷ Name (codes "b") ∷ Name (codes "c") ∷ Name (codes "d") ∷ []
edges-numbered = refl

-- a value that is no integer text stands to no number, `!=` too; and all conditions must hold
pub word-unequal : stands Ne (codes "x") (Number (pos 7)) ≡ false
unfolding integer_of
word-unequal = refl

pub conds-all : map (all_hold (cond Ge (Number (pos 3)) ∷ cond Lt (Number (pos 5)) ∷ [])) (codes "2" ∷ codes "4" ∷ codes "5" ∷ []) ≡ false ∷ true ∷ false ∷ []
unfolding integer_of
conds-all = refl
