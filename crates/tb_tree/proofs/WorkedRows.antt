-- Rows worked out by hand: what the definitions come to.
use Rattle.std.proofs.Common.{◌≡◌, ℕ, false, List, [], ◌∷◌, ◌++◌, Some, None, refl}
use Rattle.std.specs.Prelude.{codes}
use Rattle.tb_tree.specs.Plain.{Plain, elem, attr, text, no_kids, kid}
use Rattle.tb_tree.specs.Value.{value_of}
use Rattle.tb_tree.specs.Printed.{printed_node}
use Rattle.tb_tree.specs.TextLines.{lines_in}
use Rattle.tb_tree.specs.Pieces.{piece_of, lent_of}
use Rattle.tb_tree.specs.Extents.{Extent, extents_of}
use Rattle.tb_tree.specs.FlatTrees.{kids_at, first_of}
use Rattle.tb_tree.specs.declared.extent.Kind.{Kind}
use Rattle.tb_tree.specs.declared.extent.Kind.TheVariants as kind
use Rattle.tb_tree.specs.Pages.{page, whole_lines, with_nodes}

-- Lines: no byte; a byte 13 before the line's end; one at the end of a last line that has no end; two before
-- a line's end; and lines without a byte.
pub lines-none : lines_in [] ≡ []
lines-none = refl

pub lines-return : lines_in (codes "a\r\nb") ≡ codes "a" ∷ codes "b" ∷ []
lines-return = refl

pub lines-unended : lines_in (codes "a\r") ≡ codes "a\r" ∷ []
lines-unended = refl

pub lines-two_returns : lines_in (codes "\r\r\n") ≡ codes "\r" ∷ []
lines-two_returns = refl

pub lines-empty : lines_in (codes "\n\n") ≡ [] ∷ [] ∷ []
lines-empty = refl

-- An element whose text has a backslash, a line's end and bytes of 128 and more.
abbrev raw_text : List ℕ
raw_text = codes "a\\b\ncde" ++ 195 ∷ 169 ∷ 233 ∷ []

abbrev raw_element : Plain
raw_element = elem (codes "a") (kid (text raw_text) no_kids)

pub value-raw : value_of raw_element ≡ 97 ∷ 92 ∷ 98 ∷ 10 ∷ 99 ∷ 100 ∷ 101 ∷ 195 ∷ 169 ∷ 233 ∷ []
value-raw = refl

pub printed-raw : printed_node raw_element ≡ codes "(a\n-a\\\\b\\ncde" ++ 195 ∷ 169 ∷ 233 ∷ codes "\n)a\n"
printed-raw = refl

-- Pages: two texts share a line; an element stands between two; a text without a byte is none; and a text
-- behind an attribute is a line of its own.
pub page-texts : whole_lines (with_nodes (page [] false) (kid (text (codes "a")) (kid (text (codes "b")) no_kids))) ≡ codes "-ab\n"
page-texts = refl

pub page-between :
    whole_lines (with_nodes (page [] false) (kid (text (codes "a")) (kid (elem (codes "e") no_kids) (kid (text (codes "b")) no_kids))))
    ≡ codes "-a\n(e\n)e\n-b\n"
page-between = refl

pub page-empty :
    whole_lines (with_nodes (page [] false) (kid (text []) (kid (text (codes "a")) (kid (text []) (kid (text (codes "b")) no_kids)))))
    ≡ codes "-ab\n"
page-empty = refl

pub page-attribute :
    whole_lines (with_nodes (page [] false) (kid (text (codes "a")) (kid (attr (codes "n") (codes "v")) (kid (text (codes "b")) no_kids))))
    ≡ codes "-a\n-b\n"
page-attribute = refl

-- The extents of a small document: an attribute's line stands before its element's start line.
abbrev small : Plain
small =
    elem (codes "r") (kid (attr (codes "k") (codes "1")) (kid (text (codes "x")) (kid (elem (codes "b") (kid (text (codes "y")) no_kids)) no_kids)))

abbrev extent : ℕ → ℕ → ℕ → List ℕ → ℕ → Kind → Extent
extent from to last name level k = record { from = from; to = to; last = last; name = name; level = level; kind = k; escaped = false }

pub lines-small : printed_node small ≡ codes "Ak CDATA 1\n(r\n-x\n(b\n-y\n)b\n)r\n"
lines-small = refl

pub extents-small :
    extents_of small
    ≡ extent 0 29 5 (codes "r") 1 kind.Element
    ∷ extent 0 11 2 (codes "k") 2 kind.Attribute
    ∷ extent 14 17 3 [] 2 kind.Text
    ∷ extent 17 26 5 (codes "b") 2 kind.Element
    ∷ extent 20 23 5 [] 3 kind.Text
    ∷ []
extents-small = refl

pub read-small : first_of (kids_at (codes "Ak CDATA 1\n(r\n-x\n(b\n-y\n)b\n)r\n") 1 (extents_of small)) ≡ small
read-small = refl

-- Pieces: of two texts none, of one that text, of none no byte; and what is escaped isn't lent.
pub piece-two : piece_of small ≡ None
piece-two = refl

pub piece-one : piece_of (elem (codes "a") (kid (elem (codes "b") (kid (text (codes "y")) no_kids)) no_kids)) ≡ Some (codes "y")
piece-one = refl

pub piece-none : piece_of (elem (codes "a") (kid (attr (codes "k") (codes "1")) no_kids)) ≡ Some []
piece-none = refl

pub piece-escaped : piece_of raw_element ≡ Some raw_text
piece-escaped = refl

pub lent-two : lent_of small ≡ None
lent-two = refl

pub lent-one : lent_of (elem (codes "a") (kid (elem (codes "b") (kid (text (codes "y")) no_kids)) no_kids)) ≡ Some (codes "y")
lent-one = refl

pub lent-none : lent_of (elem (codes "a") (kid (attr (codes "k") (codes "1")) no_kids)) ≡ Some []
lent-none = refl

pub lent-escaped : lent_of raw_element ≡ None
lent-escaped = refl
