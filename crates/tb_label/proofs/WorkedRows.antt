-- Labels and lists of small documents.
use Rattle.std.proofs.Common.{◌≡◌, ℕ, true, false, [], ◌∷◌, map, pos, refl}
use Rattle.std.specs.Prelude.{codes}
use Rattle.tb_number.specs.Reading.{integer_of}
use Rattle.tb_number.specs.Values.{stands_to_number, stands_to_bytes, stands_to_value}
use Rattle.tb_number.specs.declared.op.CmpOp.TheVariants.{Eq, Ne}
use Rattle.tb_label.specs.PrintedKeys.{printed_parts}
use Rattle.tb_span.specs.Span.{Span}
use Rattle.tb_span.specs.declared.item.Item.{Item}
use Rattle.tb_tree.specs.Plain.{Plain, elem, attr, text, no_kids, kid, one}
use Rattle.tb_tree.specs.declared.node_test.Test.TheVariants.{Name, AnyElement, AttrName, AnyText}
use Rattle.tb_label.specs.Rows.{rows_of, document_label, listed}
use Rattle.tb_tree.specs.Nodes.{node_at}

abbrev span : ℕ → ℕ → ℕ → Span
span start end level = record { start = start; end = end; level = level }

abbrev item : ℕ → ℕ → ℕ → ℕ → Item
item start end level number = record { label = span start end level; node = number }

-- three nested elements a
abbrev nested : Plain
nested = elem (97 ∷ []) (one (elem (97 ∷ []) (one (elem (97 ∷ []) no_kids))))

nested-document : document_label nested ≡ span 1 8 0
nested-document = refl

nested-labels : map (λ r. r.label) (rows_of nested) ≡ span 2 7 1 ∷ span 3 6 2 ∷ span 4 5 3 ∷ []
nested-labels = refl

-- r with an attribute k, a text and an element b that has a text: attributes and texts have labels, too
abbrev mixed : Plain
mixed = elem (114 ∷ []) (kid (attr (107 ∷ []) (49 ∷ [])) (kid (text (120 ∷ [])) (kid (elem (98 ∷ []) (one (text (121 ∷ [])))) no_kids)))

mixed-labels : map (λ r. r.label) (rows_of mixed) ≡ span 2 11 1 ∷ span 3 4 2 ∷ span 5 6 2 ∷ span 7 10 2 ∷ span 8 9 3 ∷ []
mixed-labels = refl

mixed-places : map (λ r. r.place) (rows_of mixed) ≡ (0 ∷ []) ∷ (0 ∷ 0 ∷ []) ∷ (0 ∷ 1 ∷ []) ∷ (0 ∷ 2 ∷ []) ∷ (0 ∷ 2 ∷ 0 ∷ []) ∷ []
mixed-places = refl

mixed-elements : listed AnyElement mixed ≡ item 2 11 1 1 ∷ item 7 10 2 4 ∷ []
mixed-elements = refl

mixed-name : listed (Name (98 ∷ [])) mixed ≡ item 7 10 2 4 ∷ []
mixed-name = refl

mixed-attribute-name : listed (AttrName (107 ∷ [])) mixed ≡ item 3 4 2 2 ∷ []
mixed-attribute-name = refl

-- an attribute's name is no element's
mixed-no_element : listed (Name (107 ∷ [])) mixed ≡ []
mixed-no_element = refl

mixed-texts : listed AnyText mixed ≡ item 5 6 2 3 ∷ item 8 9 3 5 ∷ []
mixed-texts = refl

mixed-fourth : node_at mixed 4 ≡ elem (98 ∷ []) (one (text (121 ∷ [])))
mixed-fourth = refl

-- Keys by what values print as: a number's is that of its digits, whatever blanks are escaped around it;
-- a backslash in front of an `n` is no blank.
pub key-blanks : printed_parts (codes "\t-07\n") ≡ record { kind = 2; bytes = codes "7" }
key-blanks = refl

pub key-escaped : printed_parts (codes "7\\n") ≡ record { kind = 3; bytes = codes "7\\\\n" }
key-escaped = refl

-- 01 and 1 are equal as values and differ as bytes; a value that is no number stands to none.
pub compared-values : stands_to_value Eq (codes "01") (codes "1") ≡ true
unfolding integer_of
compared-values = refl

pub compared-bytes : stands_to_bytes Eq (codes "01") (codes "1") ≡ false
compared-bytes = refl

pub compared-number : stands_to_number Ne (codes "a") (pos 1) ≡ false
unfolding integer_of
compared-number = refl
