-- A draft whose root has ended is a document, and one with a short text has room.
use Rattle.std.proofs.Common.{◌≡◌, ℕ, ◌+◌, ◌*◌, ◌^◌, ◌<◌, ◌≤◌, true, codes, List, [], ◌∷◌, ◌++◌, length, sym, ap, ◌∙◌, subst, arith, length-append}
use Rattle.std.specs.List.{list_all}
use Rattle.std.proofs.lemmas.Bool.{false≢true}
use Rattle.std.proofs.lemmas.List.{length-map}
use Rattle.tb_tree.specs.Plain.{Plain, elem, attr, text, Plains, kid, plains}
use Rattle.tb_tree.specs.Numbers.{counts}
use Rattle.tb_tree.specs.Sound.{is_attribute}
use Rattle.tb_tree.specs.Printed.{attribute_lines, attribute_line, escaped}
use Rattle.tb_tree.specs.Making.{Made, put, text_of}
use Rattle.tb_tree.specs.NameTables.{AreApart}
use Rattle.tb_tree.specs.Extents.{named}
use Rattle.tb_tree.specs.FlatTrees.{IsDocument}
use Rattle.tb_tree.specs.declared.extent.Extent as code
use Rattle.tb_tree.specs.declared.draft.Draft.{Draft}
use Rattle.tb_tree.specs.Drafts.{begun_text, begun_extents, root_text, root_extents, going, waiting_extents, HasRoom, IsDone, Shows}
use Rattle.tb_tree.proofs.JoinedLaws.{length-extents}
use Rattle.tb_tree.proofs.PutLaws.{begun-fits}
use Rattle.tb_tree.proofs.KeptLaws.{stack-length}
use Rattle.tb_tree.proofs.TextLaws.{text-none, extents-none}

pub draft-document : (d : Draft) (m : Made) (root : Plain) → Shows d m → IsDone m root → AreApart d.elements → AreApart d.attributes → IsDocument d.text.items d.extents.items d.elements d.attributes root
draft-document d m root s done elements attributes = record {
  element = done.element;
  sound = done.sound;
  low = done.low;
  text_is = s.text_is ∙ text-none m done.none_wait ∙ ap (λ fr. begun_text m.root (put (text_of m.running) fr)) done.none_open ∙ ap root_text done.root_is;
  extents_are = λ more others.
      s.extents_are more others ∙ extents-none m done.none_wait ∙ ap (λ fr. begun_extents m.root (put (text_of m.running) fr)) done.none_open ∙ ap root_extents done.root_is;
  elements_apart = elements;
  attributes_apart = attributes;
}

-- the same, where its parts are moved
pub made-document : (d : Draft) (m : Made) (root : Plain) (lines : List ℕ) (es : List code.Extent) (elements attributes : List (List ℕ))
    → Shows d m → IsDone m root → lines ≡ d.text.items → es ≡ d.extents.items → elements ≡ d.elements → attributes ≡ d.attributes → AreApart d.elements → AreApart d.attributes
    → IsDocument lines es elements attributes root
made-document d m root lines es elements attributes s done p q r t one two =
    subst (λ x. IsDocument x es elements attributes root) (sym p)
    (subst (λ x. IsDocument d.text.items x elements attributes root) (sym q)
    (subst (λ x. IsDocument d.text.items d.extents.items x attributes root) (sym r)
    (subst (λ x. IsDocument d.text.items d.extents.items d.elements x root) (sym t) (draft-document d m root s done one two))))

-- Attributes that wait have two bytes for each of their extents, and more.
bare-fits : (ws : List Plain) → list_all is_attribute ws ≡ true → 2 * counts (plains ws) ≤ length (attribute_lines (plains ws))
bare-fits [] e = omega arith
bare-fits (elem name kids ∷ ws) e = absurd (false≢true e)
bare-fits (attr name value ∷ ws) e =
    omega (
      arith,
      bare-fits ws e,
      length-append (attribute_line name value) (attribute_lines (plains ws)),
      length-append ((name ++ codes " CDATA ") ++ escaped value) (10 ∷ []),
      length-append (name ++ codes " CDATA ") (escaped value),
      length-append name (codes " CDATA "),
    )
bare-fits (text value ∷ ws) e = absurd (false≢true e)

waiting-fits : (at n level : ℕ) (ws : List Plain) → list_all is_attribute ws ≡ true → length (waiting_extents at n level ws) ≤ length (attribute_lines (plains ws))
waiting-fits at n level [] e = omega arith
waiting-fits at n level (w ∷ ws) e =
    omega (arith, bare-fits (w ∷ ws) e, length-extents at 0 (n + 1) (level + 1) (plains (w ∷ ws)), some-count w (plains ws))
  where
    some-count : (w : Plain) (ks : Plains) → 1 ≤ counts (kid w ks)
    some-count (elem name kids) ks = omega arith
    some-count (attr name value) ks = omega arith
    some-count (text value) ks = omega arith

fewer : (d : Draft) (m : Made) → Shows d m → length d.extents.items ≤ length d.text.items
fewer d m s =
    let lines = begun_text m.root (going m) in
    let begun = begun_extents m.root (going m) in
    omega (
      arith,
      length-map d.extents.items (named (d.elements ++ []) (d.attributes ++ [])),
      ap length (s.extents_are [] []),
      ap length s.text_is,
      length-append begun (waiting_extents (length lines) (length begun + 1) (length m.frames + 1) m.waiting),
      length-append lines (attribute_lines (plains m.waiting)),
      begun-fits m.root (going m),
      waiting-fits (length lines) (length begun + 1) (length m.frames + 1) m.waiting s.bare,
    )

-- A draft has room where its text is short enough.
pub has-room : (d : Draft) (m : Made) (more : ℕ) → Shows d m → length m.frames ≤ 512 → length d.text.items + more < 2 ^ 32 → HasRoom d more
has-room d m more s deep room = record {
  room = room;
  few = fewer d m s;
  deep = omega (arith, deep, stack-length d m s);
  elements = s.few_elements;
  attributes = s.few_attributes;
}

pub less-room : (d : Draft) (more less : ℕ) → HasRoom d more → less ≤ more → HasRoom d less
less-room d more less r fits = record {
  room = omega (arith, r.room);
  few = r.few;
  deep = r.deep;
  elements = r.elements;
  attributes = r.attributes;
}
