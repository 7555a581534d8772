-- A node put into the innermost open element prints behind all lines, and its extents stand behind all others.
use Rattle.std.proofs.Common.{◌≡◌, ℕ, ◌+◌, ◌≤◌, false, List, [], ◌∷◌, ◌++◌, length, Option, Some, None, refl, sym, ap, ap₂, ◌∙◌, arith, append_assoc, append-nil, length-append}
use Rattle.tb_tree.specs.Plain.{Plain, elem, attr, text, one, plains}
use Rattle.tb_tree.specs.Numbers.{counts}
use Rattle.tb_tree.specs.Sound.{is_attribute}
use Rattle.tb_tree.specs.Printed.{printed_node, attribute_lines, content_lines, start_line}
use Rattle.tb_tree.specs.Making.{Frame, put}
use Rattle.tb_tree.specs.Extents.{element_extent, extents}
use Rattle.tb_tree.specs.Drafts.{root_text, root_extents, begun_text, begun_extents, open_numbers}
use Rattle.tb_tree.proofs.JoinedLaws.{plains-append, attribute_lines-joined, content_lines-joined, extents-joined, same_extents, length-extents, lines-alone, content-alone, extents-alone, counts-fit}

pub put-none : (fs : List Frame) → put [] fs ≡ fs
put-none [] = refl
put-none (f ∷ fs) = ap (λ ks. record { name = f.name; kids = ks } ∷ fs) (append-nil f.kids)

lines-more : (ks : List Plain) (x : Plain) → is_attribute x ≡ false → attribute_lines (plains (ks ++ x ∷ [])) ≡ attribute_lines (plains ks)
lines-more ks x e =
    ap attribute_lines (plains-append ks (x ∷ [])) ∙ attribute_lines-joined (plains ks) (one x) ∙ ap (λ l. attribute_lines (plains ks) ++ l) (lines-alone x e) ∙ append-nil (attribute_lines (plains ks))

content-more : (ks : List Plain) (x : Plain) → is_attribute x ≡ false → content_lines (plains (ks ++ x ∷ [])) ≡ content_lines (plains ks) ++ printed_node x
content-more ks x e =
    ap content_lines (plains-append ks (x ∷ [])) ∙ content_lines-joined (plains ks) (one x) ∙ ap (λ l. content_lines (plains ks) ++ l) (content-alone x e)

-- the lines
pub put-text : (root : Option Plain) (f : Frame) (fs : List Frame) (x : Plain) → is_attribute x ≡ false
    → begun_text root (put (x ∷ []) (f ∷ fs)) ≡ begun_text root (f ∷ fs) ++ printed_node x
put-text root f fs x e =
    let first = attribute_lines (plains f.kids) ++ start_line f.name in
    let content = content_lines (plains f.kids) in
    ap₂ (λ a c. begun_text root fs ++ ((a ++ start_line f.name) ++ c)) (lines-more f.kids x e) (content-more f.kids x e)
    ∙ ap (λ l. begun_text root fs ++ l) (sym (append_assoc first content (printed_node x)))
    ∙ sym (append_assoc (begun_text root fs) (first ++ content) (printed_node x))

-- the extents
pub put-extents : (root : Option Plain) (f : Frame) (fs : List Frame) (x : Plain) (a : ℕ) → is_attribute x ≡ false
    → begun_extents root (put (x ∷ []) (f ∷ fs))
    ≡ begun_extents root (f ∷ fs) ++ extents a (length (begun_text root (f ∷ fs))) (length (begun_extents root (f ∷ fs)) + 1) (length fs + 2) (one x)
put-extents root f fs x a e =
    let at = length (begun_text root fs) in
    let n = length (begun_extents root fs) + 1 in
    let level = length fs + 1 in
    let ks = plains f.kids in
    let first = attribute_lines ks ++ start_line f.name in
    let here = element_extent at 0 0 f.name level in
    let inside = extents at (at + length first) (n + 1) (level + 1) ks in
    let place : at + length first + length (content_lines ks) ≡ length (begun_text root (f ∷ fs)) =
    omega (arith, length-append (begun_text root fs) (first ++ content_lines ks), length-append first (content_lines ks)) in
    let number : n + 1 + counts ks ≡ length (begun_extents root (f ∷ fs)) + 1 =
    omega (arith, length-append (begun_extents root fs) (here ∷ inside), length-extents at (at + length first) (n + 1) (level + 1) ks) in
    let more : extents at (at + length first) (n + 1) (level + 1) (plains (f.kids ++ x ∷ []))
    ≡ inside ++ extents a (length (begun_text root (f ∷ fs))) (length (begun_extents root (f ∷ fs)) + 1) (length fs + 2) (one x) =
    ap (extents at (at + length first) (n + 1) (level + 1)) (plains-append f.kids (x ∷ []))
    ∙ extents-joined at (at + length first) (n + 1) (level + 1) ks (one x)
    ∙ ap (λ r. inside ++ r)
    (same_extents (at + length (attribute_lines ks)) (at + length (attribute_lines ks)) _ _ _ _ (level + 1) (length fs + 2) (one x) refl place number (omega arith)
    ∙ extents-alone (at + length (attribute_lines ks)) a _ _ _ x e) in
    ap (λ l. begun_extents root fs ++ (here ∷ extents at (at + length (l ++ start_line f.name)) (n + 1) (level + 1) (plains (f.kids ++ x ∷ [])))) (lines-more f.kids x e)
    ∙ ap (λ r. begun_extents root fs ++ (here ∷ r)) more
    ∙ sym (append_assoc (begun_extents root fs) (here ∷ inside) _)

-- the open elements stay
pub put-numbers : (root : Option Plain) (nodes : List Plain) (fs : List Frame) → open_numbers root (put nodes fs) ≡ open_numbers root fs
put-numbers root nodes [] = refl
put-numbers root nodes (f ∷ fs) = refl

pub length-put : (nodes : List Plain) (fs : List Frame) → length (put nodes fs) ≡ length fs
length-put nodes [] = refl
length-put nodes (f ∷ fs) = refl

pub length-open : (root : Option Plain) (fs : List Frame) → length (open_numbers root fs) ≡ length fs
length-open root [] = refl
length-open root (f ∷ fs) = omega (arith, length-append (open_numbers root fs) (length (begun_extents root fs) ∷ []), length-open root fs)

-- There are no more extents than bytes.
root-fits : (root : Option Plain) → length (root_extents root) ≤ length (root_text root)
root-fits None = omega arith
root-fits (Some (elem name kids)) =
    omega (arith, length-extents 0 0 1 1 (one (elem name kids)), counts-fit (one (elem name kids)), ap length (append-nil (printed_node (elem name kids))))
root-fits (Some (attr name value)) =
    omega (arith, length-extents 0 0 1 1 (one (attr name value)), counts-fit (one (attr name value)), ap length (append-nil (printed_node (attr name value))))
root-fits (Some (text value)) =
    omega (arith, length-extents 0 0 1 1 (one (text value)), counts-fit (one (text value)), ap length (append-nil (printed_node (text value))))

pub begun-fits : (root : Option Plain) (fs : List Frame) → length (begun_extents root fs) ≤ length (begun_text root fs)
begun-fits root [] = root-fits root
begun-fits root (f ∷ fs) =
    let at = length (begun_text root fs) in
    let n = length (begun_extents root fs) + 1 in
    let level = length fs + 1 in
    let ks = plains f.kids in
    let first = attribute_lines ks ++ start_line f.name in
    let inside = extents at (at + length first) (n + 1) (level + 1) ks in
    omega (
      arith,
      begun-fits root fs,
      counts-fit ks,
      length-extents at (at + length first) (n + 1) (level + 1) ks,
      length-append (begun_extents root fs) (element_extent at 0 0 f.name level ∷ inside),
      length-append (begun_text root fs) (first ++ content_lines ks),
      length-append first (content_lines ks),
      length-append (attribute_lines ks) (start_line f.name),
    )
