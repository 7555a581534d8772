-- Nodes put behind other nodes: their lines and their extents.
use Rattle.std.proofs.Common.{◌≡◌, ℕ, ◌+◌, ◌≤◌, true, false, List, [], ◌∷◌, ◌++◌, length, refl, sym, ap, ◌∙◌, arith, append_assoc, append-nil, length-append}
use Rattle.std.specs.List.{list_all}
use Rattle.std.proofs.lemmas.Bool.{false≢true}
use Rattle.tb_tree.specs.Plain.{Plain, elem, attr, text, Plains, no_kids, kid, one, plains, joined_kids}
use Rattle.tb_tree.specs.Numbers.{counts}
use Rattle.tb_tree.specs.Sound.{is_attribute}
use Rattle.tb_tree.specs.Printed.{printed_node, attribute_lines, content_lines, attribute_line, data_line, start_line}
use Rattle.tb_tree.specs.Extents.{element_extent, attribute_extent, text_extent, extents}

pub plains-append : (xs ys : List Plain) → plains (xs ++ ys) ≡ joined_kids (plains xs) (plains ys)
plains-append [] ys = refl
plains-append (x ∷ xs) ys = ap (kid x) (plains-append xs ys)

-- no node behind the others
pub joined-none : (ks : Plains) → joined_kids ks no_kids ≡ ks
joined-none no_kids = refl
joined-none (kid k rest) = ap (kid k) (joined-none rest)

pub attribute_lines-joined : (xs ys : Plains) → attribute_lines (joined_kids xs ys) ≡ attribute_lines xs ++ attribute_lines ys
attribute_lines-joined no_kids ys = refl
attribute_lines-joined (kid (elem name kids) xs) ys = attribute_lines-joined xs ys
attribute_lines-joined (kid (attr name value) xs) ys =
    ap (λ l. attribute_line name value ++ l) (attribute_lines-joined xs ys) ∙ sym (append_assoc (attribute_line name value) (attribute_lines xs) (attribute_lines ys))
attribute_lines-joined (kid (text value) xs) ys = attribute_lines-joined xs ys

pub content_lines-joined : (xs ys : Plains) → content_lines (joined_kids xs ys) ≡ content_lines xs ++ content_lines ys
content_lines-joined no_kids ys = refl
content_lines-joined (kid (elem name kids) xs) ys =
    ap (λ l. printed_node (elem name kids) ++ l) (content_lines-joined xs ys) ∙ sym (append_assoc (printed_node (elem name kids)) (content_lines xs) (content_lines ys))
content_lines-joined (kid (attr name value) xs) ys = content_lines-joined xs ys
content_lines-joined (kid (text value) xs) ys =
    ap (λ l. data_line value ++ l) (content_lines-joined xs ys) ∙ sym (append_assoc (data_line value) (content_lines xs) (content_lines ys))

pub same_extents : (a a' c c' n n' l l' : ℕ) (ks : Plains) → a ≡ a' → c ≡ c' → n ≡ n' → l ≡ l' → extents a c n l ks ≡ extents a' c' n' l' ks
same_extents a a' c c' n n' l l' ks p q r s = cc

pub extents-joined : (a c n level : ℕ) (xs ys : Plains)
    → extents a c n level (joined_kids xs ys)
    ≡ extents a c n level xs ++ extents (a + length (attribute_lines xs)) (c + length (content_lines xs)) (n + counts xs) level ys
extents-joined a c n level no_kids ys = same_extents a _ c _ n _ level level ys (omega arith) (omega arith) (omega arith) refl
extents-joined a c n level (kid (elem name kids) rest) ys =
    let long = length (printed_node (elem name kids)) in
    let here = element_extent c (c + long) (n + counts kids) name level in
    let inside = extents c (c + length (attribute_lines kids ++ start_line name)) (n + 1) (level + 1) kids in
    let behind = extents a (c + long) (n + 1 + counts kids) level rest in
    let total : c + long + length (content_lines rest) ≡ c + length (printed_node (elem name kids) ++ content_lines rest) =
    omega (arith, length-append (printed_node (elem name kids)) (content_lines rest)) in
    ap (λ r. here ∷ r)
    (ap (λ r. inside ++ r)
    (extents-joined a (c + long) (n + 1 + counts kids) level rest ys
    ∙ ap (λ r. behind ++ r) (same_extents (a + length (attribute_lines rest)) _ (c + long + length (content_lines rest)) _ (n + 1 + counts kids + counts rest) _ level level ys refl total (omega arith) refl))
    ∙ sym (append_assoc inside behind _))
extents-joined a c n level (kid (attr name value) rest) ys =
    let long = length (attribute_line name value) in
    let total : a + long + length (attribute_lines rest) ≡ a + length (attribute_line name value ++ attribute_lines rest) =
    omega (arith, length-append (attribute_line name value) (attribute_lines rest)) in
    ap (λ r. attribute_extent a n name value level ∷ r)
    (extents-joined (a + long) c (n + 1) level rest ys
    ∙ ap (λ r. extents (a + long) c (n + 1) level rest ++ r) (same_extents (a + long + length (attribute_lines rest)) _ (c + length (content_lines rest)) _ (n + 1 + counts rest) _ level level ys total refl (omega arith) refl))
extents-joined a c n level (kid (text value) rest) ys =
    let long = length (data_line value) in
    let total : c + long + length (content_lines rest) ≡ c + length (data_line value ++ content_lines rest) =
    omega (arith, length-append (data_line value) (content_lines rest)) in
    ap (λ r. text_extent c n value level ∷ r)
    (extents-joined a (c + long) (n + 1) level rest ys
    ∙ ap (λ r. extents a (c + long) (n + 1) level rest ++ r) (same_extents (a + length (attribute_lines rest)) _ (c + long + length (content_lines rest)) _ (n + 1 + counts rest) _ level level ys refl total (omega arith) refl))

pub length-extents : (a c n level : ℕ) (ks : Plains) → length (extents a c n level ks) ≡ counts ks
length-extents a c n level no_kids = refl
length-extents a c n level (kid (elem name kids) rest) =
    let inside = extents c (c + length (attribute_lines kids ++ start_line name)) (n + 1) (level + 1) kids in
    let behind = extents a (c + length (printed_node (elem name kids))) (n + 1 + counts kids) level rest in
    omega (
      arith,
      length-append inside behind,
      length-extents c (c + length (attribute_lines kids ++ start_line name)) (n + 1) (level + 1) kids,
      length-extents a (c + length (printed_node (elem name kids))) (n + 1 + counts kids) level rest,
    )
length-extents a c n level (kid (attr name value) rest) = omega (arith, length-extents (a + length (attribute_line name value)) c (n + 1) level rest)
length-extents a c n level (kid (text value) rest) = omega (arith, length-extents a (c + length (data_line value)) (n + 1) level rest)

-- a node that is no attribute
pub lines-alone : (x : Plain) → is_attribute x ≡ false → attribute_lines (one x) ≡ []
lines-alone (elem name kids) e = refl
lines-alone (attr name value) e = absurd (false≢true (sym e))
lines-alone (text value) e = refl

pub content-alone : (x : Plain) → is_attribute x ≡ false → content_lines (one x) ≡ printed_node x
content-alone (elem name kids) e = append-nil (printed_node (elem name kids))
content-alone (attr name value) e = absurd (false≢true (sym e))
content-alone (text value) e = append-nil (data_line value)

pub extents-alone : (a a' c n level : ℕ) (x : Plain) → is_attribute x ≡ false → extents a c n level (one x) ≡ extents a' c n level (one x)
extents-alone a a' c n level (elem name kids) e = refl
extents-alone a a' c n level (attr name value) e = absurd (false≢true (sym e))
extents-alone a a' c n level (text value) e = refl

-- attributes alone
pub content-bare : (ws : List Plain) → list_all is_attribute ws ≡ true → content_lines (plains ws) ≡ []
content-bare [] e = refl
content-bare (elem name kids ∷ ws) e = absurd (false≢true e)
content-bare (attr name value ∷ ws) e = content-bare ws e
content-bare (text value ∷ ws) e = absurd (false≢true e)

pub extents-bare : (a c c' n level : ℕ) (ws : List Plain) → list_all is_attribute ws ≡ true → extents a c n level (plains ws) ≡ extents a c' n level (plains ws)
extents-bare a c c' n level [] e = refl
extents-bare a c c' n level (elem name kids ∷ ws) e = absurd (false≢true e)
extents-bare a c c' n level (attr name value ∷ ws) e =
    ap (λ r. attribute_extent a n name value level ∷ r) (extents-bare (a + length (attribute_line name value)) c c' (n + 1) level ws e)
extents-bare a c c' n level (text value ∷ ws) e = absurd (false≢true e)

-- Each node has a byte of its own.
pub counts-fit : (ks : Plains) → counts ks ≤ length (attribute_lines ks) + length (content_lines ks)
counts-fit no_kids = omega arith
counts-fit (kid (elem name kids) rest) =
    omega (
      arith,
      counts-fit kids,
      counts-fit rest,
      length-append (printed_node (elem name kids)) (content_lines rest),
      length-append ((attribute_lines kids ++ start_line name) ++ content_lines kids) (41 ∷ (name ++ 10 ∷ [])),
      length-append (attribute_lines kids ++ start_line name) (content_lines kids),
      length-append (attribute_lines kids) (start_line name),
    )
counts-fit (kid (attr name value) rest) = omega (arith, counts-fit rest, length-append (attribute_line name value) (attribute_lines rest))
counts-fit (kid (text value) rest) = omega (arith, counts-fit rest, length-append (data_line value) (content_lines rest))
