-- The lines of what stands in an element, and where they begin and end.
use Rattle.std.proofs.Common.{◌≡◌, Bool, true, false, ◌&&◌, ◌==◌, cond, ℕ, zero, suc, ◌+◌, ◌-◌, ◌<◌, List, [], ◌∷◌, ◌++◌, length, map, take, drop, get_or, refl, sym, ap, ap₂, ◌∙◌, arith, append_assoc, append-nil, length-append}
use Rattle.std.proofs.lemmas.Bool.{ne_eqb, eq-eqb, false≢true}
use Rattle.std.proofs.lemmas.List.{take_all, get_or-map, length-map}
use Rattle.tb_tree.specs.Plain.{Plain, elem, attr, text, Plains, no_kids, kid, one, kids_of}
use Rattle.tb_tree.specs.Numbers.{counts, count}
use Rattle.tb_tree.specs.Sound.{is_text, has_no_attribute, attributes_first, begins_with_text, IsSound}
use Rattle.tb_tree.specs.Printed.{printed_node, attribute_lines, content_lines, attribute_line, start_line, end_line}
use Rattle.tb_tree.specs.Pieces.{content_of, ends_with_text}
use Rattle.tb_tree.specs.declared.extent.Kind.{Kind}
use Rattle.tb_tree.specs.declared.extent.Kind.TheVariants as kind
use Rattle.tb_tree.specs.declared.extent.Extent as code
use Rattle.tb_tree.specs.Extents.{Extent, extents, named, kind_of, name_of}
use Rattle.tb_tree.specs.FlatTrees.{Stands, AreNodes}
use Rattle.tb_tree.specs.Parts.{is_text_kind, is_attribute_kind, attributes_end, is_text_at, begins_with_data}
use Rattle.tb_tree.proofs.SoundLaws.{kids-sound}
use Rattle.tb_tree.proofs.StandLaws.{stands-first, stands-behind}
use Rattle.tb_tree.proofs.JoinedLaws.{length-extents}
use Rattle.tb_tree.proofs.BuiltLaws.{same_cons, none_first}

more-first : (x y z : Extent) (xs : List Extent) → ◌≡◌ {A = List Extent} (x ∷ y ∷ xs) (z ∷ []) → ⊥
more-first x y z xs e = cc

-- where the attributes' lines end, told by extents with their names
abbrev ends : ℕ → List Extent → ℕ
ends at [] = at
ends at (e ∷ es) = cond (is_attribute_kind e.kind) (ends e.to es) at

ends-named : (elements attributes : List (List ℕ)) (at : ℕ) (es : List code.Extent) → attributes_end at es ≡ ends at (map (named elements attributes) es)
ends-named elements attributes at [] = refl
ends-named elements attributes at (e ∷ es) = ap (λ x. cond (is_attribute_kind e.kind) x at) (ends-named elements attributes e.to es)

lines-none : (ks : Plains) → has_no_attribute ks ≡ true → attribute_lines ks ≡ []
lines-none no_kids bare = refl
lines-none (kid (elem name kids) rest) bare = lines-none rest bare
lines-none (kid (attr name value) rest) bare = absurd (false≢true bare)
lines-none (kid (text value) rest) bare = lines-none rest bare

ends-lines : (a c n level : ℕ) (ks : Plains) → attributes_first ks ≡ true → ends a (extents a c n level ks) ≡ a + length (attribute_lines ks)
ends-lines a c n level no_kids first = omega arith
ends-lines a c n level (kid (elem name kids) rest) first = omega (arith, ap length (lines-none rest first))
ends-lines a c n level (kid (attr name value) rest) first =
    let line = attribute_line name value in
    omega (arith, ends-lines (a + length line) c (n + 1) level rest first, length-append line (attribute_lines rest))
ends-lines a c n level (kid (text value) rest) first = omega (arith, ap length (lines-none rest first))

-- How many bytes a node's attributes have.
pub part-attributes : (bytes : List ℕ) (es : List code.Extent) (elements attributes : List (List ℕ)) (number level : ℕ) (node : Plain) (d : code.Extent) → AreNodes bytes (map (named elements attributes) es) number level (one node)
    → IsSound node → attributes_end (get_or es 0 d).from (drop 1 es) - (get_or es 0 d).from ≡ length (attribute_lines (kids_of node))
part-attributes bytes [] elements attributes number level (elem name kids) d are sound = absurd (none_first _ _ (sym are.extents_are))
part-attributes bytes (e ∷ es) elements attributes number level (elem name kids) d are sound =
    let c = are.content_at in
    let inside = extents c (c + length (attribute_lines kids ++ start_line name)) (number + 1) (level + 1) kids in
    let parts = same_cons (named elements attributes e) _ (map (named elements attributes) es) _ are.extents_are in
    let from : e.from ≡ c = ap (λ x. x.from) parts.0 in
    let behind : map (named elements attributes) es ≡ inside = parts.1 ∙ append-nil inside in
    let end : attributes_end e.from es ≡ c + length (attribute_lines kids) =
    ends-named elements attributes e.from es ∙ ap₂ ends from behind ∙ ends-lines c _ (number + 1) (level + 1) kids (kids-sound (elem name kids) sound).first in
    omega (arith, from, end)
part-attributes bytes [] elements attributes number level (attr name value) d are sound = absurd (none_first _ _ (sym are.extents_are))
part-attributes bytes (e ∷ []) elements attributes number level (attr name value) d are sound = omega arith
part-attributes bytes (e ∷ f ∷ es) elements attributes number level (attr name value) d are sound = absurd (more-first _ _ _ _ are.extents_are)
part-attributes bytes [] elements attributes number level (text value) d are sound = absurd (none_first _ _ (sym are.extents_are))
part-attributes bytes (e ∷ []) elements attributes number level (text value) d are sound = omega arith
part-attributes bytes (e ∷ f ∷ es) elements attributes number level (text value) d are sound = absurd (more-first _ _ _ _ are.extents_are)

-- A node's lines, cut at its start line.
whole : (node : Plain) → Stands (printed_node node) 0 (printed_node node)
whole node = take_all (length (printed_node node)) (printed_node node) (omega arith)

pub lines-first : (node : Plain) → take (length (attribute_lines (kids_of node))) (printed_node node) ≡ attribute_lines (kids_of node)
lines-first (elem name kids) =
    let start = attribute_lines kids ++ start_line name in
    let printed = printed_node (elem name kids) in
    stands-first printed 0 (attribute_lines kids) (start_line name)
    (stands-first printed 0 start (content_lines kids) (stands-first printed 0 (start ++ content_lines kids) (end_line name) (whole (elem name kids))))
lines-first (attr name value) = refl
lines-first (text value) = refl

pub lines-between : (node : Plain) (lines : List ℕ) (start line len : ℕ) → kind_of node ≡ kind.Element → lines ≡ printed_node node → start ≡ length (attribute_lines (kids_of node)) → line ≡ length (name_of node) + 2
    → len ≡ length lines - start - line - line → take len (drop (start + line) lines) ≡ content_lines (kids_of node)
lines-between (elem name kids) lines start line len is lines_are start_is line_is len_is =
    let printed = printed_node (elem name kids) in
    let before = attribute_lines kids ++ start_line name in
    let long : start + line ≡ 0 + length before = omega (arith, start_is, line_is, length-append (attribute_lines kids) (start_line name), length-append name (10 ∷ [])) in
    let most : len ≡ length (content_lines kids) =
    omega (
      arith,
      len_is,
      ap length lines_are,
      long,
      line_is,
      length-append (before ++ content_lines kids) (end_line name),
      length-append before (content_lines kids),
      length-append name (10 ∷ []),
    ) in
    ap₂ (λ n l. take n (drop (start + line) l)) most lines_are
    ∙ ap (λ n. take (length (content_lines kids)) (drop n printed)) long
    ∙ stands-behind printed 0 before (content_lines kids) (stands-first printed 0 (before ++ content_lines kids) (end_line name) (whole (elem name kids)))
lines-between (attr name value) lines start line len is lines_are start_is line_is len_is = absurd (let e : ◌≡◌ {A = Kind} kind.Attribute kind.Element = is in cc)
lines-between (text value) lines start line len is lines_are start_is line_is len_is = absurd (let e : ◌≡◌ {A = Kind} kind.Text kind.Element = is in cc)

-- Lines begin with a text's where the first node is a text.
attributes-data : (ks : Plains) (lines : List ℕ) → begins_with_data lines ≡ false → begins_with_data (attribute_lines ks ++ lines) ≡ false
attributes-data no_kids lines none = none
attributes-data (kid (elem name kids) rest) lines none = attributes-data rest lines none
attributes-data (kid (attr name value) rest) lines none = refl
attributes-data (kid (text value) rest) lines none = attributes-data rest lines none

pub begins-content : (ks : Plains) → begins_with_data (content_lines ks) ≡ begins_with_text (content_of ks)
begins-content no_kids = refl
begins-content (kid (elem name kids) rest) =
    let first = attribute_lines kids in
    let start = start_line name in
    let content = content_lines kids in
    ap begins_with_data (append_assoc ((first ++ start) ++ content) (end_line name) (content_lines rest) ∙ append_assoc (first ++ start) content (end_line name ++ content_lines rest) ∙ append_assoc first start (content ++ (end_line name ++ content_lines rest)))
    ∙ attributes-data kids (start ++ (content ++ (end_line name ++ content_lines rest))) refl
begins-content (kid (attr name value) rest) = begins-content rest
begins-content (kid (text value) rest) = refl

-- Whether the last extent is that of a text of the level.
abbrev text_at : ℕ → Extent → Bool
text_at level e = is_text_kind e.kind && e.level == level

abbrev last_at : Bool → ℕ → List Extent → Bool
last_at b level [] = b
last_at b level (e ∷ es) = last_at (text_at level e) level es

abbrev last_text : Bool → Plains → Bool
last_text b no_kids = b
last_text b (kid k rest) = last_text (is_text k) rest

ends-last : (k : Plain) (ks : Plains) → ends_with_text (kid k ks) ≡ last_text (is_text k) ks
ends-last k no_kids = refl
ends-last k (kid other rest) = ends-last other rest

ends-with : (ks : Plains) → last_text false ks ≡ ends_with_text ks
ends-with no_kids = refl
ends-with (kid k rest) = sym (ends-last k rest)

last-append : (b : Bool) (level : ℕ) (xs ys : List Extent) → last_at b level (xs ++ ys) ≡ last_at (last_at b level xs) level ys
last-append b level [] ys = refl
last-append b level (x ∷ xs) ys = last-append (text_at level x) level xs ys

-- deeper ones are no texts of the level
last-deeper : (a c n l level : ℕ) (ks : Plains) → level < l → last_at false level (extents a c n l ks) ≡ false
last-deeper a c n l level no_kids less = refl
last-deeper a c n l level (kid (elem name kids) rest) less =
    let inside = extents c (c + length (attribute_lines kids ++ start_line name)) (n + 1) (l + 1) kids in
    let behind = extents a (c + length (printed_node (elem name kids))) (n + 1 + counts kids) l rest in
    last-append false level inside behind ∙ ap (λ b. last_at b level behind) (last-deeper c _ (n + 1) (l + 1) level kids (omega (arith, less))) ∙ last-deeper a _ _ l level rest less
last-deeper a c n l level (kid (attr name value) rest) less = last-deeper (a + length (attribute_line name value)) c (n + 1) l level rest less
last-deeper a c n l level (kid (text value) rest) less = rw (ne_eqb l level (λ e. omega (arith, less, e))) (last-deeper a _ (n + 1) l level rest less)

last-bare : (b : Bool) (a c n level : ℕ) (ks : Plains) → has_no_attribute ks ≡ true → last_at b level (extents a c n level ks) ≡ last_text b (content_of ks)
last-bare b a c n level no_kids bare = refl
last-bare b a c n level (kid (elem name kids) rest) bare =
    let inside = extents c (c + length (attribute_lines kids ++ start_line name)) (n + 1) (level + 1) kids in
    let behind = extents a (c + length (printed_node (elem name kids))) (n + 1 + counts kids) level rest in
    last-append false level inside behind ∙ ap (λ x. last_at x level behind) (last-deeper c _ (n + 1) (level + 1) level kids (omega arith)) ∙ last-bare false a _ _ level rest bare
last-bare b a c n level (kid (attr name value) rest) bare = absurd (false≢true bare)
last-bare b a c n level (kid (text value) rest) bare = rw (eq-eqb level level refl) (last-bare true a _ (n + 1) level rest bare)

last-first : (a c n level : ℕ) (ks : Plains) → attributes_first ks ≡ true → last_at false level (extents a c n level ks) ≡ last_text false (content_of ks)
last-first a c n level no_kids first = refl
last-first a c n level (kid (elem name kids) rest) first = last-bare false a c n level (kid (elem name kids) rest) first
last-first a c n level (kid (attr name value) rest) first = last-first (a + length (attribute_line name value)) c (n + 1) level rest first
last-first a c n level (kid (text value) rest) first = last-bare false a c n level (kid (text value) rest) first

last-node : (a c n level : ℕ) (node : Plain) → IsSound node → last_at false (level + 1) (extents a c n level (one node)) ≡ ends_with_text (content_of (kids_of node))
last-node a c n level (elem name kids) sound =
    let inside = extents c (c + length (attribute_lines kids ++ start_line name)) (n + 1) (level + 1) kids in
    ap (last_at false (level + 1)) (append-nil inside) ∙ last-first c _ (n + 1) (level + 1) kids (kids-sound (elem name kids) sound).first ∙ ends-with (content_of kids)
last-node a c n level (attr name value) sound = refl
last-node a c n level (text value) sound = ne_eqb level (level + 1) (λ e. omega (arith, e))

last-got : (b : Bool) (level : ℕ) (xs : List Extent) (i : ℕ) (d : Extent) → length xs ≡ i + 1 → text_at level (get_or xs i d) ≡ last_at b level xs
last-got b level [] i d long = absurd (omega (arith, long))
last-got b level (x ∷ []) zero d long = refl
last-got b level (x ∷ []) (suc i) d long = absurd (omega (arith, long))
last-got b level (x ∷ y ∷ xs) zero d long = absurd (omega (arith, long))
last-got b level (x ∷ y ∷ xs) (suc i) d long = last-got (text_at level x) level (y ∷ xs) i d (omega (arith, long))

-- The last of a node's extents is that of a text one level below it where its last kid is a text.
pub part-last : (bytes : List ℕ) (es : List code.Extent) (elements attributes : List (List ℕ)) (number level i : ℕ) (node : Plain) (d : code.Extent) → AreNodes bytes (map (named elements attributes) es) number level (one node)
    → IsSound node → i + 1 ≡ count node → is_text_at (level + 1) (get_or es i d) ≡ ends_with_text (content_of (kids_of node))
part-last bytes es elements attributes number level i node d are sound at =
    let N = named elements attributes in
    let own = extents are.attributes_at are.content_at number level (one node) in
    let many : length (map N es) ≡ i + 1 = omega (arith, at, ap length are.extents_are, length-extents are.attributes_at are.content_at number level (one node)) in
    let less : i < length es = omega (arith, many, length-map es N) in
    ap (text_at (level + 1)) (sym (get_or-map N es i d (N d) less))
    ∙ last-got false (level + 1) (map N es) i (N d) many
    ∙ ap (last_at false (level + 1)) are.extents_are ∙ last-node are.attributes_at are.content_at number level node sound
