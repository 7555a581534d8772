-- Values as they stand in a document's lines, and the texts among extents.
use Rattle.std.proofs.Common.{◌≡◌, Bool, true, false, ℕ, ◌+◌, List, [], ◌∷◌, ◌++◌, length, map, filter, get_or, Option, Some, None, refl, sym, ap, ap₂, ◌∙◌, append_assoc, append-nil}
use Rattle.std.specs.List.{list_all, concat}
use Rattle.std.specs.Option.{option_map}
use Rattle.std.proofs.lemmas.Bool.{false≢true}
use Rattle.std.proofs.lemmas.List.{map-append}
use Rattle.std.proofs.lemmas.List.Elements.{filter-append}
use Rattle.std.proofs.lemmas.List.Folds.{concat-append}
use Rattle.std.proofs.lemmas.Simd.{map-map}
use Rattle.tb_tree.specs.Plain.{Plain, elem, attr, text, Plains, no_kids, kid, one}
use Rattle.tb_tree.specs.Numbers.{counts}
use Rattle.tb_tree.specs.Printed.{printed_node, attribute_lines, content_lines, attribute_line, data_line, start_line, end_line, escaped}
use Rattle.tb_tree.specs.Value.{texts_below, value_of}
use Rattle.tb_tree.specs.Written.{is_plain, has_escape}
use Rattle.tb_tree.specs.Steps.{◌>>=◌}
use Rattle.tb_tree.specs.Escapes.{unescaped}
use Rattle.tb_tree.specs.Escaped.{Unescapes}
use Rattle.tb_tree.specs.Pieces.{texts_listed, only_of, piece_of, unescaped_piece}
use Rattle.tb_tree.specs.declared.extent.Kind.{Kind}
use Rattle.tb_tree.specs.declared.extent.Kind.TheVariants as kind
use Rattle.tb_tree.specs.declared.extent.Extent as code
use Rattle.tb_tree.specs.Extents.{Extent, attribute_extent, extents, named, name_in, kind_of}
use Rattle.tb_tree.specs.FlatTrees.{raw_behind, Stands, AreNodes}
use Rattle.tb_tree.specs.Parts.{is_text_kind, text_extents, told_piece, told_text, told_texts}
use Rattle.tb_tree.proofs.lists.Bools.{denied}
use Rattle.tb_tree.proofs.lists.Filters.{filter-map}
use Rattle.tb_tree.proofs.PrintLaws.{escaped-plain}
use Rattle.tb_tree.proofs.PrintedBytes.{unescaped-escaped}
use Rattle.tb_tree.proofs.StandLaws.{stands-first, stands-behind}
use Rattle.tb_tree.proofs.BackLaws.{raw-attribute, raw-text}
use Rattle.tb_tree.proofs.BuiltLaws.{same_cons, none_first}
use Rattle.tb_tree.proofs.NodeAtLaws.{part-tells}

-- texts that are joined are what stands below
pub texts-joined : (ks : Plains) → concat (texts_listed ks) ≡ texts_below ks
texts-joined no_kids = refl
texts-joined (kid (elem name kids) rest) = concat-append (texts_listed kids) (texts_listed rest) ∙ ap₂ (λ a b. a ++ b) (texts-joined kids) (texts-joined rest)
texts-joined (kid (attr name value) rest) = texts-joined rest
texts-joined (kid (text value) rest) = ap (λ l. value ++ l) (texts-joined rest)

-- an extent's text as it stands in its line
abbrev told : List ℕ → Extent → List ℕ × Bool
told bytes e = (raw_behind bytes 1 e.from e.to, e.escaped)

abbrev texts : List Extent → List Extent
texts = filter (λ e. is_text_kind e.kind)

-- The texts among the extents of nodes are those of the nodes.
texts-told : (bytes : List ℕ) (a c n level : ℕ) (ks : Plains) → Stands bytes c (content_lines ks) → map (told bytes) (texts (extents a c n level ks)) ≡ map told_piece (texts_listed ks)
texts-told bytes a c n level no_kids content = refl
texts-told bytes a c n level (kid (elem name kids) rest) content =
    let printed = printed_node (elem name kids) in
    let start = attribute_lines kids ++ start_line name in
    let inside = extents c (c + length start) (n + 1) (level + 1) kids in
    let behind = extents a (c + length printed) (n + 1 + counts kids) level rest in
    let own = stands-first bytes c printed (content_lines rest) content in
    let most = stands-first bytes c (start ++ content_lines kids) (end_line name) own in
    ap (map (told bytes)) (filter-append (λ (e : Extent). is_text_kind e.kind) inside behind)
    ∙ map-append (told bytes) (texts inside) (texts behind)
    ∙ ap₂ (λ (x y : List (List ℕ × Bool)). x ++ y) (texts-told bytes c (c + length start) (n + 1) (level + 1) kids (stands-behind bytes c start (content_lines kids) most))
    (texts-told bytes a (c + length printed) (n + 1 + counts kids) level rest (stands-behind bytes c printed (content_lines rest) content))
    ∙ sym (map-append told_piece (texts_listed kids) (texts_listed rest))
texts-told bytes a c n level (kid (attr name value) rest) content = texts-told bytes (a + length (attribute_line name value)) c (n + 1) level rest content
texts-told bytes a c n level (kid (text value) rest) content =
    let line = data_line value in
    ap₂ (λ (r : List ℕ) (ts : List (List ℕ × Bool)). (r, has_escape value) ∷ ts) (raw-text bytes c value (stands-first bytes c line (content_lines rest) content))
    (texts-told bytes a (c + length line) (n + 1) level rest (stands-behind bytes c line (content_lines rest) content))

pub part-texts : (bytes : List ℕ) (es : List code.Extent) (elements attributes : List (List ℕ)) (number level : ℕ) (ks : Plains) → AreNodes bytes (map (named elements attributes) es) number level ks
    → told_texts bytes es ≡ map told_piece (texts_listed ks)
part-texts bytes es elements attributes number level ks are =
    let N = named elements attributes in
    sym (ap (map (told bytes)) (filter-map (λ (e : Extent). is_text_kind e.kind) N es) ∙ map-map (told bytes) N (text_extents es))
    ∙ ap (λ l. map (told bytes) (texts l)) are.extents_are ∙ texts-told bytes are.attributes_at are.content_at number level ks are.content_stands

-- the only element, of which a function is taken
only-map : {X Y : Type 0} (f : X → Y) (d : X) (xs : List X) → only_of (f d) (map f xs) ≡ option_map f (only_of d xs)
only-map f d [] = refl
only-map f d (x ∷ []) = refl
only-map f d (x ∷ y ∷ xs) = refl

-- the piece of a node that is no attribute
only-piece : (node : Plain) → (kind_of node ≡ kind.Attribute → ⊥) → only_of [] (texts_listed (one node)) ≡ piece_of node
only-piece (elem name kids) other = ap (only_of []) (append-nil (texts_listed kids))
only-piece (attr name value) other = absurd (other refl)
only-piece (text value) other = refl

pub part-piece : (bytes : List ℕ) (es : List code.Extent) (elements attributes : List (List ℕ)) (number level : ℕ) (node : Plain) → AreNodes bytes (map (named elements attributes) es) number level (one node)
    → (kind_of node ≡ kind.Attribute → ⊥) → only_of ([], false) (told_texts bytes es) ≡ option_map told_piece (piece_of node)
part-piece bytes es elements attributes number level node are other =
    ap (only_of {X = List ℕ × Bool} ([], false)) (part-texts bytes es elements attributes number level (one node) are)
    ∙ only-map told_piece [] (texts_listed (one node)) ∙ ap (option_map told_piece) (only-piece node other)

-- the piece of an attribute
attribute-told : (bytes : List ℕ) (e : code.Extent) (behind : List Extent) (elements attributes : List (List ℕ)) (a number level : ℕ) (name value : List ℕ) → Stands bytes a (attribute_line name value)
    → named elements attributes e ≡ attribute_extent a number name value level → e.kind ≡ kind.Attribute
    → Some (raw_behind bytes (8 + length (get_or attributes e.name [])) e.from e.to, e.escaped) ≡ Some (told_piece value)
attribute-told bytes e behind elements attributes a number level name value stands is attribute =
    let names : get_or attributes e.name [] ≡ name = ap (λ k. name_in elements attributes k e.name) (sym attribute) ∙ ap (λ x. x.name) is in
    let ends : e.to ≡ a + length (attribute_line name value) = ap (λ x. x.to) is in
    ap₂ (λ (r : List ℕ) (b : Bool). Some (r, b))
    (ap₂ (λ w t. raw_behind bytes (8 + length w) e.from t) names ends
    ∙ ap (λ f. raw_behind bytes (8 + length name) f (a + length (attribute_line name value))) (ap (λ x. x.from) is)
    ∙ raw-attribute bytes a name value stands)
    (ap (λ x. x.escaped) is)

pub part-attribute : (bytes : List ℕ) (es : List code.Extent) (elements attributes : List (List ℕ)) (number level : ℕ) (node : Plain) (d : code.Extent) → AreNodes bytes (map (named elements attributes) es) number level (one node)
    → (get_or es 0 d).kind ≡ kind.Attribute
    → Some (raw_behind bytes (8 + length (get_or attributes (get_or es 0 d).name [])) (get_or es 0 d).from (get_or es 0 d).to, (get_or es 0 d).escaped) ≡ option_map told_piece (piece_of node)
part-attribute bytes es elements attributes number level (elem name kids) d are attribute =
    absurd (let e : ◌≡◌ {A = Kind} kind.Element kind.Attribute = sym (part-tells bytes es elements attributes number level (elem name kids) d are).kind_is ∙ attribute in cc)
part-attribute bytes [] elements attributes number level (attr name value) d are attribute =
    absurd (none_first _ _ (sym are.extents_are))
part-attribute bytes (e ∷ es) elements attributes number level (attr name value) d are attribute =
    attribute-told bytes e [] elements attributes are.attributes_at number level name value (stands-first bytes are.attributes_at (attribute_line name value) [] are.attributes_stand)
    (same_cons _ _ _ _ are.extents_are).0 attribute
part-attribute bytes es elements attributes number level (text value) d are attribute =
    absurd (let e : ◌≡◌ {A = Kind} kind.Text kind.Attribute = sym (part-tells bytes es elements attributes number level (text value) d are).kind_is ∙ attribute in cc)

-- A piece of which no byte is escaped is lent.
lent-by : (value raw : List ℕ) (b : Bool) → has_escape value ≡ b → raw ≡ escaped value → b ≡ false → Some raw ≡ unescaped_piece value
lent-by value raw true is e plain = absurd (false≢true (sym plain))
lent-by value raw false is e plain = rw is (ap Some (e ∙ escaped-plain value (denied (list_all is_plain value) is)))

some-pair : (x y : List ℕ × Bool) → Some x ≡ Some y → x ≡ y
some-pair x y e = cc

pub lent-some : (o : Option (List ℕ)) (raw : List ℕ) (b : Bool) → Some (raw, b) ≡ option_map told_piece o → b ≡ false → Some raw ≡ (o >>= unescaped_piece)
lent-some None raw b e plain = absurd (let d : ◌≡◌ {A = Option (List ℕ × Bool)} (Some (raw, b)) None = e in cc)
lent-some (Some value) raw b e plain =
    let same = some-pair (raw, b) (told_piece value) e in
    lent-by value raw b (sym (ap (λ p. p.1) same)) (ap (λ p. p.0) same) plain

-- a value that is read as it prints
given-by : (value given : List ℕ) → unescaped (escaped value) ≡ Some given → given ≡ value
given-by value given e = let d : ◌≡◌ {A = Option (List ℕ)} (Some given) (Some value) = sym e ∙ unescaped-escaped value in cc

pub value-given : (raw value old new : List ℕ) (b : Bool) → raw ≡ escaped value → Unescapes raw old new b → new ≡ old ++ value
value-given raw value old new true is (given, some, grown) = grown ∙ ap (λ l. old ++ l) (given-by value given (ap unescaped (sym is) ∙ some))
value-given raw value old new false is none =
    absurd (let d : ◌≡◌ {A = Option (List ℕ)} (Some value) None = sym (unescaped-escaped value) ∙ ap unescaped (sym is) ∙ none in cc)

-- the value of which the piece is known
pub piece-value : (node : Plain) (value : List ℕ) → piece_of node ≡ Some value → value ≡ value_of node
piece-value (elem name kids) value e = only-joined (texts_listed kids) value e ∙ texts-joined kids
  where
    only-joined : (ts : List (List ℕ)) (v : List ℕ) → only_of [] ts ≡ Some v → v ≡ concat ts
    only-joined [] v d = let e' : ◌≡◌ {A = Option (List ℕ)} (Some []) (Some v) = d in cc
    only-joined (t ∷ []) v d = (let e' : ◌≡◌ {A = Option (List ℕ)} (Some t) (Some v) = d in let e'' : v ≡ t = cc in e'') ∙ sym (append-nil t)
    only-joined (t ∷ u ∷ ts) v d = absurd (let e' : ◌≡◌ {A = Option (List ℕ)} None (Some v) = d in cc)
piece-value (attr name w) value e = let d : ◌≡◌ {A = Option (List ℕ)} (Some w) (Some value) = e in cc
piece-value (text w) value e = let d : ◌≡◌ {A = Option (List ℕ)} (Some w) (Some value) = e in cc

pub piece-given : (node : Plain) (raw old new : List ℕ) (b : Bool) → Some raw ≡ option_map escaped (piece_of node) → old ≡ [] → Unescapes raw old new b → new ≡ value_of node
piece-given node raw old new b is none given = by (piece_of node) refl is
  where
    by : (o : Option (List ℕ)) → piece_of node ≡ o → Some raw ≡ option_map escaped o → new ≡ value_of node
    by None at e = absurd (let d : ◌≡◌ {A = Option (List ℕ)} (Some raw) None = e in cc)
    by (Some value) at e =
        let d : ◌≡◌ {A = Option (List ℕ)} (Some raw) (Some (escaped value)) = e in
        let same : raw ≡ escaped value = cc in
        value-given raw value old new b same given ∙ ap (λ l. l ++ value) none ∙ piece-value node value at

-- all texts of a node that lies in no piece
pub texts-value : (node : Plain) → None ≡ option_map escaped (piece_of node) → concat (texts_listed (one node)) ≡ value_of node
texts-value (elem name kids) none = texts-joined (one (elem name kids)) ∙ append-nil (texts_below kids)
texts-value (attr name value) none = absurd (let d : ◌≡◌ {A = Option (List ℕ)} None (Some (escaped value)) = none in cc)
texts-value (text value) none = texts-joined (one (text value)) ∙ append-nil value

-- The texts so far, with those of the extents that are left, make the whole.
pub record IsPushed (bytes : List ℕ) (rest : List code.Extent) (old now : List ℕ) (values : List (List ℕ)) : Type 0 where
  pub left : List (List ℕ)
  pub left_are : told_texts bytes rest ≡ map told_piece left
  pub whole : now ++ concat left ≡ old ++ concat values

pub pushed-more : (bytes : List ℕ) (rest behind : List code.Extent) (e : code.Extent) (old now new raw : List ℕ) (b : Bool) (values : List (List ℕ)) → text_extents rest ≡ e ∷ text_extents behind → raw ≡ raw_behind bytes 1 e.from e.to
    → Unescapes raw now new b → IsPushed bytes rest old now values → IsPushed bytes behind old new values
pushed-more bytes rest behind e old now new raw b values next raw_is given p = by p.left (ap (map (told_text bytes)) (sym next) ∙ p.left_are) p.whole
  where
    by : (left : List (List ℕ)) → told_text bytes e ∷ told_texts bytes behind ≡ map told_piece left → now ++ concat left ≡ old ++ concat values → IsPushed bytes behind old new values
    by [] are whole = absurd (let d : ◌≡◌ {A = List (List ℕ × Bool)} (told_text bytes e ∷ told_texts bytes behind) [] = are in cc)
    by (v ∷ left) are whole =
        let d : ◌≡◌ {A = List (List ℕ × Bool)} (told_text bytes e ∷ told_texts bytes behind) (told_piece v ∷ map told_piece left) = are in
        let head : told_text bytes e ≡ told_piece v = cc in
        let tail : told_texts bytes behind ≡ map told_piece left = cc in
        let same : raw ≡ escaped v = raw_is ∙ ap (λ p'. p'.0) head in
        record {
          left = left;
          left_are = tail;
          whole = ap (λ l. l ++ concat left) (value-given raw v now new b same given) ∙ append_assoc now v (concat left) ∙ whole;
        }

pub pushed-all : (bytes : List ℕ) (rest : List code.Extent) (old now : List ℕ) (values : List (List ℕ)) → text_extents rest ≡ [] → IsPushed bytes rest old now values → now ≡ old ++ concat values
pushed-all bytes rest old now values none p = by p.left (ap (map (told_text bytes)) (sym none) ∙ p.left_are) p.whole
  where
    by : (left : List (List ℕ)) → [] ≡ map told_piece left → now ++ concat left ≡ old ++ concat values → now ≡ old ++ concat values
    by [] are whole = sym (append-nil now) ∙ whole
    by (v ∷ left) are whole = absurd (let d : ◌≡◌ {A = List (List ℕ × Bool)} [] (told_piece v ∷ map told_piece left) = are in cc)
