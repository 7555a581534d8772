-- Operands, conditions, keys and constructors give the same for two ways in which paths have nodes,
-- where these are alike on the paths whose names are written there.
use Rattle.std.proofs.Common.{◌≡◌, ℕ, Bool, true, false, not, cond, if◌then◌else◌, map, List, [], ◌∷◌, ◌++◌, Option, Some, option_map, option_and_then, refl, ap, ap₂}
use Rattle.std.specs.List.{AllByRecursion, Contains, flat_map, filter, join_with_byte}
use Rattle.std.specs.Option.{option_to_list}
use mathlib.Core.Path.{fun_ext}
use Rattle.std.proofs.lemmas.List.Elements.{Contains-append_left, Contains-append_right}
use Rattle.tb_tree.specs.Plain.{attr, text, kid, plains, joined_kids}
use Rattle.tb_tree.specs.Numbers.{Numbered}
use Rattle.tb_tree.proofs.lists.Alls.{all-append}
use Rattle.tb_number.specs.declared.op.CmpOp.{CmpOp}
use Rattle.tb_query.specs.Lists.{all_given}
use Rattle.tb_query.specs.Operands.{values, aggregate, operand_values, first_of}
use Rattle.tb_query.specs.Comparisons.{some_stand, right_stands, comparison_holds, all_tested, has_sum, as_tested}
use Rattle.tb_query.specs.Order.{sort_value}
use Rattle.tb_query.specs.Parts.{element, PlainParts, no_parts, inner, content, PlainBack, nodes_back, cons_back}
use Rattle.tb_query.specs.Results.{given_trees, attribute_value, attribute_given, content_given, element_given, parts_given, group_trees, made}
use Rattle.tb_query.specs.Names.{names_of_path, names_of_operand, names_of_right, names_of_comparison, names_of_key, names_of_content, names_of_attribute, names_of_parts, names_of_back}
use Rattle.tb_query.specs.declared.path.Path.{Path}
use Rattle.tb_query.specs.declared.operand.Operand as operand
use Rattle.tb_query.specs.declared.operand.Operand.TheVariants as operands
use Rattle.tb_query.specs.declared.operand.Right.{Right}
use Rattle.tb_query.specs.declared.operand.Right.TheVariants as rights
use Rattle.tb_query.specs.declared.operand.Comparison.{Comparison}
use Rattle.tb_query.specs.declared.clause.Key.{Key}
use Rattle.tb_query.specs.declared.back.AttrPart.{AttrPart}
use Rattle.tb_query.specs.declared.back.Content as contents
use Rattle.tb_query.specs.declared.back.Content.TheVariants.{Text, Operand}

-- what holds of each item holds of those that a test keeps
pub each-kept : {A : Type 0} (P : A → Type 0) (b : Bool) (x : A) (xs : List A) → P x → AllByRecursion P xs → AllByRecursion P (cond b (x ∷ xs) xs)
each-kept P true x xs this others = (this, others)
each-kept P false x xs this others = others

pub each-filter : {A : Type 0} (P : A → Type 0) (test : A → Bool) (xs : List A) → AllByRecursion P xs → AllByRecursion P (filter test xs)
each-filter P test [] all = tt
each-filter P test (x ∷ xs) all = each-kept P (test x) x (filter test xs) all.0 (each-filter P test xs all.1)

-- what items give that give the same
pub all_given-same : {A B : Type 0} (f g : A → Option B) (xs : List A) → AllByRecursion (λ x. f x ≡ g x) xs → all_given f xs ≡ all_given g xs
all_given-same f g [] same = refl
all_given-same f g (x ∷ xs) same =
    ap₂ (λ given others. option_and_then (λ y. option_map (λ ys. y ∷ ys) others) given) same.0 (all_given-same f g xs same.1)

-- all names of the first are among the second
abbrev pub Within : List (List ℕ) → List (List ℕ) → Type 0
Within some names = (name : List ℕ) → Contains some name → Contains names name

module _ (n m : Path → List Numbered) where
  -- both have the same nodes for each path whose name is among these
  abbrev pub Alike : List (List ℕ) → Type 0
  Alike names = (path : Path) → Within (names_of_path path) names → n path ≡ m path

  pub alike-left : (xs ys : List (List ℕ)) → Alike (xs ++ ys) → Alike xs
  alike-left xs ys alike path within = alike path (λ name has. Contains-append_left xs ys name (within name has))

  pub alike-right : (xs ys : List (List ℕ)) → Alike (xs ++ ys) → Alike ys
  alike-right xs ys alike path within = alike path (λ name has. Contains-append_right xs ys name (within name has))

  pub alike-each : {A : Type 0} (names : A → List (List ℕ)) (xs : List A) → Alike (flat_map names xs) → AllByRecursion (λ x. Alike (names x)) xs
  alike-each names [] alike = tt
  alike-each names (x ∷ xs) alike =
      (alike-left (names x) (flat_map names xs) alike, alike-each names xs (alike-right (names x) (flat_map names xs) alike))

  each-given : {A B : Type 0} (names : A → List (List ℕ)) (f g : A → Option B) → ((x : A) → Alike (names x) → f x ≡ g x)
      → (xs : List A) → AllByRecursion (λ x. Alike (names x)) xs → AllByRecursion (λ x. f x ≡ g x) xs
  each-given names f g same [] alike = tt
  each-given names f g same (x ∷ xs) alike = (same x alike.0, each-given names f g same xs alike.1)

  -- what each of a list gives, by what one of them gives
  pub listed-same : {A B : Type 0} (names : A → List (List ℕ)) (f g : A → Option B) → ((x : A) → Alike (names x) → f x ≡ g x)
      → (xs : List A) → Alike (flat_map names xs) → all_given f xs ≡ all_given g xs
  listed-same names f g same xs alike = all_given-same f g xs (each-given names f g same xs (alike-each names xs alike))

  path-same : (path : Path) → Alike (names_of_path path) → n path ≡ m path
  path-same path alike = alike path (λ name has. has)

  pub operand-same : (o : operand.Operand) → Alike (names_of_operand o) → operand_values n o ≡ operand_values m o
  operand-same (operands.Nodes path) alike = ap (λ us. Some (values us)) (path-same path alike)
  operand-same (operands.Agg kind path) alike = ap (λ us. option_map option_to_list (aggregate kind (values us))) (path-same path alike)

  right-same : (op : CmpOp) (left : List (List ℕ)) (right : Right) → Alike (names_of_right right)
      → right_stands n op left right ≡ right_stands m op left right
  right-same op left (rights.Operand o) alike = ap (option_map (some_stand op left)) (operand-same o alike)
  right-same op left (rights.Literal to) alike = refl

  comparison-same : (c : Comparison) → Alike (names_of_comparison c) → comparison_holds n c ≡ comparison_holds m c
  comparison-same c alike =
      ap₂ (λ test given. option_and_then test given)
      (fun_ext (λ left. right-same c.op left c.right (alike-right (names_of_operand c.left) (names_of_right c.right) alike)))
      (operand-same c.left (alike-left (names_of_operand c.left) (names_of_right c.right) alike))

  tested-same : (conds : List Comparison) → AllByRecursion (λ c. Alike (names_of_comparison c)) conds → all_tested n conds ≡ all_tested m conds
  tested-same [] alike = refl
  tested-same (c ∷ conds) alike =
      ap₂ (λ others held. option_and_then (λ b. if b then others else Some false) held)
      (tested-same conds alike.1) (comparison-same c alike.0)

  -- the conditions in the order in which they are tested
  pub conds-same : (conds : List Comparison) → Alike (flat_map names_of_comparison conds)
      → all_tested n (as_tested conds) ≡ all_tested m (as_tested conds)
  conds-same conds alike =
      let all = alike-each names_of_comparison conds alike in
      let P : Comparison → Type 0 = λ c. Alike (names_of_comparison c) in
      tested-same (as_tested conds)
      (all-append P (filter (λ c. not (has_sum c)) conds) (filter has_sum conds)
      (each-filter P (λ c. not (has_sum c)) conds all) (each-filter P has_sum conds all))

  pub key-same : (key : Key) → Alike (names_of_key key) → sort_value n key ≡ sort_value m key
  key-same key alike =
      ap (option_map (λ vs. record { value = first_of vs; descending = key.descending })) (operand-same key.operand alike)

  content-same : (c : contents.Content) → Alike (names_of_content c) → content_given n c ≡ content_given m c
  content-same (Text bytes) alike = refl
  content-same (Operand (operands.Nodes path)) alike = ap (λ us. Some (given_trees us)) (path-same path alike)
  content-same (Operand (operands.Agg kind path)) alike =
      ap (λ us. option_map (λ v. map text (option_to_list v)) (aggregate kind (values us))) (path-same path alike)

  value-same : (c : contents.Content) → Alike (names_of_content c) → attribute_value n c ≡ attribute_value m c
  value-same (Text bytes) alike = refl
  value-same (Operand o) alike = ap (option_map (join_with_byte 32)) (operand-same o alike)

  attribute-same : (a : AttrPart) → Alike (names_of_attribute a) → attribute_given n a ≡ attribute_given m a
  attribute-same a alike = ap (option_map (attr a.name)) (value-same a.from alike)

  -- an element, by its attributes and what its parts give
  made-same : (name : List ℕ) (attrs : List AttrPart) (parts : PlainParts) → Alike (flat_map names_of_attribute attrs)
      → parts_given n parts ≡ parts_given m parts → element_given n (element name attrs parts) ≡ element_given m (element name attrs parts)
  made-same name attrs parts alike same =
      ap₂ (λ given attributes. option_and_then (λ trees. option_map (made name trees) given) attributes)
      same (listed-same names_of_attribute (attribute_given n) (attribute_given m) attribute-same attrs alike)

  pub parts-same : (parts : PlainParts) → Alike (names_of_parts parts) → parts_given n parts ≡ parts_given m parts
  parts-same no_parts alike = refl
  parts-same (inner (element name attrs parts) rest) alike =
      let cons = flat_map names_of_attribute attrs ++ names_of_parts parts in
      let inside = alike-left cons (names_of_parts rest) alike in
      ap₂ (λ others given. option_and_then (λ tree. option_map (kid tree) others) given)
      (parts-same rest (alike-right cons (names_of_parts rest) alike))
      (made-same name attrs parts (alike-left (flat_map names_of_attribute attrs) (names_of_parts parts) inside)
      (parts-same parts (alike-right (flat_map names_of_attribute attrs) (names_of_parts parts) inside)))
  parts-same (content c rest) alike =
      ap₂ (λ others given. option_and_then (λ trees. option_map (joined_kids (plains trees)) others) given)
      (parts-same rest (alike-right (names_of_content c) (names_of_parts rest) alike))
      (content-same c (alike-left (names_of_content c) (names_of_parts rest) alike))

  pub back-same : (back : PlainBack) → Alike (names_of_back back) → group_trees back n ≡ group_trees back m
  back-same (nodes_back path) alike = ap (λ us. Some (given_trees us)) (path-same path alike)
  back-same (cons_back (element name attrs parts)) alike =
      ap (option_map (λ tree. tree ∷ []))
      (made-same name attrs parts (alike-left (flat_map names_of_attribute attrs) (names_of_parts parts) alike)
      (parts-same parts (alike-right (flat_map names_of_attribute attrs) (names_of_parts parts) alike)))
