-- The plan of a plannable query is well formed.
use Rattle.std.proofs.Common.{◌≡◌, ℕ, ◌+◌, ◌==◌, ◌<◌, ◌≤◌, Bool, true, false, if◌then◌else◌, List, [], ◌∷◌, ◌++◌, map, refl, sym, ap, ◌∙◌, subst, arith, None, rules}
use Rattle.std.specs.List.{flat_map, AllByRecursion}
use Rattle.tb_tree.proofs.lists.Alls.{all-append}
use Rattle.tb_tree.specs.declared.shape.ShapeElem.{ShapeElem, roll-ShapeElem, the_lemmas}
use Rattle.tb_tree.specs.declared.shape.ShapePart.{ShapePart, roll-ShapePart, fold-ShapePart}
use Rattle.tb_tree.specs.declared.shape.ShapePart.TheOpen.{ShapePart-F}
use Rattle.tb_tree.specs.declared.shape.ShapeAttr.{ShapeAttr}
use Rattle.tb_tree.specs.declared.shape.ShapeContent.{ShapeContent}
use Rattle.tb_pattern.specs.declared.pattern.Mark.{Mark}
use Rattle.tb_pattern.specs.declared.pattern.Mark.TheVariants as mark
use Rattle.tb_pattern.specs.declared.cond.Literal.TheVariants as literals
use Rattle.tb_query.specs.Actions.{names_of_attributes}
use Rattle.tb_query.specs.Parts.{element, PlainParts, no_parts, inner, content}
use Rattle.tb_query.specs.Plannable.{StartsBefore, StepsFrom}
use Rattle.tb_query.specs.Tuples.{let_path, standing_from}
use Rattle.tb_query.specs.declared.path.Path.{Path}
use Rattle.tb_query.specs.declared.path.Start.{Start}
use Rattle.tb_query.specs.declared.path.Start.TheVariants as start
use Rattle.tb_query.specs.declared.path.Step.{Step}
use Rattle.tb_query.specs.declared.operand.Operand.{Operand}
use Rattle.tb_query.specs.declared.operand.Operand.TheVariants as operand
use Rattle.tb_query.specs.declared.operand.Right.{Right}
use Rattle.tb_query.specs.declared.operand.Right.TheVariants as right
use Rattle.tb_query.specs.declared.operand.Comparison.{Comparison}
use Rattle.tb_query.specs.declared.clause.Key.{Key}
use Rattle.tb_query.specs.declared.back.AttrPart.{AttrPart}
use Rattle.tb_query.specs.declared.back.Content as contents
use Rattle.tb_query.specs.declared.back.Content.TheVariants as of_content
use Rattle.tb_tlc.specs.declared.plan.Op.{Op}
use Rattle.tb_tlc.specs.declared.plan.Op.TheVariants.{Filter}
use Rattle.tb_tlc.specs.Planned.{Columns, column_of, column_start, Scope, path_op, operand_ops, operand_width, operand_column, right_ops, right_width, right_against, cond_ops, cond_width, conds_ops, conds_width, keys_ops, keys_width, sort_keys, order_ops}
use Rattle.tb_tlc.specs.Returned.{content_ops, content_width, content_shape, attrs_ops, attrs_width, attrs_shape, cons_ops, cons_width, cons_shape, parts_ops, parts_width, parts_shape}
use Rattle.tb_tlc.specs.WellFormed.{StartStands, AgainstStands, width_after, OpsStand, width_of, Need, an_element, needs_of_content, needs_of_elem, elem_needs, part_needs, NeedStands}
use Rattle.tb_tlc.proofs.GoodLaws.{PathCan, OperandCan, RightCan, CondCan, KeyCan, ContentCan, AttrCan, NamesCan, PartsCan}

-- Behind n columns these operators stand, and add w columns.
pub record Forms (n w : ℕ) (ops : List Op) : Type 0 where
  pub stand : OpsStand n ops
  pub grows : width_of n ops ≡ n + w

pub width-append : (n : ℕ) (xs ys : List Op) → width_of n (xs ++ ys) ≡ width_of (width_of n xs) ys
width-append n [] ys = refl
width-append n (op ∷ xs) ys = width-append (width_after n op) xs ys

pub stand-append : (n : ℕ) (xs ys : List Op) → OpsStand n xs → OpsStand (width_of n xs) ys → OpsStand n (xs ++ ys)
stand-append n [] ys first second = second
stand-append n (op ∷ xs) ys first second = (first.0, first.1, stand-append (width_after n op) xs ys first.2 second)

pub forms-none : (n : ℕ) → Forms n 0 []
forms-none n = record { stand = tt; grows = omega arith }

pub forms-both : (n w v : ℕ) (xs ys : List Op) → Forms n w xs → Forms (n + w) v ys → Forms n (w + v) (xs ++ ys)
forms-both n w v xs ys first second = record {
  stand = stand-append n xs ys first.stand (subst (λ m. OpsStand m ys) (sym first.grows) second.stand);
  grows = width-append n xs ys ∙ ap (λ m. width_of m ys) first.grows ∙ second.grows ∙ (let sum : n + w + v ≡ n + (w + v) = omega arith in sum);
}

-- A column that is there stays there.
column-stays : (n m var : ℕ) (columns : Columns) → n ≤ m → column_of n var columns < n → column_of m var columns < m
column-stays n m var [] more there = absurd (omega (arith, there))
column-stays n m var (c ∷ columns) more there = by (var == c.0) there (λ others. column-stays n m var columns more others)
  where
    by : (b : Bool) → (if b then c.1 else column_of n var columns) < n → (column_of n var columns < n → column_of m var columns < m) → (if b then c.1 else column_of m var columns) < m
    by true is others = omega (arith, is, more)
    by false is others = others is

pub start-stays : (n m : ℕ) (columns : Columns) (from : Start) (steps : List Step) → n ≤ m → StartStands n (column_start n columns from) steps → StartStands m (column_start m columns from) steps
start-stays n m columns (start.Document name) steps more stands = stands
start-stays n m columns (start.Var var) steps more stands = column-stays n m var columns more stands

-- Where n columns are there and k variables are bound, each of these stands for a path that can be selected.
pub record Scoped (s : Scope) (n k : ℕ) : Type 0 where
  pub can : (v : ℕ) → v < k → (steps : List Step) → StartStands n (column_start n s.columns (standing_from s.lets (start.Var v) steps).start) (standing_from s.lets (start.Var v) steps).steps
  pub free : (v : ℕ) → k ≤ v → let_path v s.lets ≡ None

pub scoped-more : (s : Scope) (n m k : ℕ) → n ≤ m → Scoped s n k → Scoped s m k
scoped-more s n m k more scoped = record {
  can = λ v less steps. start-stays n m s.columns (standing_from s.lets (start.Var v) steps).start (standing_from s.lets (start.Var v) steps).steps more (scoped.can v less steps);
  free = scoped.free;
}

module _ (s : Scope) (k : ℕ) where
  path-stands : (n : ℕ) (from : Start) (steps : List Step) → Scoped s n k → StartsBefore k from → StepsFrom from steps
      → StartStands n (column_start n s.columns (standing_from s.lets from steps).start) (standing_from s.lets from steps).steps
  path-stands n (start.Document name) steps scoped before long = long
  path-stands n (start.Var v) steps scoped before long = scoped.can v before steps

  pub forms-path : (n : ℕ) (own : Mark) (path : Path) → n + 1 < 4294967296 → Scoped s n k → PathCan k path → Forms n 1 (path_op s n own path ∷ [])
  forms-path n own path narrow scoped can = record { stand = (path-stands n path.start path.steps scoped can.0 can.1, narrow, tt); grows = refl }

  pub forms-operand : (n : ℕ) (o : Operand) → n + operand_width o < 4294967296 → Scoped s n k → OperandCan k o → Forms n (operand_width o) (operand_ops s n o)
  forms-operand n (operand.Nodes path) narrow scoped can = forms-path n mark.Any path narrow scoped can
  forms-operand n (operand.Agg kind path) narrow scoped can = record {
    stand = (path-stands n path.start path.steps scoped can.0 can.1, omega (arith, narrow), (omega arith, omega (arith, narrow), tt));
    grows = omega arith;
  }

  pub column-within : (n : ℕ) (o : Operand) → operand_column n o < n + operand_width o
  column-within n (operand.Nodes path) = omega arith
  column-within n (operand.Agg kind path) = omega arith

  forms-right : (n : ℕ) (r : Right) → n + right_width r < 4294967296 → Scoped s n k → RightCan k r → Forms n (right_width r) (right_ops s n r)
  forms-right n (right.Operand o) narrow scoped can = forms-operand n o narrow scoped can
  forms-right n (right.Literal to) narrow scoped can = forms-none n

  against-stands : (n : ℕ) (r : Right) → AgainstStands (n + right_width r) (right_against n r)
  against-stands n (right.Operand o) = column-within n o
  against-stands n (right.Literal (literals.Number number)) = tt
  against-stands n (right.Literal (literals.Text bytes)) = tt

  forms-cond : (n : ℕ) (c : Comparison) → n + cond_width c < 4294967296 → Scoped s n k → CondCan k c → Forms n (cond_width c) (cond_ops s n c)
  forms-cond n c narrow scoped can =
      let w = operand_width c.left in
      let v = right_width c.right in
      let test = Filter (operand_column n c.left) c.op (right_against (n + w) c.right) in
      let within = column-within n c.left in
      let first = forms-operand n c.left (omega (arith, narrow)) scoped can.0 in
      let second = forms-right (n + w) c.right (omega (arith, narrow)) (scoped-more s n (n + w) k (omega arith) scoped) can.1 in
      let third : Forms (n + w + v) 0 (test ∷ []) = record { stand = ((omega (arith, within), against-stands (n + w) c.right), omega (arith, narrow), tt); grows = omega arith } in
      let none : v + 0 ≡ v = omega arith in
      subst (λ m. Forms n (w + m) (cond_ops s n c)) none
      (forms-both n w (v + 0) (operand_ops s n c.left) (right_ops s (n + w) c.right ++ test ∷ []) first
      (forms-both (n + w) v 0 (right_ops s (n + w) c.right) (test ∷ []) second third))

  pub forms-conds : (n : ℕ) (cs : List Comparison) → n + conds_width cs < 4294967296 → Scoped s n k → AllByRecursion (CondCan k) cs → Forms n (conds_width cs) (conds_ops s n cs)
  forms-conds n [] narrow scoped can = forms-none n
  forms-conds n (c ∷ cs) narrow scoped can =
      forms-both n (cond_width c) (conds_width cs) (cond_ops s n c) (conds_ops s (n + cond_width c) cs)
      (forms-cond n c (omega (arith, narrow)) scoped can.0)
      (forms-conds (n + cond_width c) cs (omega (arith, narrow)) (scoped-more s n (n + cond_width c) k (omega arith) scoped) can.1)

  forms-keys : (n : ℕ) (ks : List Key) → n + keys_width ks < 4294967296 → Scoped s n k → AllByRecursion (KeyCan k) ks → Forms n (keys_width ks) (keys_ops s n ks)
  forms-keys n [] narrow scoped can = forms-none n
  forms-keys n (key ∷ ks) narrow scoped can =
      let w = operand_width key.operand in
      forms-both n w (keys_width ks) (operand_ops s n key.operand) (keys_ops s (n + w) ks)
      (forms-operand n key.operand (omega (arith, narrow)) scoped can.0)
      (forms-keys (n + w) ks (omega (arith, narrow)) (scoped-more s n (n + w) k (omega arith) scoped) can.1)

  sorted-within : (n m : ℕ) (ks : List Key) → n + keys_width ks ≤ m → AllByRecursion (λ key. key.column < m) (sort_keys n ks)
  sorted-within n m [] wide = tt
  sorted-within n m (key ∷ ks) wide =
      let within = column-within n key.operand in
      (omega (arith, within, wide), sorted-within (n + operand_width key.operand) m ks (omega (arith, wide)))

  forms-order : (n : ℕ) (ks : List Key) → n + keys_width ks < 4294967296 → Forms (n + keys_width ks) 0 (order_ops n ks)
  forms-order n [] narrow = forms-none (n + 0)
  forms-order n (key ∷ ks) narrow = record {
    stand = (sorted-within n (n + keys_width (key ∷ ks)) (key ∷ ks) (omega arith), narrow, tt);
    grows = omega arith;
  }

  pub forms-ordered : (n : ℕ) (ks : List Key) → n + keys_width ks < 4294967296 → Scoped s n k → AllByRecursion (KeyCan k) ks → Forms n (keys_width ks) (keys_ops s n ks ++ order_ops n ks)
  forms-ordered n ks narrow scoped can =
      let none : keys_width ks + 0 ≡ keys_width ks = omega arith in
      subst (λ w. Forms n w (keys_ops s n ks ++ order_ops n ks)) none
      (forms-both n (keys_width ks) 0 (keys_ops s n ks) (order_ops n ks) (forms-keys n ks narrow scoped can) (forms-order n ks narrow))

  forms-content : (n : ℕ) (c : contents.Content) → n + content_width c < 4294967296 → Scoped s n k → ContentCan k c → Forms n (content_width c) (content_ops s n c)
  forms-content n (of_content.Text bytes) narrow scoped can = forms-none n
  forms-content n (of_content.Operand o) narrow scoped can = forms-operand n o narrow scoped can

  forms-attrs : (n : ℕ) (attrs : List AttrPart) → n + attrs_width attrs < 4294967296 → Scoped s n k → AllByRecursion (AttrCan k) attrs → Forms n (attrs_width attrs) (attrs_ops s n attrs)
  forms-attrs n [] narrow scoped can = forms-none n
  forms-attrs n (a ∷ attrs) narrow scoped can =
      let w = content_width a.from in
      forms-both n w (attrs_width attrs) (content_ops s n a.from) (attrs_ops s (n + w) attrs)
      (forms-content n a.from (omega (arith, narrow)) scoped can.0)
      (forms-attrs (n + w) attrs (omega (arith, narrow)) (scoped-more s n (n + w) k (omega arith) scoped) can.1)

  pub forms-cons : (n : ℕ) (name : List ℕ) (attrs : List AttrPart) (parts : PlainParts) → n + cons_width (element name attrs parts) < 4294967296 → Scoped s n k
      → AllByRecursion (AttrCan k) attrs → ((m : ℕ) → m + parts_width parts < 4294967296 → Scoped s m k → Forms m (parts_width parts) (parts_ops s m parts))
      → Forms n (cons_width (element name attrs parts)) (cons_ops s n (element name attrs parts))
  forms-cons n name attrs parts narrow scoped can inside =
      let w = attrs_width attrs in
      forms-both n w (parts_width parts) (attrs_ops s n attrs) (parts_ops s (n + w) parts)
      (forms-attrs n attrs (omega (arith, narrow)) scoped can)
      (inside (n + w) (omega (arith, narrow)) (scoped-more s n (n + w) k (omega arith) scoped))

  pub forms-parts : (parts : PlainParts) (n : ℕ) → n + parts_width parts < 4294967296 → Scoped s n k → PartsCan k parts → Forms n (parts_width parts) (parts_ops s n parts)
  forms-parts no_parts n narrow scoped can = forms-none n
  forms-parts (inner (element name attrs parts) rest) n narrow scoped can =
      let c = element name attrs parts in
      let w = cons_width c in
      forms-both n w (parts_width rest) (cons_ops s n c) (parts_ops s (n + w) rest)
      (forms-cons n name attrs parts (omega (arith, narrow)) scoped can.0.1 (λ m less sc. forms-parts parts m less sc can.0.2))
      (forms-parts rest (n + w) (omega (arith, narrow)) (scoped-more s n (n + w) k (omega arith) scoped) can.1)
  forms-parts (content c rest) n narrow scoped can =
      let w = content_width c in
      forms-both n w (parts_width rest) (content_ops s n c) (parts_ops s (n + w) rest)
      (forms-content n c (omega (arith, narrow)) scoped can.0)
      (forms-parts rest (n + w) (omega (arith, narrow)) (scoped-more s n (n + w) k (omega arith) scoped) can.1)

-- What shapes need.

abbrev needs_of_part : ShapePart → List Need
needs_of_part = fold-ShapePart (List Need) (List Need) part_needs elem_needs

elem-is : (name : List ℕ) (attrs : List ShapeAttr) (parts : List ShapePart)
    → needs_of_elem (roll-ShapeElem (record { name = name; attrs = attrs; parts = parts }))
    ≡ an_element name (map (λ a. a.name) attrs) ∷ (flat_map (λ a. needs_of_content a.from) attrs ++ flat_map (λ needs. needs) (map needs_of_part parts))
elem-is name attrs parts = search (rules, the_lemmas)

part-is : (e : ShapeElem) → needs_of_part (roll-ShapePart (ShapePart-F.Elem e)) ≡ needs_of_elem e
part-is e = search (rules, the_lemmas)

content-is : (c : ShapeContent) → needs_of_part (roll-ShapePart (ShapePart-F.Content c)) ≡ needs_of_content c
content-is c = search (rules, the_lemmas)

module _ (k m : ℕ) where
  content-needs : (n : ℕ) (c : contents.Content) → n + content_width c ≤ m → AllByRecursion (NeedStands m) (needs_of_content (content_shape n c))
  content-needs n (of_content.Text bytes) wide = tt
  content-needs n (of_content.Operand (operand.Nodes path)) wide = (omega (arith, wide), tt)
  content-needs n (of_content.Operand (operand.Agg kind path)) wide = (omega (arith, wide), tt)

  attrs-needs : (n : ℕ) (attrs : List AttrPart) → n + attrs_width attrs ≤ m → AllByRecursion (NeedStands m) (flat_map (λ a. needs_of_content a.from) (attrs_shape n attrs))
  attrs-needs n [] wide = tt
  attrs-needs n (a ∷ attrs) wide =
      all-append (NeedStands m) (needs_of_content (content_shape n a.from)) (flat_map (λ b. needs_of_content b.from) (attrs_shape (n + content_width a.from) attrs))
      (content-needs n a.from (omega (arith, wide))) (attrs-needs (n + content_width a.from) attrs (omega (arith, wide)))

  names-same : (n : ℕ) (attrs : List AttrPart) → map (λ a. a.name) (attrs_shape n attrs) ≡ names_of_attributes attrs
  names-same n [] = refl
  names-same n (a ∷ attrs) = ap (λ names. a.name ∷ names) (names-same (n + content_width a.from) attrs)

  abbrev part_list : ℕ → PlainParts → List Need
  part_list n parts = flat_map (λ needs. needs) (map needs_of_part (parts_shape n parts))

  pub cons-needs : (n : ℕ) (name : List ℕ) (attrs : List AttrPart) (parts : PlainParts) → n + cons_width (element name attrs parts) ≤ m → NamesCan name (names_of_attributes attrs)
      → AllByRecursion (NeedStands m) (part_list (n + attrs_width attrs) parts) → AllByRecursion (NeedStands m) (needs_of_elem (cons_shape n (element name attrs parts)))
  cons-needs n name attrs parts wide names inside =
      subst (AllByRecursion (NeedStands m)) (sym (elem-is name (attrs_shape n attrs) (parts_shape (n + attrs_width attrs) parts))) (
        subst (λ l. NeedStands m (an_element name l)) (sym (names-same n attrs)) names,
        all-append (NeedStands m) (flat_map (λ a. needs_of_content a.from) (attrs_shape n attrs)) (part_list (n + attrs_width attrs) parts)
            (attrs-needs n attrs (omega (arith, wide))) inside,
      )

  pub parts-needs : (parts : PlainParts) (n : ℕ) → n + parts_width parts ≤ m → PartsCan k parts → AllByRecursion (NeedStands m) (part_list n parts)
  parts-needs no_parts n wide can = tt
  parts-needs (inner (element name attrs parts) rest) n wide can =
      let c = element name attrs parts in
      all-append (NeedStands m) (needs_of_part (roll-ShapePart (ShapePart-F.Elem (cons_shape n c)))) (part_list (n + cons_width c) rest)
      (subst (AllByRecursion (NeedStands m)) (sym (part-is (cons_shape n c)))
      (cons-needs n name attrs parts (omega (arith, wide)) can.0.0 (parts-needs parts (n + attrs_width attrs) (omega (arith, wide)) can.0.2)))
      (parts-needs rest (n + cons_width c) (omega (arith, wide)) can.1)
  parts-needs (content c rest) n wide can =
      all-append (NeedStands m) (needs_of_part (roll-ShapePart (ShapePart-F.Content (content_shape n c)))) (part_list (n + content_width c) rest)
      (subst (AllByRecursion (NeedStands m)) (sym (content-is (content_shape n c))) (content-needs n c (omega (arith, wide))))
      (parts-needs rest (n + content_width c) (omega (arith, wide)) can.1)
