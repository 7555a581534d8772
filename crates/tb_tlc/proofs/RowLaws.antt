-- What operators do to rows, one after the other. Some look at each row alone: what they make of rows is what
-- they make of each of them, put one behind the other.
use Rattle.std.proofs.Common.{◌≡◌, List, [], ◌∷◌, ◌++◌, map, refl, sym, ap, ap₂, ◌∙◌, Option, Some, None, option_map, option_and_then}
use Rattle.std.specs.List.{flat_map, AllByRecursion}
use Rattle.std.specs.Bool.{⊤}
use Rattle.std.proofs.lemmas.List.{map-append}
use Rattle.std.proofs.lemmas.List.Concat.{flat_map-append}
use Rattle.std.proofs.lemmas.List.Elements.{filter-append}
use Rattle.tb_tree.specs.Documents.{Docs}
use Rattle.tb_tree.specs.Plain.{Plain}
use Rattle.tb_tree.specs.Rows.{Row, value, cell_at, nodes}
use Rattle.tb_tree.specs.declared.shape.Shape.{Shape}
use Rattle.tb_query.specs.Lists.{all_given, joined}
use Rattle.tb_query.specs.Operators.{filtered, value_joined, grouped_rows, aggregated, cell_aggregate, ordered_rows, projected, distinct, stands_against, values_at}
use Rattle.tb_query.specs.Selected.{selected, marked, column_nodes}
use Rattle.tb_query.specs.Shapes.{constructed, row_trees}
use Rattle.tb_number.specs.declared.op.CmpOp.TheVariants.{Eq}
use Rattle.tb_tree.specs.declared.against.Against.TheVariants as against
use Rattle.tb_tlc.specs.declared.plan.Op.{Op}
use Rattle.tb_tlc.specs.declared.plan.Op.TheVariants.{Match, Select, Filter, ValueJoin, Group, Aggregate, Order, Project, Distinct, Construct}
use Rattle.tb_tlc.specs.Meaning.{column_from, trees_after}

-- what an operator makes of rows; the two that make trees leave them
abbrev pub rows_of : Docs → Op → List Row → Option (List Row)
rows_of docs (Match pattern) rows = Some rows
rows_of docs (Select start steps mark) rows = Some (selected docs (column_from start) steps mark rows)
rows_of docs (Filter left op right) rows = Some (filtered left op right rows)
rows_of docs (ValueJoin left right) rows = Some (value_joined left right rows)
rows_of docs (Group key) rows = Some (grouped_rows key rows)
rows_of docs (Aggregate from kind) rows = aggregated from kind rows
rows_of docs (Order keys) rows = Some (ordered_rows keys rows)
rows_of docs (Project columns) rows = Some (projected columns rows)
rows_of docs Distinct rows = Some (distinct rows)
rows_of docs (Construct shape) rows = Some rows

-- what operators make of rows, one after the other
abbrev pub rows_after : Docs → List Op → List Row → Option (List Row)
rows_after docs [] rows = Some rows
rows_after docs (op ∷ ops) rows = option_and_then (rows_after docs ops) (rows_of docs op rows)

-- operators that make rows
abbrev pub MakesRows : Op → Type 0
MakesRows (Match pattern) = ⊥
MakesRows (Construct shape) = ⊥
MakesRows _ = ⊤

-- those of them that look at each row alone
abbrev pub LooksAlone : Op → Type 0
LooksAlone (Select start steps mark) = ⊤
LooksAlone (Filter left op right) = ⊤
LooksAlone (ValueJoin left right) = ⊤
LooksAlone (Aggregate from kind) = ⊤
LooksAlone _ = ⊥

pub alone-makes : (op : Op) → LooksAlone op → MakesRows op
alone-makes (Match pattern) alone = alone
alone-makes (Select start steps mark) alone = tt
alone-makes (Filter left op right) alone = tt
alone-makes (ValueJoin left right) alone = tt
alone-makes (Group key) alone = tt
alone-makes (Aggregate from kind) alone = tt
alone-makes (Order keys) alone = tt
alone-makes (Project columns) alone = tt
alone-makes Distinct alone = tt
alone-makes (Construct shape) alone = alone

pub and_then-through : {A B C : Type 0} (f : A → Option B) (g : B → Option C) (h : A → Option C) → ((x : A) → h x ≡ option_and_then g (f x)) → (o : Option A)
    → option_and_then h o ≡ option_and_then g (option_and_then f o)
and_then-through f g h same None = refl
and_then-through f g h same (Some x) = same x

-- operators behind others take the rows that these make
pub rows-append : (docs : Docs) (ops more : List Op) (rows : List Row) → rows_after docs (ops ++ more) rows ≡ option_and_then (rows_after docs more) (rows_after docs ops rows)
rows-append docs [] more rows = refl
rows-append docs (op ∷ ops) more rows =
    and_then-through (rows_after docs ops) (rows_after docs more) (rows_after docs (ops ++ more)) (λ rs. rows-append docs ops more rs) (rows_of docs op rows)

-- and so do those that end a plan
pub trees-append : (docs : Docs) (ops more : List Op) → AllByRecursion MakesRows ops → (rows : List Row)
    → trees_after docs (ops ++ more) rows ≡ option_and_then (trees_after docs more) (rows_after docs ops rows)
trees-append docs [] more make rows = refl
trees-append docs (Match pattern ∷ ops) more make rows = absurd make.0
trees-append docs (Select start steps mark ∷ ops) more make rows = trees-append docs ops more make.1 (selected docs (column_from start) steps mark rows)
trees-append docs (Filter left op right ∷ ops) more make rows = trees-append docs ops more make.1 (filtered left op right rows)
trees-append docs (ValueJoin left right ∷ ops) more make rows = trees-append docs ops more make.1 (value_joined left right rows)
trees-append docs (Group key ∷ ops) more make rows = trees-append docs ops more make.1 (grouped_rows key rows)
trees-append docs (Aggregate from kind ∷ ops) more make rows =
    and_then-through (rows_after docs ops) (trees_after docs more) (trees_after docs (ops ++ more)) (λ rs. trees-append docs ops more make.1 rs) (aggregated from kind rows)
trees-append docs (Order keys ∷ ops) more make rows = trees-append docs ops more make.1 (ordered_rows keys rows)
trees-append docs (Project columns ∷ ops) more make rows = trees-append docs ops more make.1 (projected columns rows)
trees-append docs (Distinct ∷ ops) more make rows = trees-append docs ops more make.1 (distinct rows)
trees-append docs (Construct shape ∷ ops) more make rows = absurd make.0

-- both lists, one behind the other, where both are given
abbrev pub both : {A : Type 0} → Option (List A) → Option (List A) → Option (List A)
both a b = option_and_then (λ xs. option_map (λ ys. xs ++ ys) b) a

both-none : {A : Type 0} (a : Option (List A)) → both a None ≡ None
both-none None = refl
both-none (Some xs) = refl

both-then : {A : Type 0} (f : List A → Option (List A)) → ((xs ys : List A) → f (xs ++ ys) ≡ both (f xs) (f ys)) → (a b : Option (List A))
    → option_and_then f (both a b) ≡ both (option_and_then f a) (option_and_then f b)
both-then f splits None b = refl
both-then f splits (Some xs) None = sym (both-none (f xs))
both-then f splits (Some xs) (Some ys) = splits xs ys

pub all_given-append : {A B : Type 0} (give : A → Option B) (xs ys : List A) → all_given give (xs ++ ys) ≡ both (all_given give xs) (all_given give ys)
all_given-append {A} {B} give [] ys = by (all_given give ys)
  where
    by : (o : Option (List B)) → o ≡ option_map (λ zs. [] ++ zs) o
    by None = refl
    by (Some zs) = refl
all_given-append {A} {B} give (x ∷ xs) ys =
    ap (λ o. option_and_then (λ z. option_map (λ zs. z ∷ zs) o) (give x)) (all_given-append give xs ys) ∙ by (give x) (all_given give xs) (all_given give ys)
  where
    by : (o : Option B) (a b : Option (List B))
        → option_and_then (λ z. option_map (λ zs. z ∷ zs) (both a b)) o ≡ both (option_and_then (λ z. option_map (λ zs. z ∷ zs) a) o) b
    by None a b = refl
    by (Some z) None b = refl
    by (Some z) (Some zs) None = refl
    by (Some z) (Some zs) (Some ws) = refl

module _ (docs : Docs) where
  one-append : (op : Op) → LooksAlone op → (xs ys : List Row) → rows_of docs op (xs ++ ys) ≡ both (rows_of docs op xs) (rows_of docs op ys)
  one-append (Select start steps mark) alone xs ys =
      ap Some (flat_map-append (λ row. map (λ us. row ++ nodes us ∷ []) (marked mark (column_nodes docs (column_from start) steps row))) xs ys)
  one-append (Filter left op right) alone xs ys = ap Some (filter-append (λ row. stands_against op (values_at left row) right row) xs ys)
  one-append (ValueJoin left right) alone xs ys = ap Some (filter-append (λ row. stands_against Eq (values_at left row) (against.Column right) row) xs ys)
  one-append (Aggregate from kind) alone xs ys =
      all_given-append (λ row. option_map (λ v. row ++ value v ∷ []) (cell_aggregate kind (cell_at from row))) xs ys
  one-append (Match pattern) alone xs ys = absurd alone
  one-append (Group key) alone xs ys = absurd alone
  one-append (Order keys) alone xs ys = absurd alone
  one-append (Project columns) alone xs ys = absurd alone
  one-append Distinct alone xs ys = absurd alone
  one-append (Construct shape) alone xs ys = absurd alone

  one-none : (op : Op) → LooksAlone op → rows_of docs op [] ≡ Some []
  one-none (Select start steps mark) alone = refl
  one-none (Filter left op right) alone = refl
  one-none (ValueJoin left right) alone = refl
  one-none (Aggregate from kind) alone = refl
  one-none (Match pattern) alone = absurd alone
  one-none (Group key) alone = absurd alone
  one-none (Order keys) alone = absurd alone
  one-none (Project columns) alone = absurd alone
  one-none Distinct alone = absurd alone
  one-none (Construct shape) alone = absurd alone

  pub after-append : (ops : List Op) → AllByRecursion LooksAlone ops → (xs ys : List Row)
      → rows_after docs ops (xs ++ ys) ≡ both (rows_after docs ops xs) (rows_after docs ops ys)
  after-append [] alone xs ys = refl
  after-append (op ∷ ops) alone xs ys =
      ap (option_and_then (rows_after docs ops)) (one-append op alone.0 xs ys)
      ∙ both-then (rows_after docs ops) (λ us ws. after-append ops alone.1 us ws) (rows_of docs op xs) (rows_of docs op ys)

  -- of no rows they make none
  pub after-none : (ops : List Op) → AllByRecursion LooksAlone ops → rows_after docs ops [] ≡ Some []
  after-none [] alone = refl
  after-none (op ∷ ops) alone = ap (option_and_then (rows_after docs ops)) (one-none op alone.0) ∙ after-none ops alone.1

  joined-both : {Y : Type 0} (show : Y → Row) (a : Option (List Y)) (b : Option (List (List Y)))
      → both (option_map (map show) a) (option_map (map show) (option_map joined b)) ≡ option_map (map show) (option_map joined (option_and_then (λ y. option_map (λ ys. y ∷ ys) b) a))
  joined-both show None b = refl
  joined-both show (Some ys) None = refl
  joined-both show (Some ys) (Some yss) = ap Some (sym (map-append show ys (joined yss)))

  -- What is made of the row of each item alone is made of the rows of all items.
  pub each-row : {X Y : Type 0} (ops : List Op) → AllByRecursion LooksAlone ops → (row : X → Row) (give : X → Option (List Y)) (show : Y → Row) (xs : List X)
      → AllByRecursion (λ x. rows_after docs ops (row x ∷ []) ≡ option_map (map show) (give x)) xs
      → rows_after docs ops (map row xs) ≡ option_map (map show) (option_map joined (all_given give xs))
  each-row ops alone row give show [] each = after-none ops alone
  each-row ops alone row give show (x ∷ xs) each =
      after-append ops alone (row x ∷ []) (map row xs)
      ∙ ap₂ (λ a b. both a b) each.0 (each-row ops alone row give show xs each.1)
      ∙ joined-both show (give x) (all_given give xs)

  -- the same where none is past
  pub each-rows : {X Y : Type 0} (ops : List Op) → AllByRecursion LooksAlone ops → (row : X → Row) (give : X → List Y) (show : Y → Row) (xs : List X)
      → AllByRecursion (λ x. rows_after docs ops (row x ∷ []) ≡ Some (map show (give x))) xs
      → rows_after docs ops (map row xs) ≡ Some (map show (flat_map give xs))
  each-rows ops alone row give show [] each = after-none ops alone
  each-rows ops alone row give show (x ∷ xs) each =
      after-append ops alone (row x ∷ []) (map row xs)
      ∙ ap₂ (λ a b. both a b) each.0 (each-rows ops alone row give show xs each.1)
      ∙ ap Some (sym (map-append show (give x) (flat_map give xs)))

  built-both : (shape : Shape) (a b : Option (List Row)) → option_map (constructed shape) (both a b) ≡ both (option_map (constructed shape) a) (option_map (constructed shape) b)
  built-both shape None b = refl
  built-both shape (Some xs) None = refl
  built-both shape (Some xs) (Some ys) = ap Some (flat_map-append (row_trees shape) xs ys)

  behind-both : (a : Option (List Plain)) (b : Option (List (List Plain))) → both a (option_map joined b) ≡ option_map joined (option_and_then (λ y. option_map (λ ys. y ∷ ys) b) a)
  behind-both None b = refl
  behind-both (Some ys) None = refl
  behind-both (Some ys) (Some yss) = refl

  -- and so the trees of the rows of all items are those of each of them
  pub each-trees : {X : Type 0} (ops : List Op) → AllByRecursion LooksAlone ops → (shape : Shape) (row : X → Row) (give : X → Option (List Plain)) (xs : List X)
      → AllByRecursion (λ x. option_map (constructed shape) (rows_after docs ops (row x ∷ [])) ≡ give x) xs
      → option_map (constructed shape) (rows_after docs ops (map row xs)) ≡ option_map joined (all_given give xs)
  each-trees ops alone shape row give [] each = ap (option_map (constructed shape)) (after-none ops alone)
  each-trees ops alone shape row give (x ∷ xs) each =
      ap (option_map (constructed shape)) (after-append ops alone (row x ∷ []) (map row xs))
      ∙ built-both shape (rows_after docs ops (row x ∷ [])) (rows_after docs ops (map row xs))
      ∙ ap₂ (λ a b. both a b) each.0 (each-trees ops alone shape row give xs each.1)
      ∙ behind-both (give x) (all_given give xs)
