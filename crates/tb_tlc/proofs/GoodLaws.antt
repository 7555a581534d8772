-- What a plannable query says of each of its parts, once so many variables are bound.
use Rattle.std.proofs.Common.{ℕ, IsTrue, List, [], ◌∷◌, ◌++◌, subst, append_assoc}
use Rattle.std.specs.Bool.{⊤}
use Rattle.std.specs.List.{flat_map, AllByRecursion}
use Rattle.tb_tree.specs.Names.{is_name}
use Rattle.tb_tree.specs.Sound.{are_different}
use Rattle.tb_query.specs.Actions.{Action, takes, makes, actions_of_operand, actions_of_right, actions_of_comparison, actions_of_key, actions_of_content, actions_of_attribute, names_of_attributes, actions_of_cons, actions_of_parts}
use Rattle.tb_query.specs.Parts.{element, PlainParts, no_parts, inner, content}
use Rattle.tb_query.specs.Plannable.{StartsBefore, AreBound, StepsFrom, HasStep, IsNamed, IsDifferent}
use Rattle.tb_query.specs.declared.path.Path.{Path}
use Rattle.tb_query.specs.declared.operand.Operand.{Operand}
use Rattle.tb_query.specs.declared.operand.Operand.TheVariants as operand
use Rattle.tb_query.specs.declared.operand.Right.{Right}
use Rattle.tb_query.specs.declared.operand.Right.TheVariants as right
use Rattle.tb_query.specs.declared.operand.Comparison.{Comparison}
use Rattle.tb_query.specs.declared.clause.Key.{Key}
use Rattle.tb_query.specs.declared.back.AttrPart.{AttrPart}
use Rattle.tb_query.specs.declared.back.Content as contents
use Rattle.tb_query.specs.declared.back.Content.TheVariants as of_content

-- What actions keep where k variables are bound.
pub record Good (k : ℕ) (actions : List Action) : Type 0 where
  pub bound : AreBound k actions
  pub long : AllByRecursion HasStep actions
  pub named : AllByRecursion IsNamed actions
  pub different : AllByRecursion IsDifferent actions

-- a path that can be selected
abbrev pub PathCan : ℕ → Path → Type 0
PathCan k path = StartsBefore k path.start × StepsFrom path.start path.steps

abbrev pub OperandCan : ℕ → Operand → Type 0
OperandCan k (operand.Nodes path) = PathCan k path
OperandCan k (operand.Agg kind path) = PathCan k path

abbrev pub RightCan : ℕ → Right → Type 0
RightCan k (right.Operand o) = OperandCan k o
RightCan k (right.Literal to) = ⊤

abbrev pub CondCan : ℕ → Comparison → Type 0
CondCan k c = OperandCan k c.left × RightCan k c.right

abbrev pub KeyCan : ℕ → Key → Type 0
KeyCan k key = OperandCan k key.operand

abbrev pub ContentCan : ℕ → contents.Content → Type 0
ContentCan k (of_content.Text bytes) = ⊤
ContentCan k (of_content.Operand o) = OperandCan k o

abbrev pub AttrCan : ℕ → AttrPart → Type 0
AttrCan k a = ContentCan k a.from

-- names that an element may have
abbrev pub NamesCan : List ℕ → List (List ℕ) → Type 0
NamesCan name attributes = IsTrue (is_name name) × AllByRecursion (λ a. IsTrue (is_name a)) attributes × IsTrue (are_different attributes)

abbrev pub PartsCan : ℕ → PlainParts → Type 0
PartsCan k no_parts = ⊤
PartsCan k (inner (element name attrs parts) rest) =
    (NamesCan name (names_of_attributes attrs) × AllByRecursion (AttrCan k) attrs × PartsCan k parts) × PartsCan k rest
PartsCan k (content c rest) = ContentCan k c × PartsCan k rest

module _ (k : ℕ) where
  pub good-path : (path : Path) (rest : List Action) → Good k (takes path ∷ rest) → PathCan k path × Good k rest
  good-path path rest good =
      ((good.bound.0, good.long.0), record { bound = good.bound.1; long = good.long.1; named = good.named.1; different = good.different.1 })

  pub good-operand : (o : Operand) (rest : List Action) → Good k (actions_of_operand o ++ rest) → OperandCan k o × Good k rest
  good-operand (operand.Nodes path) rest good = good-path path rest good
  good-operand (operand.Agg kind path) rest good = good-path path rest good

  good-right : (r : Right) (rest : List Action) → Good k (actions_of_right r ++ rest) → RightCan k r × Good k rest
  good-right (right.Operand o) rest good = good-operand o rest good
  good-right (right.Literal to) rest good = (tt, good)

  behind : (xs ys rest : List Action) → Good k ((xs ++ ys) ++ rest) → Good k (xs ++ (ys ++ rest))
  behind xs ys rest good = subst (Good k) (append_assoc xs ys rest) good

  good-cond : (c : Comparison) (rest : List Action) → Good k (actions_of_comparison c ++ rest) → CondCan k c × Good k rest
  good-cond c rest good =
      let left = good-operand c.left (actions_of_right c.right ++ rest) (behind (actions_of_operand c.left) (actions_of_right c.right) rest good) in
      let other = good-right c.right rest left.1 in
      ((left.0, other.0), other.1)

  good-each : {X : Type 0} (actions : X → List Action) (P : X → Type 0) → ((x : X) (rest : List Action) → Good k (actions x ++ rest) → P x × Good k rest)
      → (xs : List X) (rest : List Action) → Good k (flat_map actions xs ++ rest) → AllByRecursion P xs × Good k rest
  good-each actions P one [] rest good = (tt, good)
  good-each actions P one (x ∷ xs) rest good =
      let first = one x (flat_map actions xs ++ rest) (behind (actions x) (flat_map actions xs) rest good) in
      let others = good-each actions P one xs rest first.1 in
      ((first.0, others.0), others.1)

  pub good-conds : (cs : List Comparison) (rest : List Action) → Good k (flat_map actions_of_comparison cs ++ rest) → AllByRecursion (CondCan k) cs × Good k rest
  good-conds cs rest good = good-each actions_of_comparison (CondCan k) good-cond cs rest good

  pub good-keys : (ks : List Key) (rest : List Action) → Good k (flat_map actions_of_key ks ++ rest) → AllByRecursion (KeyCan k) ks × Good k rest
  good-keys ks rest good = good-each actions_of_key (KeyCan k) (λ key more one. good-operand key.operand more one) ks rest good

  good-content : (c : contents.Content) (rest : List Action) → Good k (actions_of_content c ++ rest) → ContentCan k c × Good k rest
  good-content (of_content.Text bytes) rest good = (tt, good)
  good-content (of_content.Operand o) rest good = good-operand o rest good

  good-attrs : (attrs : List AttrPart) (rest : List Action) → Good k (flat_map actions_of_attribute attrs ++ rest) → AllByRecursion (AttrCan k) attrs × Good k rest
  good-attrs attrs rest good = good-each actions_of_attribute (AttrCan k) (λ a more one. good-content a.from more one) attrs rest good

  good-makes : (name : List ℕ) (attributes : List (List ℕ)) (rest : List Action) → Good k (makes name attributes ∷ rest) → NamesCan name attributes × Good k rest
  good-makes name attributes rest good =
      ((good.named.0.0, good.named.0.1, good.different.0), record { bound = good.bound; long = good.long.1; named = good.named.1; different = good.different.1 })

  pub good-cons : (name : List ℕ) (attrs : List AttrPart) (parts : PlainParts) (rest : List Action) → ((more : List Action) → Good k (actions_of_parts parts ++ more) → PartsCan k parts × Good k more)
      → Good k (actions_of_cons (element name attrs parts) ++ rest) → (NamesCan name (names_of_attributes attrs) × AllByRecursion (AttrCan k) attrs × PartsCan k parts) × Good k rest
  good-cons name attrs parts rest inside good =
      let made = good-makes name (names_of_attributes attrs) ((flat_map actions_of_attribute attrs ++ actions_of_parts parts) ++ rest) good in
      let own = good-attrs attrs (actions_of_parts parts ++ rest) (behind (flat_map actions_of_attribute attrs) (actions_of_parts parts) rest made.1) in
      let others = inside rest own.1 in
      ((made.0, own.0, others.0), others.1)

  pub good-parts : (parts : PlainParts) (rest : List Action) → Good k (actions_of_parts parts ++ rest) → PartsCan k parts × Good k rest
  good-parts no_parts rest good = (tt, good)
  good-parts (inner (element name attrs parts) more) rest good =
      let first = good-cons name attrs parts (actions_of_parts more ++ rest) (λ after one. good-parts parts after one) (behind (actions_of_cons (element name attrs parts)) (actions_of_parts more) rest good) in
      let others = good-parts more rest first.1 in
      ((first.0, others.0), others.1)
  good-parts (content c more) rest good =
      let first = good-content c (actions_of_parts more ++ rest) (behind (actions_of_content c) (actions_of_parts more) rest good) in
      let others = good-parts more rest first.1 in
      ((first.0, others.0), others.1)
