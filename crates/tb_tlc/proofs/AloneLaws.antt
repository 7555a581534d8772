-- The operators of operands, conditions, keys and constructors look at each row alone.
use Rattle.std.proofs.Common.{ℕ, ◌+◌, List, [], ◌∷◌, ◌++◌}
use Rattle.std.specs.List.{AllByRecursion}
use Rattle.tb_tree.proofs.lists.Alls.{all-append}
use Rattle.tb_query.specs.Parts.{element, PlainParts, no_parts, inner, content, PlainBack, nodes_back, cons_back}
use Rattle.tb_query.specs.declared.operand.Operand.{Operand}
use Rattle.tb_query.specs.declared.operand.Operand.TheVariants as operand
use Rattle.tb_query.specs.declared.operand.Right.{Right}
use Rattle.tb_query.specs.declared.operand.Right.TheVariants as right
use Rattle.tb_query.specs.declared.operand.Comparison.{Comparison}
use Rattle.tb_query.specs.declared.clause.Key.{Key}
use Rattle.tb_query.specs.declared.back.AttrPart.{AttrPart}
use Rattle.tb_query.specs.declared.back.Content as contents
use Rattle.tb_query.specs.declared.back.Content.TheVariants as given
use Rattle.tb_tlc.specs.declared.plan.Op.{Op}
use Rattle.tb_tlc.specs.declared.plan.Op.TheVariants.{Filter}
use Rattle.tb_tlc.specs.Planned.{Scope, operand_ops, operand_width, operand_column, right_ops, right_against, cond_ops, cond_width, conds_ops, keys_ops}
use Rattle.tb_tlc.specs.Returned.{content_ops, content_width, attrs_ops, attrs_width, cons_ops, cons_width, parts_ops, back_ops}
use Rattle.tb_tlc.proofs.RowLaws.{LooksAlone}

abbrev pub AreAlone : List Op → Type 0
AreAlone ops = AllByRecursion LooksAlone ops

pub alone-operand : (s : Scope) (n : ℕ) (o : Operand) → AreAlone (operand_ops s n o)
alone-operand s n (operand.Nodes path) = (tt, tt)
alone-operand s n (operand.Agg kind path) = (tt, (tt, tt))

alone-right : (s : Scope) (n : ℕ) (r : Right) → AreAlone (right_ops s n r)
alone-right s n (right.Operand o) = alone-operand s n o
alone-right s n (right.Literal to) = tt

alone-cond : (s : Scope) (n : ℕ) (c : Comparison) → AreAlone (cond_ops s n c)
alone-cond s n c =
    let m = n + operand_width c.left in
    let test = Filter (operand_column n c.left) c.op (right_against m c.right) in
    all-append LooksAlone (operand_ops s n c.left) (right_ops s m c.right ++ test ∷ []) (alone-operand s n c.left)
    (all-append LooksAlone (right_ops s m c.right) (test ∷ []) (alone-right s m c.right) (tt, tt))

pub alone-conds : (s : Scope) (n : ℕ) (conds : List Comparison) → AreAlone (conds_ops s n conds)
alone-conds s n [] = tt
alone-conds s n (c ∷ conds) =
    all-append LooksAlone (cond_ops s n c) (conds_ops s (n + cond_width c) conds) (alone-cond s n c) (alone-conds s (n + cond_width c) conds)

pub alone-keys : (s : Scope) (n : ℕ) (keys : List Key) → AreAlone (keys_ops s n keys)
alone-keys s n [] = tt
alone-keys s n (k ∷ keys) =
    all-append LooksAlone (operand_ops s n k.operand) (keys_ops s (n + operand_width k.operand) keys) (alone-operand s n k.operand) (alone-keys s (n + operand_width k.operand) keys)

alone-content : (s : Scope) (n : ℕ) (c : contents.Content) → AreAlone (content_ops s n c)
alone-content s n (given.Text bytes) = tt
alone-content s n (given.Operand o) = alone-operand s n o

alone-attrs : (s : Scope) (n : ℕ) (attrs : List AttrPart) → AreAlone (attrs_ops s n attrs)
alone-attrs s n [] = tt
alone-attrs s n (a ∷ attrs) =
    all-append LooksAlone (content_ops s n a.from) (attrs_ops s (n + content_width a.from) attrs) (alone-content s n a.from) (alone-attrs s (n + content_width a.from) attrs)

alone-parts : (s : Scope) (n : ℕ) (parts : PlainParts) → AreAlone (parts_ops s n parts)
alone-parts s n no_parts = tt
alone-parts s n (inner (element name attrs parts) rest) =
    let c = element name attrs parts in
    all-append LooksAlone (cons_ops s n c) (parts_ops s (n + cons_width c) rest)
    (all-append LooksAlone (attrs_ops s n attrs) (parts_ops s (n + attrs_width attrs) parts) (alone-attrs s n attrs) (alone-parts s (n + attrs_width attrs) parts))
    (alone-parts s (n + cons_width c) rest)
alone-parts s n (content c rest) =
    all-append LooksAlone (content_ops s n c) (parts_ops s (n + content_width c) rest) (alone-content s n c) (alone-parts s (n + content_width c) rest)

pub alone-back : (s : Scope) (n : ℕ) (back : PlainBack) → AreAlone (back_ops s n back)
alone-back s n (nodes_back path) = (tt, tt)
alone-back s n (cons_back (element name attrs parts)) =
    all-append LooksAlone (attrs_ops s n attrs) (parts_ops s (n + attrs_width attrs) parts) (alone-attrs s n attrs) (alone-parts s (n + attrs_width attrs) parts)
