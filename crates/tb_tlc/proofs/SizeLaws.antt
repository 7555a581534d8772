-- A query has few columns where it binds, takes and makes few things.
use Rattle.std.proofs.Common.{◌≡◌, ◌+◌, ◌*◌, ◌≤◌, Bool, true, false, not, cond, List, [], ◌∷◌, ◌++◌, length, refl, ◌∙◌, arith}
use Rattle.std.specs.List.{flat_map, filter}
use Rattle.tb_query.specs.Actions.{Action, binds, takes, makes, actions_of_operand, actions_of_clause, actions_of_right, actions_of_comparison, actions_of_group, actions_of_key, actions_of_content, actions_of_attribute, actions_of_cons, actions_of_parts, actions_of_back, actions_of_flwor, size_of_actions}
use Rattle.tb_query.specs.Comparisons.{has_sum, as_tested}
use Rattle.tb_query.specs.Parts.{element, PlainParts, no_parts, inner, content, PlainBack, nodes_back, cons_back, back_of}
use Rattle.tb_query.specs.declared.clause.Clause.{Clause}
use Rattle.tb_query.specs.declared.clause.Clause.TheVariants.{For, Let}
use Rattle.tb_query.specs.declared.clause.Key.{Key}
use Rattle.tb_query.specs.declared.operand.Operand.{Operand}
use Rattle.tb_query.specs.declared.operand.Operand.TheVariants as operand
use Rattle.tb_query.specs.declared.operand.Right.{Right}
use Rattle.tb_query.specs.declared.operand.Right.TheVariants as right
use Rattle.tb_query.specs.declared.operand.Comparison.{Comparison}
use Rattle.tb_query.specs.declared.back.AttrPart.{AttrPart}
use Rattle.tb_query.specs.declared.back.Content as contents
use Rattle.tb_query.specs.declared.back.Content.TheVariants as of_content
use Rattle.tb_query.specs.declared.query.Flwor as flwor
use Rattle.tb_tlc.specs.Planned.{operand_width, right_width, cond_width, conds_width, keys_width}
use Rattle.tb_tlc.specs.Returned.{content_width, attrs_width, parts_width, back_width}
use Rattle.tb_tlc.specs.Translated.{most_columns}
use Rattle.tb_tlc.proofs.WidthLaws.{conds_width-append}

size-append : (xs ys : List Action) → size_of_actions (xs ++ ys) ≡ size_of_actions xs + size_of_actions ys
size-append [] ys = omega arith
size-append (binds var path ∷ xs) ys = let others = size-append xs ys in omega (arith, others)
size-append (takes path ∷ xs) ys = let others = size-append xs ys in omega (arith, others)
size-append (makes name attributes ∷ xs) ys = let others = size-append xs ys in omega (arith, others)

width-operand : (o : Operand) → operand_width o ≤ 2 * size_of_actions (actions_of_operand o)
width-operand (operand.Nodes path) = omega arith
width-operand (operand.Agg kind path) = omega arith

width-right : (r : Right) → right_width r ≤ 2 * size_of_actions (actions_of_right r)
width-right (right.Operand o) = width-operand o
width-right (right.Literal to) = omega arith

width-cond : (c : Comparison) → cond_width c ≤ 2 * size_of_actions (actions_of_comparison c)
width-cond c =
    let left = width-operand c.left in
    let right = width-right c.right in
    let both = size-append (actions_of_operand c.left) (actions_of_right c.right) in
    omega (arith, left, right, both)

width-conds : (cs : List Comparison) → conds_width cs ≤ 2 * size_of_actions (flat_map actions_of_comparison cs)
width-conds [] = omega arith
width-conds (c ∷ cs) =
    let first = width-cond c in
    let others = width-conds cs in
    let both = size-append (actions_of_comparison c) (flat_map actions_of_comparison cs) in
    omega (arith, first, others, both)

width-kept : (cs : List Comparison) → conds_width (filter (λ c. not (has_sum c)) cs) + conds_width (filter has_sum cs) ≡ conds_width cs
width-kept [] = refl
width-kept (c ∷ cs) = by (has_sum c) (width-kept cs)
  where
    by : (b : Bool) → conds_width (filter (λ k. not (has_sum k)) cs) + conds_width (filter has_sum cs) ≡ conds_width cs
        → conds_width (cond (not b) (c ∷ filter (λ k. not (has_sum k)) cs) (filter (λ k. not (has_sum k)) cs)) + conds_width (cond b (c ∷ filter has_sum cs) (filter has_sum cs)) ≡ cond_width c + conds_width cs
    by true others = omega (arith, others)
    by false others = omega (arith, others)

width-tested : (cs : List Comparison) → conds_width (as_tested cs) ≡ conds_width cs
width-tested cs = conds_width-append (filter (λ c. not (has_sum c)) cs) (filter has_sum cs) ∙ width-kept cs

width-keys : (ks : List Key) → keys_width ks ≤ 2 * size_of_actions (flat_map actions_of_key ks)
width-keys [] = omega arith
width-keys (k ∷ ks) =
    let first = width-operand k.operand in
    let others = width-keys ks in
    let both = size-append (actions_of_operand k.operand) (flat_map actions_of_key ks) in
    omega (arith, first, others, both)

width-content : (c : contents.Content) → content_width c ≤ 2 * size_of_actions (actions_of_content c)
width-content (of_content.Text bytes) = omega arith
width-content (of_content.Operand o) = width-operand o

width-attrs : (attrs : List AttrPart) → attrs_width attrs ≤ 2 * size_of_actions (flat_map actions_of_attribute attrs)
width-attrs [] = omega arith
width-attrs (a ∷ attrs) =
    let first = width-content a.from in
    let others = width-attrs attrs in
    let both = size-append (actions_of_content a.from) (flat_map actions_of_attribute attrs) in
    omega (arith, first, others, both)

width-parts : (parts : PlainParts) → parts_width parts ≤ 2 * size_of_actions (actions_of_parts parts)
width-parts no_parts = omega arith
width-parts (inner (element name attrs parts) rest) =
    let first = width-attrs attrs in
    let inside = width-parts parts in
    let others = width-parts rest in
    let own = size-append (flat_map actions_of_attribute attrs) (actions_of_parts parts) in
    let both = size-append (actions_of_cons (element name attrs parts)) (actions_of_parts rest) in
    omega (arith, first, inside, others, own, both)
width-parts (content c rest) =
    let first = width-content c in
    let others = width-parts rest in
    let both = size-append (actions_of_content c) (actions_of_parts rest) in
    omega (arith, first, others, both)

width-back : (back : PlainBack) → back_width back ≤ 2 * size_of_actions (actions_of_back back)
width-back (nodes_back path) = omega arith
width-back (cons_back (element name attrs parts)) =
    let first = width-attrs attrs in
    let inside = width-parts parts in
    let own = size-append (flat_map actions_of_attribute attrs) (actions_of_parts parts) in
    omega (arith, first, inside, own)

count-clauses : (cs : List Clause) → length cs ≤ size_of_actions (flat_map actions_of_clause cs)
count-clauses [] = omega arith
count-clauses (For var empty path ∷ cs) = let others = count-clauses cs in omega (arith, others)
count-clauses (Let var path ∷ cs) = let others = count-clauses cs in omega (arith, others)

-- At most three columns for each thing, and two for a group.
pub few-columns : (q : flwor.Flwor) → most_columns q ≤ 2 + 3 * size_of_actions (actions_of_flwor q)
few-columns q =
    let clauses = flat_map actions_of_clause q.clauses in
    let conds = flat_map actions_of_comparison q.conds in
    let group = actions_of_group q.group in
    let keys = flat_map actions_of_key q.keys in
    let back = actions_of_back (back_of q.back) in
    let a = size-append clauses (conds ++ (group ++ (keys ++ back))) in
    let b = size-append conds (group ++ (keys ++ back)) in
    let c = size-append group (keys ++ back) in
    let d = size-append keys back in
    let e = count-clauses q.clauses in
    let f = width-tested q.conds in
    let g = width-conds q.conds in
    let h = width-keys q.keys in
    let i = width-back (back_of q.back) in
    omega (arith, a, b, c, d, e, f, g, h, i)
