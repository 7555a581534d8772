-- What queries do in written order, computed, and which of them can be planned.
use Rattle.std.proofs.Common.{◌≡◌, true, false, [], ◌∷◌, refl, codes, Some, arith}
use Rattle.tb_query.specs.Parts.{PlainCons, element, no_parts, inner, content}
use Rattle.tb_query.specs.Actions.{binds, takes, makes, actions_of, actions_of_cons, size_of_actions}
use Rattle.tb_query.specs.Plannable.{AreBound, HasStep, IsNamed, IsDifferent, IsPlannable}
use Rattle.tb_query.specs.declared.back.Back.TheVariants.{Nodes}
use Rattle.tb_query.specs.declared.back.Content.TheVariants.{Operand}
use Rattle.tb_query.specs.declared.clause.Clause.TheVariants.{For}
use Rattle.tb_query.specs.declared.path.Path.{Path}
use Rattle.tb_query.specs.declared.query.Flwor.{Flwor}
use Rattle.tb_query.specs.declared.query.Query.TheVariants as queries
use Rattle.tb_number.specs.declared.agg.AggKind.TheVariants.{Count}
use Rattle.tb_number.specs.declared.op.CmpOp.TheVariants.{Eq}
use Rattle.tb_query.proofs.Shorthand.{below, child, in_document, at_var, nodes, agg, compared, named_by, query}

abbrev items : Path
items = in_document (codes "p") (below (codes "x") ∷ [])

-- `FOR $x IN document("p")//x, $y IN $x/k WHERE $x/k = count($y) GROUP BY $g := $y ORDER BY $g RETURN $g`
abbrev grouped : Flwor
grouped = query (For 0 false items ∷ For 1 false (at_var 0 (child (codes "k") ∷ [])) ∷ [])
    (compared (nodes (at_var 0 (child (codes "k") ∷ []))) Eq (agg Count (at_var 1 [])) ∷ [])
    (Some (record { var = 2; path = at_var 1 [] }))
    (record { operand = nodes (at_var 2 []); descending = false } ∷ []) (Nodes (at_var 2 []))

pub actions-grouped : actions_of (queries.Flwor grouped)
    ≡ binds 0 items ∷ binds 1 (at_var 0 (child (codes "k") ∷ []))
    ∷ takes (at_var 0 (child (codes "k") ∷ [])) ∷ takes (at_var 1 [])
    ∷ binds 2 (at_var 1 []) ∷ takes (at_var 2 []) ∷ takes (at_var 2 []) ∷ []
actions-grouped = refl

-- seven of them, and three steps
pub size-grouped : size_of_actions (actions_of (queries.Flwor grouped)) ≡ 10
size-grouped = refl

pub grouped-plannable : IsPlannable (queries.Flwor grouped)
grouped-plannable = record {
  bound = (refl, tt, (refl, omega arith, (omega arith, (omega arith, (refl, omega arith, (omega arith, (omega arith, tt)))))));
  long = (omega arith, (tt, (tt, (tt, (tt, (tt, (tt, tt)))))));
  named = (tt, (tt, (tt, (tt, (tt, (tt, (tt, tt)))))));
  different = (tt, (tt, (tt, (tt, (tt, (tt, (tt, tt)))))));
  few = omega arith;
}

-- `<t p={$x} q={$x}><s/>{$x}</t>`: a constructor before its attributes' values, and these before its parts
abbrev returned : PlainCons
returned = element (codes "t") (named_by (codes "p") (nodes (at_var 0 [])) ∷ named_by (codes "q") (nodes (at_var 0 [])) ∷ [])
    (inner (element (codes "s") [] no_parts) (content (Operand (nodes (at_var 1 []))) no_parts))

pub actions-returned : actions_of_cons returned
    ≡ makes (codes "t") (codes "p" ∷ codes "q" ∷ []) ∷ takes (at_var 0 []) ∷ takes (at_var 0 [])
    ∷ makes (codes "s") [] ∷ takes (at_var 1 []) ∷ []
actions-returned = refl

-- What cannot be planned: a variable in its own path, one that is bound later, one bound under a number
-- that isn't the next, a document alone, two attributes of one name, and names that are none.

pub own-unbound : AreBound 0 (binds 0 (at_var 0 []) ∷ []) → ⊥
own-unbound e = omega (arith, e.1)

pub later-unbound : AreBound 0 (takes (at_var 0 []) ∷ binds 0 items ∷ []) → ⊥
later-unbound e = omega (arith, e.0)

pub twice-unbound : AreBound 0 (binds 0 items ∷ binds 0 items ∷ []) → ⊥
twice-unbound e = omega (arith, e.2.0)

pub document-alone : HasStep (takes (in_document (codes "p") [])) → ⊥
document-alone e = omega (arith, e)

pub same-attributes : IsDifferent (makes (codes "t") (codes "p" ∷ codes "p" ∷ [])) → ⊥
same-attributes e = (let g : ◌≡◌ false true = e in cc)

pub name-of_blank : IsNamed (makes (codes "a b") []) → ⊥
name-of_blank e = (let g : ◌≡◌ false true = e.0 in cc)

pub attribute-of_blank : IsNamed (makes (codes "a") (codes "b c" ∷ [])) → ⊥
attribute-of_blank e = (let g : ◌≡◌ false true = e.1.0 in cc)
