-- The names of documents in queries, computed.
use Rattle.std.proofs.Common.{◌≡◌, ℕ, true, false, List, [], ◌∷◌, ◌++◌, map, refl, ap, ◌∙◌, rules, codes, Some, None}
use Rattle.std.specs.Prelude.{flat_map}
use Rattle.tb_pattern.specs.declared.pattern.Edge.{Edge}
use Rattle.tb_query.specs.Parts.{PlainBack, cons_back, element, inner, content, no_parts, back_of}
use Rattle.tb_query.specs.declared.back.AttrPart.{AttrPart}
use Rattle.tb_query.specs.declared.back.Content.TheVariants.{Operand}
use Rattle.tb_query.specs.declared.back.Part.{the_lemmas}
use Rattle.tb_number.specs.declared.op.CmpOp.TheVariants.{Ne}
use Rattle.tb_number.specs.declared.agg.AggKind.TheVariants.{Sum}
use Rattle.tb_query.specs.Names.{written_names, names_once, names_of_clause, names_of_comparison, names_of_group, names_of_key, names_of_back}
use Rattle.tb_query.specs.declared.back.Back.TheVariants.{Nodes, Cons}
use Rattle.tb_query.specs.declared.clause.Clause.TheVariants.{For, Let}
use Rattle.tb_query.specs.declared.path.Path.{Path}
use Rattle.tb_query.specs.declared.query.Flwor.{Flwor}
use Rattle.tb_query.specs.declared.query.Query.TheVariants as queries
use Rattle.tb_query.proofs.Shorthand.{below, in_document, at_var, nodes, agg, compared, constructor, inside, braced, named_by, query}

abbrev names : Flwor → List (List ℕ)
names q = names_once (written_names (queries.Flwor q))

abbrev x_in : List ℕ → Path
x_in name = in_document name (below (codes "x") ∷ [])

-- `FOR $x IN document("p")//x, $y IN document("q")//x WHERE $x != $y RETURN $x`
pub names-of_join : names (query (For 0 false (x_in (codes "p")) ∷ For 1 false (x_in (codes "q")) ∷ [])
    (compared (nodes (at_var 0 [])) Ne (nodes (at_var 1 [])) ∷ []) None [] (Nodes (at_var 0 [])))
    ≡ codes "p" ∷ codes "q" ∷ []
names-of_join = refl

-- names in every place, some twice: each at its first place, that of a `LET` clause too
pub names-everywhere : names (query (Let 0 (x_in (codes "b")) ∷ For 1 false (x_in (codes "a")) ∷ [])
    (compared (nodes (x_in (codes "c"))) Ne (agg Sum (x_in (codes "b"))) ∷ [])
    (Some (record { var = 2; path = x_in (codes "d") }))
    (record { operand = nodes (x_in (codes "a")); descending = true } ∷ []) (Nodes (x_in (codes "e"))))
    ≡ codes "b" ∷ codes "a" ∷ codes "c" ∷ codes "d" ∷ codes "e" ∷ []
names-everywhere = refl

-- `FOR $x IN document("a")//x LET $y := document("b")//x WHERE document("c")//x != sum(document("d")//x)
-- GROUP BY $k := document("e")//x ORDER BY document("f")//x
-- RETURN <t p={document("g")//x}>{document("h")//x}<s>{document("i")//x}</s>{document("j")//x}</t>`
abbrev g_attr : List AttrPart
g_attr = named_by (codes "p") (nodes (x_in (codes "g"))) ∷ []

abbrev in_every_place : Flwor
in_every_place = query (For 0 false (x_in (codes "a")) ∷ Let 1 (x_in (codes "b")) ∷ [])
    (compared (nodes (x_in (codes "c"))) Ne (agg Sum (x_in (codes "d"))) ∷ [])
    (Some (record { var = 2; path = x_in (codes "e") }))
    (record { operand = nodes (x_in (codes "f")); descending = true } ∷ [])
    (Cons (constructor (codes "t") g_attr
    (braced (nodes (x_in (codes "h"))) ∷ inside (constructor (codes "s") [] (braced (nodes (x_in (codes "i"))) ∷ []))
    ∷ braced (nodes (x_in (codes "j"))) ∷ [])))

abbrev in_constructor : PlainBack
in_constructor = cons_back (element (codes "t") g_attr
    (content (Operand (nodes (x_in (codes "h"))))
    (inner (element (codes "s") [] (content (Operand (nodes (x_in (codes "i")))) no_parts))
    (content (Operand (nodes (x_in (codes "j")))) no_parts))))

names-back : (q : Flwor) (back : PlainBack) (ns : List (List ℕ)) → back_of q.back ≡ back
    → names_once (flat_map names_of_clause q.clauses ++ flat_map names_of_comparison q.conds ++ names_of_group q.group ++ flat_map names_of_key q.keys ++ names_of_back back) ≡ ns
    → names q ≡ ns
names-back q back ns is computed =
    ap (λ b. names_once (flat_map names_of_clause q.clauses ++ flat_map names_of_comparison q.conds ++ names_of_group q.group ++ flat_map names_of_key q.keys ++ names_of_back b)) is ∙ computed

-- a name in each place, in the order of the text
pub names-in_order : names in_every_place ≡ map (λ c. c ∷ []) (codes "abcdefghij")
names-in_order = names-back in_every_place in_constructor _ (search (rules, the_lemmas)) refl

-- `MATCH document("m") ..`
pub names-of_match : (es : List Edge) → names_once (written_names (queries.Match (record { document = codes "m"; edges = es }))) ≡ codes "m" ∷ []
names-of_match es = refl
