-- Trees of parts of queries worked out by hand, with what they stand for: each is computed.
use Rattle.std.proofs.Common.{◌≡◌, ℕ, true, false, List, [], ◌∷◌, Some, refl}
use Rattle.std.specs.Prelude.{codes}
use Rattle.tb_token.specs.grammar.Sentences.{Tree, leaf, nothing, pair, first, second}
use Rattle.tb_token.specs.tokens.Lexemes.{terminal_of}
use Rattle.tb_token.specs.declared.lexer.token.Kind.{Kind}
use Rattle.tb_token.specs.declared.lexer.token.Kind.TheVariants as kind
use Rattle.tb_number.specs.declared.agg.AggKind.TheVariants.{Sum}
use Rattle.tb_number.specs.declared.op.CmpOp.TheVariants.{Lt}
use Rattle.tb_span.specs.declared.item.Axis.TheVariants.{Child, Descendant}
use Rattle.tb_tree.specs.declared.node_test.Test.TheVariants.{Name, AttrName}
use Rattle.tb_query.specs.Parts.{element, no_parts, inner, content}
use Rattle.tb_query.specs.declared.back.Content.TheVariants as content
use Rattle.tb_query.specs.declared.clause.Clause.TheVariants.{For, Let}
use Rattle.tb_query.specs.declared.operand.Operand.TheVariants as operand
use Rattle.tb_query.specs.declared.operand.Right.TheVariants as right
use Rattle.tb_query.specs.declared.path.Path.{Path}
use Rattle.tb_query.specs.declared.path.Start.TheVariants as start
use Rattle.tb_flwor.specs.Value.{BoundNames, path_of, longpath_of, operand_of, clause_from, cond_from, group_of, key_from}
use Rattle.tb_flwor.specs.Results.{cons_behind}

abbrev tok : Kind → List ℕ → Tree
tok k bytes = leaf (record { terminal = terminal_of k bytes; bytes = bytes; number = 0 })

abbrev sign : List ℕ → Tree
sign text = tok kind.Sign text

abbrev keyword : List ℕ → Tree
keyword text = tok kind.Word text

abbrev x_and_y : BoundNames
x_and_y = codes "$x" ∷ codes "$y" ∷ []

abbrev x : Tree
x = tok kind.Variable (codes "$x")

abbrev y : Tree
y = tok kind.Variable (codes "$y")

-- `document("d")`
abbrev d : Tree
d = pair (keyword (codes "document")) (pair (sign (codes "(")) (pair (tok kind.Quoted (codes "\"d\"")) (sign (codes ")"))))

-- `/a` and `//@b`
abbrev a_step : Tree
a_step = pair (sign (codes "/")) (first (tok kind.Name (codes "a")))

abbrev b_step : Tree
b_step = pair (sign (codes "//")) (second (second (first (pair (sign (codes "@")) (first (tok kind.Name (codes "b")))))))

-- `$y/a//@b`
abbrev from_y : Path
from_y = record {
  start = start.Var 1;
  steps = record { axis = Child; test = Name (codes "a") } ∷ record { axis = Descendant; test = AttrName (codes "b") } ∷ [];
}

pub from-variable : path_of x_and_y (second (pair y (pair a_step (pair b_step nothing)))) ≡ from_y
from-variable = refl

pub long-variable : longpath_of x_and_y (pair (second y) (pair a_step (pair b_step nothing))) ≡ from_y
long-variable = refl

-- `document("d")/a`
abbrev from_d : Path
from_d = record { start = start.Document (codes "d"); steps = record { axis = Child; test = Name (codes "a") } ∷ [] }

pub from-document : path_of x_and_y (first (pair d (pair a_step nothing))) ≡ from_d
from-document = refl

-- `$x`
abbrev bare : Path
bare = record { start = start.Var 0; steps = [] }

abbrev bare_tree : Tree
bare_tree = second (pair x nothing)

-- `sum($x)`
pub summed : operand_of x_and_y (second (pair (keyword (codes "sum")) (pair (sign (codes "(")) (pair bare_tree (sign (codes ")")))))) ≡ operand.Agg Sum bare
summed = refl

-- `FOR $x IN document("d")/a, $y ALLOWING EMPTY IN document("d")/a`
pub bound-by-for : clause_from x_and_y
    (first (pair (keyword (codes "FOR")) (pair (pair x (pair nothing (pair (keyword (codes "IN")) (pair (first d) (pair a_step nothing)))))
    (pair (pair (sign (codes ",")) (pair y (pair (pair (keyword (codes "ALLOWING")) (keyword (codes "EMPTY"))) (pair (keyword (codes "IN")) (pair (first d) (pair a_step nothing)))))) nothing)))) []
    ≡ For 0 false from_d ∷ For 1 true from_d ∷ []
bound-by-for = refl

-- `LET $y := document("d")/a`
pub bound-by-let : clause_from x_and_y (second (pair (keyword (codes "LET")) (pair y (pair (sign (codes ":=")) (pair (first d) (pair a_step nothing)))))) []
    ≡ Let 1 from_d ∷ []
bound-by-let = refl

-- `$x < document("d")/a`
pub compared : cond_from x_and_y (pair (first bare_tree) (pair (sign (codes "<")) (first (first (first (pair d (pair a_step nothing))))))) []
    ≡ record { left = operand.Nodes bare; op = Lt; right = right.Operand (operand.Nodes from_d) } ∷ []
compared = refl

-- `GROUP BY $y := $x`
pub grouped : group_of x_and_y (pair (keyword (codes "GROUP")) (pair (keyword (codes "BY")) (pair y (pair (sign (codes ":=")) bare_tree))))
    ≡ Some (record { var = 1; path = bare })
grouped = refl

-- `$x DESCENDING`, and `$x` alone
pub turned : key_from x_and_y (pair (first bare_tree) (keyword (codes "DESCENDING"))) [] ≡ record { operand = operand.Nodes bare; descending = true } ∷ []
turned = refl

pub plain-key : key_from x_and_y (pair (first bare_tree) nothing) [] ≡ record { operand = operand.Nodes bare; descending = false } ∷ []
plain-key = refl

-- `{$x}`
abbrev braced_x : Tree
braced_x = pair (sign (codes "{")) (pair (first bare_tree) (sign (codes "}")))

-- `t k="v" l={$x}><u/>"w"{$x}</t>`, behind `<`
pub constructed : cons_behind x_and_y
    (pair (tok kind.Name (codes "t"))
    (pair (pair (pair (tok kind.Name (codes "k")) (pair (sign (codes "=")) (first (tok kind.Quoted (codes "\"v\"")))))
    (pair (pair (tok kind.Name (codes "l")) (pair (sign (codes "=")) (second braced_x))) nothing))
    (second (pair (sign (codes ">"))
    (pair (pair (first (pair (sign (codes "<")) (pair (tok kind.Name (codes "u")) (pair nothing (first (sign (codes "/>")))))))
    (pair (second (first (tok kind.Quoted (codes "\"w\"")))) (pair (second (second braced_x)) nothing)))
    (pair (sign (codes "</")) (pair (tok kind.Name (codes "t")) (sign (codes ">")))))))))
    ≡ element (codes "t")
    (record { name = codes "k"; from = content.Text (codes "v") } ∷ record { name = codes "l"; from = content.Operand (operand.Nodes bare) } ∷ [])
    (inner (element (codes "u") [] no_parts) (content (content.Text (codes "w")) (content (content.Operand (operand.Nodes bare)) no_parts)))
constructed = refl
