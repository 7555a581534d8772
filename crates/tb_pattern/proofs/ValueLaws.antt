-- Tokens ask for one pattern at most; and the tree of a query's edges worked out by hand.
use Rattle.std.proofs.Common.{◌≡◌, ℕ, true, false, List, [], ◌∷◌, refl, sym, ap, ◌∙◌, pos, negsuc}
use Rattle.std.specs.Prelude.{codes}
use Rattle.tb_token.specs.grammar.Grammar.{Tok}
use Rattle.tb_token.specs.grammar.Sentences.{Tree, leaf, nothing, pair, first, second}
use Rattle.tb_token.proofs.grammar.TreeLaws.{one-tree}
use Rattle.tb_token.specs.tokens.Lexemes.{terminal_of}
use Rattle.tb_token.specs.grammar.Queries.{rules, follow}
use Rattle.tb_token.proofs.grammar.QueryLaws.{readable, first-tree}
use Rattle.tb_token.specs.declared.lexer.token.Kind.{Kind}
use Rattle.tb_token.specs.declared.lexer.token.Kind.TheVariants as kind
use Rattle.tb_span.specs.declared.item.Axis.TheVariants.{Child, Descendant}
use Rattle.tb_number.specs.declared.op.CmpOp.TheVariants.{Ge, Lt}
use Rattle.tb_tree.specs.declared.node_test.Test.TheVariants.{Name, AttrName, AnyText}
use Rattle.tb_pattern.specs.declared.pattern.Mark.TheVariants as mark
use Rattle.tb_pattern.specs.declared.cond.Literal.TheVariants as literal
use Rattle.tb_pattern.specs.Plain.{matching, PlainEdges, no_edges, edge}
use Rattle.tb_pattern.specs.Value.{document_of, pattern_of, edges_in, AskFor}

-- the pattern of a query is one
pub one-pattern : (s : List Tok) (d e : List ℕ) (es fs : PlainEdges) → AskFor s d es → AskFor s e fs → (d ≡ e) × (es ≡ fs)
one-pattern s d e es fs one_is two_is =
    let same = first-tree one_is.tree two_is.tree (one-tree rules follow readable.good readable.matches one_is.derived two_is.derived) in (
      one_is.document_is ∙ ap document_of same ∙ sym two_is.document_is,
      one_is.edges_are ∙ ap pattern_of same ∙ sym two_is.edges_are,
    )

abbrev tok : Kind → List ℕ → Tree
tok k bytes = leaf (record { terminal = terminal_of k bytes; bytes = bytes; number = 0 })

abbrev sign : List ℕ → Tree
sign text = tok kind.Sign text

-- `/? @b`
abbrev attr_edge : Tree
attr_edge =
    pair (sign (codes "/")) (pair (sign (codes "?")) (pair (second (second (first (pair (sign (codes "@")) (first (tok kind.Name (codes "b")))))))
    (pair nothing (pair nothing nothing))))

-- `//* text()`
abbrev text_edge : Tree
text_edge = pair (sign (codes "//")) (pair (sign (codes "*")) (pair (second (second (second (tok kind.TextTest (codes "text()"))))) (pair nothing (pair nothing nothing))))

-- `[>= 3 AND < -4]`
abbrev two_conds : Tree
two_conds =
    pair (sign (codes "[")) (pair (pair (pair (sign (codes ">=")) (second (pair nothing (tok kind.Number (codes "3")))))
    (pair (pair (tok kind.Word (codes "AND")) (pair (sign (codes "<")) (second (pair (sign (codes "-")) (tok kind.Number (codes "4")))))) nothing)) (sign (codes "]")))

-- `(//- a [>= 3 AND < -4]! (/? @b, //* text()))`
abbrev written : Tree
written =
    pair (sign (codes "(")) (pair (pair (pair (sign (codes "//")) (pair (sign (codes "-")) (pair (first (tok kind.Name (codes "a"))) (pair two_conds (pair (sign (codes "!"))
    (pair (sign (codes "(")) (pair (pair attr_edge (pair (pair (sign (codes ",")) text_edge) nothing)) (sign (codes ")")))))))))
    nothing) (sign (codes ")")))

pub written-is : edges_in written
    ≡ edge Descendant mark.One (matching (Name (codes "a"))
    (record { op = Ge; with = literal.Number (pos 3) } ∷ record { op = Lt; with = literal.Number (negsuc 3) } ∷ []) true
    (edge Child mark.Optional (matching (AttrName (codes "b")) [] false no_edges)
    (edge Descendant mark.Any (matching AnyText [] false no_edges) no_edges))) no_edges
written-is = refl
