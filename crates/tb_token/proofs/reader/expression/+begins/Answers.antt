-- Of two expressions in turn the second matters where the first may be empty.
use Rattle.std.proofs.Common.{ap, sym, ◌∙◌, not}
use Rattle.tb_token.specs.reading.View.{expression_of}
use Rattle.tb_token.specs.reading.Machine.{begins_by}
use Rattle.tb_token.proofs.reading.Views.{expression_of-Both}
use Rattle.tb_token.proofs.reading.BeginLaws.{begins-first, begins-second, begins-neither}
use Rattle.tb_token.proofs.reader.expression.+begins.Goals as goal

pub returns-then-begins : goal.returns-then-begins
returns-then-begins t c =
    let whole = ap expression_of c.in-Both.is ∙ expression_of-Both c.in-Both.first c.in-Both.second in
    let past = begins-first (expression_of c.in-Both.first.now) (expression_of c.in-Both.second.now) c.args.terminal c.args.behind (sym c.begins.ensures ∙ c.if-begins.true) in
    c.if-begins.true ∙ sym past ∙ ap (λ p. begins_by p c.args.terminal c.args.behind) (sym whole)

pub returns-then-not-is_never_empty : goal.returns-then-not-is_never_empty
returns-then-not-is_never_empty t c =
    let whole = ap expression_of c.in-Both.is ∙ expression_of-Both c.in-Both.first c.in-Both.second in
    let past = begins-second (expression_of c.in-Both.first.now) (expression_of c.in-Both.second.now) c.args.terminal c.args.behind (sym c.begins.ensures ∙ c.if-begins.false) (sym c.is_never_empty.ensures ∙ c.if-not-is_never_empty.true) in
    c.begins-then-not-is_never_empty.ensures ∙ sym past ∙ ap (λ p. begins_by p c.args.terminal c.args.behind) (sym whole)

pub returns-else-not-is_never_empty : goal.returns-else-not-is_never_empty
returns-else-not-is_never_empty t c =
    let whole = ap expression_of c.in-Both.is ∙ expression_of-Both c.in-Both.first c.in-Both.second in
    let past = begins-neither (expression_of c.in-Both.first.now) (expression_of c.in-Both.second.now) c.args.terminal c.args.behind (sym c.begins.ensures ∙ c.if-begins.false) (sym c.is_never_empty.ensures ∙ c.if-not-is_never_empty.false) in
    ap not c.if-not-is_never_empty.false ∙ sym past ∙ ap (λ p. begins_by p c.args.terminal c.args.behind) (sym whole)
