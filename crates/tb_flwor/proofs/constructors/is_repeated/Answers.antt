-- The token is an attribute's name, so the set tells whether it is new, and has it from now on.
use Rattle.std.proofs.Common.{◌≡◌, ◌==◌, ◌∷◌, [], ◌++◌, sym, ap, ◌∙◌, false, true}
use Rattle.std.proofs.lemmas.Bool.{ne_eqb}
use Rattle.std.specs.List.{list_any}
use Rattle.std.specs.Str.{bytes_eq}
use Rattle.tb_query.specs.Lent.{lent}
use Rattle.tb_token.specs.tokens.TerminalNames as terminals
use Rattle.tb_flwor.specs.Constructors.{is_named}
use Rattle.tb_flwor.proofs.NameLaws.{old-among, added-alike}
use Rattle.tb_flwor.proofs.AttributeLaws.{repeated-named, behind-named}
use Rattle.tb_flwor.proofs.constructors.is_repeated.Goals as goal

pub returns-clause-repeated : goal.returns-clause-repeated
returns-clause-repeated c =
    let keys = c.args.names.now.keys in
    let within : (c.args.token.now.terminal == terminals.LESS) ≡ false = ap (λ t. t.terminal == terminals.LESS) (sym c.token.view_is) ∙ ne_eqb c.token.inside.terminal 13 c.if-token-eq-LESS.false in
    let named : is_named c.args.rest.now ≡ true = sym c.is_named.ensures ∙ c.if-not-is_named.false in
    old-among keys c.token.inside.bytes c.in_ok-new.new c.in_ok-new.ensures.added
    ∙ ap (λ t. list_any (bytes_eq t.bytes) (lent keys)) c.token.view_is
    ∙ sym (repeated-named (lent keys) c.args.token.now c.args.rest.now within named)

pub returns-clause-names : goal.returns-clause-names
returns-clause-names c =
    let keys = c.args.names.now.keys in
    let within : (c.args.token.now.terminal == terminals.LESS) ≡ false = ap (λ t. t.terminal == terminals.LESS) (sym c.token.view_is) ∙ ne_eqb c.token.inside.terminal 13 c.if-token-eq-LESS.false in
    let named : is_named c.args.rest.now ≡ true = sym c.is_named.ensures ∙ c.if-not-is_named.false in
    let more = added-alike keys c.insert.new.self.keys c.token.inside.bytes c.in_ok-new.ensures.updates.0 in
    let behind = ap (λ t. lent keys ++ t.bytes ∷ []) c.token.view_is ∙ sym (behind-named (lent keys) c.args.token.now c.args.rest.now within named) in
    λ name. more name ∙ ap (λ names. list_any (bytes_eq name) names) behind
