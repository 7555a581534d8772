-- The script is read, and comes to a text where its queries are built.
use Rattle.std.proofs.Common.{ℕ, List, subst}
use Rattle.tb_script.specs.Calls.{IsReadAs}
use Rattle.tb_top.specs.Calls.{IsOutput}
use Rattle.tb_top.specs.Outputs.{ComesToText}
use Rattle.tb_top.proofs.outcome.outcome_of.Goals as goal

pub returns-in-Some : goal.returns-in-Some
returns-in-Some g c =
    let w = c.in-Ok.w in
    let comes = subst (ComesToText w (IsOutput c.args.task w)) c.in-Some.is c.in_ok-text.ensures in
    (w, (subst (λ (b : List ℕ). IsReadAs b w) c.deref.ensures.value c.in-Ok.ensures.read, comes.0, comes.1))

pub returns-in-None : goal.returns-in-None
returns-in-None g c =
    let w = c.in-Ok.w in
    let comes = subst (ComesToText w (IsOutput c.args.task w)) c.in-None.is c.in_ok-text.ensures in
    (w, (subst (λ (b : List ℕ). IsReadAs b w) c.deref.ensures.value c.in-Ok.ensures.read, comes))
