-- One part more has its first line.
use Rattle.std.proofs.Common.{ℕ, List, [], ◌∷◌, ◌++◌, Vec, Global, map, sym, ap, ap₂, ◌∙◌, arith}
use Rattle.std.proofs.lemmas.List.{map-append}
use Rattle.std.proofs.lemmas.List.FromFn.{map-range_with_len_more}
use Rattle.tb_top.specs.Running.{begun}
use Rattle.tb_top.proofs.running.begun.Goals as goal

pub sessions-preserved : goal.sessions-preserved
sessions-preserved c =
    let parts = c.sessions.parts.items in
    let texts : List (Vec ℕ Global) → List (List ℕ) = map (λ part. part.items) in
    ap texts c.in_ok-push.ensures.items ∙ map-append (λ part. part.items) parts _
    ∙ ap₂ (λ a b. a ++ b ∷ []) c.sessions.invariant (c.in_ok-push_session_line.ensures ∙ ap (λ l. l ++ begun c.sessions.session) c.new-part.ensures.items)
    ∙ sym (map-range_with_len_more begun 0 c.sessions.session c.sessions.session (omega arith))
