-- The parts with their ends, and then the history.
use Rattle.std.proofs.Common.{ℕ, List, ◌++◌, map, codes, sym, ap, ap₂, ◌∙◌}
use Rattle.std.specs.List.{flat_map}
use Rattle.std.proofs.lemmas.List.Folds.{flat_map-map}
use Rattle.tb_top.specs.Transcript.{history_part}
use Rattle.tb_top.specs.Kept.{change_in}
use Rattle.tb_top.proofs.single.finish.Goals as goal

pub returns : goal.returns
returns c =
    let parts = c.args.running.parts.items in
    let end = λ (part : List ℕ). part ++ codes "end\n" in
    c.in_ok-pieces.ensures ∙ c.in_ok-add.ensures ∙ ap₂ (λ a b. a ++ b) (c.in_ok-add_parts.ensures ∙ ap (λ t. t ++ flat_map (λ part. part.items ++ codes "end\n") parts) c.new-pieces.ensures)
    (c.in_ok-history_text.ensures ∙ ap (λ cs. history_part (map change_in cs)) c.changes.ensures)
    ∙ ap (λ l. l ++ history_part (map change_in c.args.running.history.changes)) (sym (flat_map-map end (λ part. part.items) parts))
