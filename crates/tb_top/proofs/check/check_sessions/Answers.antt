-- The refusals, and then the counts.
use Rattle.std.proofs.Common.{◌++◌, List, length, map, refl, sym, ap, ap₂, ◌∙◌, append_assoc}
use Rattle.std.proofs.lemmas.List.{length-map}
use Rattle.tb_script.specs.Runnable.{loads_in}
use Rattle.tb_script.specs.declared.command.Script.{Script}
use Rattle.tb_script.specs.declared.command.Command.{Command}
use Rattle.tb_top.specs.Check.{counts_line, counts_of, commands_count, queries_in}
use Rattle.tb_top.proofs.CheckLaws.{passed, failed}
use Rattle.tb_top.proofs.check.check_sessions.Goals as goal

abbrev commands : List Script → List (List Command)
commands ss = map (λ s. s.commands.items) ss

pub returns : goal.returns
returns c =
    let sessions = c.args.sessions.items in
    let css = commands sessions in
    let old = c.args.text.now.items in
    let line = counts_line c.len-count.result c.commands_in-commands.result c.loads_in-loads.result c.queries_in-queries.result in
    let passes = passed c.in_ok-built.built _ _ c.if-not-built.false c.in_ok-built.ensures in
    let refusals = passes.1 in
    let count = c.len-count.ensures ∙ c.args.sessions.ok.0 ∙ sym (length-map sessions (λ s. s.commands.items)) in
    let all = c.commands_in-commands.ensures ∙ ap (λ (ss : List Script). commands_count (commands ss)) c.deref.ensures.value in
    let loads = c.loads_in-loads.ensures ∙ ap (λ (ss : List Script). loads_in (commands ss)) c.deref-2.ensures.value in
    let queries = c.queries_in-queries.ensures ∙ ap (λ (ss : List Script). queries_in (commands ss)) c.deref-3.ensures.value in (
      passes.0,
      (
        refusals.0 ++ counts_of css,
        (refusals.0, refusals.1, refl),
        c.in_ok-push_counts.ensures ∙ ap (λ t. t ++ line) refusals.2 ∙ append_assoc old refusals.0 line
            ∙ ap (λ l. old ++ (refusals.0 ++ l))
            (ap₂ (λ a b. counts_line a b c.loads_in-loads.result c.queries_in-queries.result) count all
            ∙ ap₂ (counts_line (length css) (commands_count css)) loads queries),
      ),
    )
