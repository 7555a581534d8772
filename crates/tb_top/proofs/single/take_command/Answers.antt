-- The command stands in its session, and is alone what changes.
use Rattle.std.proofs.Common.{◌≡◌, ◌<◌, List, [], IsSome, Some, map, length, get_or, set, refl, sym, ap, ap₂, ◌∙◌, subst, arith}
use Rattle.std.specs.List.{slice_get}
use Rattle.std.proofs.lemmas.List.{length-map, map-set}
use Rattle.std.proofs.lemmas.Option.{slice_get_read}
use Rattle.tb_script.specs.Runnable.{commands_in}
use Rattle.tb_script.specs.Schedule.{command_at}
use Rattle.tb_script.specs.declared.command.Command.{Command}
use Rattle.tb_script.proofs.ScheduleLaws.{step-places}
use Rattle.tb_top.proofs.ReadyLaws.{row-read}
use Rattle.tb_top.proofs.TakenLaws.{others-stay}
use Rattle.tb_top.proofs.single.take_command.Goals as goal

pub index_mut-requires : goal.index_mut-requires
index_mut-requires c =
    let script = c.index_mut-script.result.now in
    let row = row-read c.args.w.now c.args.step script c.requires c.index_mut-script.ensures.value in
    let places = step-places (commands_in c.args.w.now) c.args.step c.requires in
    omega (arith, places.1, ap length row, script.commands.ok.0)

pub returns : goal.returns
returns c =
    let w = c.args.w.now in
    let step = c.args.step in
    let script = c.index_mut-script.result.now in
    let row = row-read w step script c.requires c.index_mut-script.ensures.value in
    let places = step-places (commands_in w) step c.requires in
    let blank = c.replace.new.dest in
    let changed = map-set (λ s. s.commands.items) w.sessions.items step.session _ ∙ ap (λ cs. set (commands_in w) step.session (set cs step.command blank)) (sym row) in
    record {
      taken = ap (λ cs. slice_get cs step.command) row ∙ slice_get_read script.commands.items _ step.command c.replace.result refl (omega (arith, places.1, ap length row)) (subst (λ x. x ≡ get_or script.commands.items step.command x) (sym c.replace.ensures.value) c.index_mut.ensures.value);
      others = λ other apart. ap (λ css. command_at css other) changed ∙ others-stay (commands_in w) step other blank places.0 apart;
    }
