use Rattle.std.proofs.Common.{◌+◌, refl}
use Rattle.std.proofs.lemmas.List.{map-set}
use Rattle.tb_script.specs.Stands.{row_of}
use Rattle.tb_script.specs.declared.round.Rest.{Rest}
use Rattle.tb_script.proofs.round.Round.go.Goals as goal

pub returns : goal.returns
returns c =
    let rest : Rest = record { number = c.args.number + 1; commands = c.args.rest } in
    record {
      later = c.add.ensures;
      same = rw (c.in_ok-push.ensures.items, map-set row_of c.args.self.now.rests.items c.args.at rest) refl;
    }
