-- The name was noted, and it is the one that was pushed.
use Rattle.std.proofs.Common.{◌≡◌, rules}
use Rattle.std.specs.Str.{bytes_eq}
use Rattle.tb_query.specs.Lists.{with_once}
use Rattle.tb_query.proofs.NamesLaws.{noted-once}
use Rattle.tb_query.proofs.names.add.Goals as goal

pub returns-in_ok-push-clause-noted : goal.returns-in_ok-push-clause-noted
returns-in_ok-push-clause-noted c =
    let once : c.push.new.self.items ≡ with_once bytes_eq c.args.once.now.items c.args.name.now = search rules in
    let noted = noted-once c.args.seen.now.keys c.insert.new.self.keys c.args.once.now.items c.args.name c.requires.noted c.in_ok-insert.ensures.updates.0 in
    rw once noted
