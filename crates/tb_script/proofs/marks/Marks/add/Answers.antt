use Rattle.std.proofs.Common.{refl}
use Rattle.tb_script.proofs.MarkLaws.{tells-more}
use Rattle.tb_script.proofs.marks.Marks.add.Goals as goal

pub returns-clause-told : goal.returns-clause-told
returns-clause-told c = λ names t new.
    tells-more c.args.self.now _ names c.args.name.now c.in_ok-key.key.items t new
    (c.in_ok-key.ensures.items_if_clones_equal (λ x y e. e)) c.in_ok-insert.ensures.updates refl
