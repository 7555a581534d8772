use Rattle.std.proofs.Common.{refl}
use Rattle.std.proofs.lemmas.List.{map-set}
use Rattle.tb_script.proofs.WaiterLaws.{pops, list-read, list-set}
use Rattle.tb_script.proofs.walk.Walk.pop_waiter.Goals as goal

pub returns-clause-popped : goal.returns-clause-popped
returns-clause-popped c =
    rw (
      list-read c.args.self.now.waiters.items c.args.mark c.index_mut.result.now c.requires.within c.index_mut.ensures.value,
      list-set c.args.self.now.waiters.items c.args.mark c.pop.new.self c.requires.within,
    )
    (pops c.index_mut.result.now c.pop.new.self c.pop.result c.pop.ensures.items c.pop.ensures.cases)

pub returns-clause-rest : goal.returns-clause-rest
returns-clause-rest c =
    rw (
      list-set c.args.self.now.waiters.items c.args.mark c.pop.new.self c.requires.within,
      map-set (λ v. v.items) c.args.self.now.waiters.items c.args.mark c.pop.new.self,
    ) refl
