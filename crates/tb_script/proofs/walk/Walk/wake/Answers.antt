use Rattle.std.proofs.Common.{◌<◌, length, ap, ◌∙◌, arith}
use Rattle.std.proofs.lemmas.List.{length-map, length-set}
use Rattle.tb_script.specs.Walks.{WalkState, state_of, waiters_of}
use Rattle.tb_script.proofs.WaiterLaws.{woken, hears-length}
use Rattle.tb_script.proofs.walk.Walk.wake.Goals as goal

pub waiters-preserved : goal.waiters-preserved
waiters-preserved c =
    let st = state_of c.waiters.self in
    let last = state_of c.pop_waiter.new.self in
    let within : c.args.mark < length st.waiters = omega (arith, c.requires.within, c.waiters.invariant.same, length-map c.waiters.self.waiters.items (λ v. v.items)) in
    let after = ap (λ (x : WalkState). length x.waiters) c.in-Some.ensures.rest ∙ length-set st.waiters c.args.mark (waiters_of last c.args.mark) in
    record {
      woken = woken (state_of c.args.self.now) st last c.args.mark c.in-Some.at c.waiters.invariant.woken within c.in-Some.ensures.popped c.in-Some.ensures.rest (state_of c.hear.new.self) c.in_ok-hear.ensures;
      same = omega (
        arith,
        c.waiters.invariant.same,
        after,
        hears-length c.args.mark c.in-Some.at last (state_of c.hear.new.self) c.in_ok-hear.ensures,
        length-map c.waiters.self.waiters.items (λ v. v.items),
        length-map c.hear.new.self.waiters.items (λ v. v.items),
      );
    }
