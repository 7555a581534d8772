use Rattle.std.proofs.Common.{ℕ, List, ◌∷◌, ◌++◌, [], set, sym, ap, ◌∙◌}
use Rattle.std.proofs.lemmas.List.{map-set, get_or-map}
use Rattle.tb_script.specs.Walks.{WalkState, state_of}
use Rattle.tb_script.proofs.walk.Walk.note_waiter.Goals as goal

pub returns : goal.returns
returns c =
    let st = state_of c.args.self.now in
    let list = c.index_mut.result.now in
    let is = get_or-map (λ v. v.items) c.args.self.now.waiters.items c.args.mark list [] c.requires.within in
    let items = sym (is ∙ ap (λ v. v.items) (sym c.index_mut.ensures.value)) in
    rw (map-set (λ v. v.items) c.args.self.now.waiters.items c.args.mark c.push.new.self, c.in_ok-push.ensures.items)
    (ap (λ (l : List ℕ). let s : WalkState = record { left = st.left; told = st.told; waiters = set st.waiters c.args.mark (l ++ c.args.at ∷ []); ready = st.ready } in s) items)
