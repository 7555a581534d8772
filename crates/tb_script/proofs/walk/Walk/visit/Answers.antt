use Rattle.std.proofs.Common.{true, false, sym, ap, subst, ◌∙◌}
use Rattle.tb_script.specs.Walks.{state_of, told_with, goes, past, Visits, Wakes}
use Rattle.tb_script.proofs.WalkLaws.{on_ok, go-visits, mark-within, told-read}
use Rattle.tb_script.proofs.WaiterLaws.{waiting-visits, tell-visits}
use Rattle.tb_script.proofs.walk.Walk.visit.Goals as goal

pub returns-in-Load : goal.returns-in-Load
returns-in-Load c =
    let st = state_of c.args.self.now in
    on_ok _ (λ e. go-visits st _ c.args.at c.in-Some.turn.now c.in-Some.rest.now (ap (told_with st.told) c.in-Load.is) (ap (goes st) c.in-Load.is) c.requires.fits c.in-Some.ensures e) c.go.ensures

pub returns-in-Query : goal.returns-in-Query
returns-in-Query c =
    let st = state_of c.args.self.now in
    on_ok _ (λ e. go-visits st _ c.args.at c.in-Some.turn.now c.in-Some.rest.now (ap (told_with st.told) c.in-Query.is) (ap (goes st) c.in-Query.is) c.requires.fits c.in-Some.ensures e) c.go-in-Query.ensures

pub returns-then-index : goal.returns-then-index
returns-then-index c =
    let st = state_of c.args.self.now in
    let within = mark-within st c.args.at c.in-Hear.mark c.in-Some.turn.now c.in-Some.rest.now _ c.requires.fits c.in-Some.ensures.0 c.in-Hear.is in
    let told = told-read st.told c.in-Hear.mark c.index.result.now true within c.index.ensures c.if-index.true in
    on_ok _ (λ e. go-visits st _ c.args.at c.in-Some.turn.now c.in-Some.rest.now (ap (told_with st.told) c.in-Hear.is) (ap (goes st) c.in-Hear.is ∙ told) c.requires.fits c.in-Some.ensures e) c.go-then-index.ensures

pub returns-else-index : goal.returns-else-index
returns-else-index c =
    let st = state_of c.args.self.now in
    let within = mark-within st c.args.at c.in-Hear.mark c.in-Some.turn.now c.in-Some.rest.now _ c.requires.fits c.in-Some.ensures.0 c.in-Hear.is in
    let untold = told-read st.told c.in-Hear.mark c.index.result.now false within c.index.ensures c.if-index.false in
    on_ok _ (λ e. subst (Visits c.args.at st) (sym e) (waiting-visits st c.args.at c.in-Hear.mark c.in-Hear.name c.in-Some.turn.now c.in-Some.rest.now c.requires.fits c.in-Some.ensures.0 c.in-Hear.is untold)) c.note_waiter.ensures

pub returns-in_ok-go-in-Tell : goal.returns-in_ok-go-in-Tell
returns-in_ok-go-in-Tell c =
    let st = state_of c.args.self.now in
    let new = state_of c.wake.new.self in
    let mid = c.in_ok-go-in-Tell.ensures ∙ ap (λ x. past x c.args.at c.in-Some.rest.now) c.tell.ensures in
    on_ok _ (λ w. tell-visits st new c.args.at c.in-Tell.mark c.in-Tell.name c.in-Some.turn.now c.in-Some.rest.now c.requires.fits c.in-Some.ensures.1 c.in-Some.ensures.0 c.in-Tell.is
    (subst (λ x. Wakes c.in-Tell.mark x new) mid w)) c.wake.ensures
