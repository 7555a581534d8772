use Rattle.std.proofs.Common.{true, false, sym, subst}
use Rattle.tb_script.specs.Stands.{stand_of}
use Rattle.tb_script.specs.declared.command.Command.TheVariants.{Hear}
use Rattle.tb_script.proofs.WalkLaws.{on_ok, told-read}
use Rattle.tb_script.proofs.VisitLaws.{MayDo, next-is, row-fits, goes-visits, tell-visits, stay-visits, nothing-visits}
use Rattle.tb_script.proofs.round.Round.visit.Goals as goal

pub returns-in_default : goal.returns-in_default
returns-in_default c = nothing-visits (stand_of c.args.self.now) c.args.at c.requires.fits c.in_default.ensures

pub returns-in-Load : goal.returns-in-Load
returns-in-Load c =
    let st = stand_of c.args.self.now in
    let may = subst (MayDo st.told) (sym c.in-Load.is) tt in
    on_ok _ (λ g. goes-visits st (stand_of c.go.new.self) c.args.at c.in-Some.number c.in-Some.command.now c.in-Some.rest.now c.requires.fits c.in-Some.ensures.0 may g) c.go.ensures

pub returns-in-Query : goal.returns-in-Query
returns-in-Query c =
    let st = stand_of c.args.self.now in
    let may = subst (MayDo st.told) (sym c.in-Query.is) tt in
    on_ok _ (λ g. goes-visits st (stand_of c.go-in-Query.new.self) c.args.at c.in-Some.number c.in-Some.command.now c.in-Some.rest.now c.requires.fits c.in-Some.ensures.0 may g) c.go-in-Query.ensures

pub returns-in-Tell : goal.returns-in-Tell
returns-in-Tell c =
    let st = stand_of c.args.self.now in
    let row = subst (next-is st c.args.at c.in-Some.number c.in-Some.rest.now) c.in-Tell.is c.in-Some.ensures.0 in
    on_ok _ (λ g. tell-visits st (stand_of c.tell.new.self) (stand_of c.go-in-Tell.new.self) c.args.at c.in-Some.number c.in-Tell.mark c.in-Tell.name c.in-Some.rest.now c.requires.fits row c.tell.ensures g) c.go-in-Tell.ensures

pub returns-then-index : goal.returns-then-index
returns-then-index c =
    let st = stand_of c.args.self.now in
    let row = subst (next-is st c.args.at c.in-Some.number c.in-Some.rest.now) c.in-Hear.is c.in-Some.ensures.0 in
    let within = (row-fits st c.args.at _ _ c.requires.fits row).0.mark in
    let told = told-read st.told c.in-Hear.mark c.index.result.now true within c.index.ensures c.if-index.true in
    on_ok _ (λ g. goes-visits st (stand_of c.go-then-index.new.self) c.args.at c.in-Some.number (Hear c.in-Hear.mark c.in-Hear.name) c.in-Some.rest.now c.requires.fits row told g) c.go-then-index.ensures

pub returns-else-index : goal.returns-else-index
returns-else-index c =
    let st = stand_of c.args.self.now in
    let row = subst (next-is st c.args.at c.in-Some.number c.in-Some.rest.now) c.in-Hear.is c.in-Some.ensures.0 in
    let within = (row-fits st c.args.at _ _ c.requires.fits row).0.mark in
    let untold = told-read st.told c.in-Hear.mark c.index.result.now false within c.index.ensures c.if-index.false in
    stay-visits st (stand_of c.stay.new.self) c.args.at c.in-Some.number c.in-Hear.mark c.in-Hear.name c.in-Some.rest.now c.requires.fits row untold c.stay.ensures
