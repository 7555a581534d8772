use Rattle.tb_script.proofs.entry.entry_of.Goals as goal

pub returns-in-Load : goal.returns-in-Load
returns-in-Load c =
    rw (c.in-Load.is, c.in_ok-name-in-Load.ensures, c.in_ok-lines-in-Load.ensures) (c.load_body-closed.ensures c.args.line c.args.name.now)

pub returns-in-Query : goal.returns-in-Query
returns-in-Query c = rw (c.in-Query.is, c.from_vec-text.ensures) (c.in_ok-text-in-Query.ensures c.args.line)
