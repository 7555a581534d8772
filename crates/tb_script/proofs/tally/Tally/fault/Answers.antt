use Rattle.std.proofs.Common.{sym}
use Rattle.tb_script.proofs.tally.Tally.fault.Goals as goal

pub returns-in-Session : goal.returns-in-Session
returns-in-Session c = rw c.in-Session.is (λ names t. c.session_fault.ensures names)

pub returns-in-Load : goal.returns-in-Load
returns-in-Load c = rw (c.in-Load.is, sym c.as_slice.ensures) (λ names t. c.load_fault.ensures names c.in-Load.lines)

pub returns-in-Query : goal.returns-in-Query
returns-in-Query c = rw c.in-Query.is (λ names t. c.query_fault.ensures names c.in-Query.text)

pub returns-in-Hear : goal.returns-in-Hear
returns-in-Hear c = rw (c.in-Hear.is, sym c.as_slice-in-Hear.ensures) (λ names t. c.hear_fault.ensures names)
