-- The end that comes next is the line that it is read as.
use Rattle.tb_esis.proofs.NamedLaws.{close-innermost, end-taken}
use Rattle.tb_esis.proofs.reader.Reader.take.Goals as goal

pub returns-in-Some-clause-read : goal.returns-in-Some-clause-read
returns-in-Some-clause-read c = λ m reading named.
    let may = c.in-Some.ensures.end m reading in
    let name = c.in-Some.name.now in
    end-taken c.args.lines.now c.in-Some.behind.now name m _ c.in-Some.ensures.line named may
    (c.in_ok-end.ensures.shown m may.none_wait (close-innermost m name may) reading)
