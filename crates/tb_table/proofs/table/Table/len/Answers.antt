use Rattle.tb_table.proofs.RowLaws.{count-rows}
use Rattle.tb_table.proofs.table.Table.len.Goals as goal

pub returns : goal.returns
returns c = count-rows c.self.inside.count c.self.inside.columns.items c.args.self.now c.self.view_is
