use Rattle.tb_table.proofs.RowLaws.{push-even, push-rows}
use Rattle.tb_table.proofs.table.Table.push_column.Goals as goal

pub invariant_of-self-2 : goal.invariant_of-self-2
invariant_of-self-2 c =
    push-even c.self.inside.count c.self.inside.columns.items _ c.args.column c.args.self.now c.self.view_is c.self.invariant c.requires.long c.in_ok-push.ensures.items

pub returns-clause-rows : goal.returns-clause-rows
returns-clause-rows c =
    push-rows c.self.inside.count c.self.inside.columns.items _ c.args.column c.args.self.now c.self.view_is c.requires.long c.in_ok-push.ensures.items
