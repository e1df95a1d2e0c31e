use Rattle.oe_ops.proofs.list.ListRowsRows.row.Goals as goal

pub full_lists-requires-clause-inside : goal.full_lists-requires-clause-inside
full_lists-requires-clause-inside c = λ k i lt within. (c.requires.serves k lt).3 i within
