use Rattle.oe_ops.proofs.cover.CoveredRowsRows.row.Goals as goal

pub found_row-requires-clause-each : goal.found_row-requires-clause-each
found_row-requires-clause-each c = λ k lt. let all = c.requires.serves k lt in record { inside = all.5; indices = all.6; held = all.7 }
