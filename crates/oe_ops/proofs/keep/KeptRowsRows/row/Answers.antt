use Rattle.oe_ops.proofs.keep.KeptRowsRows.row.Goals as goal

pub found_row-requires-clause-each : goal.found_row-requires-clause-each
found_row-requires-clause-each c = λ k lt. let all = c.requires.serves k lt in record { inside = all.3; indices = all.4; held = all.5 }
