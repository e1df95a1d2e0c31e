use Rattle.oe_database.proofs.load.read_processes.Goals as goal

pub returns-clause-processes : goal.returns-clause-processes
returns-clause-processes g c clean inside =
    let it = c.in_ok-rows.ensures.shown clean inside in
    (record { rows = c.in_ok-rows.rows.items; shown = it.0; each = rw c.deref.ensures.value at c.in_ok-processes.ensures }, it.1)
