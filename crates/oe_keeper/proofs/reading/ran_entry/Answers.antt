use Rattle.oe_keeper.proofs.reading.ran_entry.Goals as goal

pub returns-in_default-2 : goal.returns-in_default-2
returns-in_default-2 c = λ ran is. (rw c.in_default-2.is at c.in_ok-stored.ensures) ran.stored is.stored
