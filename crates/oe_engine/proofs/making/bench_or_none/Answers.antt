use Rattle.oe_engine.proofs.making.bench_or_none.Goals as goal

pub returns-in-Ok : goal.returns-in-Ok
returns-in-Ok c = record { bench = c.in-Ok.ensures.room; idle = c.in-Ok.ensures.idle }

pub returns-in-Err : goal.returns-in-Err
returns-in-Err c = record { bench = tt; idle = tt }
