use Rattle.std.proofs.Common.{◌≡◌, map, take}
use Rattle.oe_jobs.specs.Plain.{plain_job}
use Rattle.oe_database.specs.Inside.{Inside, Stays}
use Rattle.oe_database.specs.Loads.{HasEachJob}
use Rattle.oe_database.proofs.jobs.read_each.Given as goal

abbrev pub invariant-loop-row : goal.invariant-loop-row
invariant-loop-row g l =
    let first = l.fn.tx.conn.now in
    let now = l.tx.conn.now in
    record {
      same : l.tx.conn.ghost_name ≡ l.fn.tx.conn.ghost_name;
      stays : Stays g.S.Store first now;
      each : Inside g.S.Store first now
          (HasEachJob g.S.Store (take l.row-index l.rows) (map plain_job l.jobs.items) first now);
    }
