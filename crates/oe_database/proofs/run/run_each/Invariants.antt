use Rattle.std.proofs.Common.{◌≡◌, IsTrue, map, take}
use Rattle.sqlite.specs.Held.{state}
use Rattle.sqlite.specs.State.{HasCleanDisk, KeepsCommit, Survives}
use Rattle.oe_database.specs.Each.{RanEach, plain_statement}
use Rattle.oe_database.proofs.run.run_each.Given as goal

abbrev pub invariant-loop-statement : goal.invariant-loop-statement
invariant-loop-statement g l =
    let first = l.fn.tx.conn.now in
    let now = l.tx.conn.now in
    record {
      same : l.tx.conn.ghost_name ≡ l.fn.tx.conn.ghost_name;
      survives : Survives (state g.S.Store first) (state g.S.Store now) (λ _. ⊥);
      ran : HasCleanDisk (state g.S.Store now) → IsTrue (state g.S.Store first).in_transaction → record {
        each : RanEach g.S.Store (map plain_statement (take l.statement-index l.statements)) first now;
        inside : IsTrue (state g.S.Store now).in_transaction;
        kept : KeepsCommit (state g.S.Store first) (state g.S.Store now);
      };
    }
