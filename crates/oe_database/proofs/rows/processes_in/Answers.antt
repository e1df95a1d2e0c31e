use Rattle.std.proofs.Common.{◌∷◌, [], ◌∙◌, ap, arith, length, map}
use Rattle.std.proofs.lemmas.List.{map-append}
use Rattle.oe_jobs.specs.Plain.{plain_owned}
use Rattle.oe_database.specs.Loads.{IsProcessRow}
use Rattle.oe_database.proofs.Lists.{each_next}
use Rattle.oe_database.proofs.rows.processes_in.Goals as goal

pub loop-row-preserved : goal.loop-row-preserved
loop-row-preserved c =
    let owned = c.in_ok-owned.owned in
    let list = c.loop-row.processes.items in
    each_next IsProcessRow c.args.rows.now c.loop-row.row-index c.row-item.result (map plain_owned list)
    (map plain_owned c.push.new.self.items) (plain_owned owned) (omega (arith, c.loop-row-test.true)) c.row-item.is
    c.loop-row.invariant (ap (map plain_owned) c.in_ok-push.ensures.items ∙ map-append plain_owned list (owned ∷ []))
    (c.in_ok-owned.ensures (length (map plain_owned list)))
