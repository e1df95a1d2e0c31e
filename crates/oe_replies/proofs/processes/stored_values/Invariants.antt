use Rattle.std.proofs.Common.{◌≡◌, map, take}
use Rattle.std.specs.Prelude.{filter}
use Rattle.serde_json.specs.View.{view}
use Rattle.oe_jobs.specs.Plain.{PlainOwned, plain_owned}
use Rattle.oe_jobs.specs.Verdicts.{is_process_of}
use Rattle.oe_replies.specs.Jobs.{stored_row_data}
use Rattle.oe_replies.proofs.processes.stored_values.Given as goal

abbrev pub invariant-loop-owned : goal.invariant-loop-owned
invariant-loop-owned l =
    map view l.values.items
    ≡ map stored_row_data (map (λ (owned : PlainOwned). owned.process)
    (filter (is_process_of l.user) (map plain_owned (take l.owned-index l.owned-items))))
