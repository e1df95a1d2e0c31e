use Rattle.std.proofs.Common.{◌≡◌, map, take}
use Rattle.serde_json.specs.View.{view}
use Rattle.oe_graph.specs.Plain.{plain_stored}
use Rattle.oe_keeper.specs.Entry.{stored_data}
use Rattle.oe_keeper.proofs.entry.processes_json.Given as goal

abbrev pub invariant-loop-process : goal.invariant-loop-process
invariant-loop-process l =
    map view l.values.items ≡ map stored_data (map plain_stored (take l.process-index l.process-items))
