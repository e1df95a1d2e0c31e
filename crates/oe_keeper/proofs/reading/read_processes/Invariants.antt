use Rattle.std.proofs.Common.{map, take}
use Rattle.serde_json.specs.View.{items_view}
use Rattle.oe_graph.specs.Plain.{plain_stored}
use Rattle.oe_keeper.specs.Reading.{Each, IsStoredEntry}
use Rattle.oe_keeper.proofs.reading.read_processes.Given as goal

abbrev pub invariant-loop-value : goal.invariant-loop-value
invariant-loop-value l =
    Each IsStoredEntry (items_view (take l.value-index l.values)) (map plain_stored l.read.items)
