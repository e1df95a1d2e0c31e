use Rattle.std.proofs.Common.{take}
use Rattle.serde_json.specs.View.{items_view}
use Rattle.oe_keeper.specs.Reading.{Each, IsLog}
use Rattle.oe_keeper.proofs.reading.read_logs.Given as goal

abbrev pub invariant-loop-value : goal.invariant-loop-value
invariant-loop-value l = Each IsLog (items_view (take l.value-index l.values)) l.read.items
