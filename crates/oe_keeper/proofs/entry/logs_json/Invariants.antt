use Rattle.std.proofs.Common.{◌≡◌, map, take}
use Rattle.serde_json.specs.View.{view}
use Rattle.oe_keeper.specs.Entry.{log_data}
use Rattle.oe_keeper.proofs.entry.logs_json.Given as goal

abbrev pub invariant-loop-log : goal.invariant-loop-log
invariant-loop-log l = map view l.values.items ≡ map log_data (take l.log-index l.log-items)
