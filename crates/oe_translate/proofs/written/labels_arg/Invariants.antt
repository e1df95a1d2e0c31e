use Rattle.std.proofs.Common.{◌≡◌, map, take}
use Rattle.oe_graph.specs.Plain.{plain_arg}
use Rattle.oe_translate.specs.Written.{label_argument}
use Rattle.oe_translate.proofs.written.labels_arg.Given as goal

abbrev pub invariant-loop-interval : goal.invariant-loop-interval
invariant-loop-interval l = map plain_arg l.items.items ≡ map label_argument (take l.interval-index l.intervals)
