use Rattle.std.proofs.Common.{◌≡◌, take, filter}
use Rattle.oe_requests.specs.Extents.{is_in_time}
use Rattle.oe_meanings.proofs.shape_restriction.labels_in_time.Given as goal

abbrev pub invariant-loop-index : goal.invariant-loop-index
invariant-loop-index l = l.kept.items ≡ filter (is_in_time l.extent) (take l.index l.labels)
