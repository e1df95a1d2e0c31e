use Rattle.std.proofs.Common.{◌≡◌, ◌<◌, arith}
use Rattle.oe_engine.proofs.workspace.Workspace.new.Goals as goal

pub make_benches-requires-clause-threads : goal.make_benches-requires-clause-threads
make_benches-requires-clause-threads g c = omega (arith, c.workers-workers.ensures.value, c.workers-workers.ensures.valid.ranges.least)

pub from_places-requires-clause-many : goal.from_places-requires-clause-many
from_places-requires-clause-many g c = omega (arith, c.in_ok-places.ensures.many, c.workers-workers.ensures.value)

pub from_places-requires-clause-made : goal.from_places-requires-clause-made
from_places-requires-clause-made g c = c.in_ok-places.ensures.made
