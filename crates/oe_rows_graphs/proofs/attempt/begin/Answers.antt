use Rattle.std.proofs.Common.{◌≡◌}
use Rattle.oe_rows_graphs.proofs.attempt.begin.Goals as goal

pub returns-clause-mounted : goal.returns-clause-mounted
returns-clause-mounted g c =
    rw c.start.ensures (c.collections_are_mounted.ensures _ _ c.in-Ok.ensures.valid
    (rw (c.in-Ok.ensures.graph, c.in_ok-checked.ensures) c.in_ok-dims.ensures.found))
