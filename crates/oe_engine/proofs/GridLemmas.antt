-- The chunks of a plan have sides.
use Rattle.oe_plan.specs.Plans.{IsPlan, PlanOf}
use Rattle.oe_window.specs.Chunks.{tiling_of}
use Rattle.oe_window.proofs.ChunkLemmas.{HasSides}
use Rattle.oe_engine.specs.Runs.{result_shape}

pub has_sides : (p : PlanOf) → IsPlan p → HasSides (tiling_of (result_shape p) p.size)
has_sides p is = record { t = is.ranges.t.0; y = is.ranges.y.0; x = is.ranges.x.0 }
