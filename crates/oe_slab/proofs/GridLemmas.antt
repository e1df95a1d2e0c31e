-- The chunks of a plan have sides.
use Rattle.oe_slab.specs.Plans.{IsSlabPlan, SlabPlanOf}
use Rattle.oe_window.specs.Chunks.{tiling_of}
use Rattle.oe_window.proofs.ChunkLemmas.{HasSides}
use Rattle.oe_slab.specs.Runs.{result_shape}

pub has_sides : (p : SlabPlanOf) → IsSlabPlan p → HasSides (tiling_of (result_shape p) p.size)
has_sides p is = record { t = is.sides.t.0; y = is.sides.y.0; x = is.sides.x.0 }
