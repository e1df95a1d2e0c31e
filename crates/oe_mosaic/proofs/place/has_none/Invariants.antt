use Rattle.std.proofs.Common.{◌≡◌, ℕ, ◌<◌, [], get_or, None}
use Rattle.oe_dims.specs.Dimensions.{band_names}
use Rattle.oe_dims.specs.Indices.{index_where}
use Rattle.oe_dims.specs.Names.{same_name}
use Rattle.oe_mosaic.proofs.place.has_none.Given as goal

abbrev pub invariant-loop-index : goal.invariant-loop-index
invariant-loop-index l = (k : ℕ) → k < l.index → index_where (same_name (get_or l.names k [])) (band_names l.part) ≡ None
