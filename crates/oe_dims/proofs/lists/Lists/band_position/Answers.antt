use Rattle.std.proofs.Common.{◌≡◌, ℕ, ◌<◌, Option, Some, None, IfSome, List, sym, arith}
use Rattle.oe_dims.specs.Dimensions.{Dimensions, IsShape, band_names, most_labels}
use Rattle.oe_dims.specs.Lists.{dimensions_of}
use Rattle.oe_dims.specs.Names.{same_name}
use Rattle.oe_dims.specs.Indices.{index_where}
use Rattle.oe_dims.proofs.IndexLemmas.{index_where_within}
use Rattle.oe_dims.proofs.ShapeLemmas.{names_within}
use Rattle.oe_dims.proofs.lists.Lists.band_position.Goals as goal

index_is_low : (d : Dimensions) (name : List ℕ) (index : Option ℕ) → IsShape d → index ≡ index_where (same_name name) (band_names d) → IfSome index (λ p. p < most_labels)
index_is_low d name None h e = tt
index_is_low d name (Some p) h e =
    omega (arith, index_where_within (same_name name) (band_names d) p (sym e), names_within d h)

pub returns-clause-most : goal.returns-clause-most
returns-clause-most c =
    let value = simp c.names.ensures at c.index_of_name.ensures in
    index_is_low (dimensions_of c.args.self.now) c.args.name.now c.index_of_name.result c.requires value
