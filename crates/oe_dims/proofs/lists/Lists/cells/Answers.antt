use Rattle.std.proofs.Common.{◌*◌, ◌≤◌, arith}
use Rattle.oe_dims.proofs.ListsLemmas.{product_fits}
use Rattle.oe_dims.proofs.ShapeLemmas.{extents_of_shape, cell_count_within}
use Rattle.oe_dims.specs.Dimensions.{extent, most_cells}
use Rattle.oe_dims.specs.Lists.{dimensions_of}
use Rattle.oe_dims.proofs.lists.Lists.cells.Goals as goal

pub overflow_mul-result : goal.overflow_mul-result
overflow_mul-result c =
    let e = extents_of_shape (dimensions_of c.args.self.now) c.requires in
    let fits = product_fits _ _ _ e.t e.bands e.y in
    rw (c.extent_of.ensures, c.extent_of-2.ensures) (omega arith)

pub overflow_mul-result-2 : goal.overflow_mul-result-2
overflow_mul-result-2 c =
    let e = extents_of_shape (dimensions_of c.args.self.now) c.requires in
    let fits = product_fits _ _ _ e.t e.bands e.y in
    rw (c.extent_of.ensures, c.extent_of-2.ensures, c.extent_of-3.ensures) (omega arith)

pub overflow_mul-result-3 : goal.overflow_mul-result-3
overflow_mul-result-3 c =
    let d = dimensions_of c.args.self.now in
    let most : extent d.t * extent d.bands * extent d.y * extent d.x ≤ most_cells = cell_count_within d c.requires in
    rw (c.extent_of.ensures, c.extent_of-2.ensures, c.extent_of-3.ensures, c.extent_of-4.ensures) (omega arith)

pub returns-clause-most : goal.returns-clause-most
returns-clause-most c =
    rw (c.extent_of.ensures, c.extent_of-2.ensures, c.extent_of-3.ensures, c.extent_of-4.ensures) (cell_count_within (dimensions_of c.args.self.now) c.requires)
