use Rattle.std.proofs.Common.{arith}
use Rattle.oe_dims.proofs.ListsLemmas.{extents_within, product_fits}
use Rattle.oe_dims.specs.Lists.{dimensions_of}
use Rattle.oe_dims.proofs.lists.Lists.cells_within_word.Goals as goal

pub overflow_mul-rows : goal.overflow_mul-rows
overflow_mul-rows c =
    let e = extents_within (dimensions_of c.args.self.now) c.requires in
    let fits = product_fits _ _ _ e.t e.bands e.y in
    rw (c.extent_of.ensures, c.extent_of-2.ensures) (omega arith)

pub overflow_mul-rows-2 : goal.overflow_mul-rows-2
overflow_mul-rows-2 c =
    let e = extents_within (dimensions_of c.args.self.now) c.requires in
    let fits = product_fits _ _ _ e.t e.bands e.y in
    rw (c.extent_of.ensures, c.extent_of-2.ensures, c.extent_of-3.ensures) (omega arith)
