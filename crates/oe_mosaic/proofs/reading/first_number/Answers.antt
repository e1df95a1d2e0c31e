use Rattle.std.proofs.Common.{arith}
use Rattle.oe_window.proofs.NumberLemmas.{on_the_way, lies_in}
use Rattle.oe_mosaic.proofs.reading.first_number.Goals as goal

pub overflow_mul-band : goal.overflow_mul-band
overflow_mul-band c =
    let d = c.args.shape.now in
    let w = c.args.window.now in
    let way = on_the_way d w c.extents_of-cube.ensures.valid (lies_in d w c.requires.inside c.requires.filled) in
    rw (c.from.ensures, c.extents_of-cube.ensures.bands) (omega (arith, way.band, way.first))

pub overflow_add-band : goal.overflow_add-band
overflow_add-band c =
    let d = c.args.shape.now in
    let w = c.args.window.now in
    let way = on_the_way d w c.extents_of-cube.ensures.valid (lies_in d w c.requires.inside c.requires.filled) in
    rw (c.from.ensures, c.from-2.ensures, c.extents_of-cube.ensures.bands) (omega (arith, way.band, way.first))

pub overflow_mul-row : goal.overflow_mul-row
overflow_mul-row c =
    let d = c.args.shape.now in
    let w = c.args.window.now in
    let way = on_the_way d w c.extents_of-cube.ensures.valid (lies_in d w c.requires.inside c.requires.filled) in
    rw (c.from.ensures, c.from-2.ensures, c.extents_of-cube.ensures.bands, c.extents_of-cube.ensures.y) (omega (arith, way.row, way.first))

pub overflow_add-row : goal.overflow_add-row
overflow_add-row c =
    let d = c.args.shape.now in
    let w = c.args.window.now in
    let way = on_the_way d w c.extents_of-cube.ensures.valid (lies_in d w c.requires.inside c.requires.filled) in
    rw (c.from.ensures, c.from-2.ensures, c.from-3.ensures, c.extents_of-cube.ensures.bands, c.extents_of-cube.ensures.y) (omega (arith, way.line, way.first))

pub overflow_mul-result : goal.overflow_mul-result
overflow_mul-result c =
    let d = c.args.shape.now in
    let w = c.args.window.now in
    let way = on_the_way d w c.extents_of-cube.ensures.valid (lies_in d w c.requires.inside c.requires.filled) in
    rw (c.from.ensures, c.from-2.ensures, c.from-3.ensures, c.extents_of-cube.ensures.bands, c.extents_of-cube.ensures.y, c.extents_of-cube.ensures.x) (omega (arith, way.first))

pub overflow_add-result : goal.overflow_add-result
overflow_add-result c =
    let d = c.args.shape.now in
    let w = c.args.window.now in
    let way = on_the_way d w c.extents_of-cube.ensures.valid (lies_in d w c.requires.inside c.requires.filled) in
    rw (c.from.ensures, c.from-2.ensures, c.from-3.ensures, c.from-4.ensures, c.extents_of-cube.ensures.bands, c.extents_of-cube.ensures.y, c.extents_of-cube.ensures.x) (omega (arith, way.first))
