use Rattle.std.proofs.Common.{arith}
use Rattle.oe_ops.specs.Slices.{at_indices}
use Rattle.oe_ops.proofs.NumberLemmas.{on_the_way}
use Rattle.oe_ops.proofs.slice.number_on.Goals as goal

pub overflow_mul-plane : goal.overflow_mul-plane
overflow_mul-plane c =
    let way = on_the_way _ (at_indices c.args.t c.args.band c.args.y c.args.x) c.requires.inside in
    rw c.indices.ensures (omega (arith, way.band, way.below, c.requires.most))

pub overflow_add-plane : goal.overflow_add-plane
overflow_add-plane c =
    let way = on_the_way _ (at_indices c.args.t c.args.band c.args.y c.args.x) c.requires.inside in
    rw c.indices.ensures (omega (arith, way.band, way.below, c.requires.most))

pub overflow_mul-row : goal.overflow_mul-row
overflow_mul-row c =
    let way = on_the_way _ (at_indices c.args.t c.args.band c.args.y c.args.x) c.requires.inside in
    rw (c.indices.ensures, c.indices-2.ensures) (omega (arith, way.row, way.below, c.requires.most))

pub overflow_add-row : goal.overflow_add-row
overflow_add-row c =
    let way = on_the_way _ (at_indices c.args.t c.args.band c.args.y c.args.x) c.requires.inside in
    rw (c.indices.ensures, c.indices-2.ensures) (omega (arith, way.row, way.below, c.requires.most))

pub overflow_mul-result : goal.overflow_mul-result
overflow_mul-result c =
    let way = on_the_way _ (at_indices c.args.t c.args.band c.args.y c.args.x) c.requires.inside in
    rw (c.indices.ensures, c.indices-2.ensures, c.indices-3.ensures) (omega (arith, way.below, c.requires.most))

pub overflow_add-result : goal.overflow_add-result
overflow_add-result c =
    let way = on_the_way _ (at_indices c.args.t c.args.band c.args.y c.args.x) c.requires.inside in
    rw (c.indices.ensures, c.indices-2.ensures, c.indices-3.ensures) (omega (arith, way.below, c.requires.most))

pub returns-clause-within : goal.returns-clause-within
returns-clause-within c =
    let way = on_the_way _ (at_indices c.args.t c.args.band c.args.y c.args.x) c.requires.inside in
    rw (c.indices.ensures, c.indices-2.ensures, c.indices-3.ensures) (omega (arith, way.below, c.requires.most))
