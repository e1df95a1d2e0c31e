use Rattle.std.proofs.Common.{arith}
use Rattle.oe_ops.proofs.ColumnLemmas.{strides_fit}
use Rattle.oe_ops.proofs.list.stride_along.Goals as goal

pub overflow_mul-result : goal.overflow_mul-result
overflow_mul-result c =
    let fit = strides_fit c.args.window.now c.requires.some in
    rw (c.indices.ensures, c.indices-in-Time.ensures) (omega (arith, fit.planes, c.requires.most))

pub overflow_mul-result-in-Time : goal.overflow_mul-result-in-Time
overflow_mul-result-in-Time c =
    let fit = strides_fit c.args.window.now c.requires.some in
    rw (c.indices.ensures, c.indices-in-Time.ensures, c.indices-in-Time-2.ensures) (omega (arith, fit.times, c.requires.most))

pub overflow_mul-result-in-Bands : goal.overflow_mul-result-in-Bands
overflow_mul-result-in-Bands c =
    let fit = strides_fit c.args.window.now c.requires.some in
    rw (c.indices-in-Bands.ensures, c.indices-in-Bands-2.ensures) (omega (arith, fit.lines, c.requires.most))
