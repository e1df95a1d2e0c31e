use Rattle.std.proofs.Common.{◌≤◌, arith}
use Rattle.oe_mosaic.proofs.HalfLemmas.{cut_b_is, cut_t_is, cut_x_is, cut_y_is}
use Rattle.oe_window.specs.Windows.{span_length}
use Rattle.oe_mosaic.proofs.halves.halves.Goals as goal

pub returns-then-length-gt1 : goal.returns-then-length-gt1
returns-then-length-gt1 c =
    cut_t_is c.args.window.now c.with_t.result c.with_t-then-length-gt1.result _ _ c.requires.filled c.halves_of_span.ensures c.with_t.ensures c.with_t-then-length-gt1.ensures

pub returns-then-length-gt1-2 : goal.returns-then-length-gt1-2
returns-then-length-gt1-2 c =
    let few : span_length c.args.window.now.t ≤ 1 = omega (arith, c.length.ensures, c.if-length-gt1.false) in
    cut_b_is c.args.window.now c.with_bands.result c.with_bands-then-length-gt1-2.result _ _ c.requires.filled few c.halves_of_span-then-length-gt1-2.ensures c.with_bands.ensures c.with_bands-then-length-gt1-2.ensures

pub returns-then-length-gt1-3 : goal.returns-then-length-gt1-3
returns-then-length-gt1-3 c =
    let few : span_length c.args.window.now.t ≤ 1 = omega (arith, c.length.ensures, c.if-length-gt1.false) in
    let few_b : span_length c.args.window.now.bands ≤ 1 = omega (arith, c.length-2.ensures, c.if-length-gt1-2.false) in
    cut_y_is c.args.window.now c.with_y.result c.with_y-then-length-gt1-3.result _ _ c.requires.filled few few_b c.halves_of_span-then-length-gt1-3.ensures c.with_y.ensures c.with_y-then-length-gt1-3.ensures

pub returns : goal.returns
returns c =
    let few : span_length c.args.window.now.t ≤ 1 = omega (arith, c.length.ensures, c.if-length-gt1.false) in
    let few_b : span_length c.args.window.now.bands ≤ 1 = omega (arith, c.length-2.ensures, c.if-length-gt1-2.false) in
    let few_y : span_length c.args.window.now.y ≤ 1 = omega (arith, c.length-3.ensures, c.if-length-gt1-3.false) in
    cut_x_is c.args.window.now c.with_x.result c.with_x-2.result _ _ c.requires.filled few few_b few_y c.halves_of_span-2.ensures c.with_x.ensures c.with_x-2.ensures
