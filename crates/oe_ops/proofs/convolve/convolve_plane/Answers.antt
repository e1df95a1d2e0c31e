use Rattle.std.proofs.Common.{sym, ◌∙◌, arith}
use Rattle.oe_dims.specs.Dimensions.{extent}
use Rattle.oe_dims.specs.declared.kind.CellKind.TheVariants.{Numbers}
use Rattle.oe_kernel.specs.Convolution.{convolved}
use Rattle.oe_window.specs.Windows.{positions}
use Rattle.oe_ops.specs.Slices.{at_indices}
use Rattle.oe_ops.proofs.ConvolveLemmas.{block_count, block_is, convolution_is, convolved_fits, corner_in, reads_plane}
use Rattle.oe_ops.proofs.KindLemmas.{all_fit}
use Rattle.oe_ops.proofs.PlaneLemmas.{is_part, is_plane, plane_at}
use Rattle.oe_ops.proofs.convolve.convolve_plane.Goals as goal

pub plane_of-plane-requires-clause-inside : goal.plane_of-plane-requires-clause-inside
plane_of-plane-requires-clause-inside c =
    let reads = reads_plane c.args.kernel.now c.args.factor c.args.border.now c.args.replace c.args.shape.now c.args.slice.now.window c.args.window.now c.width-width.ensures.valid c.requires.slice.valid c.requires.out.within c.requires.inside c.requires.slice.need c.requires.one (omega (arith, c.requires.some, c.requires.out.counted)) in
    corner_in c.args.slice.now.window _ reads.inside

pub convolve_block-requires-clause-counted : goal.convolve_block-requires-clause-counted
convolve_block-requires-clause-counted c =
    block_count c.args.window.now c.requires.one ∙ sym c.requires.out.counted

pub convolve_block-requires-clause-windows : goal.convolve_block-requires-clause-windows
convolve_block-requires-clause-windows c =
    let reads = reads_plane c.args.kernel.now c.args.factor c.args.border.now c.args.replace c.args.shape.now c.args.slice.now.window c.args.window.now c.width-width.ensures.valid c.requires.slice.valid c.requires.out.within c.requires.inside c.requires.slice.need c.requires.one (omega (arith, c.requires.some, c.requires.out.counted)) in
    let h = c.plane_of-plane.ensures in
    record {
      plane = is_plane c.args.slice.now _ _ _ _ _ _ h reads.sides reads.inside;
      x_in = omega (arith, reads.x_order, reads.x_in, h.side_x_is);
      y_in = omega (arith, reads.y_order, reads.y_in, h.side_y_is);
      rows_covered = λ row lt. rw (h.side_y_is, h.from_y, h.to_y) (reads.rows row lt);
      columns_covered = λ k lt. rw (h.side_x_is, h.from_x, h.to_x) (reads.columns k lt);
    }

pub returns-clause-value : goal.returns-clause-value
returns-clause-value c = λ cube whole same on.
    let k = c.args.kernel.now in
    let d = c.args.shape.now in
    let w = c.args.window.now in
    let part = is_part c.args.slice.now (extent d.y) (extent d.x) c.plane_of-plane.result (at_indices w.t.from w.bands.from 0 0) c.plane_of-plane.ensures in
    block_is k c.args.factor c.args.border.now c.args.replace c.args.slice.now (extent d.y) (extent d.x) w c.convolve_block.new.out c.requires.one (c.convolve_block.auto.out ∙ c.requires.out.counted) (c.convolve_block.ensures.value _ part)
    ∙ convolution_is k c.args.factor c.args.border.now c.args.replace cube c.args.slice.now w d same c.width-width.ensures.valid c.requires.slice.valid whole on c.requires.inside c.requires.out.within c.requires.slice.need

pub returns-clause-kinds : goal.returns-clause-kinds
returns-clause-kinds c =
    let k = c.args.kernel.now in
    let d = c.args.shape.now in
    let w = c.args.window.now in
    let part = is_part c.args.slice.now (extent d.y) (extent d.x) c.plane_of-plane.result (at_indices w.t.from w.bands.from 0 0) c.plane_of-plane.ensures in
    all_fit Numbers (λ p. convolved k c.args.factor c.args.border.now c.args.replace (plane_at c.args.slice.now (extent d.y) (extent d.x) p) p.y p.x) (positions w) _
    (block_is k c.args.factor c.args.border.now c.args.replace c.args.slice.now (extent d.y) (extent d.x) w c.convolve_block.new.out c.requires.one (c.convolve_block.auto.out ∙ c.requires.out.counted) (c.convolve_block.ensures.value _ part))
    (λ p. convolved_fits k c.args.factor c.args.border.now c.args.replace (plane_at c.args.slice.now (extent d.y) (extent d.x) p) p.y p.x)
