use Rattle.std.proofs.Common.{◌∙◌}
use Rattle.std.specs.Option.{unwrap_or}
use Rattle.oe_cell.specs.declared.cell.Cell.TheVariants.{Empty}
use Rattle.oe_meanings.specs.Meaning.{covered_by}
use Rattle.oe_meanings.proofs.CellKindLemmas.{covered_by_fits}
use Rattle.oe_window.specs.Windows.{number_in, positions}
use Rattle.oe_window.proofs.WholeLemmas.{position_in}
use Rattle.oe_ops.specs.Indices.{found_in}
use Rattle.oe_ops.specs.Slices.{cell_of}
use Rattle.oe_ops.proofs.KeepLemmas.{are_held}
use Rattle.oe_ops.proofs.CoverLemmas.{own_inside, covered_is}
use Rattle.oe_ops.proofs.KindLemmas.{all_fit, fits_at}
use Rattle.oe_ops.proofs.cover.eval_cover.Goals as goal

pub fill_planes-requires-clause-serves : goal.fill_planes-requires-clause-serves
fill_planes-requires-clause-serves c = λ p h. (
  c.requires.slice.counted,
  own_inside c.args.shape.now c.args.slice c.args.window.now c.requires.out.within c.requires.slice.need p h,
  c.requires.mask.counted,
  c.requires.mask.valid,
  position_in c.args.shape.now p (c.requires.out.within p h),
  are_held c.args.shape.now c.args.mask_shape.now c.args.mask c.args.window.now c.requires.mask.need p h,
)

pub returns-clause-value : goal.returns-clause-value
returns-clause-value c = λ cube mask whole same on mask_whole mask_same mask_on.
    c.fill_planes.ensures
    ∙ covered_is c.args.replacement cube mask c.args.slice c.args.mask c.args.window.now c.args.shape.now c.args.mask_shape.now same mask_same c.requires.slice.valid whole on c.requires.mask.valid mask_whole mask_on c.requires.out.within c.requires.slice.need c.requires.mask.need

pub returns-clause-kinds : goal.returns-clause-kinds
returns-clause-kinds c = λ kind h other.
    all_fit kind (λ p. covered_by c.args.replacement (unwrap_or (found_in c.args.shape.now c.args.mask_shape.now c.args.mask p) Empty) (cell_of c.args.slice p)) (positions c.args.window.now) _ c.fill_planes.ensures
    (λ p. covered_by_fits kind c.args.replacement (unwrap_or (found_in c.args.shape.now c.args.mask_shape.now c.args.mask p) Empty) (cell_of c.args.slice p) other (fits_at kind c.args.slice.cells.now (number_in c.args.slice.window p) h))
