use Rattle.std.proofs.Common.{◌∙◌}
use Rattle.std.specs.Option.{unwrap_or}
use Rattle.oe_cell.specs.declared.cell.Cell.TheVariants.{Empty}
use Rattle.oe_window.specs.Windows.{positions}
use Rattle.oe_window.proofs.WholeLemmas.{position_in}
use Rattle.oe_ops.specs.Indices.{found_in}
use Rattle.oe_ops.proofs.KeepLemmas.{are_held, kept_is}
use Rattle.oe_ops.proofs.KindLemmas.{all_fit, found_fits}
use Rattle.oe_ops.proofs.keep.eval_keep.Goals as goal

pub fill_planes-requires-clause-serves : goal.fill_planes-requires-clause-serves
fill_planes-requires-clause-serves c = λ p h. (
  c.requires.slice.counted,
  c.requires.slice.valid,
  position_in c.args.shape.now p (c.requires.out.within p h),
  are_held c.args.shape.now c.args.argument.now c.args.slice c.args.window.now c.requires.slice.need p h,
)

pub returns-clause-value : goal.returns-clause-value
returns-clause-value c = λ cube r whole same is on.
    c.fill_planes.ensures
    ∙ kept_is cube r c.args.slice c.args.window.now c.args.shape.now c.args.argument.now same is c.requires.slice.valid whole on c.requires.out.within c.requires.slice.need

pub returns-clause-kinds : goal.returns-clause-kinds
returns-clause-kinds c = λ kind h.
    all_fit kind (λ p. unwrap_or (found_in c.args.shape.now c.args.argument.now c.args.slice p) Empty) (positions c.args.window.now) _ c.fill_planes.ensures
    (λ p. found_fits kind c.args.shape.now c.args.argument.now c.args.slice p h)
