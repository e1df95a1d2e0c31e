use Rattle.std.proofs.Common.{◌∙◌}
use Rattle.oe_cell.specs.declared.cell.Cell.TheVariants.{Empty}
use Rattle.oe_expr.specs.Callback.{callback_kind}
use Rattle.oe_meanings.specs.Meaning.{value_on_cells}
use Rattle.oe_window.specs.Windows.{positions}
use Rattle.oe_ops.specs.Slices.{cell_of}
use Rattle.oe_ops.proofs.ApplyLemmas.{applied_fits, applied_is, taken_at}
use Rattle.oe_ops.proofs.KindLemmas.{all_fit}
use Rattle.oe_ops.proofs.CoverLemmas.{own_inside}
use Rattle.oe_ops.proofs.apply.eval_apply.Goals as goal

pub fill-requires-clause-serves : goal.fill-requires-clause-serves
fill-requires-clause-serves c = λ p h. (
  c.requires.slice.counted,
  own_inside c.args.shape.now c.args.slice c.args.window.now c.requires.out.within c.requires.slice.need p h,
  taken_at c.args.expr.now c.args.slice p c.requires.takes,
)

pub returns-clause-value : goal.returns-clause-value
returns-clause-value c = λ cube whole same on.
    c.fill.ensures
    ∙ applied_is c.args.expr.now cube c.args.slice c.args.window.now c.args.shape.now same c.requires.slice.valid whole on c.requires.out.within c.requires.slice.need

pub returns-clause-kinds : goal.returns-clause-kinds
returns-clause-kinds c =
    all_fit (callback_kind c.args.expr.now) (λ p. value_on_cells c.args.expr.now (cell_of c.args.slice p) Empty) (positions c.args.window.now) _ c.fill.ensures
    (λ p. applied_fits c.args.expr.now c.args.slice p c.requires.keeps c.requires.takes)
