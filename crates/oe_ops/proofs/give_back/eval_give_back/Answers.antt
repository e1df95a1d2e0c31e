use Rattle.std.proofs.Common.{◌∙◌}
use Rattle.oe_window.specs.Windows.{number_in, positions}
use Rattle.oe_ops.specs.Slices.{cell_of}
use Rattle.oe_ops.proofs.CoverLemmas.{own_inside}
use Rattle.oe_ops.proofs.GiveBackLemmas.{given_is}
use Rattle.oe_ops.proofs.KindLemmas.{all_fit, fits_at}
use Rattle.oe_ops.proofs.give_back.eval_give_back.Goals as goal

pub fill-requires-clause-serves : goal.fill-requires-clause-serves
fill-requires-clause-serves c = λ p h.
    (c.requires.slice.counted, own_inside c.args.shape.now c.args.slice c.args.window.now c.requires.out.within c.requires.slice.need p h)

pub returns-clause-value : goal.returns-clause-value
returns-clause-value c = λ cube whole same on.
    c.fill.ensures ∙ given_is cube c.args.slice c.args.window.now c.args.shape.now on c.requires.out.within c.requires.slice.need

pub returns-clause-kinds : goal.returns-clause-kinds
returns-clause-kinds c = λ kind h.
    all_fit kind (cell_of c.args.slice) (positions c.args.window.now) _ c.fill.ensures
    (λ p. fits_at kind c.args.slice.cells.now (number_in c.args.slice.window p) h)
