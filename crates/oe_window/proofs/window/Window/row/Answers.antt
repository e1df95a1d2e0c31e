use Rattle.std.proofs.Common.{arith}
use Rattle.std.proofs.lemmas.Grind.{common_steps}
use Rattle.oe_window.proofs.PartLemmas.{row_part}
use Rattle.oe_window.proofs.window.Window.row.Goals as goal

pub returns-clause-part : goal.returns-clause-part
returns-clause-part c =
    rw (c.step_along.ensures, c.step_along-2.ensures, c.step_along-3.ensures, c.length-lines.ensures, c.length-bands.ensures) (row_part c.args.self.now c.args.number c.requires)

pub nonzero_div-number : goal.nonzero_div-number
nonzero_div-number c = grind (arith, common_steps) steps 2000000

pub nonzero_div-number-2 : goal.nonzero_div-number-2
nonzero_div-number-2 c = grind (arith, common_steps) steps 2000000

pub nonzero_rem-number : goal.nonzero_rem-number
nonzero_rem-number c = grind (arith, common_steps) steps 2000000

pub step_along-requires-2 : goal.step_along-requires-2
step_along-requires-2 c = grind (arith, common_steps) steps 2000000
