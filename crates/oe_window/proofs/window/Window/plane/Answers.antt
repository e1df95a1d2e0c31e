use Rattle.std.proofs.Common.{arith}
use Rattle.std.proofs.lemmas.Grind.{common_steps, elements}
use Rattle.oe_window.proofs.PartLemmas.{plane_part}
use Rattle.oe_window.proofs.window.Window.plane.Goals as goal

pub returns-clause-part : goal.returns-clause-part
returns-clause-part c =
    rw (c.step_along.ensures, c.step_along-2.ensures, c.length-bands.ensures) (plane_part c.args.self.now c.args.number c.requires)

pub nonzero_div-number : goal.nonzero_div-number
nonzero_div-number c = grind (arith, common_steps) steps 2000000

pub step_along-requires : goal.step_along-requires
step_along-requires c = grind (arith, elements) steps 2000000
