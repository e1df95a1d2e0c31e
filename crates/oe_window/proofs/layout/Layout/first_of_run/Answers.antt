use Rattle.std.proofs.Common.{arith}
use Rattle.std.proofs.lemmas.Grind.{common_steps}
use borrow.Author.Differences.{ints}
use Rattle.oe_window.proofs.RunLemmas.{first_within}
use Rattle.oe_window.proofs.layout.Layout.first_of_run.Goals as goal

pub overflow_add-result-2 : goal.overflow_add-result-2
overflow_add-result-2 c =
    omega (arith, first_within c.args.self.now c.requires.fits c.args.number c.requires.number, c.requires.fits.length)

pub overflow_add-result-3 : goal.overflow_add-result-3
overflow_add-result-3 c =
    omega (arith, first_within c.args.self.now c.requires.fits c.args.number c.requires.number, c.requires.fits.length)

pub overflow_add-result : goal.overflow_add-result
overflow_add-result c = grind (ints, arith, common_steps) steps 4000000

pub overflow_mul-along_t : goal.overflow_mul-along_t
overflow_mul-along_t c = grind (ints, arith, common_steps) steps 4000000
