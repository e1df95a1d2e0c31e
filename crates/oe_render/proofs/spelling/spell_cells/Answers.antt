use Rattle.std.proofs.Common.{length, refl, arith}
use Rattle.std.proofs.lemmas.List.{drop_all}
use Rattle.oe_render.proofs.spelling.spell_cells.Goals as goal

pub loop-left-init : goal.loop-left-init
loop-left-init c =
    rw (drop_all 2816 c.args.into.now (omega arith), drop_all (length c.args.cells.now) c.args.cells.now (omega arith))
    (record { within = omega arith; room = omega (arith, c.requires.some); last = omega arith; text = refl })
