use Rattle.oe_window.proofs.NumberLemmas.{lies_in}
use Rattle.oe_mosaic.proofs.seam.seam.Goals as goal

pub seam_along-requires-clause-within : goal.seam_along-requires-clause-within
seam_along-requires-clause-within c = (lies_in c.args.shape.now c.args.window.now c.requires.inside c.requires.filled).within.t.to

pub seam_along-requires-then-length-gt1-3-clause-within : goal.seam_along-requires-then-length-gt1-3-clause-within
seam_along-requires-then-length-gt1-3-clause-within c = (lies_in c.args.shape.now c.args.window.now c.requires.inside c.requires.filled).within.y.to

pub seam_along-requires-2-clause-within : goal.seam_along-requires-2-clause-within
seam_along-requires-2-clause-within c = (lies_in c.args.shape.now c.args.window.now c.requires.inside c.requires.filled).within.x.to
