use Rattle.oe_window.proofs.NumberLemmas.{lies_in}
use Rattle.oe_mosaic.proofs.place.is_beside.Goals as goal

pub is_beside_along-requires-clause-within : goal.is_beside_along-requires-clause-within
is_beside_along-requires-clause-within c = (lies_in c.args.shape.now c.args.window.now c.requires.inside c.requires.filled).within.y.to

pub is_beside_along-requires-else-is_beside_along-clause-within : goal.is_beside_along-requires-else-is_beside_along-clause-within
is_beside_along-requires-else-is_beside_along-clause-within c = (lies_in c.args.shape.now c.args.window.now c.requires.inside c.requires.filled).within.x.to

pub is_beside_along-requires-else-is_beside_along-2-clause-within : goal.is_beside_along-requires-else-is_beside_along-2-clause-within
is_beside_along-requires-else-is_beside_along-2-clause-within c = (lies_in c.args.shape.now c.args.window.now c.requires.inside c.requires.filled).within.t.to
