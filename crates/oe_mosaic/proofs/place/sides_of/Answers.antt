use Rattle.oe_window.proofs.NumberLemmas.{lies_in}
use Rattle.oe_mosaic.proofs.place.sides_of.Goals as goal

pub numbers_along-requires-clause-within : goal.numbers_along-requires-clause-within
numbers_along-requires-clause-within c = (lies_in c.args.shape.now c.args.window.now c.requires.inside c.requires.filled).within.t.to

pub bands_along-requires-clause-within : goal.bands_along-requires-clause-within
bands_along-requires-clause-within c = (lies_in c.args.shape.now c.args.window.now c.requires.inside c.requires.filled).within.bands.to

pub numbers_along-requires-2-clause-within : goal.numbers_along-requires-2-clause-within
numbers_along-requires-2-clause-within c = (lies_in c.args.shape.now c.args.window.now c.requires.inside c.requires.filled).within.y.to

pub numbers_along-requires-3-clause-within : goal.numbers_along-requires-3-clause-within
numbers_along-requires-3-clause-within c = (lies_in c.args.shape.now c.args.window.now c.requires.inside c.requires.filled).within.x.to
