use Rattle.oe_cell.proofs.FloorLemmas.{IsFloor-floor_int}
use Rattle.oe_cell.proofs.whole.round_down.Goals as goal

pub returns-clause-meaning : goal.returns-clause-meaning
returns-clause-meaning c = IsFloor-floor_int c.args.q c.parts-num.ensures.number.den_positive
