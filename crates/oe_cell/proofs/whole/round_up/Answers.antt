use Rattle.oe_cell.proofs.FloorLemmas.{IsCeil-ceil_int}
use Rattle.oe_cell.proofs.whole.round_up.Goals as goal

pub returns-clause-meaning : goal.returns-clause-meaning
returns-clause-meaning c = IsCeil-ceil_int c.args.q c.parts-num.ensures.number.den_positive
