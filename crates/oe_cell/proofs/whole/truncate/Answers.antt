use Rattle.oe_cell.proofs.FloorLemmas.{IsTruncated-truncated_int}
use Rattle.oe_cell.proofs.whole.truncate.Goals as goal

pub returns-clause-meaning : goal.returns-clause-meaning
returns-clause-meaning c = IsTruncated-truncated_int c.args.q c.parts-num.ensures.number.den_positive
