use Rattle.oe_cell.proofs.OppositeLemmas.{IsNumber-same, IsNumber-opposite, opposite_read}
use Rattle.oe_cell.proofs.arith.negative.Goals as goal

pub from_parts-requires : goal.from_parts-requires
from_parts-requires c =
    IsNumber-same _ _ _ _ (opposite_read c.parts-num.result.0 c.args.p.num c.parts-num.ensures.num c.parts-num.ensures.number.num_fits) c.parts-num.ensures.den
    (IsNumber-opposite c.args.p c.parts-num.ensures.number)
