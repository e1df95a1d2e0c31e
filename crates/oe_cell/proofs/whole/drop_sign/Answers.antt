use Rattle.oe_cell.proofs.OppositeLemmas.{IsNumber-same, IsNumber-absolute, absolute_read}
use Rattle.oe_cell.proofs.whole.drop_sign.Goals as goal

pub from_parts-requires : goal.from_parts-requires
from_parts-requires c =
    IsNumber-same _ _ _ _ (absolute_read c.parts-num.result.0 c.args.q.num c.abs.result c.parts-num.ensures.num c.abs.ensures.value c.parts-num.ensures.number.num_fits) c.parts-num.ensures.den
    (IsNumber-absolute c.args.q c.parts-num.ensures.number)
