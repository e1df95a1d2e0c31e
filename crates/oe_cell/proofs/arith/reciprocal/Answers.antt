use Rattle.std.proofs.Common.{ap, ◌∙◌}
use Rattle.std.specs.Prelude.{unsigned_abs}
use Rattle.oe_cell.proofs.NumberLemmas.{num_read}
use Rattle.oe_cell.proofs.OppositeLemmas.{IsNumber-same, IsNumber-reciprocal, reciprocal_read}
use Rattle.oe_cell.proofs.arith.reciprocal.Goals as goal

pub from_parts-requires : goal.from_parts-requires
from_parts-requires c =
    let p = c.args.p in
    let number = c.parts-num.ensures.number in
    IsNumber-same _ _ _ _
    (reciprocal_read c.parts-num.result.0 c.signum.result p.num c.parts-num.result.1 p.den c.parts-num.ensures.num c.parts-num.ensures.den c.signum.ensures.value number.num_fits c.requires number.den_fits)
    (c.unsigned_abs.ensures.value ∙ ap unsigned_abs (num_read c.parts-num.result.0 p.num c.parts-num.ensures.num number.num_fits))
    (IsNumber-reciprocal p number c.requires)
