use Rattle.std.proofs.Common.{refl}
use Rattle.oe_cell.proofs.NumberLemmas.{num_read}
use Rattle.oe_cell.proofs.OppositeLemmas.{IsNumber-whole, IsNumber-same}
use Rattle.oe_kernel.proofs.total.whole.Goals as goal

pub returns-in-None : goal.returns-in-None
returns-in-None c =
    let impossible = c.in-None.ensures.number.1 (IsNumber-same _ c.args.number _ 1 (num_read c.args.number c.args.number refl c.requires) refl (IsNumber-whole c.args.number c.requires)) in
    cc
