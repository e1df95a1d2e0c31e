use Rattle.std.proofs.Common.{Result, Ok, Err, IfOk}
use Rattle.oe_sources.proofs.HeadSizes.{packed_short}
use Rattle.oe_sources.proofs.packing.front_of.Goals as goal

of_any : {T E P : Type 0} (r : Result T E) → P → IfOk r (λ _. P)
of_any (Ok x) p = p
of_any (Err e) p = tt

pub returns-clause-short : goal.returns-clause-short
returns-clause-short c =
    of_any c.front_bytes.result
    (packed_short c.args.id.now c.args.shape.now c.args.kind c.args.widths.now c.requires.id c.epsg-epsg.ensures.valid c.requires.widths)
