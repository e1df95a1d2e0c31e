use Rattle.oe_top.proofs.Writings.{stops_both, then_writes}
use Rattle.oe_top.specs.Lines.{detail_of}
use Rattle.oe_top.proofs.say.write_code.Goals as goal

pub returns-in-Ok : goal.returns-in-Ok
returns-in-Ok g c =
    then_writes _ _ _ _ _ _ _ (detail_of c.args.refusal.now) _ c.write_detail.result
    (rw (c.as_bytes.ensures.value, c.code.ensures) at c.in-Ok.ensures) c.write_detail.ensures

pub returns-in-Err : goal.returns-in-Err
returns-in-Err g c =
    stops_both _ _ _ _ _ (detail_of c.args.refusal.now) c.in-Err.failed c.in-Err.failed
    (rw (c.as_bytes.ensures.value, c.code.ensures) at c.in-Err.ensures)
