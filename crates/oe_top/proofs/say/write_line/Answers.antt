use Rattle.std.proofs.Common.{codes}
use Rattle.oe_top.proofs.Writings.{stops_both, then_writes}
use Rattle.oe_top.proofs.say.write_line.Goals as goal

pub returns-in-Ok : goal.returns-in-Ok
returns-in-Ok g c =
    then_writes _ _ _ _ _ _ _ (codes "\n") _ c.write.result c.in-Ok.ensures
    (record { appended = c.write.ensures.appended; prefix = c.write.ensures.prefix; cause = c.write.ensures.cause })

pub returns-in-Err : goal.returns-in-Err
returns-in-Err g c = stops_both _ _ _ _ _ (codes "\n") c.in-Err.failed c.in-Err.failed c.in-Err.ensures
