use Rattle.oe_top.proofs.Writings.{stops_both, then_writes}
use Rattle.oe_top.proofs.say.write_both.Goals as goal

pub returns-in-Ok : goal.returns-in-Ok
returns-in-Ok g c =
    then_writes _ _ _ _ _ _ c.args.first.now c.args.second.now _ c.write-in-Ok.result
    (record { appended = c.in-Ok.ensures.appended; prefix = c.in-Ok.ensures.prefix; cause = c.in-Ok.ensures.cause })
    (record { appended = c.write-in-Ok.ensures.appended; prefix = c.write-in-Ok.ensures.prefix; cause = c.write-in-Ok.ensures.cause })

pub returns-in-Err : goal.returns-in-Err
returns-in-Err g c =
    stops_both _ _ _ _ c.args.first.now c.args.second.now c.in-Err.failed c.in-Err.failed
    (record { appended = c.in-Err.ensures.appended; prefix = c.in-Err.ensures.prefix; cause = c.in-Err.ensures.cause })
