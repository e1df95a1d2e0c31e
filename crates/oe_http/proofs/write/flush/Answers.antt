use Rattle.std.proofs.Common.{Err, Ok, arith, refl}
use Rattle.oe_outside.proofs.Streams.{has_sent_held, has_stopped}
use Rattle.oe_http.proofs.write.flush.Goals as goal

pub returns-in_err-write-clause-sent : goal.returns-in_err-write-clause-sent
returns-in_err-write-clause-sent g c =
    has_stopped c.from_residual.ensures.0
    (has_sent_held (Err c.in_err-write.field-0.0) tt tt (rw c.bytes.ensures at c.in_err-write.ensures.prefix) (0, omega arith, refl) c.in_err-write.ensures.cause)

pub returns-clause-sent : goal.returns-clause-sent
returns-clause-sent g c =
    rw c.clear.ensures (has_sent_held (Ok tt) (rw c.bytes.ensures at c.in_ok-write.ensures.appended) refl tt tt c.in_ok-write.ensures.cause)
