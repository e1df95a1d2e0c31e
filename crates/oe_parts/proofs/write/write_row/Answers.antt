use Rattle.std.proofs.Common.{ℕ, List, subst}
use Rattle.oe_outside.specs.Stream.{Sends}
use Rattle.oe_parts.specs.Sent.{SendsRecords}
use Rattle.oe_parts.proofs.WriteLemmas.{on_ok_then, on_sink_ok}
use Rattle.oe_parts.proofs.write.write_row.Goals as goal

pub returns-in-Ok-clause-records : goal.returns-in-Ok-clause-records
returns-in-Ok-clause-records g c =
    let w = g.O.Sink.written c.args.out.now in
    let z = g.O.Sink.size c.args.out.now in
    let w1 = g.O.Sink.written c.send.new.out in
    let z1 = g.O.Sink.size c.send.new.out in
    let read = c.in-Ok.ensures.cells.1 in
    on_sink_ok (SendsRecords w z c.args.pending.now c.args.count w1 z1 c.send.new.pending) c.send.result c.of_sink.result c.of_sink.ensures
    (on_ok_then c.send.result (λ (sent : Sends w z c.args.pending.now c.read_row.new.bytes w1 z1 c.send.new.pending). record {
      cells = read.cells;
      many = read.many;
      valid = read.valid;
      sends = subst (λ (t : List ℕ). Sends w z c.args.pending.now t w1 z1 c.send.new.pending) read.bytes_are sent;
    }) c.send.ensures.sent)
