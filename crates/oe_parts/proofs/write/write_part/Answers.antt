use Rattle.std.proofs.Common.{◌≡◌, ◌++◌, List, ℕ, [], subst}
use Rattle.oe_cell.specs.Record.{records_of}
use Rattle.oe_cell.specs.declared.cell.Cell.{Cell}
use Rattle.oe_dims.specs.Cube.{Cube}
use Rattle.oe_outside.specs.Stream.{Sends, Stops}
use Rattle.oe_outside.specs.Visible.{Appends, AppendsPrefix}
use Rattle.oe_outside.proofs.Streams.{on_ok_both}
use Rattle.oe_parts.specs.PartFile.{cells_on_all, chunks_of, part_bytes}
use Rattle.oe_parts.specs.Sent.{AppendsRecords}
use Rattle.oe_parts.specs.Spooled.{ShowsPart}
use Rattle.oe_parts.proofs.SentLemmas.{end_stops, file_sent, front_stops, records_file, records_stop}
use Rattle.oe_parts.proofs.WriteLemmas.{on_err_then, on_sink_err, on_sink_ok}
use Rattle.oe_parts.proofs.write.write_part.Goals as goal

pub returns-in-Err-clause-prefix : goal.returns-in-Err-clause-prefix
returns-in-Err-clause-prefix g c cube shown =
    let w0 = g.O.Sink.written c.args.out.now in
    let z0 = g.O.Sink.size c.args.out.now in
    let w1 = g.O.Sink.written c.send.new.out in
    let z1 = g.O.Sink.size c.send.new.out in
    let records = records_of (cells_on_all cube (chunks_of c.args.head.now)) in
    subst (λ (f : List ℕ). AppendsPrefix w0 (f ++ records) w1) c.requires.front
    (front_stops w0 w1 w1 w1 z0 z1 z1 z1 c.args.pending.now c.args.front.now records [] [] [] c.requires.empty c.in-Err.ensures.stopped)

pub returns-in-Ok-write_chunks-clause-file : goal.returns-in-Ok-write_chunks-clause-file
returns-in-Ok-write_chunks-clause-file g c =
    let w0 = g.O.Sink.written c.args.out.now in
    let z0 = g.O.Sink.size c.args.out.now in
    let w1 = g.O.Sink.written c.send.new.out in
    let z1 = g.O.Sink.size c.send.new.out in
    let w2 = g.O.Sink.written c.write_chunks.new.out in
    let z2 = g.O.Sink.size c.write_chunks.new.out in
    let w3 = g.O.Sink.written c.flush.new.out in
    let z3 = g.O.Sink.size c.flush.new.out in
    on_sink_ok ((cube : Cube Cell) → ShowsPart (g.P.Store.bytes c.args.spool.now) c.args.base c.args.head.now cube → Appends w0 (part_bytes c.args.head.now cube) w3) c.flush.result c.of_sink.result c.of_sink.ensures
    (on_ok_both c.flush.result (λ (empty : c.flush.new.pending ≡ []) (sent : Sends w2 z2 c.write_chunks.new.pending [] w3 z3 c.flush.new.pending) (cube : Cube Cell) (shown : ShowsPart (g.P.Store.bytes c.args.spool.now) c.args.base c.args.head.now cube).
    (let records = records_of (cells_on_all cube (chunks_of c.args.head.now)) in
    subst (λ (f : List ℕ). Appends w0 (f ++ records) w3) c.requires.front
    (file_sent w0 w1 w2 w3 z0 z1 z2 z3 c.args.pending.now c.args.front.now records c.send.new.pending c.write_chunks.new.pending c.flush.new.pending c.requires.empty
    c.in-Ok.ensures.sent (c.in-Ok-write_chunks.ensures.sent cube shown).sent sent empty)))
    c.flush.ensures.empty c.flush.ensures.sent.sent)

pub returns-in-Ok-write_chunks-clause-prefix : goal.returns-in-Ok-write_chunks-clause-prefix
returns-in-Ok-write_chunks-clause-prefix g c =
    let w0 = g.O.Sink.written c.args.out.now in
    let z0 = g.O.Sink.size c.args.out.now in
    let w1 = g.O.Sink.written c.send.new.out in
    let z1 = g.O.Sink.size c.send.new.out in
    let w2 = g.O.Sink.written c.write_chunks.new.out in
    let z2 = g.O.Sink.size c.write_chunks.new.out in
    let w3 = g.O.Sink.written c.flush.new.out in
    let z3 = g.O.Sink.size c.flush.new.out in
    on_sink_err ((cube : Cube Cell) → ShowsPart (g.P.Store.bytes c.args.spool.now) c.args.base c.args.head.now cube → AppendsPrefix w0 (part_bytes c.args.head.now cube) w3) c.flush.result c.of_sink.result c.of_sink.ensures
    (on_err_then c.flush.result (λ (stopped : Stops w2 z2 c.write_chunks.new.pending [] w3 z3) (cube : Cube Cell) (shown : ShowsPart (g.P.Store.bytes c.args.spool.now) c.args.base c.args.head.now cube).
    (let records = records_of (cells_on_all cube (chunks_of c.args.head.now)) in
    subst (λ (f : List ℕ). AppendsPrefix w0 (f ++ records) w3) c.requires.front
    (end_stops w0 w1 w2 w3 z0 z1 z2 z3 c.args.pending.now c.args.front.now records c.send.new.pending c.write_chunks.new.pending [] c.requires.empty
    c.in-Ok.ensures.sent (c.in-Ok-write_chunks.ensures.sent cube shown).sent stopped)))
    c.flush.ensures.sent.stopped)

pub returns-in-Err-write_chunks-clause-prefix : goal.returns-in-Err-write_chunks-clause-prefix
returns-in-Err-write_chunks-clause-prefix g c cube shown =
    let w0 = g.O.Sink.written c.args.out.now in
    let z0 = g.O.Sink.size c.args.out.now in
    let w1 = g.O.Sink.written c.send.new.out in
    let z1 = g.O.Sink.size c.send.new.out in
    let w2 = g.O.Sink.written c.write_chunks.new.out in
    let z2 = g.O.Sink.size c.write_chunks.new.out in
    let records = records_of (cells_on_all cube (chunks_of c.args.head.now)) in
    subst (λ (f : List ℕ). AppendsPrefix w0 (f ++ records) w2) c.requires.front
    (records_stop w0 w1 w2 w2 z0 z1 z2 z2 c.args.pending.now c.args.front.now records c.send.new.pending [] [] c.requires.empty
    c.in-Ok.ensures.sent (c.in-Err-write_chunks.ensures.sent cube shown).stopped)

pub returns-in-Ok-write_chunks-clause-records : goal.returns-in-Ok-write_chunks-clause-records
returns-in-Ok-write_chunks-clause-records g c =
    let w0 = g.O.Sink.written c.args.out.now in
    let z0 = g.O.Sink.size c.args.out.now in
    let w1 = g.O.Sink.written c.send.new.out in
    let z1 = g.O.Sink.size c.send.new.out in
    let w2 = g.O.Sink.written c.write_chunks.new.out in
    let z2 = g.O.Sink.size c.write_chunks.new.out in
    let w3 = g.O.Sink.written c.flush.new.out in
    let z3 = g.O.Sink.size c.flush.new.out in
    on_sink_ok (AppendsRecords w0 c.args.head.now w3) c.flush.result c.of_sink.result c.of_sink.ensures
    (on_ok_both c.flush.result (λ (empty : c.flush.new.pending ≡ []) (sent : Sends w2 z2 c.write_chunks.new.pending [] w3 z3 c.flush.new.pending).
    records_file c.args.head.now w0 w1 w2 w3 z0 z1 z2 z3 c.args.pending.now c.args.front.now c.send.new.pending c.write_chunks.new.pending c.flush.new.pending c.requires.empty c.requires.front
    c.in-Ok.ensures.sent c.in-Ok-write_chunks.ensures.records sent empty)
    c.flush.ensures.empty c.flush.ensures.sent.sent)
