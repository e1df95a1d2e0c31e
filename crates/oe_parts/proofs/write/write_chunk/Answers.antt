use Rattle.std.proofs.Common.{◌≡◌, ◌<◌, ◌+◌, ◌*◌, ℕ, List, Option, Ok, take, drop, refl, sym, ap, ◌∙◌, subst, arith}
use Rattle.std.proofs.lemmas.List.{length-take-le}
use Rattle.std.proofs.lemmas.Grind.{common_steps}
use Rattle.oe_cell.specs.Record.{records_of}
use Rattle.oe_cell.specs.declared.cell.Cell.{Cell}
use Rattle.oe_cell.specs.declared.cell.Cell.TheVariants.{Empty}
use Rattle.oe_outside.proofs.Causes.{NeverFalls-refl, NeverFalls-trans}
use Rattle.oe_render.specs.Rendered.{HasRendered}
use Rattle.oe_render.proofs.Sending.{rendered_none}
use Rattle.oe_window.specs.Cells.{cells_on}
use Rattle.oe_window.specs.Parts.{row_count, row_of}
use Rattle.oe_window.specs.Windows.{position_count, span_length}
use Rattle.oe_window.proofs.WholeLemmas.{count_within}
use Rattle.oe_parts.specs.Rows.{Shows}
use Rattle.oe_parts.specs.Sent.{SendsRecords}
use Rattle.oe_parts.specs.Spooled.{TellsNoRecordFrom}
use Rattle.oe_parts.proofs.SentLemmas.{records_sent_more, records_sent_none}
use Rattle.oe_parts.proofs.ShownLemmas.{row_size, rows_all, rows_more}
use Rattle.oe_parts.proofs.WriteLemmas.{cause_then, none_taken, row_refuses, row_text, rows_rest, text_more, text_stops}
use Rattle.oe_parts.proofs.write.write_chunk.Goals as goal

pub rows-number-end-requires : goal.rows-number-end-requires
rows-number-end-requires g c =
    omega (arith, count_within c.args.shape.now c.args.window.now c.requires.window.within, c.cells-cells.ensures.value, c.cells-cells.ensures.most)

pub loop-number-init : goal.loop-number-init
loop-number-init g c =
    let w = c.args.window.now in
    let len = span_length w.x in
    let none : 0 * len ≡ 0 = omega arith in
    record {
      sent = λ cube same shown. subst (λ (t : List ℕ). HasRendered g.O.Sink.written g.O.Sink.size g.O.Sink.faults c.args.out.now c.args.pending.now t c.args.out.now c.args.pending.now (Ok (tt {0}))) (sym (none_taken len (cells_on Empty cube w)))
          (rendered_none c.args.out.now c.args.pending.now (tt {0}));
      records = subst (λ (m : ℕ). SendsRecords (g.O.Sink.written c.args.out.now) (g.O.Sink.size c.args.out.now) c.args.pending.now m (g.O.Sink.written c.args.out.now) (g.O.Sink.size c.args.out.now) c.args.pending.now) (sym none)
          (records_sent_none (g.O.Sink.written c.args.out.now) (g.O.Sink.size c.args.out.now) c.args.pending.now);
      same = refl;
      spool_falls = NeverFalls-refl (g.P.Store.faults c.args.spool.now);
      sink_falls = NeverFalls-refl (g.O.Sink.faults c.args.out.now);
    }

pub write_row-requires : goal.write_row-requires
write_row-requires g c = record {
  room = record {
    base_low = c.requires.room.base_low;
    few = omega (arith, c.size-count.ensures.value, c.row_at-first.ensures.end, c.cells-cells.ensures.value, c.cells-cells.ensures.most);
    buffer_long = length-take-le (17 * c.size-count.result) c.loop-number.bytes (
        omega (arith, c.size-count.ensures.value, row_size c.args.window.now c.row_at-first.result.0 c.loop-number.number c.row_at-first.ensures.row, c.requires.window.short, c.requires.room.buffer_long, c.loop-number.auto.bytes));
  };
}

pub returns-in-Err-clause-sent : goal.returns-in-Err-clause-sent
returns-in-Err-clause-sent g c cube same shown =
    let d = c.args.shape.now in
    let w = c.args.window.now in
    let n = c.loop-number.number in
    let row = c.row_at-first.result.0 in
    let first = c.row_at-first.result.1 in
    let is = c.row_at-first.ensures.row in
    let numbers = c.row_at-first.ensures.numbers in
    let below : n < row_count w = omega (arith, c.loop-number-test.true, c.rows-number-end.ensures.value) in
    let size : c.size-count.result ≡ position_count row = c.size-count.ensures.value in
    let cells = cells_on Empty cube w in
    let len = span_length w.x in
    let spool = g.P.Store.bytes c.args.spool.now in
    let text = row_text spool c.args.base first n cube d w row same is numbers below shown in
    let shows : Shows (g.P.Store.bytes c.loop-number.spool) (c.args.base + 17 * first) (cells_on Empty cube (row_of w n)) = subst (λ (o : Option (List ℕ)). Shows o (c.args.base + 17 * first) (cells_on Empty cube (row_of w n))) (sym c.loop-number.invariant.same) text.shown in
    text_stops g.O.Sink.written g.O.Sink.size g.O.Sink.faults c.args.out.now c.loop-number.out c.write_row.new.out c.args.pending.now c.loop-number.pending c.write_row.new.pending
    (records_of (take (n * len) cells)) (records_of (cells_on Empty cube (row_of w n))) (records_of (take ((n + 1) * len) cells)) (records_of (drop ((n + 1) * len) cells)) (records_of cells) c.in-Err.fail
    (rows_more cube w n below) (rows_rest cube w n) (c.loop-number.invariant.sent cube same shown)
    (c.in-Err.ensures.sent (cells_on Empty cube (row_of w n)) text.valid (text.long ∙ sym size) shows)

pub returns-in-Err-clause-left : goal.returns-in-Err-clause-left
returns-in-Err-clause-left g c = record {
  same = c.in-Err.ensures.left.same ∙ c.loop-number.invariant.same;
  spool_cause = cause_then c.loop-number.invariant.spool_falls c.in-Err.ensures.left.spool_cause;
  sink_cause = cause_then c.loop-number.invariant.sink_falls c.in-Err.ensures.left.sink_cause;
}

pub returns-in-Err-clause-damage : goal.returns-in-Err-clause-damage
returns-in-Err-clause-damage g c =
    let d = c.args.shape.now in
    let w = c.args.window.now in
    let n = c.loop-number.number in
    let row = c.row_at-first.result.0 in
    let first = c.row_at-first.result.1 in
    let is = c.row_at-first.ensures.row in
    let numbers = c.row_at-first.ensures.numbers in
    let below : n < row_count w = omega (arith, c.loop-number-test.true, c.rows-number-end.ensures.value) in
    let size : c.size-count.result ≡ position_count row = c.size-count.ensures.value in
    row_refuses (g.P.Store.bytes c.args.spool.now) c.args.base first n d w row c.in-Err.fail is numbers below
    (subst (λ (o : Option (List ℕ)). TellsNoRecordFrom o c.args.base first (first + position_count row) c.in-Err.fail) c.loop-number.invariant.same
    (subst (λ (m : ℕ). TellsNoRecordFrom (g.P.Store.bytes c.loop-number.spool) c.args.base first (first + m) c.in-Err.fail) size c.in-Err.ensures.damage))

pub loop-number-preserved : goal.loop-number-preserved
loop-number-preserved g c =
    let d = c.args.shape.now in
    let w = c.args.window.now in
    let n = c.loop-number.number in
    let row = c.row_at-first.result.0 in
    let first = c.row_at-first.result.1 in
    let is = c.row_at-first.ensures.row in
    let numbers = c.row_at-first.ensures.numbers in
    let below : n < row_count w = omega (arith, c.loop-number-test.true, c.rows-number-end.ensures.value) in
    let size : c.size-count.result ≡ position_count row = c.size-count.ensures.value in
    record {
      sent = λ cube same shown. (
          let cells = cells_on Empty cube w in
          let len = span_length w.x in
          let spool = g.P.Store.bytes c.args.spool.now in
          let text = row_text spool c.args.base first n cube d w row same is numbers below shown in
          let shows : Shows (g.P.Store.bytes c.loop-number.spool) (c.args.base + 17 * first) (cells_on Empty cube (row_of w n)) = subst (λ (o : Option (List ℕ)). Shows o (c.args.base + 17 * first) (cells_on Empty cube (row_of w n))) (sym c.loop-number.invariant.same) text.shown in
          text_more g.O.Sink.written g.O.Sink.size g.O.Sink.faults c.args.out.now c.loop-number.out c.write_row.new.out c.args.pending.now c.loop-number.pending c.write_row.new.pending
          (records_of (take (n * len) cells)) (records_of (cells_on Empty cube (row_of w n))) (records_of (take ((n + 1) * len) cells))
          (rows_more cube w n below) (c.loop-number.invariant.sent cube same shown)
          (c.in-Ok.ensures.sent (cells_on Empty cube (row_of w n)) text.valid (text.long ∙ sym size) shows));
      records = (
          let w0 = g.O.Sink.written c.args.out.now in
          let z0 = g.O.Sink.size c.args.out.now in
          let w1 = g.O.Sink.written c.loop-number.out in
          let z1 = g.O.Sink.size c.loop-number.out in
          let w2 = g.O.Sink.written c.write_row.new.out in
          let z2 = g.O.Sink.size c.write_row.new.out in
          let len = span_length w.x in
          let long : c.size-count.result ≡ len = size ∙ row_size w row n is in
          let more : n * len + c.size-count.result ≡ (n + 1) * len = omega (arith, long) in
          subst (λ (m : ℕ). SendsRecords w0 z0 c.args.pending.now m w2 z2 c.write_row.new.pending) more
          (records_sent_more w0 w1 w2 z0 z1 z2 c.args.pending.now c.loop-number.pending c.write_row.new.pending (n * len) c.size-count.result c.loop-number.invariant.records c.in-Ok.ensures.records));
      same = c.in-Ok.ensures.left.same ∙ c.loop-number.invariant.same;
      spool_falls = NeverFalls-trans c.loop-number.invariant.spool_falls c.in-Ok.ensures.left.spool_cause.count;
      sink_falls = NeverFalls-trans c.loop-number.invariant.sink_falls c.in-Ok.ensures.left.sink_cause.count;
    }

pub returns-clause-sent : goal.returns-clause-sent
returns-clause-sent g c cube same shown =
    let w = c.args.window.now in
    let cells = cells_on Empty cube w in
    let len = span_length w.x in
    let rows = c.rows-number-end.result in
    let last : c.loop-number.number ≡ rows = omega (arith, c.loop-number-test.false, c.loop-number.auto.number-end) in
    let all : take (c.loop-number.number * len) cells ≡ cells = ap (λ (m : ℕ). take (m * len) cells) last ∙ rows_all cube w rows c.rows-number-end.ensures.all in
    subst (λ (cs : List Cell). HasRendered g.O.Sink.written g.O.Sink.size g.O.Sink.faults c.args.out.now c.args.pending.now (records_of cs) c.loop-number.out c.loop-number.pending (Ok (tt {0}))) all
    (c.loop-number.invariant.sent cube same shown)

pub returns-clause-records : goal.returns-clause-records
returns-clause-records g c =
    let len = span_length c.args.window.now.x in
    let last : c.loop-number.number ≡ c.rows-number-end.result = omega (arith, c.loop-number-test.false, c.loop-number.auto.number-end) in
    subst (λ (m : ℕ). SendsRecords (g.O.Sink.written c.args.out.now) (g.O.Sink.size c.args.out.now) c.args.pending.now m (g.O.Sink.written c.loop-number.out) (g.O.Sink.size c.loop-number.out) c.loop-number.pending)
    (ap (λ (n : ℕ). n * len) last ∙ c.rows-number-end.ensures.all) c.loop-number.invariant.records

pub returns-clause-damage : goal.returns-clause-damage
returns-clause-damage g c = grind (arith, common_steps) steps 2000000

pub returns-clause-left : goal.returns-clause-left
returns-clause-left g c = grind (arith, common_steps) steps 2000000

pub returns-in-Err-clause-records : goal.returns-in-Err-clause-records
returns-in-Err-clause-records g c = grind (arith, common_steps) steps 2000000
