use Rattle.std.proofs.Common.{◌≡◌, ◌<◌, ◌≤◌, ◌+◌, ◌-◌, ◌++◌, ℕ, suc, List, Option, Ok, map, refl, rules, sym, ap, ◌∙◌, subst, arith}
use Rattle.std.specs.List.{range_with_len}
use Rattle.oe_cell.specs.Record.{records_of}
use Rattle.oe_cell.specs.declared.cell.Cell.TheVariants.{Empty}
use Rattle.oe_dims.specs.Dimensions.{Dimensions}
use Rattle.oe_dims.specs.Positions.{Position}
use Rattle.oe_outside.proofs.Causes.{NeverFalls-refl, NeverFalls-trans}
use Rattle.oe_render.specs.Rendered.{HasRendered}
use Rattle.oe_render.proofs.Sending.{rendered_none}
use Rattle.oe_spool.specs.Spooled.{IsInSome}
use Rattle.oe_window.specs.Cells.{cells_on}
use Rattle.oe_window.specs.Chunks.{Tiling, chunk_window}
use Rattle.oe_window.specs.Windows.{IsIn, position_count}
use Rattle.oe_window.specs.declared.window.Window.{Window}
use Rattle.oe_parts.specs.Head.{PartHead, grid_of}
use Rattle.oe_parts.specs.PartFile.{cells_on_all, chunks_of}
use Rattle.oe_parts.specs.Sent.{SendsRecords}
use Rattle.oe_parts.specs.Spooled.{ShowsRecords, TellsNoRecord}
use Rattle.oe_parts.proofs.CellLemmas.{cells_until, until_more}
use Rattle.oe_parts.proofs.ChunkLemmas.{chunks_more, chunks_rest, in_range}
use Rattle.oe_parts.proofs.SentLemmas.{records_sent_more, records_sent_none}
use Rattle.oe_parts.proofs.ShownLemmas.{shown_fewer}
use Rattle.oe_parts.proofs.WriteLemmas.{cause_then, refuses_more, text_more, text_stops}
use Rattle.oe_parts.proofs.write.write_chunks.Goals as goal

pub loop-chunk-init : goal.loop-chunk-init
loop-chunk-init g c =
    let h = c.args.head.now in
    let f = chunk_window (grid_of h) in
    let first = ap (λ (i : PartHead). i.first) c.head.view_is in
    let none : c.head.inside.first - h.first ≡ 0 = omega (arith, first) in
    record {
      sent = λ cube shown. subst (λ (m : ℕ). HasRendered g.O.Sink.written g.O.Sink.size g.O.Sink.faults c.args.out.now c.args.pending.now (records_of (cells_on_all cube (map f (range_with_len h.first m)))) c.args.out.now c.args.pending.now (Ok (tt {0}))) (sym none)
          (rendered_none c.args.out.now c.args.pending.now (tt {0}));
      records = subst (λ (m : ℕ). SendsRecords (g.O.Sink.written c.args.out.now) (g.O.Sink.size c.args.out.now) c.args.pending.now (cells_until h m) (g.O.Sink.written c.args.out.now) (g.O.Sink.size c.args.out.now) c.args.pending.now) (sym none)
          (records_sent_none (g.O.Sink.written c.args.out.now) (g.O.Sink.size c.args.out.now) c.args.pending.now);
      same = refl;
      spool_falls = NeverFalls-refl (g.P.Store.faults c.args.spool.now);
      sink_falls = NeverFalls-refl (g.O.Sink.faults c.args.out.now);
      bytes = search rules;
    }

pub write_chunk-requires-clause-room : goal.write_chunk-requires-clause-room
write_chunk-requires-clause-room g c = record { base_low = c.requires.base; buffer_long = c.loop-chunk.invariant.bytes }

pub returns-in-Err-clause-sent : goal.returns-in-Err-clause-sent
returns-in-Err-clause-sent g c cube shown =
    let h = c.args.head.now in
    let k = c.loop-chunk.chunk in
    let n = k - h.first in
    let f = chunk_window (grid_of h) in
    let first = ap (λ (i : PartHead). i.first) c.head.view_is in
    let end = ap (λ (i : PartHead). i.end) c.head.view_is in
    let shape = ap (λ (i : PartHead). i.shape) c.head.view_is in
    let window : c.chunk-window.result ≡ f k = c.chunk-window.ensures.value ∙ ap (λ (g : Tiling). chunk_window g k) c.grid-grid.ensures in
    let here : h.first + n ≡ k = omega (arith, c.loop-chunk.auto.chunk, first) in
    let low : h.first ≤ k = omega (arith, c.loop-chunk.auto.chunk, first) in
    let high : k < h.first + (h.end - h.first) = omega (arith, c.loop-chunk-test.true, c.loop-chunk.auto.chunk, first, end) in
    let inside : (p : Position) → IsIn c.chunk-window.result p → IsInSome (chunks_of h) p = λ p i. in_range f h.first (h.end - h.first) k p low high (subst (λ (v : Window). IsIn v p) window i) in
    let before = records_of (cells_on_all cube (map f (range_with_len h.first n))) in
    let both = records_of (cells_on_all cube (map f (range_with_len h.first (suc n)))) in
    let this = records_of (cells_on Empty cube c.chunk-window.result) in
    let more : both ≡ before ++ this = chunks_more cube f h.first n ∙ ap (λ (v : Window). before ++ records_of (cells_on Empty cube v)) (ap f here ∙ sym window) in
    let records : ShowsRecords (g.P.Store.bytes c.args.spool.now) c.args.base cube (IsIn c.chunk-window.result) = shown_fewer (g.P.Store.bytes c.args.spool.now) c.args.base cube (IsInSome (chunks_of h)) (IsIn c.chunk-window.result) inside shown.records in
    let shows = subst (λ (o : Option (List ℕ)). ShowsRecords o c.args.base cube (IsIn c.chunk-window.result)) (sym c.loop-chunk.invariant.same) records in
    let rest = h.end - h.first - suc n in
    let parts : suc n + rest ≡ h.end - h.first = omega (arith, high, low, here) in
    let all : records_of (cells_on_all cube (chunks_of h)) ≡ both ++ records_of (cells_on_all cube (map f (range_with_len (h.first + suc n) rest))) =
    ap (λ (m : ℕ). records_of (cells_on_all cube (map f (range_with_len h.first m)))) (sym parts) ∙ chunks_rest cube f h.first (suc n) rest in
    text_stops g.O.Sink.written g.O.Sink.size g.O.Sink.faults c.args.out.now c.loop-chunk.out c.write_chunk.new.out c.args.pending.now c.loop-chunk.pending c.write_chunk.new.pending
    before this both (records_of (cells_on_all cube (map f (range_with_len (h.first + suc n) rest)))) (records_of (cells_on_all cube (chunks_of h))) c.in-Err.fail
    more all (c.loop-chunk.invariant.sent cube shown) (c.in-Err.ensures.sent cube (shown.shape ∙ sym shape) shows)

pub returns-in-Err-clause-left : goal.returns-in-Err-clause-left
returns-in-Err-clause-left g c = record {
  same = c.in-Err.ensures.left.same ∙ c.loop-chunk.invariant.same;
  spool_cause = cause_then c.loop-chunk.invariant.spool_falls c.in-Err.ensures.left.spool_cause;
  sink_cause = cause_then c.loop-chunk.invariant.sink_falls c.in-Err.ensures.left.sink_cause;
}

pub returns-in-Err-clause-damage : goal.returns-in-Err-clause-damage
returns-in-Err-clause-damage g c =
    let h = c.args.head.now in
    let k = c.loop-chunk.chunk in
    let n = k - h.first in
    let f = chunk_window (grid_of h) in
    let first = ap (λ (i : PartHead). i.first) c.head.view_is in
    let end = ap (λ (i : PartHead). i.end) c.head.view_is in
    let shape = ap (λ (i : PartHead). i.shape) c.head.view_is in
    let window : c.chunk-window.result ≡ f k = c.chunk-window.ensures.value ∙ ap (λ (g : Tiling). chunk_window g k) c.grid-grid.ensures in
    let here : h.first + n ≡ k = omega (arith, c.loop-chunk.auto.chunk, first) in
    let low : h.first ≤ k = omega (arith, c.loop-chunk.auto.chunk, first) in
    let high : k < h.first + (h.end - h.first) = omega (arith, c.loop-chunk-test.true, c.loop-chunk.auto.chunk, first, end) in
    let inside : (p : Position) → IsIn c.chunk-window.result p → IsInSome (chunks_of h) p = λ p i. in_range f h.first (h.end - h.first) k p low high (subst (λ (v : Window). IsIn v p) window i) in
    refuses_more (g.P.Store.bytes c.args.spool.now) c.args.base h.shape (IsIn c.chunk-window.result) (IsInSome (chunks_of h)) c.in-Err.fail inside
    (subst (λ (e : Dimensions). TellsNoRecord (g.P.Store.bytes c.args.spool.now) c.args.base e (IsIn c.chunk-window.result) c.in-Err.fail) shape
    (subst (λ (o : Option (List ℕ)). TellsNoRecord o c.args.base c.head.inside.shape (IsIn c.chunk-window.result) c.in-Err.fail) c.loop-chunk.invariant.same c.in-Err.ensures.damage))

pub loop-chunk-preserved : goal.loop-chunk-preserved
loop-chunk-preserved g c =
    let h = c.args.head.now in
    let k = c.loop-chunk.chunk in
    let n = k - h.first in
    let f = chunk_window (grid_of h) in
    let first = ap (λ (i : PartHead). i.first) c.head.view_is in
    let end = ap (λ (i : PartHead). i.end) c.head.view_is in
    let shape = ap (λ (i : PartHead). i.shape) c.head.view_is in
    let window : c.chunk-window.result ≡ f k = c.chunk-window.ensures.value ∙ ap (λ (g : Tiling). chunk_window g k) c.grid-grid.ensures in
    let here : h.first + n ≡ k = omega (arith, c.loop-chunk.auto.chunk, first) in
    let low : h.first ≤ k = omega (arith, c.loop-chunk.auto.chunk, first) in
    let high : k < h.first + (h.end - h.first) = omega (arith, c.loop-chunk-test.true, c.loop-chunk.auto.chunk, first, end) in
    let inside : (p : Position) → IsIn c.chunk-window.result p → IsInSome (chunks_of h) p = λ p i. in_range f h.first (h.end - h.first) k p low high (subst (λ (v : Window). IsIn v p) window i) in
    let next : k + 1 - h.first ≡ suc n = omega (arith, low) in
    let next_one : k + 1 - h.first ≡ n + 1 = omega (arith, low) in
    record {
      sent = λ cube shown. (
          let before = records_of (cells_on_all cube (map f (range_with_len h.first n))) in
          let both = records_of (cells_on_all cube (map f (range_with_len h.first (suc n)))) in
          let this = records_of (cells_on Empty cube c.chunk-window.result) in
          let more : both ≡ before ++ this = chunks_more cube f h.first n ∙ ap (λ (v : Window). before ++ records_of (cells_on Empty cube v)) (ap f here ∙ sym window) in
          let records : ShowsRecords (g.P.Store.bytes c.args.spool.now) c.args.base cube (IsIn c.chunk-window.result) = shown_fewer (g.P.Store.bytes c.args.spool.now) c.args.base cube (IsInSome (chunks_of h)) (IsIn c.chunk-window.result) inside shown.records in
          let shows = subst (λ (o : Option (List ℕ)). ShowsRecords o c.args.base cube (IsIn c.chunk-window.result)) (sym c.loop-chunk.invariant.same) records in
          subst (λ (m : ℕ). HasRendered g.O.Sink.written g.O.Sink.size g.O.Sink.faults c.args.out.now c.args.pending.now (records_of (cells_on_all cube (map f (range_with_len h.first m)))) c.write_chunk.new.out c.write_chunk.new.pending (Ok (tt {0}))) (sym next)
          (text_more g.O.Sink.written g.O.Sink.size g.O.Sink.faults c.args.out.now c.loop-chunk.out c.write_chunk.new.out c.args.pending.now c.loop-chunk.pending c.write_chunk.new.pending
          before this both more (c.loop-chunk.invariant.sent cube shown) (c.in-Ok.ensures.sent cube (shown.shape ∙ sym shape) shows)));
      records = (
          let w0 = g.O.Sink.written c.args.out.now in
          let z0 = g.O.Sink.size c.args.out.now in
          let w1 = g.O.Sink.written c.loop-chunk.out in
          let z1 = g.O.Sink.size c.loop-chunk.out in
          let w2 = g.O.Sink.written c.write_chunk.new.out in
          let z2 = g.O.Sink.size c.write_chunk.new.out in
          let more : cells_until h n + position_count c.chunk-window.result ≡ cells_until h (k + 1 - h.first) =
          omega (arith, until_more h n, ap position_count (window ∙ ap f (sym here)), ap (cells_until h) next_one) in
          subst (λ (m : ℕ). SendsRecords w0 z0 c.args.pending.now m w2 z2 c.write_chunk.new.pending) more
          (records_sent_more w0 w1 w2 z0 z1 z2 c.args.pending.now c.loop-chunk.pending c.write_chunk.new.pending (cells_until h n) (position_count c.chunk-window.result) c.loop-chunk.invariant.records c.in-Ok.ensures.records));
      same = c.in-Ok.ensures.left.same ∙ c.loop-chunk.invariant.same;
      spool_falls = NeverFalls-trans c.loop-chunk.invariant.spool_falls c.in-Ok.ensures.left.spool_cause.count;
      sink_falls = NeverFalls-trans c.loop-chunk.invariant.sink_falls c.in-Ok.ensures.left.sink_cause.count;
      bytes = c.write_chunk.auto.bytes ∙ c.loop-chunk.invariant.bytes;
    }

pub returns-clause-sent : goal.returns-clause-sent
returns-clause-sent g c cube shown =
    let h = c.args.head.now in
    let f = chunk_window (grid_of h) in
    let first = ap (λ (i : PartHead). i.first) c.head.view_is in
    let end = ap (λ (i : PartHead). i.end) c.head.view_is in
    let last : c.loop-chunk.chunk - h.first ≡ h.end - h.first = omega (arith, c.loop-chunk-test.false, c.loop-chunk.auto.chunk-end, first, end, c.requires.valid.some) in
    subst (λ (m : ℕ). HasRendered g.O.Sink.written g.O.Sink.size g.O.Sink.faults c.args.out.now c.args.pending.now (records_of (cells_on_all cube (map f (range_with_len h.first m)))) c.loop-chunk.out c.loop-chunk.pending (Ok (tt {0}))) last
    (c.loop-chunk.invariant.sent cube shown)

pub returns-clause-records : goal.returns-clause-records
returns-clause-records g c =
    let h = c.args.head.now in
    let first = ap (λ (i : PartHead). i.first) c.head.view_is in
    let end = ap (λ (i : PartHead). i.end) c.head.view_is in
    let last : c.loop-chunk.chunk - h.first ≡ h.end - h.first = omega (arith, c.loop-chunk-test.false, c.loop-chunk.auto.chunk-end, first, end, c.requires.valid.some) in
    subst (λ (m : ℕ). SendsRecords (g.O.Sink.written c.args.out.now) (g.O.Sink.size c.args.out.now) c.args.pending.now (cells_until h m) (g.O.Sink.written c.loop-chunk.out) (g.O.Sink.size c.loop-chunk.out) c.loop-chunk.pending) last
    c.loop-chunk.invariant.records
