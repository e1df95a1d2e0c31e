use Rattle.std.proofs.Common.{◌≡◌, ◌+◌, ◌≤◌, false, length, is_err, refl, sym, ap, ◌∙◌, subst, arith}
use Rattle.std.proofs.lemmas.Option.{slice_get_read}
use Rattle.oe_steps.proofs.Outcomes.{ok_holds}
use Rattle.oe_cell.specs.declared.cell.Cell.{Cell}
use Rattle.oe_cell.specs.declared.cell.Cell.TheVariants.{Empty}
use Rattle.oe_dims.specs.Cube.{Cube}
use Rattle.oe_dims.specs.Dimensions.{Dimensions}
use Rattle.oe_outside.proofs.Causes.{NeverFalls-trans, then-Rose}
use Rattle.oe_spool.specs.Spooled.{ChangesOnly, HoldsWindow}
use Rattle.oe_window.specs.Cells.{cells_on}
use Rattle.oe_window.specs.Windows.{IsIn, position_count}
use Rattle.oe_window.specs.declared.window.Window.{Window}
use Rattle.oe_engine.specs.Benches.{chunk_of}
use Rattle.oe_engine.specs.Chunks.{HasRecordsOf, HasValidCells}
use Rattle.oe_engine.specs.Runs.{result_shape}
use Rattle.oe_engine.proofs.ChunkLemmas.{each_all, each_more}
use Rattle.oe_engine.proofs.DoneLemmas.{cells_counted}
use Rattle.oe_engine.proofs.NextChunkLemmas.{changes_among, changes_more, records_before, records_here, valid_here}
use Rattle.oe_engine.proofs.chunks.write_chunks.Goals as goal

pub result_cells-cells-requires : goal.result_cells-cells-requires
result_cells-cells-requires g c =
    let b = c.index-benches-index.result in
    let here = slice_get_read c.args.benches.now (length c.args.benches.now) c.loop-index.index b refl c.loop-index-test.true c.index-benches-index.is in
    (c.requires.done c.loop-index.index b here).bench

pub write_window-requires-clause-counted : goal.write_window-requires-clause-counted
write_window-requires-clause-counted g c =
    let p = c.args.plan.now in
    let k = c.args.first + c.loop-index.index in
    let b = c.index-benches-index.result in
    let here = slice_get_read c.args.benches.now (length c.args.benches.now) c.loop-index.index b refl c.loop-index-test.true c.index-benches-index.is in
    let done = c.requires.done c.loop-index.index b here in
    cells_counted p c.chunks-chunks.ensures.valid k b done c.result_cells-cells.result.now (c.result_cells-cells.ensures.done k done.state)
    ∙ ap position_count (sym c.chunk-window.ensures.value)

pub returns-then-is_err-clause-changes : goal.returns-then-is_err-clause-changes
returns-then-is_err-clause-changes g c =
    let p = c.args.plan.now in
    let first = c.args.first in
    let n = c.loop-index.index in
    let start = g.P.Store.bytes c.args.spool.now in
    let old = g.P.Store.bytes c.loop-index.spool in
    let new = g.P.Store.bytes c.write_window.new.spool in
    let kept : ChangesOnly c.args.base (result_shape p) (IsIn (chunk_of p (first + n))) old new =
    subst (λ (d : Dimensions). ChangesOnly c.args.base d (IsIn (chunk_of p (first + n))) old new) c.shape.ensures.value
    (subst (λ (w : Window). ChangesOnly c.args.base c.shape.result.now (IsIn w) old new) c.chunk-window.ensures.value c.write_window.ensures.kept) in
    let within : n + 1 ≤ length c.args.benches.now = omega (arith, c.loop-index-test.true) in
    changes_among p c.args.base first (n + 1) (length c.args.benches.now) start new within
    (changes_more p c.args.base first n start old new c.loop-index.invariant.changes kept)

pub returns-then-is_err-clause-cause : goal.returns-then-is_err-clause-cause
returns-then-is_err-clause-cause g c =
    let cause = c.write_window.ensures.cause in
    record {
      count = NeverFalls-trans c.loop-index.invariant.faults cause.count;
      failed = λ e. then-Rose c.loop-index.invariant.faults (cause.failed (sym c.is_err.ensures.value ∙ c.if-is_err.true));
    }

pub loop-index-preserved : goal.loop-index-preserved
loop-index-preserved g c =
    let p = c.args.plan.now in
    let is = c.chunks-chunks.ensures.valid in
    let base = c.args.base in
    let first = c.args.first in
    let n = c.loop-index.index in
    let benches = c.args.benches.now in
    let start = g.P.Store.bytes c.args.spool.now in
    let old = g.P.Store.bytes c.loop-index.spool in
    let new = g.P.Store.bytes c.write_window.new.spool in
    let b = c.index-benches-index.result in
    let here = slice_get_read benches (length benches) n b refl c.loop-index-test.true c.index-benches-index.is in
    let done = c.requires.done n b here in
    let cells = c.result_cells-cells.result.now in
    let are = c.result_cells-cells.ensures.done (first + n) done.state in
    let shape_is = c.shape.ensures.value in
    let window_is = c.chunk-window.ensures.value in
    let kept : ChangesOnly base (result_shape p) (IsIn (chunk_of p (first + n))) old new =
    subst (λ (d : Dimensions). ChangesOnly base d (IsIn (chunk_of p (first + n))) old new) shape_is
    (subst (λ (w : Window). ChangesOnly base c.shape.result.now (IsIn w) old new) window_is c.write_window.ensures.kept) in
    let written : (cube : Cube Cell) → cube.shape ≡ c.shape.result.now → cells_on Empty cube c.chunk-window.result ≡ cells
    → HoldsWindow new base cube c.chunk-window.result =
    ok_holds ((cube : Cube Cell) → cube.shape ≡ c.shape.result.now → cells_on Empty cube c.chunk-window.result ≡ cells
    → HoldsWindow new base cube c.chunk-window.result) c.write_window.result (sym c.is_err.ensures.value ∙ c.if-is_err.false)
    c.write_window.ensures.written in
    let writes : (cube : Cube Cell) → cube.shape ≡ result_shape p → cells_on Empty cube (chunk_of p (first + n)) ≡ cells
    → HoldsWindow new base cube (chunk_of p (first + n)) = λ cube of_shape same.
    subst (λ (w : Window). HoldsWindow new base cube w) window_is
    (written cube (of_shape ∙ sym shape_is) (ap (cells_on Empty cube) window_is ∙ same)) in
    record {
      written = each_more first (HasRecordsOf p new base) benches n b here
          (records_before p is first n base old new benches kept c.loop-index.invariant.written)
          (records_here p is first n b cells are base new writes);
      valid = each_more first (HasValidCells p) benches n b here c.loop-index.invariant.valid
          (valid_here p is first n b cells are c.recall_numbers.ensures);
      changes = changes_more p base first n start old new c.loop-index.invariant.changes kept;
      faults = NeverFalls-trans c.loop-index.invariant.faults c.write_window.ensures.cause.count;
    }

pub returns-clause-written : goal.returns-clause-written
returns-clause-written g c =
    each_all c.args.first (HasRecordsOf c.args.plan.now (g.P.Store.bytes c.loop-index.spool) c.args.base) c.args.benches.now c.loop-index.index
    (omega (arith, c.loop-index-test.false)) c.loop-index.invariant.written

pub returns-clause-valid : goal.returns-clause-valid
returns-clause-valid g c =
    each_all c.args.first (HasValidCells c.args.plan.now) c.args.benches.now c.loop-index.index
    (omega (arith, c.loop-index-test.false)) c.loop-index.invariant.valid

pub returns-clause-changes : goal.returns-clause-changes
returns-clause-changes g c =
    changes_among c.args.plan.now c.args.base c.args.first c.loop-index.index (length c.args.benches.now)
    (g.P.Store.bytes c.args.spool.now) (g.P.Store.bytes c.loop-index.spool) c.loop-index.auto.index-end c.loop-index.invariant.changes
