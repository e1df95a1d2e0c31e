use Rattle.std.proofs.Common.{◌≡◌, ℕ, ◌+◌, ◌<◌, length, None, refl, sym, ap, ◌∙◌, subst, arith}
use Rattle.std.proofs.lemmas.Option.{slice_get_read}
use Rattle.oe_cell.specs.declared.cell.Cell.{Cell}
use Rattle.oe_cell.specs.declared.cell.Cell.TheVariants.{Empty}
use Rattle.oe_dims.specs.Cube.{Cube}
use Rattle.oe_spool.specs.Least.{IsLeastOver, lesser_of}
use Rattle.oe_spool.specs.Spooled.{IsInSome}
use Rattle.oe_spool.proofs.LeastLemmas.{none_first, none_second}
use Rattle.oe_window.specs.Cells.{cells_on}
use Rattle.oe_window.specs.Windows.{IsIn, position_count}
use Rattle.oe_window.specs.declared.window.Window.{Window}
use Rattle.oe_engine.specs.Benches.{chunk_of}
use Rattle.oe_engine.specs.Chunks.{HasNoOver}
use Rattle.oe_engine.specs.Runs.{chunks_from, result_shape}
use Rattle.oe_engine.proofs.ChunkLemmas.{each_all, each_more}
use Rattle.oe_engine.proofs.DoneLemmas.{cells_counted}
use Rattle.oe_engine.proofs.NextChunkLemmas.{least_more, none_here}
use Rattle.oe_engine.proofs.chunks.least_of_chunks.Goals as goal

pub result_cells-cells-requires : goal.result_cells-cells-requires
result_cells-cells-requires c =
    let b = c.index-benches-index.result in
    let here = slice_get_read c.args.benches.now (length c.args.benches.now) c.loop-index.index b refl c.loop-index-test.true c.index-benches-index.is in
    (c.requires.done c.loop-index.index b here).bench

pub least_over-requires-clause-counted : goal.least_over-requires-clause-counted
least_over-requires-clause-counted c =
    let p = c.args.plan.now in
    let k = c.args.first + c.loop-index.index in
    let b = c.index-benches-index.result in
    let here = slice_get_read c.args.benches.now (length c.args.benches.now) c.loop-index.index b refl c.loop-index-test.true c.index-benches-index.is in
    let done = c.requires.done c.loop-index.index b here in
    cells_counted p c.chunks-chunks.ensures.valid k b done c.result_cells-cells.result.now (c.result_cells-cells.ensures.done k done.state)
    ∙ ap position_count (sym c.chunk-window.ensures.value)

pub loop-index-preserved : goal.loop-index-preserved
loop-index-preserved c =
    let p = c.args.plan.now in
    let is = c.chunks-chunks.ensures.valid in
    let first = c.args.first in
    let n = c.loop-index.index in
    let benches = c.args.benches.now in
    let b = c.index-benches-index.result in
    let here = slice_get_read benches (length benches) n b refl c.loop-index-test.true c.index-benches-index.is in
    let done = c.requires.done n b here in
    let cells = c.result_cells-cells.result.now in
    let are = c.result_cells-cells.ensures.done (first + n) done.state in
    let found = c.least_over.result in
    let window_is = c.chunk-window.ensures.value in
    let finds : (cube : Cube Cell) → cube.shape ≡ result_shape p → cells_on Empty cube (chunk_of p (first + n)) ≡ cells
    → IsLeastOver cube (IsIn (chunk_of p (first + n))) found = λ cube of_shape same.
    subst (λ (w : Window). IsLeastOver cube (IsIn w) found) window_is
    (c.least_over.ensures cube (of_shape ∙ sym c.shape.ensures.value)
    (ap (cells_on Empty cube) window_is ∙ same)) in
    record {
      of_cubes = λ cube on. subst (IsLeastOver cube (IsInSome (chunks_from p first (n + 1)))) (sym c.lesser-least.ensures)
          (least_more p is first n b cells are found finds cube (on n b here) c.loop-index.least (c.loop-index.invariant.of_cubes cube on));
      none = λ e.
          let none : lesser_of c.loop-index.least found ≡ None = sym c.lesser-least.ensures ∙ e in
          each_more first (HasNoOver p) benches n b here (c.loop-index.invariant.none (none_first c.loop-index.least found none))
          (none_here p is first n b cells are found finds done (none_second c.loop-index.least found none));
    }

pub returns : goal.returns
returns c =
    let p = c.args.plan.now in
    let benches = c.args.benches.now in
    let all : c.loop-index.index ≡ length benches = omega (arith, c.loop-index.auto.index-end, c.loop-index-test.false) in
    record {
      of_cubes = λ cube on. subst (λ n. IsLeastOver cube (IsInSome (chunks_from p c.args.first n)) c.loop-index.least) all
          (c.loop-index.invariant.of_cubes cube on);
      none = λ e. each_all c.args.first (HasNoOver p) benches c.loop-index.index (omega (arith, c.loop-index-test.false))
          (c.loop-index.invariant.none e);
    }
