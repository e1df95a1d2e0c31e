use Rattle.std.proofs.Common.{◌≡◌, ◌<◌, ◌+◌, ◌-◌, ◌*◌, ℕ, List, Option, None, refl, sym, ap, ◌∙◌, subst, arith}
use Rattle.std.specs.List.{All}
use Rattle.oe_cell.specs.Cells.{IsCell}
use Rattle.oe_cell.specs.declared.cell.Cell.TheVariants.{Empty}
use Rattle.oe_dims.specs.Dimensions.{Dimensions}
use Rattle.oe_outside.proofs.Causes.{NeverFalls-refl, NeverFalls-trans}
use Rattle.oe_spool.specs.Spooled.{ChangesOnly}
use Rattle.oe_window.specs.Cells.{cells_on}
use Rattle.oe_window.specs.Chunks.{Tiling, chunk_window}
use Rattle.oe_window.specs.Runs.{window_numbers}
use Rattle.oe_window.specs.Windows.{IsIn, position_count}
use Rattle.oe_window.specs.declared.window.Window.{Window}
use Rattle.oe_parts.specs.Head.{PartHead, grid_of}
use Rattle.oe_parts.specs.Laid.{AreLaid, HaveRecords, IsInFirst, IsInPart, TellsPiece}
use Rattle.oe_parts.specs.PartFile.{part_cells}
use Rattle.oe_parts.specs.Rows.{HaveRecordsAt, Shows}
use Rattle.oe_parts.proofs.CellLemmas.{cells_until, chunk_few, until_more}
use Rattle.oe_parts.proofs.LaidLemmas.{changes_none, have_none, laid_none}
use Rattle.oe_parts.proofs.LayLemmas.{chunk_sets}
use Rattle.oe_parts.proofs.LaySteps.{IsChunkLaid, chunk_cube, chunk_damage, chunk_some, chunk_then}
use Rattle.oe_parts.proofs.PartSizes.{part_few}
use Rattle.oe_parts.proofs.SoundLemmas.{records_then}
use Rattle.oe_parts.proofs.WriteLemmas.{cause_then}
use Rattle.oe_parts.proofs.laying.lay_part.Goals as goal

pub loop-chunk-init : goal.loop-chunk-init
loop-chunk-init g c =
    let h = c.args.head.now in
    let spool = g.P.Store.bytes c.args.spool.now in
    let base = c.args.base in
    let first = ap (λ (i : PartHead). i.first) c.head.view_is in
    let none : c.head.inside.first - h.first ≡ 0 = omega (arith, first) in
    record {
      done = sym (ap (cells_until h) none);
      few = omega arith;
      cube = λ cube same all shows. subst (λ (m : ℕ). AreLaid spool base cube (IsInFirst (chunk_sets h) m) None) (sym none) (laid_none spool base cube (chunk_sets h));
      some = subst (λ (m : ℕ). HaveRecords spool base h.shape (IsInFirst (chunk_sets h) m) None) (sym none) (have_none spool base h.shape (chunk_sets h));
      sound = λ index below. absurd (omega (arith, below));
      changes = changes_none spool base h.shape (IsInPart h);
      same = refl;
      part_falls = NeverFalls-refl (g.S.Store.faults c.args.store.now);
      spool_falls = NeverFalls-refl (g.P.Store.faults c.args.spool.now);
    }

pub lay_chunk-requires-clause-room : goal.lay_chunk-requires-clause-room
lay_chunk-requires-clause-room g c = record { base_low = c.requires.room.base_low; buffer_long = c.loop-chunk.auto.bytes ∙ c.requires.room.buffer_long }

pub size-done-requires : goal.size-done-requires
size-done-requires g c =
    let h = c.args.head.now in
    let k = c.loop-chunk.chunk in
    let window : c.chunk-window.result ≡ chunk_window (grid_of h) k = c.chunk-window.ensures.value ∙ ap (λ (t : Tiling). chunk_window t k) c.grid-grid.ensures in
    omega (arith, chunk_few h k c.requires.valid.sides c.requires.valid.shape, ap position_count window)

pub overflow_add-done : goal.overflow_add-done
overflow_add-done g c =
    let h = c.args.head.now in
    let k = c.loop-chunk.chunk in
    let window : c.chunk-window.result ≡ chunk_window (grid_of h) k = c.chunk-window.ensures.value ∙ ap (λ (t : Tiling). chunk_window t k) c.grid-grid.ensures in
    omega (arith, c.loop-chunk.invariant.few, chunk_few h k c.requires.valid.sides c.requires.valid.shape, ap position_count window, c.size-done.ensures.value)

pub returns-in-Err-clause-damage : goal.returns-in-Err-clause-damage
returns-in-Err-clause-damage g c =
    let h = c.args.head.now in
    let k = c.loop-chunk.chunk in
    let n = k - h.first in
    let first = ap (λ (i : PartHead). i.first) c.head.view_is in
    let end = ap (λ (i : PartHead). i.end) c.head.view_is in
    let shape = ap (λ (i : PartHead). i.shape) c.head.view_is in
    let here : k ≡ h.first + n = omega (arith, c.loop-chunk.auto.chunk, first) in
    let window : c.chunk-window.result ≡ chunk_window (grid_of h) (h.first + n) = c.chunk-window.ensures.value ∙ ap (λ (t : Tiling). chunk_window t k) c.grid-grid.ensures ∙ ap (chunk_window (grid_of h)) here in
    let below : n < h.end - h.first = omega (arith, c.loop-chunk-test.true, c.loop-chunk.auto.chunk, first, end) in
    let part = g.S.Store.bytes c.args.store.now in
    let place : c.args.at + 17 * c.loop-chunk.done ≡ c.args.at + 17 * cells_until h n = ap (λ (m : ℕ). c.args.at + 17 * m) c.loop-chunk.invariant.done in
    chunk_damage part c.args.at n h c.in-Err.fail below
    (subst (λ (v : Window). TellsPiece part (c.args.at + 17 * cells_until h n) (window_numbers h.shape v) c.in-Err.fail) window
    (subst (λ (d : Dimensions). TellsPiece part (c.args.at + 17 * cells_until h n) (window_numbers d c.chunk-window.result) c.in-Err.fail) shape
    (subst (λ (m : ℕ). TellsPiece part m (window_numbers c.head.inside.shape c.chunk-window.result) c.in-Err.fail) place
    (subst (λ (o : Option (List ℕ)). TellsPiece o (c.args.at + 17 * c.loop-chunk.done) (window_numbers c.head.inside.shape c.chunk-window.result) c.in-Err.fail) c.loop-chunk.invariant.same
    c.in-Err.ensures.damage))))

pub returns-in-Err-clause-changes : goal.returns-in-Err-clause-changes
returns-in-Err-clause-changes g c =
    let h = c.args.head.now in
    let k = c.loop-chunk.chunk in
    let n = k - h.first in
    let first = ap (λ (i : PartHead). i.first) c.head.view_is in
    let end = ap (λ (i : PartHead). i.end) c.head.view_is in
    let shape = ap (λ (i : PartHead). i.shape) c.head.view_is in
    let here : k ≡ h.first + n = omega (arith, c.loop-chunk.auto.chunk, first) in
    let window : c.chunk-window.result ≡ chunk_window (grid_of h) (h.first + n) = c.chunk-window.ensures.value ∙ ap (λ (t : Tiling). chunk_window t k) c.grid-grid.ensures ∙ ap (chunk_window (grid_of h)) here in
    let below : n < h.end - h.first = omega (arith, c.loop-chunk-test.true, c.loop-chunk.auto.chunk, first, end) in
    let old = g.P.Store.bytes c.args.spool.now in
    let before = g.P.Store.bytes c.loop-chunk.spool in
    let after = g.P.Store.bytes c.lay_chunk.new.spool in
    chunk_then old before after c.args.base n h below c.loop-chunk.invariant.changes
    (subst (λ (v : Window). ChangesOnly c.args.base h.shape (IsIn v) before after) window
    (subst (λ (d : Dimensions). ChangesOnly c.args.base d (IsIn c.chunk-window.result) before after) shape c.lay_chunk.ensures.changes))

pub returns-in-Err-clause-left : goal.returns-in-Err-clause-left
returns-in-Err-clause-left g c = record {
  same = c.in-Err.ensures.left.same ∙ c.loop-chunk.invariant.same;
  part_cause = cause_then c.loop-chunk.invariant.part_falls c.in-Err.ensures.left.part_cause;
  spool_cause = cause_then c.loop-chunk.invariant.spool_falls c.in-Err.ensures.left.spool_cause;
}

pub loop-chunk-preserved : goal.loop-chunk-preserved
loop-chunk-preserved g c =
    let h = c.args.head.now in
    let k = c.loop-chunk.chunk in
    let n = k - h.first in
    let first = ap (λ (i : PartHead). i.first) c.head.view_is in
    let end = ap (λ (i : PartHead). i.end) c.head.view_is in
    let shape = ap (λ (i : PartHead). i.shape) c.head.view_is in
    let here : k ≡ h.first + n = omega (arith, c.loop-chunk.auto.chunk, first) in
    let window : c.chunk-window.result ≡ chunk_window (grid_of h) (h.first + n) = c.chunk-window.ensures.value ∙ ap (λ (t : Tiling). chunk_window t k) c.grid-grid.ensures ∙ ap (chunk_window (grid_of h)) here in
    let below : n < h.end - h.first = omega (arith, c.loop-chunk-test.true, c.loop-chunk.auto.chunk, first, end) in
    let next : k + 1 - h.first ≡ n + 1 = omega (arith, c.loop-chunk.auto.chunk, first) in
    let part = g.S.Store.bytes c.args.store.now in
    let before = g.P.Store.bytes c.loop-chunk.spool in
    let after = g.P.Store.bytes c.lay_chunk.new.spool in
    let at = c.args.at in
    let base = c.args.base in
    let found = c.in-Ok.found in
    let least = c.loop-chunk.least in
    let place : at + 17 * c.loop-chunk.done ≡ at + 17 * cells_until h n = ap (λ (m : ℕ). at + 17 * m) c.loop-chunk.invariant.done in
    let total : c.loop-chunk.done + c.size-done.result ≡ cells_until h (n + 1) = omega (arith, until_more h n, ap position_count window, c.size-done.ensures.value, c.loop-chunk.invariant.done) in
    let changes : ChangesOnly base h.shape (chunk_sets h n) before after = subst (λ (v : Window). ChangesOnly base h.shape (IsIn v) before after) window
    (subst (λ (d : Dimensions). ChangesOnly base d (IsIn c.chunk-window.result) before after) shape c.lay_chunk.ensures.changes) in
    let laid : IsChunkLaid part before after at base n h found = record {
      valid = c.requires.valid;
      below = below;
      cube = λ cube same all shows. subst (λ (v : Window). AreLaid after base cube (IsIn v) found) window
          (c.in-Ok.ensures.laid.cube cube (same ∙ sym shape) (subst (λ (v : Window). All IsCell (cells_on Empty cube v)) (sym window) all)
          (subst (λ (o : Option (List ℕ)). Shows o (at + 17 * c.loop-chunk.done) (cells_on Empty cube c.chunk-window.result)) (sym c.loop-chunk.invariant.same)
          (subst (λ (m : ℕ). Shows part m (cells_on Empty cube c.chunk-window.result)) (sym place)
          (subst (λ (v : Window). Shows part (at + 17 * cells_until h n) (cells_on Empty cube v)) (sym window) shows))));
      some = subst (λ (v : Window). HaveRecords after base h.shape (IsIn v) found) window
          (subst (λ (d : Dimensions). HaveRecords after base d (IsIn c.chunk-window.result) found) shape c.in-Ok.ensures.laid.some);
      changes = changes;
    } in
    record {
      done = total ∙ ap (cells_until h) (sym next);
      few = omega (arith, total, part_few h (n + 1) c.requires.valid (omega (arith, below)));
      cube = λ cube same all shows. subst (λ (m : ℕ). AreLaid after base cube (IsInFirst (chunk_sets h) m) c.lesser-least.result) (sym next)
          (subst (AreLaid after base cube (IsInFirst (chunk_sets h) (n + 1))) (sym c.lesser-least.ensures)
          (chunk_cube part before after at base n h least found laid cube same all shows (c.loop-chunk.invariant.cube cube same all shows)));
      some = subst (λ (m : ℕ). HaveRecords after base h.shape (IsInFirst (chunk_sets h) m) c.lesser-least.result) (sym next)
          (subst (HaveRecords after base h.shape (IsInFirst (chunk_sets h) (n + 1))) (sym c.lesser-least.ensures)
          (chunk_some part before after at base n h least found laid c.loop-chunk.invariant.some));
      sound = records_then part at c.loop-chunk.done c.size-done.result c.loop-chunk.invariant.sound
          (subst (λ (m : ℕ). HaveRecordsAt part (at + 17 * c.loop-chunk.done) m) (sym c.size-done.ensures.value)
          (subst (λ (o : Option (List ℕ)). HaveRecordsAt o (at + 17 * c.loop-chunk.done) (position_count c.chunk-window.result)) c.loop-chunk.invariant.same c.in-Ok.ensures.laid.sound));
      changes = chunk_then (g.P.Store.bytes c.args.spool.now) before after base n h below c.loop-chunk.invariant.changes changes;
      same = c.lay_chunk.ensures.left.same ∙ c.loop-chunk.invariant.same;
      part_falls = NeverFalls-trans c.loop-chunk.invariant.part_falls c.lay_chunk.ensures.left.part_cause.count;
      spool_falls = NeverFalls-trans c.loop-chunk.invariant.spool_falls c.lay_chunk.ensures.left.spool_cause.count;
    }

pub returns-clause-laid : goal.returns-clause-laid
returns-clause-laid g c =
    let h = c.args.head.now in
    let base = c.args.base in
    let store = g.P.Store.bytes c.loop-chunk.spool in
    let least = c.loop-chunk.least in
    let first = ap (λ (i : PartHead). i.first) c.head.view_is in
    let end = ap (λ (i : PartHead). i.end) c.head.view_is in
    let last : c.loop-chunk.chunk - h.first ≡ h.end - h.first = omega (arith, c.loop-chunk-test.false, c.loop-chunk.auto.chunk-end, first, end, c.requires.valid.some) in
    let all : c.loop-chunk.done ≡ part_cells h = c.loop-chunk.invariant.done ∙ ap (cells_until h) last in
    record {
      cube = λ cube same valid shows. subst (λ (m : ℕ). AreLaid store base cube (IsInFirst (chunk_sets h) m) least) last (c.loop-chunk.invariant.cube cube same valid shows);
      some = subst (λ (m : ℕ). HaveRecords store base h.shape (IsInFirst (chunk_sets h) m) least) last c.loop-chunk.invariant.some;
      sound = subst (λ (m : ℕ). HaveRecordsAt (g.S.Store.bytes c.args.store.now) c.args.at m) all c.loop-chunk.invariant.sound;
    }
