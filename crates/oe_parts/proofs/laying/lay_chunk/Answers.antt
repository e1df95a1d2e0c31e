use Rattle.std.proofs.Common.{◌≡◌, ◌<◌, ◌≤◌, ◌+◌, ◌*◌, ◌^◌, ℕ, List, Option, refl, sym, ap, ◌∙◌, subst, arith}
use Rattle.std.proofs.lemmas.List.{length-take-le}
use Rattle.oe_outside.specs.Stored.{StaysOutside}
use Rattle.oe_outside.proofs.Causes.{NeverFalls-refl, NeverFalls-trans}
use Rattle.oe_spool.specs.Least.{least_over_of}
use Rattle.oe_window.specs.Parts.{row_count, row_of}
use Rattle.oe_window.specs.Windows.{IsIn, position_count, span_length}
use Rattle.oe_window.proofs.WholeLemmas.{count_within}
use Rattle.oe_parts.specs.Laid.{AreLaid, HaveRecords, IsInFirst, TellsRow}
use Rattle.oe_parts.specs.Rows.{HaveRecordsAt, Shows}
use Rattle.oe_parts.proofs.LaidLemmas.{changes_none, have_none, have_same, laid_none, laid_same}
use Rattle.oe_parts.proofs.ReadLemmas.{shown_cells}
use Rattle.oe_parts.proofs.RowLaidLemmas.{row_back, row_over, row_there, rows_of}
use Rattle.oe_parts.proofs.RowSteps.{IsRowLaid, cause_handed, done_before, row_cube, row_failed, row_numbers, row_some, row_start, row_then, rows_room}
use Rattle.oe_parts.proofs.ShownLemmas.{row_size}
use Rattle.oe_parts.proofs.SliceLemmas.{row_tells}
use Rattle.oe_parts.proofs.SoundLemmas.{records_held, records_more, records_none}
use Rattle.oe_parts.proofs.laying.lay_chunk.Goals as goal

pub rows-number-end-requires : goal.rows-number-end-requires
rows-number-end-requires g c =
    omega (arith, count_within c.args.shape.now c.args.window.now c.requires.window.within, c.cells-cells.ensures.value, c.cells-cells.ensures.most)

pub loop-number-init : goal.loop-number-init
loop-number-init g c =
    let d = c.args.shape.now in
    let w = c.args.window.now in
    let spool = g.P.Store.bytes c.args.spool.now in
    record {
      cube = λ cube same all shows. laid_none spool c.args.base cube (rows_of w);
      some = have_none spool c.args.base d (rows_of w);
      sound = records_none (g.S.Store.bytes c.args.store.now) c.args.at (span_length w.x);
      changes = changes_none spool c.args.base d (IsIn w);
      same = refl;
      part_falls = NeverFalls-refl (g.S.Store.faults c.args.store.now);
      spool_falls = NeverFalls-refl (g.P.Store.faults c.args.spool.now);
    }

pub overflow_mul-done : goal.overflow_mul-done
overflow_mul-done g c =
    let w = c.args.window.now in
    let count : c.size-count.result ≡ span_length w.x = c.size-count.ensures.value ∙ row_size w c.row_at-first.result.0 c.loop-number.number c.row_at-first.ensures.row in
    let few : position_count w ≤ 2 ^ 40 = omega (arith, count_within c.args.shape.now w c.requires.window.within, c.cells-cells.ensures.value, c.cells-cells.ensures.most) in
    omega (arith, done_before c.loop-number.number c.rows-number-end.result (span_length w.x) (position_count w) c.size-count.result c.loop-number-test.true c.rows-number-end.ensures.all count few)

pub overflow_mul-start : goal.overflow_mul-start
overflow_mul-start g c =
    let w = c.args.window.now in
    let count : c.size-count.result ≡ span_length w.x = c.size-count.ensures.value ∙ row_size w c.row_at-first.result.0 c.loop-number.number c.row_at-first.ensures.row in
    let few : position_count w ≤ 2 ^ 40 = omega (arith, count_within c.args.shape.now w c.requires.window.within, c.cells-cells.ensures.value, c.cells-cells.ensures.most) in
    omega (arith, done_before c.loop-number.number c.rows-number-end.result (span_length w.x) (position_count w) c.size-count.result c.loop-number-test.true c.rows-number-end.ensures.all count few)

pub overflow_add-start : goal.overflow_add-start
overflow_add-start g c =
    let w = c.args.window.now in
    let count : c.size-count.result ≡ span_length w.x = c.size-count.ensures.value ∙ row_size w c.row_at-first.result.0 c.loop-number.number c.row_at-first.ensures.row in
    let few : position_count w ≤ 2 ^ 40 = omega (arith, count_within c.args.shape.now w c.requires.window.within, c.cells-cells.ensures.value, c.cells-cells.ensures.most) in
    omega (arith, c.requires.at, done_before c.loop-number.number c.rows-number-end.result (span_length w.x) (position_count w) c.size-count.result c.loop-number-test.true c.rows-number-end.ensures.all count few)

pub lay_row-requires : goal.lay_row-requires
lay_row-requires g c = record {
  room = record {
    base_low = c.requires.room.base_low;
    few = omega (arith, c.size-count.ensures.value, c.row_at-first.ensures.end, c.cells-cells.ensures.value, c.cells-cells.ensures.most);
    buffer_long = length-take-le (17 * c.size-count.result) c.loop-number.bytes (
        omega (arith, c.size-count.ensures.value, row_size c.args.window.now c.row_at-first.result.0 c.loop-number.number c.row_at-first.ensures.row, c.requires.window.short, c.requires.room.buffer_long, c.loop-number.auto.bytes));
  };
}

pub returns-in-Err-clause-damage : goal.returns-in-Err-clause-damage
returns-in-Err-clause-damage g c =
    let d = c.args.shape.now in
    let w = c.args.window.now in
    let n = c.loop-number.number in
    let row = c.row_at-first.result.0 in
    let first = c.row_at-first.result.1 in
    let is = c.row_at-first.ensures.row in
    let fail = c.in-Err.fail in
    let part = g.S.Store.bytes c.args.store.now in
    let now = g.S.Store.bytes c.loop-number.store in
    let below : n < row_count w = omega (arith, c.loop-number-test.true, c.rows-number-end.ensures.value) in
    let size : c.size-count.result ≡ position_count row = c.size-count.ensures.value in
    let numbers = row_numbers d w row first n is c.row_at-first.ensures.numbers in
    let counted = size ∙ ap position_count is in
    let start = row_start w row c.args.at n c.size-count.result is c.size-count.ensures.value in
    row_tells part c.args.at d w n first fail below numbers
    (subst (λ (o : Option (List ℕ)). TellsRow o (c.args.at + 17 * (n * span_length w.x)) first (position_count (row_of w n)) fail) c.loop-number.invariant.same
    (subst (λ (k : ℕ). TellsRow now k first (position_count (row_of w n)) fail) start
    (subst (λ (m : ℕ). TellsRow now (c.args.at + 17 * (n * c.size-count.result)) first m fail) counted c.in-Err.ensures.damage)))

pub returns-in-Err-clause-changes : goal.returns-in-Err-clause-changes
returns-in-Err-clause-changes g c =
    let d = c.args.shape.now in
    let w = c.args.window.now in
    let n = c.loop-number.number in
    let row = c.row_at-first.result.0 in
    let first = c.row_at-first.result.1 in
    let is = c.row_at-first.ensures.row in
    let before = g.P.Store.bytes c.loop-number.spool in
    let after = g.P.Store.bytes c.lay_row.new.spool in
    let below : n < row_count w = omega (arith, c.loop-number-test.true, c.rows-number-end.ensures.value) in
    let size : c.size-count.result ≡ position_count row = c.size-count.ensures.value in
    let numbers = row_numbers d w row first n is c.row_at-first.ensures.numbers in
    let counted = size ∙ ap position_count is in
    let outside : StaysOutside before (c.args.base + 17 * first) (17 * position_count (row_of w n)) after = subst (λ (m : ℕ). StaysOutside before (c.args.base + 17 * first) (17 * m) after) counted c.lay_row.ensures.outside in
    row_failed (g.P.Store.bytes c.args.spool.now) before after c.args.base first n d w below numbers outside c.loop-number.invariant.changes

pub returns-in-Err-clause-left : goal.returns-in-Err-clause-left
returns-in-Err-clause-left g c = record {
  same = c.in-Err.ensures.left.same ∙ c.loop-number.invariant.same;
  part_cause = cause_handed c.loop-number.invariant.part_falls c.in-Err.ensures.left.part_cause;
  spool_cause = cause_handed c.loop-number.invariant.spool_falls c.in-Err.ensures.left.spool_cause;
}

pub loop-number-preserved : goal.loop-number-preserved
loop-number-preserved g c =
    let d = c.args.shape.now in
    let w = c.args.window.now in
    let n = c.loop-number.number in
    let row = c.row_at-first.result.0 in
    let first = c.row_at-first.result.1 in
    let is = c.row_at-first.ensures.row in
    let below : n < row_count w = omega (arith, c.loop-number-test.true, c.rows-number-end.ensures.value) in
    let size : c.size-count.result ≡ position_count row = c.size-count.ensures.value in
    let numbers = row_numbers d w row first n is c.row_at-first.ensures.numbers in
    let counted = size ∙ ap position_count is in
    let r = row_of w n in
    let len = span_length w.x in
    let part = g.S.Store.bytes c.args.store.now in
    let before = g.P.Store.bytes c.loop-number.spool in
    let after = g.P.Store.bytes c.lay_row.new.spool in
    let lays = c.in-Ok.ensures.laid in
    let cells = lays.cells in
    let found = c.in-Ok.over in
    let start = row_start w row c.args.at n c.size-count.result is c.size-count.ensures.value in
    let laid : IsRowLaid part before after c.args.at c.args.base first n d w cells found = record {
      within = c.requires.window.within;
      below = below;
      room = rows_room n c.rows-number-end.result len (position_count w) c.loop-number-test.true c.rows-number-end.ensures.all;
      numbers = numbers;
      long = lays.many ∙ counted;
      valid = lays.valid;
      held = lays.laid;
      outside = subst (λ (m : ℕ). StaysOutside before (c.args.base + 17 * first) (17 * m) after) counted c.lay_row.ensures.outside;
      over = row_over d r first cells (least_over_of cells) found numbers (lays.many ∙ counted) refl lays.least_is;
      shown = λ shown all long shows. shown_cells (g.S.Store.bytes c.loop-number.store) (c.args.at + 17 * (n * c.size-count.result)) cells shown lays.valid all long lays.read
          (subst (λ (k : ℕ). Shows (g.S.Store.bytes c.loop-number.store) k shown) (sym start)
          (subst (λ (o : Option (List ℕ)). Shows o (c.args.at + 17 * (n * len)) shown) (sym c.loop-number.invariant.same) shows));
    } in
    record {
      cube = λ cube same all shows. subst (AreLaid after c.args.base cube (IsInFirst (rows_of w) (n + 1))) (sym c.lesser-least.ensures)
          (row_cube part before after c.args.at c.args.base first n d w cells c.loop-number.least found laid cube same all shows (c.loop-number.invariant.cube cube same all shows));
      some = subst (HaveRecords after c.args.base d (IsInFirst (rows_of w) (n + 1))) (sym c.lesser-least.ensures)
          (row_some part before after c.args.at c.args.base first n d w cells c.loop-number.least found laid c.loop-number.invariant.some);
      sound = records_more part c.args.at n len c.loop-number.invariant.sound
          (subst (λ (o : Option (List ℕ)). HaveRecordsAt o (c.args.at + 17 * (n * len)) len) c.loop-number.invariant.same
          (subst (λ (k : ℕ). HaveRecordsAt (g.S.Store.bytes c.loop-number.store) k len) start
          (subst (λ (m : ℕ). HaveRecordsAt (g.S.Store.bytes c.loop-number.store) (c.args.at + 17 * (n * c.size-count.result)) m) (lays.many ∙ size ∙ row_size w row n is)
          (records_held (g.S.Store.bytes c.loop-number.store) (c.args.at + 17 * (n * c.size-count.result)) cells lays.valid lays.read))));
      changes = row_then part before after c.args.at c.args.base first n d w cells c.loop-number.least found laid (g.P.Store.bytes c.args.spool.now) c.loop-number.invariant.changes;
      same = c.lay_row.ensures.left.same ∙ c.loop-number.invariant.same;
      part_falls = NeverFalls-trans c.loop-number.invariant.part_falls c.lay_row.ensures.left.part_cause.count;
      spool_falls = NeverFalls-trans c.loop-number.invariant.spool_falls c.lay_row.ensures.left.spool_cause.count;
    }

pub returns-clause-laid : goal.returns-clause-laid
returns-clause-laid g c =
    let d = c.args.shape.now in
    let w = c.args.window.now in
    let len = span_length w.x in
    let store = g.P.Store.bytes c.loop-number.spool in
    let least = c.loop-number.least in
    let last : c.loop-number.number ≡ c.rows-number-end.result = omega (arith, c.loop-number-test.false, c.loop-number.auto.number-end) in
    let rows = last ∙ c.rows-number-end.ensures.value in
    record {
      cube = λ cube same all shows. laid_same store c.args.base cube (IsInFirst (rows_of w) (row_count w)) (IsIn w) least (row_back w) (row_there w)
          (subst (λ (n : ℕ). AreLaid store c.args.base cube (IsInFirst (rows_of w) n) least) rows (c.loop-number.invariant.cube cube same all shows));
      some = have_same store c.args.base d (IsInFirst (rows_of w) (row_count w)) (IsIn w) least (row_there w)
          (subst (λ (n : ℕ). HaveRecords store c.args.base d (IsInFirst (rows_of w) n) least) rows c.loop-number.invariant.some);
      sound = subst (HaveRecordsAt (g.S.Store.bytes c.args.store.now) c.args.at) (ap (λ (n : ℕ). n * len) last ∙ c.rows-number-end.ensures.all) c.loop-number.invariant.sound;
    }
