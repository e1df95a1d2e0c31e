-- One row more of a window that is laid out.
use Rattle.std.proofs.Common.{◌≡◌, ℕ, ◌+◌, ◌*◌, ◌^◌, ◌<◌, ◌≤◌, List, length, Option, Err, sym, ap, ◌∙◌, subst, arith}
use Rattle.std.specs.List.{All}
use Rattle.std.specs.Result.{IsErrOf}
use Rattle.std.proofs.lemmas.Nat.{mul-le}
use Rattle.oe_cell.specs.Cells.{IsCell}
use Rattle.oe_cell.specs.Record.{records_of}
use Rattle.oe_cell.specs.declared.cell.Cell.{Cell}
use Rattle.oe_cell.specs.declared.cell.Cell.TheVariants.{Empty}
use Rattle.oe_dims.specs.Cube.{Cube}
use Rattle.oe_dims.specs.Dimensions.{Dimensions}
use Rattle.oe_outside.specs.Faults.{HasCauseOf, NeverFalls}
use Rattle.oe_outside.specs.Stored.{StaysOutside, StoreHolds}
use Rattle.oe_outside.proofs.Causes.{NeverFalls-trans, then-Rose}
use Rattle.oe_spool.specs.Least.{IsLeastOver, lesser_of}
use Rattle.oe_spool.specs.Spooled.{ChangesOnly}
use Rattle.oe_window.specs.Cells.{cells_on}
use Rattle.oe_window.specs.Parts.{row_count, row_of}
use Rattle.oe_window.specs.Windows.{Holds, IsIn, position_count, span_length, whole_window}
use Rattle.oe_window.specs.declared.window.Window.{Window}
use Rattle.oe_window.proofs.CellLemmas.{length-cells_on}
use Rattle.oe_parts.specs.Laid.{AreLaid, HaveRecords, IsInFirst}
use Rattle.oe_parts.specs.Rows.{HasNumbersFrom, Shows}
use Rattle.oe_parts.proofs.LaidLemmas.{AreApart, changes_then, have_more, laid_more}
use Rattle.oe_parts.proofs.RowLaidLemmas.{row_changes, row_have, row_laid, rows_apart, rows_of}
use Rattle.oe_parts.proofs.ShownLemmas.{row_inside, row_size}
use Rattle.oe_parts.proofs.SliceLemmas.{row_all, row_shows}

-- ---- a row, as it is made

pub row_numbers : (d : Dimensions) (w row : Window) (first n : ℕ) → row ≡ row_of w n → HasNumbersFrom d row first → HasNumbersFrom d (row_of w n) first
row_numbers d w row first n is numbers = subst (λ (v : Window). HasNumbersFrom d v first) is numbers

-- its records begin behind those of the rows before
pub row_start : (w row : Window) (at n count : ℕ) → row ≡ row_of w n → count ≡ position_count row → at + 17 * (n * count) ≡ at + 17 * (n * span_length w.x)
row_start w row at n count is counted = ap (λ (m : ℕ). at + 17 * (n * m)) (counted ∙ row_size w row n is)

-- ---- a row that was laid out

-- what is known of a row of a window that was laid out
pub record IsRowLaid (part before after : Option (List ℕ)) (at base first n : ℕ) (d : Dimensions) (w : Window) (cells : List Cell) (found : Option ℕ) : Type 0 where
  pub within : Holds (whole_window d) w
  pub below : n < row_count w
  pub room : n * span_length w.x ≤ position_count w
  pub numbers : HasNumbersFrom d (row_of w n) first
  pub long : length cells ≡ position_count (row_of w n)
  pub valid : All IsCell cells
  pub held : StoreHolds after (base + 17 * first) (records_of cells)
  pub outside : StaysOutside before (base + 17 * first) (17 * position_count (row_of w n)) after
  pub over : (cube : Cube Cell) → cube.shape ≡ d → cells_on Empty cube (row_of w n) ≡ cells → IsLeastOver cube (IsIn (row_of w n)) found
  pub shown : (shown : List Cell) → All IsCell shown → length shown ≡ length cells → Shows part (at + 17 * (n * span_length w.x)) shown → cells ≡ shown

module _ (part before after : Option (List ℕ)) (at base first n : ℕ) (d : Dimensions) (w : Window) (cells : List Cell) (least found : Option ℕ) (row : IsRowLaid part before after at base first n d w cells found) where
  changes : ChangesOnly base d (IsIn (row_of w n)) before after
  changes = row_changes before after base first d (row_of w n) row.numbers row.outside

  pub row_cube : (cube : Cube Cell) → cube.shape ≡ d → All IsCell (cells_on Empty cube w) → Shows part at (cells_on Empty cube w) → AreLaid before base cube (IsInFirst (rows_of w) n) least → AreLaid after base cube (IsInFirst (rows_of w) (n + 1)) (lesser_of least found)
  row_cube cube same all shows old =
      let r = row_of w n in
      let cs = cells_on Empty cube r in
      let these : cells ≡ cs = row.shown cs (row_all cube w n row.below all) (length-cells_on Empty cube r ∙ sym row.long) (row_shows part at cube w n row.below row.room shows) in
      let numbers : HasNumbersFrom cube.shape r first = subst (λ (e : Dimensions). HasNumbersFrom e r first) (sym same) row.numbers in
      let here : AreLaid after base cube (IsIn r) found = row_laid after base first cube r cells found numbers (sym these) row.valid row.held (row.over cube same (sym these)) in
      let apart : AreApart cube.shape (rows_of w) (row_count w) = subst (λ (e : Dimensions). AreApart e (rows_of w) (row_count w)) (sym same) (rows_apart d w row.within) in
      laid_more before after base cube (rows_of w) (row_count w) n least found apart row.below (subst (λ (e : Dimensions). ChangesOnly base e (IsIn r) before after) (sym same) changes) old here

  pub row_some : HaveRecords before base d (IsInFirst (rows_of w) n) least → HaveRecords after base d (IsInFirst (rows_of w) (n + 1)) (lesser_of least found)
  row_some old =
      have_more before after base d (rows_of w) (row_count w) n least found (rows_apart d w row.within) row.below changes old
      (row_have after base first d (row_of w n) cells found row.numbers row.long row.valid row.held row.over)

  pub row_then : (old : Option (List ℕ)) → ChangesOnly base d (IsIn w) old before → ChangesOnly base d (IsIn w) old after
  row_then old earlier = changes_then old before after base d (IsIn w) (IsIn (row_of w n)) (row_inside w n row.below) earlier changes

-- a row that failed changed only its records too
pub row_failed : (old before after : Option (List ℕ)) (base first n : ℕ) (d : Dimensions) (w : Window) → n < row_count w → HasNumbersFrom d (row_of w n) first → StaysOutside before (base + 17 * first) (17 * position_count (row_of w n)) after → ChangesOnly base d (IsIn w) old before → ChangesOnly base d (IsIn w) old after
row_failed old before after base first n d w below numbers outside earlier =
    changes_then old before after base d (IsIn w) (IsIn (row_of w n)) (row_inside w n below) earlier (row_changes before after base first d (row_of w n) numbers outside)

pub rows_room : (n rows len all : ℕ) → n < rows → rows * len ≡ all → n * len ≤ all
rows_room n rows len all below e = omega (arith, mul-le n len rows len (omega (arith, below)) (omega arith), e)

-- ---- faults and offsets

-- a fault is handed on for another value
cause_again : {T U E : Type 0} (fail error : E) → IsErrOf {T = U} (Err fail) error → IsErrOf {T = T} (Err fail) error
cause_again fail error is = let same : fail ≡ error = cc in ap Err same

pub cause_handed : {T U E : Type 0} {fail error : E} {a b c : ℕ} → NeverFalls a b → HasCauseOf {T = T} error b c (Err fail) → HasCauseOf {T = U} error a c (Err fail)
cause_handed {T} {U} {E} {fail} {error} before cause = record {
  count = NeverFalls-trans before cause.count;
  failed = λ is. then-Rose before (cause.failed (cause_again {T = T} {U = U} fail error is));
}

-- the cells of the rows before are no more than those of the shape can be
pub done_before : (n rows len all count : ℕ) → n < rows → rows * len ≡ all → count ≡ len → all ≤ 2 ^ 40 → n * count ≤ 2 ^ 40
done_before n rows len all count below e same few =
    let there : n * count ≡ n * len = ap (λ (m : ℕ). n * m) same in
    omega (arith, there, rows_room n rows len all below e, few)
