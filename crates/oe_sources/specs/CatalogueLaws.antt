-- What holds of every catalogue, and of every read of one.
use Rattle.std.specs.Prelude.{◌≡◌, ℕ, ◌+◌, ◌<◌, ◌≤◌, true, List, length, map, slice_get, Some, None, IfSome, Result}
use Rattle.oe_cell.specs.declared.cell.Cell.{Cell}
use Rattle.oe_dims.specs.Names.{is_name}
use Rattle.oe_sources.specs.Catalogue.{ReadsRow, Row, cells_asked, collections_shown, row_index}
use Rattle.oe_sources.specs.CatalogueDims.{dims_row}
use Rattle.oe_sources.specs.declared.source.SourceFail.{SourceFail}
use Rattle.oe_window.specs.Windows.{position_count}
use Rattle.oe_window.specs.declared.window.Window.{Window}

-- a property of the rows before and after each read of a window of one row
abbrev pub AfterReads : (List Row → Window → List Row → Type 0) → Type 0
AfterReads property =
    (before : List Row) (index : ℕ) (window : Window) (cells : List Cell) (after : List Row)
    (result : Result (Unit {0}) SourceFail) → index < length before → ReadsRow before index window cells after result
    → property before window after

-- the number of cells asked of the catalogue rises by the size of the window at most
abbrev pub AskNoMoreThanRead : Type 0
AskNoMoreThanRead = AfterReads (λ before window after. cells_asked after ≤ cells_asked before + position_count window)

-- the collections that the catalogue shows stay
abbrev pub KeepCollections : Type 0
KeepCollections = AfterReads (λ before window after. collections_shown after ≡ collections_shown before)

-- the ids, the shapes and the kinds of all collections stay
abbrev pub KeepOutlines : Type 0
KeepOutlines = AfterReads (λ before window after. map dims_row after ≡ map dims_row before)

-- the id of each row is valid: 1 to 64 bytes of letters, digits, `_`, `-` and `.`
abbrev pub HaveValidIds : List Row → Type 0
HaveValidIds rows = (id : List ℕ) (index : ℕ) → row_index rows id ≡ Some index → is_name id ≡ true

-- where the row of an index is of a generated cube, none of its reads has failed: its fault counter is 0
abbrev pub NeverFailed : List Row → ℕ → Type 0
NeverFailed rows index = IfSome (slice_get rows index) (λ (row : Row). row.seal ≡ None → row.source.faults ≡ 0)
