-- For private functions. A window of a mosaic read from its parts.
use Rattle.std.specs.Prelude.{◌≡◌, ℕ, ◌<◌, true, false, List, length, slice_get, Result, Ok, Err, IfSome}
use Rattle.std.specs.List.{list_all}
use Rattle.oe_cell.specs.declared.cell.Cell.{Cell}
use Rattle.oe_cell.specs.declared.cell.Cell.TheVariants.{Empty}
use Rattle.oe_cube.specs.Kinds.{is_null_or_of}
use Rattle.oe_dims.specs.Cube.{tabulate}
use Rattle.oe_dims.specs.Dimensions.{Dimensions}
use Rattle.oe_dims.specs.Positions.{Position, number_of, tuple_of}
use Rattle.oe_mosaic.specs.Mosaics.{Part, are_visible, fault_counts, first_kind, is_damaged_at, mosaic_cell, parts_of}
use Rattle.oe_mosaic.specs.PartFaults.{NoneFalls}
use Rattle.oe_mosaic.specs.Places.{HasBox, HasNoTupleOf, side_sum}
use Rattle.oe_mosaic.specs.declared.reading.Found.{Found}
use Rattle.oe_mosaic.specs.declared.reading.Found.TheVariants as found
use Rattle.oe_mosaic.specs.declared.reading.Tried.{Tried}
use Rattle.oe_mosaic.specs.declared.reading.Tried.TheVariants as tried
use Rattle.oe_sources.specs.Source.{Source, answer_of}
use Rattle.oe_sources.specs.declared.source.SourceFail.{SourceFail}
use Rattle.oe_sources.specs.declared.source.SourceFail.TheVariants as fail
use Rattle.oe_window.specs.Cells.{cells_on}
use Rattle.oe_window.specs.Windows.{IsIn}
use Rattle.oe_window.specs.declared.window.Window.{Window}

-- the first parts, so many, have none of the tuples of a window
abbrev pub AreApart : List Part → Dimensions → Window → ℕ → Type 0
AreApart parts d window count =
    (k : ℕ) → k < count → IfSome (slice_get parts k) (λ (part : Part). HasNoTupleOf d part.shape window)

-- the part of a place has the tuples of a window in a box
abbrev pub IsFoundIn : List Part → Dimensions → Window → ℕ → Window → Type 0
IsFoundIn parts d window place box =
    IfSome (slice_get parts place) (λ (part : Part). HasBox d part.shape window box)

-- which part decides about the tuples of a window. Only one that has several positions lies across.
abbrev pub Finds : List Part → Dimensions → Window → Found → Type 0
Finds parts d window found.Nowhere = AreApart parts d window (length parts)
Finds parts d window (found.In place box) =
    (place < length parts) × AreApart parts d window place × IsFoundIn parts d window place box
Finds parts d window (found.Across seam) = 4 < side_sum window

-- these are the cells of a window of a mosaic
pub record IsRead (parts : List Part) (d : Dimensions) (window : Window) (cells : List Cell) : Type 0 where
  pub cells_are : are_visible parts ≡ true → cells ≡ cells_on Empty (tabulate d (mosaic_cell parts)) window
  pub undamaged : are_visible parts ≡ true → (p : Position) → IsIn window p
      → is_damaged_at parts (tuple_of d p) ≡ false
  pub of_kind : list_all (is_null_or_of (first_kind parts)) cells ≡ true

-- a position of a window is damaged in a mosaic, and this is its number
pub record IsDamagedThere (parts : List Part) (d : Dimensions) (window : Window) (number : ℕ) : Type 0 where
  pub position : Position
  pub inside : IsIn window position
  pub numbered : number_of d position ≡ number
  pub damaged : are_visible parts ≡ true → is_damaged_at parts (tuple_of d position) ≡ true

-- what looking at a window answers
abbrev pub IsAnswer : List Part → Dimensions → Window → List Cell → Result (Unit {0}) SourceFail → Type 0
IsAnswer parts d window cells (Ok done) = IsRead parts d window cells
IsAnswer parts d window cells (Err fail.Failed) = Unit {0}
IsAnswer parts d window cells (Err (fail.Damaged number)) = IsDamagedThere parts d window number

-- the same of a try, which leaves what is to be looked at in two halves
abbrev pub IsTried : List Part → Dimensions → Window → List Cell → Tried → Type 0
IsTried parts d window cells (tried.Done result) = IsAnswer parts d window cells (answer_of result)
IsTried parts d window cells (tried.Cut seam) = 4 < side_sum window

-- counting changes the counters of the parts alone
pub record OnlyReads {S : Type 0} (seen : S → Source) (before after : List S) : Type 0 where
  pub falls : NoneFalls (fault_counts seen before) (fault_counts seen after)
  pub same : parts_of seen after ≡ parts_of seen before
