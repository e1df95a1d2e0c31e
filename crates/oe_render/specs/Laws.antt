-- What holds of the text of every cube that has one.
use Rattle.std.specs.Prelude.{◌≡◌, ◌≢◌, ℕ, ◌<◌, ◌≤◌, ◌^◌, length, IsUtf8, Some}
use Rattle.std.specs.List.{All}
use Rattle.oe_cell.specs.Cells.{IsCell}
use Rattle.oe_cell.specs.declared.cell.Cell.{Cell}
use Rattle.oe_cell.specs.declared.cell.Cell.TheVariants.{Over}
use Rattle.oe_dims.specs.Cube.{Cube, IsCube}
use Rattle.oe_dims.specs.Dimensions.{IsShape}
use Rattle.oe_outside.specs.Faults.{last_count}
use Rattle.oe_outside.specs.Visible.{AddsBytes}
use Rattle.oe_render.specs.Text.{cube_text}

-- a cube of a valid shape, none of whose cells is Over
pub record HasText (cube : Cube Cell) : Type 0 where
  pub valid : IsShape cube.shape
  pub whole_cube : IsCube cube
  pub fit : All IsCell cube.cells
  pub numbered : All (λ c. c ≢ Over) cube.cells

-- its text is UTF-8
abbrev pub TextsAreUtf8 : Type 0
TextsAreUtf8 = (cube : Cube Cell) → HasText cube → IsUtf8 (cube_text cube)

-- the number of bytes of its text fits in 64 bits
abbrev pub TextsAreShort : Type 0
TextsAreShort = (cube : Cube Cell) → HasText cube → length (cube_text cube) < 2 ^ 64

-- a counter that began at 0 and that its bytes were added to is their number
abbrev pub CountsAreExact : Type 0
CountsAreExact =
    (cube : Cube Cell) (count : ℕ) → HasText cube → count ≤ last_count
    → AddsBytes (Some 0) (length (cube_text cube)) (Some count) → count ≡ length (cube_text cube)
