-- What writing a text answers.
use Rattle.std.specs.Prelude.{◌≡◌, ◌≢◌, ℕ, List, length, Option, Result, OnOk, OnErr}
use Rattle.std.specs.List.{All}
use Rattle.oe_cell.specs.Cells.{IsCell}
use Rattle.oe_cell.specs.declared.cell.Cell.{Cell}
use Rattle.oe_cell.specs.declared.cell.Cell.TheVariants.{Over}
use Rattle.oe_dims.specs.Cube.{Cube}
use Rattle.oe_dims.specs.Dimensions.{Dimensions, cell_count}
use Rattle.oe_outside.specs.Faults.{HasCause, Rose}
use Rattle.oe_outside.specs.Visible.{Appends, AppendsPrefix}
use Rattle.oe_top.specs.Objects.{Objects}

-- the output was left alone
pub record IsUnwritten (before after : Objects) : Type 0 where
  pub out : after.out ≡ before.out
  pub faults : after.out_faults ≡ before.out_faults

-- the fault counter of the output rose, and a prefix of the text stands there
pub record StopsWriting (text : List ℕ) (before after : Objects) : Type 0 where
  pub rose : Rose before.out_faults after.out_faults
  pub prefix : AppendsPrefix before.out text after.out

-- something holds of some cube of this shape, whose cells are valid and none of which is Over
pub record OfSomeCube (shape : Dimensions) (Holds : Cube Cell → Type 0) : Type 0 where
  pub cells : List Cell
  pub counted : length cells ≡ cell_count shape
  pub valid : All IsCell cells
  pub numbered : All (λ c. c ≢ Over) cells
  pub holds : Holds (record { shape = shape; cells = cells })

-- the text follows what was written, or a prefix of it where the fault counter rose
pub record Writes {T E : Type 0} (text : List ℕ) (before : Option (List ℕ)) (before_faults : ℕ)
    (after : Option (List ℕ)) (after_faults : ℕ) (result : Result T E) : Type 0 where
  pub appended : OnOk result (Appends before text after)
  pub prefix : OnErr result (AppendsPrefix before text after)
  pub cause : HasCause before_faults after_faults result
