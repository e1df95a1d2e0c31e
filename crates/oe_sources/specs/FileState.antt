-- What contracts see of an opened cube file, and of the refusals of opening one.
use Rattle.std.specs.Prelude.{◌≡◌, ℕ, ◌*◌, List, [], length, take, slice_get, sum_by, Option, Some, IfSome}
use Rattle.std.specs.List.{All}
use Rattle.oe_cell.specs.Cells.{IsCell}
use Rattle.oe_cell.specs.declared.cell.Cell.{Cell}
use Rattle.oe_cube.specs.Collections.{IsCollection}
use Rattle.oe_dims.specs.Dimensions.{Dimensions}
use Rattle.oe_dims.specs.declared.kind.CellKind.{CellKind}
use Rattle.oe_outside.specs.Faults.{NeverFalls, Rose}
use Rattle.oe_sources.specs.CubeFile.{IsCubeFile, contents_of}
use Rattle.oe_sources.specs.Head.{Head, section_widths, section_size}
use Rattle.oe_sources.specs.Packed.{IsPacked}
use Rattle.oe_sources.specs.Source.{Source}
use Rattle.oe_wide.specs.Wide.{byte_count}
use Rattle.oe_wide.specs.declared.width.Width.{Width}
use Rattle.oe_sources.specs.declared.file_source.OpenFail.{OpenFail}
use Rattle.oe_sources.specs.declared.file_source.OpenFail.TheVariants.{Failed, Invalid, OutOfMemory}

-- the id that the header has, and the source
pub record FileState : Type 0 where
  pub id : List ℕ
  pub source : Source

-- the bytes are a cube file with this id, whose cells and damaged positions the source has
pub record Opens (bytes : List ℕ) (file : FileState) : Type 0 where
  pub head : Head
  pub is_file : IsCubeFile bytes head
  pub id_is : file.id ≡ head.id
  pub shape_is : file.source.shape ≡ head.shape
  pub kind_is : file.source.kind ≡ head.kind
  pub contents_are : file.source.contents ≡ Some (contents_of head bytes)

-- the file has the id, the shape, the kind and the cells of a cube, and no damage
pub record HasCube (file : FileState) (id : List ℕ) (shape : Dimensions) (kind : CellKind)
    (cells : List Cell) : Type 0 where
  pub id_is : file.id ≡ id
  pub shape_is : file.source.shape ≡ shape
  pub kind_is : file.source.kind ≡ kind
  pub contents_are : file.source.contents ≡ Some (record { cells = cells; damaged = [] })

-- where the bytes are those of a packed cube, the file has that cube
abbrev pub ReadsPacked : List ℕ → FileState → Type 0
ReadsPacked bytes file =
    (id : List ℕ) (shape : Dimensions) (kind : CellKind) (cells : List Cell)
    → IsCollection (record { shape = shape; cells = cells; kind = kind }) → All IsCell cells
    → IsPacked id shape kind cells bytes → HasCube file id shape kind cells

-- what a refusal says, beside that the store has its bytes still: a read failed, or the visible bytes are no cube file
abbrev pub IsCauseOf : {S : Type 0} → (S → Option (List ℕ)) → (S → ℕ) → S → OpenFail S → Type 0
IsCauseOf bytes faults before (Failed store) =
    (bytes store ≡ bytes before) × NeverFalls (faults before) (faults store) × Rose (faults before) (faults store)
IsCauseOf bytes faults before (Invalid store) =
    (bytes store ≡ bytes before) × NeverFalls (faults before) (faults store)
    × IfSome (bytes before) (λ all. (head : Head) → ¬ IsCubeFile all head)
IsCauseOf bytes faults before (OutOfMemory store) =
    (bytes store ≡ bytes before) × NeverFalls (faults before) (faults store)

-- sections of so many cells each, with these widths, begin at these bytes and end there
pub record AreStarts (size : ℕ) (widths : List Width) (starts : List ℕ) (end : ℕ) : Type 0 where
  pub counted : length starts ≡ length widths
  pub each : (k start : ℕ) → slice_get starts k ≡ Some start → start ≡ size * sum_by byte_count (take k widths)
  pub end_is : end ≡ size * sum_by byte_count widths

-- where the sections of a file with this head stand
pub record AreSectionsOf (head : Head) (size : ℕ) (starts : List ℕ) (end : ℕ) : Type 0 where
  pub size_is : size ≡ section_size head
  pub starts_are : AreStarts (section_size head) (section_widths head) starts end
