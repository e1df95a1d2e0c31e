-- What every opened cube file keeps.
use Rattle.std.specs.Prelude.{◌≡◌, ℕ, ◌+◌, ◌-◌, ◌*◌, ◌%◌, ◌<◌, ◌≤◌, true, List, length, slice_get, take, Option, IfSome}
use Rattle.std.specs.List.{list_all}
use Rattle.oe_cell.specs.declared.cell.Cell.{Cell}
use Rattle.oe_cube.specs.Kinds.{is_null_or_of}
use Rattle.oe_dims.specs.declared.kind.CellKind.{CellKind}
use Rattle.oe_sources.specs.CubeFile.{cell_stored, is_damaged, record_offset, width_of}
use Rattle.oe_sources.specs.FileState.{AreSectionsOf}
use Rattle.oe_sources.specs.Head.{Head, IsHead, front_bytes, section_size}
use Rattle.oe_sources.specs.declared.source.SourceFail.{SourceFail}
use Rattle.oe_sources.specs.declared.source.SourceFail.TheVariants.{Failed, Damaged}
use Rattle.oe_wide.specs.Wide.{byte_count}
use Rattle.oe_sources.specs.declared.sections.Spot.{Spot}
use Rattle.oe_sources.specs.declared.file_source.Opened.{Opened}

-- what is known of an opened file is that of its head
pub record IsOpened (file : Opened) : Type 0 where
  pub valid : IsHead file.head
  pub sections : AreSectionsOf file.head file.sections.size file.sections.starts.items file.sections.end
  pub base_is : file.base ≡ length (front_bytes file.head)

-- a refusal at one of so many cells from a number on: a read failed, or that cell's record is damaged where the bytes
-- are visible
abbrev pub IsDamageFrom : Head → Option (List ℕ) → ℕ → ℕ → SourceFail → Type 0
IsDamageFrom head store first count Failed = Unit {0}
IsDamageFrom head store first count (Damaged number) =
    (first ≤ number) × (number < first + count) × IfSome store (λ all. is_damaged head all number ≡ true)

-- where the record of the cell with a number stands, and how many cells from it on are of its section
pub record IsSpotOf (head : Head) (number : ℕ) (spot : Spot) : Type 0 where
  pub kind_is : spot.kind ≡ head.kind
  pub width_is : spot.width ≡ width_of head number
  pub offset_is : spot.offset ≡ record_offset head number
  pub some : 0 < section_size head
  pub left_is : spot.left ≡ section_size head - number % section_size head

-- where the bytes of a store are visible, the records of so many cells of one section end within them
abbrev pub HasRecords : Head → Option (List ℕ) → ℕ → ℕ → Type 0
HasRecords head store number count =
    IfSome store (λ all. record_offset head number + byte_count (width_of head number) * count ≤ length all)

-- where the bytes of a store are visible, the first so many cells are those of the file from a number on
abbrev pub AreStoredFrom : Head → Option (List ℕ) → ℕ → ℕ → List Cell → Type 0
AreStoredFrom head store first count cells =
    IfSome store (λ all. (k : ℕ) → k < count → cell_stored head all (first + k) ≡ slice_get cells k)

-- the first so many cells are null or of the kind
abbrev pub AreOfKind : CellKind → ℕ → List Cell → Type 0
AreOfKind kind count cells = list_all (is_null_or_of kind) (take count cells) ≡ true
