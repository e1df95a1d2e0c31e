-- The cube file that is written for a cube: version 2, each section in the least width that holds its cells.
use Rattle.std.specs.Prelude.{◌≡◌, ℕ, ◌*◌, List, [], ◌∷◌, ◌++◌, Option, Some, drop, take}
use Rattle.oe_cell.specs.declared.cell.Cell.{Cell}
use Rattle.oe_dims.specs.Dimensions.{Dimensions, extent}
use Rattle.oe_dims.specs.declared.kind.CellKind.{CellKind}
use Rattle.oe_outside.specs.Visible.{Appends, AppendsPrefix}
use Rattle.oe_sources.specs.Head.{Head, IsHead, front_bytes}
use Rattle.oe_wide.specs.Wide.{AllFitIn, IsLeastWidth, records_in}
use Rattle.oe_wide.specs.declared.width.Width.{Width}

-- how many cells a section has
abbrev pub plane_size : Dimensions → ℕ
plane_size d = extent d.bands * extent d.y * extent d.x

-- each width is the least in which all cells of its section have records; the sections have so many cells each
abbrev pub AreLeastWidths : ℕ → List Width → List Cell → Type 0
AreLeastWidths size [] cells = cells ≡ []
AreLeastWidths size (width ∷ widths) cells =
    IsLeastWidth (λ w. AllFitIn w (take size cells)) width × AreLeastWidths size widths (drop size cells)

-- the records of the sections, one section behind the other
abbrev pub section_records : ℕ → List Width → List Cell → List ℕ
section_records size [] cells = []
section_records size (width ∷ widths) cells =
    records_in width (take size cells) ++ section_records size widths (drop size cells)

-- what a packed file says before its records
abbrev pub packed_head : List ℕ → Dimensions → CellKind → List Width → Head
packed_head id shape kind widths = record { id = id; kind = kind; widths = Some widths; shape = shape }

-- the bytes are the packed file of a cube: a valid head with least widths, and the records of the cells
pub record IsPacked (id : List ℕ) (shape : Dimensions) (kind : CellKind) (cells : List Cell)
    (bytes : List ℕ) : Type 0 where
  pub widths : List Width
  pub least : AreLeastWidths (plane_size shape) widths cells
  pub valid : IsHead (packed_head id shape kind widths)
  pub bytes_are : bytes ≡ front_bytes (packed_head id shape kind widths)
      ++ section_records (plane_size shape) widths cells

-- a packed file follows what was written
abbrev pub AppendsPacked : List ℕ → Dimensions → CellKind → List Cell → Option (List ℕ) → Option (List ℕ) → Type 0
AppendsPacked id shape kind cells before after =
    (bytes : List ℕ) × IsPacked id shape kind cells bytes × Appends before bytes after

-- a prefix of it follows what was written
abbrev pub AppendsPartOfPacked : List ℕ → Dimensions → CellKind → List Cell → Option (List ℕ) → Option (List ℕ) → Type 0
AppendsPartOfPacked id shape kind cells before after =
    (bytes : List ℕ) × IsPacked id shape kind cells bytes × AppendsPrefix before bytes after
