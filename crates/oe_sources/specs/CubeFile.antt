-- Cube files of both versions, as a relation between bytes and what they hold.
use Rattle.std.specs.Prelude.{◌≡◌, ℕ, ◌+◌, ◌*◌, ◌/◌, ◌%◌, Bool, List, length, map, filter, take, drop, slice_index_or, Option, is_none, unwrap_or}
use Rattle.std.specs.List.{range_with_len}
use Rattle.oe_cell.specs.declared.cell.Cell.{Cell}
use Rattle.oe_cell.specs.declared.cell.Cell.TheVariants.{Empty}
use Rattle.oe_dims.specs.Dimensions.{cell_count}
use Rattle.oe_sources.specs.Head.{Head, IsHead, front_bytes, section_widths, section_size, section_start, record_bytes_count}
use Rattle.oe_sources.specs.Source.{Contents}
use Rattle.oe_sources.specs.StoredCell.{stored_cell}
use Rattle.oe_wide.specs.Wide.{byte_count}
use Rattle.oe_wide.specs.declared.width.Width.{Width}
use Rattle.oe_wide.specs.declared.width.Width.TheVariants.{Seventeen}

-- the bytes are a cube file with this head: its front, as many bytes as its records need, and the end
pub record IsCubeFile (bytes : List ℕ) (head : Head) : Type 0 where
  pub valid : IsHead head
  pub front : take (length (front_bytes head)) bytes ≡ front_bytes head
  pub whole : length bytes ≡ length (front_bytes head) + record_bytes_count head

-- ---- the record of the cell with a row-major number

-- the section in which it stands, with its width
abbrev pub section_of : Head → ℕ → ℕ
section_of head number = number / section_size head

abbrev pub width_of : Head → ℕ → Width
width_of head number = slice_index_or (section_widths head) (section_of head number) Seventeen

-- where it stands: behind the front, the sections before, and the records before it in its section
abbrev pub record_offset : Head → ℕ → ℕ
record_offset head number =
    length (front_bytes head) + section_start head (section_of head number)
    + byte_count (width_of head number) * (number % section_size head)

abbrev pub record_at : Head → List ℕ → ℕ → List ℕ
record_at head bytes number = take (byte_count (width_of head number)) (drop (record_offset head number) bytes)

-- ---- the cells

-- the cell whose record stands there, none where it is damaged: no record of its width, or that of a cell which a
-- collection of the kind may not hold
abbrev pub cell_stored : Head → List ℕ → ℕ → Option Cell
cell_stored head bytes number = stored_cell head.kind (width_of head number) (record_at head bytes number)

abbrev pub is_damaged : Head → List ℕ → ℕ → Bool
is_damaged head bytes number = is_none (cell_stored head bytes number)

-- the cells of the file, with null at damaged positions, and these positions by their numbers
unfoldable pub contents_of : Head → List ℕ → Contents
contents_of head bytes =
    let numbers = range_with_len 0 (cell_count head.shape) in
    record {
      cells = map (λ number. unwrap_or (cell_stored head bytes number) Empty) numbers;
      damaged = filter (is_damaged head bytes) numbers;
    }
