-- Worked values of the definitions, each by hand.
use Rattle.std.proofs.Common.{◌≡◌, ℕ, ◌+◌, [], ◌∷◌, ◌++◌, take, pos, codes, Some, None, refl, arith}
use Rattle.std.specs.Fmt.{digits}
use Rattle.oe_cell.specs.declared.cell.Cell.TheVariants.{Empty, Number}
use Rattle.oe_cell.specs.Record.{bytes_of, records_of}
use Rattle.oe_dims.specs.Cube.{Cube}
use Rattle.oe_cell.specs.declared.cell.Cell.{Cell}
use Rattle.oe_dims.specs.Dimensions.{Dimensions}
use Rattle.oe_dims.specs.declared.kind.CellKind.TheVariants.{Numbers}
use Rattle.oe_window.specs.Chunks.{parts_along}
use Rattle.oe_parts.specs.Head.{PartHead, chunk_total, front_bytes, sides_text}
use Rattle.oe_parts.specs.PartFile.{cells_on_all, chunks_of, part_cells, part_numbers}
use Rattle.oe_parts.specs.Whole.{Overlaps, Tile}

-- three labels of t, two bands, five of y and seven of x, in chunks of 3 by 4 by 2: 3 along x, 2 along y, 2 along t
abbrev box : Dimensions
box = record {
  epsg = 32633;
  t = Some (pos 0 ∷ pos 1 ∷ pos 2 ∷ []);
  bands = Some (codes "a" ∷ codes "b" ∷ []);
  y = Some (pos 4 ∷ pos 3 ∷ pos 2 ∷ pos 1 ∷ pos 0 ∷ []);
  x = Some (pos 0 ∷ pos 1 ∷ pos 2 ∷ pos 3 ∷ pos 4 ∷ pos 5 ∷ pos 6 ∷ []);
}

abbrev part_of_box : ℕ → ℕ → PartHead
part_of_box first end = record { graph = codes "{}"; sides = record { x = 3; y = 4; t = 2 }; first = first; end = end; kind = Numbers; shape = box }

three_along : parts_along 7 3 ≡ 3
three_along = refl

twelve : chunk_total (part_of_box 0 12) ≡ 12
twelve = refl

-- the first chunk has 3 * 4 * 2 * 2 cells, the last 1 * 1 * 2 * 1, and all have those of the box
first_chunk : part_cells (part_of_box 0 1) ≡ 48
first_chunk = refl

last_chunk : part_cells (part_of_box 11 12) ≡ 2
last_chunk = refl

all_chunks : part_cells (part_of_box 0 12) ≡ 210
all_chunks = refl

-- the last chunk has the position of the last labels in both bands: the numbers (2 * 2 + b) * 35 + 34
last_numbers : part_numbers (part_of_box 11 12) ≡ 174 ∷ 209 ∷ []
last_numbers = refl

-- the version of every part file
version : (h : PartHead) → take 8 (front_bytes h) ≡ 79 ∷ 69 ∷ 79 ∷ 80 ∷ 65 ∷ 82 ∷ 84 ∷ 49 ∷ []
version h = refl

listed_sides : sides_text (record { x = 64; y = 32; t = 12 }) ≡ codes "[64,32,12]"
unfolding digits
listed_sides = refl

-- ---- a line of three cells: 1, null and a half

abbrev line : Cube Cell
line = record {
  shape = record { epsg = 32633; t = None; bands = None; y = None; x = Some (pos 0 ∷ pos 1 ∷ pos 2 ∷ []) };
  cells = Number (record { num = pos 1; den = 1 }) ∷ Empty ∷ Number (record { num = pos 1; den = 2 }) ∷ [];
}

abbrev part_of_line : ℕ → ℕ → PartHead
part_of_line first end = record { graph = codes "{}"; sides = record { x = 1; y = 1; t = 1 }; first = first; end = end; kind = Numbers; shape = line.shape }

-- the second chunk has the null alone
second_chunk : records_of (cells_on_all line (chunks_of (part_of_line 1 2))) ≡ 0 ∷ 0 ∷ 0 ∷ 0 ∷ 0 ∷ 0 ∷ 0 ∷ 0 ∷ 0 ∷ 0 ∷ 0 ∷ 0 ∷ 0 ∷ 0 ∷ 0 ∷ 0 ∷ 0 ∷ []
unfolding bytes_of
second_chunk = refl

-- and behind it stands the half
half_record : records_of (cells_on_all line (chunks_of (part_of_line 1 3))) ≡ records_of (cells_on_all line (chunks_of (part_of_line 1 2)))
    ++ 3 ∷ 0 ∷ 0 ∷ 0 ∷ 0 ∷ 0 ∷ 0 ∷ 0 ∷ 1 ∷ 0 ∷ 0 ∷ 0 ∷ 0 ∷ 0 ∷ 0 ∷ 0 ∷ 2 ∷ []
unfolding bytes_of
half_record = refl

-- ---- ranges

-- the parts 0 to 4 and 3 to 7 have chunk 3 twice
twice : Overlaps (part_of_box 0 4 ∷ part_of_box 3 7 ∷ []) 1
twice = (0, 3, omega arith, (part_of_box 0 4, refl, (omega arith, omega arith)), (part_of_box 3 7, refl, (omega arith, omega arith)))

-- no parts have each of no chunks
no_parts : Tile [] 0
no_parts = record {
  covered = λ k below. absurd (omega (arith, below));
  once = λ k a b x y. (let none = x.1 in absurd cc);
  within = λ k index x. (let none = x.1 in absurd cc);
}
