-- The records of all cells of a cube, from those of its positions.
use Rattle.std.proofs.Common.{◌≡◌, ℕ, suc, ◌+◌, ◌*◌, ◌<◌, List, [], ◌∷◌, length, get_or, Option, Some, None, refl, ◌∙◌, subst, arith, zero, ap, IfSome, ◌≢◌}
use Rattle.oe_cell.specs.Record.{record_of, records_of}
use Rattle.oe_cell.specs.declared.cell.Cell.{Cell}
use Rattle.oe_cell.specs.declared.cell.Cell.TheVariants.{Empty, Over}
use Rattle.oe_cell.specs.Cells.{IsCell}
use Rattle.oe_cell.proofs.RecordLemmas.{length-record_of}
use Rattle.oe_dims.specs.Cube.{Cube, IsCube}
use Rattle.oe_dims.specs.Dimensions.{Dimensions, cell_count}
use Rattle.oe_dims.specs.Positions.{Position, IsPosition}
use Rattle.oe_dims.proofs.CubeLemmas.{length-tuples, position_there}
use Rattle.oe_outside.specs.Stored.{HoldsAt, StoreHolds}
use Rattle.oe_outside.proofs.Stores.{HoldsAt-both}
use Rattle.oe_spool.specs.Spooled.{IsInSome, HoldsRecord, HoldsRecords, HoldsWindow, HoldsCube}
use Rattle.oe_window.specs.Chunks.{IsTiling, tiling_of, chunk_count, chunk_number, chunk_window}
use Rattle.oe_window.specs.Windows.{IsIn}
use Rattle.oe_window.specs.declared.grid.ChunkSize.{ChunkSize}
use Rattle.oe_window.specs.declared.window.Window.{Window}
use Rattle.oe_window.proofs.ChunkLemmas.{chunk_positions}
use Rattle.oe_window.proofs.TilingLemmas.{position_inside, some_chunk}

later_record : (all : List ℕ) (base : ℕ) (c : Cell) (cs : List Cell) (k : ℕ) → HoldsAt all (base + 17 * suc k) (record_of (get_or (c ∷ cs) (suc k) Empty)) → HoldsAt all (base + 17 + 17 * k) (record_of (get_or cs k Empty))
later_record all base c cs k held =
    let later : base + 17 * suc k ≡ base + 17 + 17 * k = omega arith in
    subst (λ n. HoldsAt all n (record_of (get_or cs k Empty))) later held

-- records one behind the other, each at its number, are those of the list
pub records_held : (all : List ℕ) (base : ℕ) (cells : List Cell) → ((k : ℕ) → k < length cells → HoldsAt all (base + 17 * k) (record_of (get_or cells k Empty))) → HoldsAt all base (records_of cells)
records_held all base [] each = refl
records_held all base (c ∷ cs) each =
    let start : base + 17 * 0 ≡ base = omega arith in
    let next : base + 17 ≡ base + length (record_of c) = omega (arith, length-record_of c) in
    HoldsAt-both all base (record_of c) (records_of cs)
    (subst (λ n. HoldsAt all n (record_of c)) start (each 0 (omega arith)))
    (subst (λ n. HoldsAt all n (records_of cs)) next (records_held all (base + 17) cs (λ k h. later_record all base c cs k (each (suc k) (omega arith)))))

store_records_held : (store : Option (List ℕ)) (base : ℕ) (cells : List Cell) → ((k : ℕ) → k < length cells → HoldsRecord store base k (get_or cells k Empty)) → StoreHolds store base (records_of cells)
store_records_held None base cells each = tt
store_records_held (Some all) base cells each = records_held all base cells each

pub cells_counted : (cube : Cube Cell) → IsCube cube → length cube.cells ≡ cell_count cube.shape
cells_counted cube whole = whole ∙ length-tuples cube.shape

-- a set that has each position
pub cube_from_positions : (store : Option (List ℕ)) (base : ℕ) (cube : Cube Cell) (positions : Position → Type 0) → IsCube cube → ((p : Position) → IsPosition cube.shape p → positions p) → HoldsRecords store base cube positions → HoldsCube store base cube
cube_from_positions store base cube positions whole all held =
    let counted = cells_counted cube whole in
    record {
      counted = counted;
      held = store_records_held store base cube.cells (λ k h.
          (let found = position_there cube.shape k (omega arith) in
          let here = held found.0 (all found.0 found.1.inside) in
          subst (λ n. HoldsRecord store base n (get_or cube.cells n Empty)) found.1.number_is here));
    }

pub cube_from_windows : (store : Option (List ℕ)) (base : ℕ) (cube : Cube Cell) (windows : List Window) → IsCube cube → ((p : Position) → IsPosition cube.shape p → IsInSome windows p) → HoldsRecords store base cube (IsInSome windows) → HoldsCube store base cube
cube_from_windows store base cube windows whole all held = cube_from_positions store base cube (IsInSome windows) whole all held

-- each position of the shape lies in a chunk
pub chunk_there : (d : Dimensions) (size : ChunkSize) (p : Position) → IsTiling (tiling_of d size) → IsPosition d p → (k : ℕ) × (k < chunk_count (tiling_of d size)) × IsIn (chunk_window (tiling_of d size) k) p
chunk_there d size p tiling h =
    let g = tiling_of d size in
    let inside = position_inside d size p h in
    let k = chunk_number g p in
    (k, some_chunk g p tiling inside, (chunk_positions g k tiling p).1 (inside, refl))

-- and each position of a chunk is one of the shape
pub chunk_inside : (d : Dimensions) (size : ChunkSize) (k : ℕ) (p : Position) → IsTiling (tiling_of d size) → IsIn (chunk_window (tiling_of d size) k) p → IsPosition d p
chunk_inside d size k p tiling h =
    let inside = ((chunk_positions (tiling_of d size) k tiling p).0 h).0 in
    record { t = inside.t; band = inside.bands; y = inside.y; x = inside.x }

-- all chunks of a grid have
pub cube_from_chunks : (store : Option (List ℕ)) (base : ℕ) (cube : Cube Cell) (size : ChunkSize) → IsCube cube → IsTiling (tiling_of cube.shape size) → ((k : ℕ) → k < chunk_count (tiling_of cube.shape size) → HoldsWindow store base cube (chunk_window (tiling_of cube.shape size) k)) → HoldsCube store base cube
cube_from_chunks store base cube size whole tiling held =
    cube_from_positions store base cube (IsPosition cube.shape) whole (λ p h. h) (λ p h.
    (let k = chunk_there cube.shape size p tiling h in held k.0 k.1 p k.2))

-- a list with an element for each index below an end
pub record Listed (P : ℕ → Cell → Type 0) (n : ℕ) : Type 0 where
  pub cells : List Cell
  pub counted : length cells ≡ n
  pub each : (k : ℕ) → k < n → P k (get_or cells k Empty)

pub list_of : (P : ℕ → Cell → Type 0) (n : ℕ) → ((k : ℕ) → k < n → (c : Cell) × P k c) → Listed P n
list_of P zero found = record { cells = []; counted = refl; each = λ k h. absurd (omega arith) }
list_of P (suc n) found =
    let first = found 0 (omega arith) in
    let rest = list_of (λ k c. P (suc k) c) n (λ k h. found (suc k) (omega arith)) in
    record { cells = first.0 ∷ rest.cells; counted = ap suc rest.counted; each = by first.0 first.1 rest.cells rest.each }
  where
    by : (c : Cell) → P 0 c → (cells : List Cell) → ((k : ℕ) → k < n → P (suc k) (get_or cells k Empty))
        → (k : ℕ) → k < suc n → P k (get_or (c ∷ cells) k Empty)
    by c one cells each zero h = one
    by c one cells each (suc k) h = each k (omega arith)

pub if_some : (X : Type 0) (store : Option (List ℕ)) → X → IfSome store (λ _. X)
if_some X None x = tt
if_some X (Some bytes) x = x

-- the record of a valid cell, that is not Over, stands at its number
pub record IsStoredCell (store : Option (List ℕ)) (base k : ℕ) (c : Cell) : Type 0 where
  pub valid : IsCell c
  pub held : HoldsRecord store base k c
  pub numbered : c ≢ Over
