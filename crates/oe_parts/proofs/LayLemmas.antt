-- The chunks of a part, the parts of a run, and that together they have each position once.
use Rattle.std.proofs.Common.{◌≡◌, ◌≢◌, ℕ, zero, suc, ◌+◌, ◌-◌, ◌*◌, ◌<◌, ◌≤◌, List, [], ◌∷◌, length, get_or, Option, Some, None, refl, sym, ap, ◌∙◌, subst, arith}
use Rattle.std.specs.List.{slice_get}
use Rattle.std.proofs.lemmas.List.{append-nil}
use Rattle.std.proofs.lemmas.Option.{get_or_from_slice_get, slice_get-get_or, slice_get_within}
use Rattle.oe_cell.specs.Cells.{IsCell}
use Rattle.oe_cell.specs.Record.{record_of, records_of}
use Rattle.oe_cell.specs.declared.cell.Cell.{Cell}
use Rattle.oe_cell.specs.declared.cell.Cell.TheVariants.{Empty, Over}
use Rattle.oe_dims.specs.Cube.{Cube, IsCube}
use Rattle.oe_dims.specs.Dimensions.{Dimensions, IsShape, cell_count}
use Rattle.oe_dims.specs.Positions.{IsPosition, Position}
use Rattle.oe_dims.proofs.CubeLemmas.{position_there}
use Rattle.oe_outside.specs.Stored.{StoreHolds}
use Rattle.oe_render.specs.Stored.{AreStored, HasCells}
use Rattle.oe_render.proofs.Records.{AreStored-both, AreStored-none}
use Rattle.oe_spool.specs.Spooled.{HoldsRecord}
use Rattle.oe_spool.proofs.CubeRecords.{cells_counted, chunk_inside, chunk_there, cube_from_positions}
use Rattle.oe_spool.proofs.LeastLemmas.{least_of_all, least_of_same}
use Rattle.oe_window.specs.Cells.{cell_at}
use Rattle.oe_window.specs.Chunks.{IsTiling, Tiling, chunk_number, chunk_window, tiling_of}
use Rattle.oe_window.specs.Windows.{IsIn}
use Rattle.oe_window.specs.declared.grid.ChunkSize.{ChunkSize}
use Rattle.oe_window.proofs.ChunkLemmas.{chunk_positions}
use Rattle.oe_parts.specs.Head.{IsPartHead, PartHead, grid_of}
use Rattle.oe_parts.specs.Laid.{AreLaid, HaveRecords, IsInFirst, IsInPart, LaysCube}
use Rattle.oe_parts.specs.Whole.{AreOfRun, HasChunkAt, RunOutline, Tile, run_chunks}
use Rattle.oe_parts.proofs.LaidLemmas.{AreApart}
use Rattle.oe_parts.proofs.SizeLemmas.{is_tiling}

-- ---- the chunks of a part

abbrev pub chunk_sets : PartHead → ℕ → Position → Type 0
chunk_sets h k p = IsIn (chunk_window (grid_of h) (h.first + k)) p

chunk_of_position : (h : PartHead) (k : ℕ) (p : Position) → IsPartHead h → chunk_sets h k p → chunk_number (grid_of h) p ≡ h.first + k
chunk_of_position h k p valid inside = ((chunk_positions (grid_of h) (h.first + k) (is_tiling h.shape h.sides valid.sides valid.shape) p).0 inside).1

pub chunks_apart : (h : PartHead) → IsPartHead h → AreApart h.shape (chunk_sets h) (h.end - h.first)
chunks_apart h valid = record {
  inside = λ k p below inside. chunk_inside h.shape h.sides (h.first + k) p (is_tiling h.shape h.sides valid.sides valid.shape) inside;
  once = λ a b p below_a below_b in_a in_b. (let first = chunk_of_position h a p valid in_a in let second = chunk_of_position h b p valid in_b in omega (arith, first, second));
}

-- ---- the cells of a cube

cell_valid : (cube : Cube Cell) → IsCube cube → ((p : Position) → IsPosition cube.shape p → IsCell (cell_at Empty cube p)) → (k : ℕ) (d : Cell) → k < length cube.cells → IsCell (get_or cube.cells k d)
cell_valid cube whole each k d below =
    let found = position_there cube.shape k (omega (arith, below, cells_counted cube whole)) in
    let here = each found.0 found.1.inside in
    subst IsCell (same_read cube k d below) (subst (λ (n : ℕ). IsCell (get_or cube.cells n Empty)) found.1.number_is here)
  where
    same_read : (cube : Cube Cell) (k : ℕ) (d : Cell) → k < length cube.cells → get_or cube.cells k Empty ≡ get_or cube.cells k d
    same_read cube k d below = get_or_from_slice_get cube.cells k (get_or cube.cells k d) Empty (slice_get-get_or cube.cells k d below)

-- ---- the parts of a run

abbrev pub part_sets : List PartHead → ℕ → Position → Type 0
part_sets heads k p = (head : PartHead) × (slice_get heads k ≡ Some head) × IsInPart head p

module _ (run : RunOutline) (sides : ChunkSize) (heads : List PartHead) (of_run : AreOfRun run sides heads) (shape : IsShape run.shape) (tile : Tile heads (run_chunks run sides)) where
  grid_is : (k : ℕ) (h : PartHead) → slice_get heads k ≡ Some h → grid_of h ≡ tiling_of run.shape sides
  grid_is k h at =
      let this = of_run.each k h at in
      ap (λ (d : Dimensions). tiling_of d h.sides) this.shape ∙ ap (tiling_of run.shape) this.sides_are

  -- a position of a chunk of a part lies in the run's chunk of that number
  in_run : (k j : ℕ) (h : PartHead) (p : Position) → slice_get heads k ≡ Some h → chunk_sets h j p → IsIn (chunk_window (tiling_of run.shape sides) (h.first + j)) p
  in_run k j h p at inside = subst (λ (g : Tiling). IsIn (chunk_window g (h.first + j)) p) (grid_is k h at) inside

  run_tiling : IsTiling (tiling_of run.shape sides)
  run_tiling = is_tiling run.shape sides of_run.valid shape

  has_number : (k : ℕ) (p : Position) → part_sets heads k p → HasChunkAt heads k (chunk_number (tiling_of run.shape sides) p)
  has_number k p inside =
      let h = inside.0 in
      let j = inside.2.0 in
      let below = inside.2.1 in
      let number : chunk_number (tiling_of run.shape sides) p ≡ h.first + j =
      ((chunk_positions (tiling_of run.shape sides) (h.first + j) run_tiling p).0 (in_run k j h p inside.1 inside.2.2)).1 in
      (h, inside.1, (omega (arith, number), omega (arith, number, below)))

  pub parts_apart : AreApart run.shape (part_sets heads) (length heads)
  parts_apart = record {
    inside = λ k p below inside. chunk_inside run.shape sides (inside.0.first + inside.2.0) p run_tiling (in_run k inside.2.0 inside.0 p inside.1 inside.2.2);
    once = λ a b p below_a below_b in_a in_b. tile.once (chunk_number (tiling_of run.shape sides) p) a b (has_number a p in_a) (has_number b p in_b);
  }

  -- each position of a chunk is one of a part
  pub chunk_covered : (k : ℕ) (p : Position) → k < run_chunks run sides → IsIn (chunk_window (tiling_of run.shape sides) k) p → IsInFirst (part_sets heads) (length heads) p
  chunk_covered k p below inside =
      let covered = tile.covered k below in
      let index = covered.0 in
      let h = covered.1.0 in
      let at = covered.1.1 in
      let has = covered.1.2 in
      let low = has.0 in
      let high = has.1 in
      let j = k - h.first in
      let same : h.first + j ≡ k = omega (arith, low) in
      let few : j < h.end - h.first = omega (arith, low, high) in
      let there : chunk_sets h j p = subst (λ (g : Tiling). IsIn (chunk_window g (h.first + j)) p) (sym (grid_is index h at)) (subst (λ (n : ℕ). IsIn (chunk_window (tiling_of run.shape sides) n) p) (sym same) inside) in
      (index, slice_get_within heads index h at, (h, at, (j, few, there)))

  pub all_covered : (p : Position) → IsPosition run.shape p → IsInFirst (part_sets heads) (length heads) p
  all_covered p inside =
      let found = chunk_there run.shape sides p run_tiling inside in
      chunk_covered found.0 p found.1 found.2

  pub all_inside : (p : Position) → IsInFirst (part_sets heads) (length heads) p → IsPosition run.shape p
  all_inside p inside = parts_apart.inside inside.0 p inside.1 inside.2

  -- what is laid out of all parts is the cube
  pub cube_laid : (store : Option (List ℕ)) (base : ℕ) (cube : Cube Cell) (least : Option ℕ) → IsCube cube → cube.shape ≡ run.shape → AreLaid store base cube (IsInFirst (part_sets heads) (length heads)) least → LaysCube base store least cube
  cube_laid store base cube least whole same laid =
      let d = cube.shape in
      let back : (p : Position) → IsPosition d p → IsInFirst (part_sets heads) (length heads) p = λ p inside. all_covered p (subst (λ (e : Dimensions). IsPosition e p) same inside) in
      let there : (p : Position) → IsInFirst (part_sets heads) (length heads) p → IsPosition d p = λ p inside. subst (λ (e : Dimensions). IsPosition e p) (sym same) (all_inside p inside) in
      record {
        valid = λ k e below. cell_valid cube whole (λ p inside. laid.valid p (back p inside)) k e below;
        held = cube_from_positions store base cube (IsInFirst (part_sets heads) (length heads)) whole back laid.held;
        least_is = least_of_all cube least whole (least_of_same cube (IsInFirst (part_sets heads) (length heads)) (IsPosition d) least there back laid.least_is);
      }

-- ---- cells of which none is Over

stored_one : (store : Option (List ℕ)) (at : ℕ) (c : Cell) → IsCell c → StoreHolds store at (record_of c) → c ≢ Over → AreStored store at 1 (c ∷ [])
stored_one store at c valid held other = record {
  counted = refl;
  read = record { fit = λ k d below. one_cell k d below; held = alone store held };
  numbered = λ k d below. one_other k d below;
}
  where
    one_cell : (k : ℕ) (d : Cell) → k < 1 → IsCell (get_or (c ∷ []) k d)
    one_cell zero d below = valid
    one_cell (suc k) d below = absurd (omega (arith, below))

    one_other : (k : ℕ) (d : Cell) → k < 1 → get_or (c ∷ []) k d ≢ Over
    one_other zero d below = other
    one_other (suc k) d below = absurd (omega (arith, below))

    alone : (o : Option (List ℕ)) → StoreHolds o at (record_of c) → StoreHolds o at (records_of (c ∷ []))
    alone o h = subst (StoreHolds o at) (sym (append-nil (record_of c))) h

stored_from : (store : Option (List ℕ)) (base n from : ℕ) → ((k : ℕ) → from ≤ k → k < from + n → (cell : Cell) × IsCell cell × HoldsRecord store base k cell × (cell ≢ Over)) → (cells : List Cell) × AreStored store (base + 17 * from) n cells
stored_from store base zero from each = ([], AreStored-none store (base + 17 * from))
stored_from store base (suc n) from each =
    let here = each from (omega arith) (omega arith) in
    let rest = stored_from store base n (from + 1) (λ k low high. each k (omega (arith, low)) (omega (arith, high))) in
    let next : base + 17 * (from + 1) ≡ base + 17 * from + 17 * 1 = omega arith in
    let count : 1 + n ≡ suc n = omega arith in (
      here.0 ∷ rest.0,
      subst (λ (m : ℕ). AreStored store (base + 17 * from) m (here.0 ∷ rest.0)) count
          (AreStored-both (stored_one store (base + 17 * from) here.0 here.1 here.2 here.3) (subst (λ (at : ℕ). AreStored store at n rest.0) next rest.1)),
    )

with_cells : (store : Option (List ℕ)) (at count : ℕ) → (cells : List Cell) × AreStored store at count cells → HasCells store at count
with_cells None at count h = tt
with_cells (Some all) at count h = h

pub has_cells : (store : Option (List ℕ)) (base : ℕ) (d : Dimensions) (positions : Position → Type 0) (least : Option ℕ) → ((p : Position) → IsPosition d p → positions p) → HaveRecords store base d positions least → least ≡ None → HasCells store base (cell_count d)
has_cells store base d positions least all have none =
    let start : base + 17 * 0 ≡ base = omega arith in
    with_cells store base (cell_count d) (subst (λ (at : ℕ). (cells : List Cell) × AreStored store at (cell_count d) cells) start (stored_from store base (cell_count d) 0 (λ k low high.
    (let found = position_there d k (omega (arith, high)) in
    let p = found.0 in
    let here = have p (all p found.1.inside) in
    (here.0, here.1, subst (λ (n : ℕ). HoldsRecord store base n here.0) found.1.number_is here.2, here.3 none)))))
