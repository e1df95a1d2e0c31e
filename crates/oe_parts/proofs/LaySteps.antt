-- One chunk more that is laid out.
use Rattle.std.proofs.Common.{◌≡◌, ℕ, suc, ◌+◌, ◌-◌, ◌*◌, ◌<◌, List, map, Option, sym, subst, arith}
use Rattle.std.specs.List.{All, flat_map, range_with_len}
use Rattle.oe_cell.specs.Cells.{IsCell}
use Rattle.oe_cell.specs.declared.cell.Cell.{Cell}
use Rattle.oe_cell.specs.declared.cell.Cell.TheVariants.{Empty}
use Rattle.oe_dims.specs.Cube.{Cube}
use Rattle.oe_dims.specs.Dimensions.{Dimensions}
use Rattle.oe_spool.specs.Least.{lesser_of}
use Rattle.oe_spool.specs.Spooled.{ChangesOnly}
use Rattle.oe_window.specs.Cells.{cells_on}
use Rattle.oe_window.specs.Chunks.{chunk_window}
use Rattle.oe_window.specs.Runs.{window_numbers}
use Rattle.oe_parts.specs.Head.{IsPartHead, PartHead, grid_of}
use Rattle.oe_parts.specs.Laid.{AreLaid, HaveRecords, IsInFirst, IsInPart, TellsPiece}
use Rattle.oe_parts.specs.PartFile.{cells_on_all, chunks_of, part_numbers}
use Rattle.oe_parts.specs.Rows.{Shows}
use Rattle.oe_parts.specs.declared.laying.PieceFail.{PieceFail}
use Rattle.oe_parts.proofs.CellLemmas.{cells_until}
use Rattle.oe_parts.proofs.LaidLemmas.{AreApart, changes_then, have_more, laid_more}
use Rattle.oe_parts.proofs.LayLemmas.{chunk_sets, chunks_apart}
use Rattle.oe_parts.proofs.SliceLemmas.{chunk_all, chunk_shows, chunk_tells}

-- ---- a chunk

-- what is known of a chunk of a part that was laid out
pub record IsChunkLaid (part before after : Option (List ℕ)) (at base n : ℕ) (h : PartHead) (found : Option ℕ) : Type 0 where
  pub valid : IsPartHead h
  pub below : n < h.end - h.first
  pub cube : (cube : Cube Cell) → cube.shape ≡ h.shape → All IsCell (cells_on Empty cube (chunk_window (grid_of h) (h.first + n)))
      → Shows part (at + 17 * cells_until h n) (cells_on Empty cube (chunk_window (grid_of h) (h.first + n))) → AreLaid after base cube (chunk_sets h n) found
  pub some : HaveRecords after base h.shape (chunk_sets h n) found
  pub changes : ChangesOnly base h.shape (chunk_sets h n) before after

module _ (part before after : Option (List ℕ)) (at base n : ℕ) (h : PartHead) (least found : Option ℕ) (chunk : IsChunkLaid part before after at base n h found) where
  pub chunk_cube : (cube : Cube Cell) → cube.shape ≡ h.shape → All IsCell (cells_on_all cube (chunks_of h)) → Shows part at (cells_on_all cube (chunks_of h)) → AreLaid before base cube (IsInFirst (chunk_sets h) n) least → AreLaid after base cube (IsInFirst (chunk_sets h) (n + 1)) (lesser_of least found)
  chunk_cube cube same all shows old =
      let f = chunk_window (grid_of h) in
      let rest = h.end - h.first - suc n in
      let below = chunk.below in
      let parts : h.end - h.first ≡ n + suc rest = omega (arith, below) in
      let all_n : All IsCell (cells_on_all cube (map f (range_with_len h.first (n + suc rest)))) = subst (λ (m : ℕ). All IsCell (cells_on_all cube (map f (range_with_len h.first m)))) parts all in
      let shows_n : Shows part at (cells_on_all cube (map f (range_with_len h.first (n + suc rest)))) = subst (λ (m : ℕ). Shows part at (cells_on_all cube (map f (range_with_len h.first m)))) parts shows in
      let here = chunk.cube cube same (chunk_all cube f h.first n rest all_n) (chunk_shows part at cube f h.first n rest shows_n) in
      let apart : AreApart cube.shape (chunk_sets h) (h.end - h.first) = subst (λ (e : Dimensions). AreApart e (chunk_sets h) (h.end - h.first)) (sym same) (chunks_apart h chunk.valid) in
      laid_more before after base cube (chunk_sets h) (h.end - h.first) n least found apart below (subst (λ (e : Dimensions). ChangesOnly base e (chunk_sets h n) before after) (sym same) chunk.changes) old here

  pub chunk_some : HaveRecords before base h.shape (IsInFirst (chunk_sets h) n) least → HaveRecords after base h.shape (IsInFirst (chunk_sets h) (n + 1)) (lesser_of least found)
  chunk_some old =
      have_more before after base h.shape (chunk_sets h) (h.end - h.first) n least found (chunks_apart h chunk.valid) chunk.below chunk.changes old chunk.some

pub chunk_then : (old before after : Option (List ℕ)) (base n : ℕ) (h : PartHead) → n < h.end - h.first → ChangesOnly base h.shape (IsInPart h) old before → ChangesOnly base h.shape (chunk_sets h n) before after → ChangesOnly base h.shape (IsInPart h) old after
chunk_then old before after base n h below earlier changes =
    changes_then old before after base h.shape (IsInPart h) (chunk_sets h n) (λ p inside. (n, below, inside)) earlier changes

-- a damaged record of a chunk is one of the part
pub chunk_damage : (part : Option (List ℕ)) (at n : ℕ) (h : PartHead) (fail : PieceFail) → n < h.end - h.first → TellsPiece part (at + 17 * cells_until h n) (window_numbers h.shape (chunk_window (grid_of h) (h.first + n))) fail → TellsPiece part at (part_numbers h) fail
chunk_damage part at n h fail below tells =
    let f = chunk_window (grid_of h) in
    let rest = h.end - h.first - suc n in
    let parts : n + suc rest ≡ h.end - h.first = omega (arith, below) in
    subst (λ (m : ℕ). TellsPiece part at (flat_map (window_numbers h.shape) (map f (range_with_len h.first m))) fail) parts (chunk_tells part at h.shape f h.first n rest fail tells)
