-- How many chunks a run has, and how many cells they have.
use Rattle.std.proofs.Common.{ℕ, ◌*◌, ◌≤◌, ◌^◌, ◌==◌, Bool, true, false, arith}
use Rattle.std.specs.Prelude.{if◌then◌else◌}
use Rattle.std.proofs.lemmas.Nat.{mul-le}
use Rattle.oe_dims.specs.Dimensions.{Dimensions, IsShape, extent}
use Rattle.oe_dims.proofs.ShapeLemmas.{extents_of_shape}
use Rattle.oe_window.specs.Chunks.{IsTiling, chunk_count, parts_along, tiling_of}
use Rattle.oe_window.specs.declared.grid.ChunkSize.{ChunkSize}
use Rattle.oe_window.proofs.ChunkLemmas.{parts_along-le}
use Rattle.oe_parts.specs.Head.{AreSides, PartHead, chunk_total}

-- the tiling of a shape in chunks of valid sides
pub is_tiling : (d : Dimensions) (sides : ChunkSize) → AreSides sides → IsShape d → IsTiling (tiling_of d sides)
is_tiling d sides valid shape =
    let extents = extents_of_shape d shape in
    record { t = extents.t; bands = extents.bands; y = extents.y; x = extents.x; side_t = valid.t; side_y = valid.y; side_x = valid.x }

none_or : (b : Bool) (n most : ℕ) → n ≤ most → (if b then 0 else n) ≤ most
none_or true n most h = omega arith
none_or false n most h = h

product_below : (a b c : ℕ) → a ≤ 65536 → b ≤ 65536 → c ≤ 65536 → a * b * c ≤ 2 ^ 48
product_below a b c ha hb hc =
    let two : a * b ≤ 65536 * 65536 = mul-le a b 65536 65536 ha hb in
    let three : a * b * c ≤ 65536 * 65536 * 65536 = mul-le (a * b) c (65536 * 65536) 65536 two hc in
    omega (arith, three)

-- there are at most 2^48 chunks
pub count_below : (d : Dimensions) (sides : ChunkSize) → AreSides sides → IsShape d → chunk_count (tiling_of d sides) ≤ 2 ^ 48
count_below d sides valid shape =
    let extents = extents_of_shape d shape in
    let t = parts_along-le (extent d.t) sides.t valid.t.0 in
    let y = parts_along-le (extent d.y) sides.y valid.y.0 in
    let x = parts_along-le (extent d.x) sides.x valid.x.0 in
    none_or (extent d.bands == 0) _ (2 ^ 48)
    (product_below (parts_along (extent d.t) sides.t) (parts_along (extent d.y) sides.y) (parts_along (extent d.x) sides.x) (omega (arith, t, extents.t)) (omega (arith, y, extents.y)) (omega (arith, x, extents.x)))

pub total_below : (h : PartHead) → AreSides h.sides → IsShape h.shape → chunk_total h ≤ 2 ^ 48
total_below h valid shape = count_below h.shape h.sides valid shape
