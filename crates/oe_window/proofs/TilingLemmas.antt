-- The chunks of a shape have each of its numbers once.
use Rattle.std.proofs.Common.{◌≡◌, ◌↔◌, ℕ, ◌<◌, ◌==◌, false, refl, sym, ap, ◌∙◌, subst, arith, Some}
use Rattle.std.specs.List.{slice_get}
use Rattle.std.specs.Option.{option_map}
use Rattle.std.proofs.lemmas.Bool.Decides.{nat_tests}
use Rattle.std.proofs.lemmas.Option.{slice_get-map}
use Rattle.oe_dims.specs.Dimensions.{Dimensions, cell_count}
use Rattle.oe_dims.specs.Positions.{Position, IsPosition, number_of}
use Rattle.oe_dims.proofs.CubeLemmas.{number_below, position_there, position_alone}
use Rattle.oe_dims.proofs.FlatMapLemmas.{value_at}
use Rattle.oe_window.specs.Chunks.{Tiling, IsTiling, IsInside, PartNumbers, tiling_of, chunk_count, chunk_number, chunk_numbers, chunk_window}
use Rattle.oe_window.specs.Windows.{positions, number_in}
use Rattle.oe_window.specs.declared.grid.ChunkSize.{ChunkSize}
use Rattle.oe_window.proofs.ChunkLemmas.{HasSides, chunk_positions, number_by_sides, sides_of}
use Rattle.oe_window.proofs.WindowLemmas.{position_at, position_number}

pub inside_position : (d : Dimensions) (size : ChunkSize) (p : Position) → IsInside (tiling_of d size) p → IsPosition d p
inside_position d size p h = record { t = h.t; band = h.bands; y = h.y; x = h.x }

pub position_inside : (d : Dimensions) (size : ChunkSize) (p : Position) → IsPosition d p → IsInside (tiling_of d size) p
position_inside d size p h = record { t = h.t; bands = h.band; y = h.y; x = h.x }

-- the positions of a tiling are those of its shape
pub inside_is : (d : Dimensions) (size : ChunkSize) (p : Position) → IsInside (tiling_of d size) p ↔ IsPosition d p
inside_is d size p = (inside_position d size p, position_inside d size p)

-- the position whose number stands in a chunk's list
record HasNumber (d : Dimensions) (g : Tiling) (chunk index number : ℕ) : Type 0 where
  p : Position
  inside : IsInside g p
  chunk_is : chunk_number g p ≡ chunk
  index_is : index ≡ number_in (chunk_window g chunk) p
  number_is : number_of d p ≡ number

has_number : (d : Dimensions) (g : Tiling) (chunk index number : ℕ) → IsTiling g → slice_get (chunk_numbers d g chunk) index ≡ Some number → HasNumber d g chunk index number
has_number d g chunk index number tiling e =
    let w = chunk_window g chunk in
    let found = value_at (number_of d) (positions w) index number e in
    let here = position_number w index found.0 found.1 in
    let part = (chunk_positions g chunk tiling found.0).0 here.0 in
    record { p = found.0; inside = part.0; chunk_is = part.1; index_is = here.1; number_is = found.2 }

-- each has a chunk
pub chunk_by_sides : (g : Tiling) (p : Position) → HasSides g → IsInside g p → chunk_number g p < chunk_count g
chunk_by_sides g p sides h =
    let below = number_by_sides g p sides h in
    let bands = h.bands in
    let some : g.bands == 0 ≡ false = grind (arith, nat_tests) in
    rw some below

pub some_chunk : (g : Tiling) (p : Position) → IsTiling g → IsInside g p → chunk_number g p < chunk_count g
some_chunk g p tiling h = chunk_by_sides g p (sides_of g tiling) h

pub part_numbers : (d : Dimensions) (size : ChunkSize) → IsTiling (tiling_of d size) → PartNumbers (chunk_count (tiling_of d size)) (chunk_numbers d (tiling_of d size)) (cell_count d)
part_numbers d size tiling =
    let g = tiling_of d size in
    record {
      below = λ list index number lt e.
          let h = has_number d g list index number tiling e in
          subst (λ k. k < cell_count d) h.number_is (number_below d h.p (inside_position d size h.p h.inside));
      some = λ number lt.
          let found = position_there d number lt in
          let p = found.0 in
          let inside = position_inside d size p found.1.inside in
          let j = chunk_number g p in
          let w = chunk_window g j in
          let here = position_at w p ((chunk_positions g j tiling p).1 (inside, refl)) in (
            j,
            number_in w p,
            some_chunk g p tiling inside,
            slice_get-map (number_of d) (positions w) (number_in w p) ∙ ap (option_map (number_of d)) here ∙ ap Some found.1.number_is,
          );
      once = λ number a i b j e e'.
          let h = has_number d g a i number tiling e in
          let h' = has_number d g b j number tiling e' in
          let same : h.p ≡ h'.p = position_alone d h.p h'.p (inside_position d size h.p h.inside) (inside_position d size h'.p h'.inside) (h.number_is ∙ sym h'.number_is) in
          let chunk : a ≡ b = sym h.chunk_is ∙ ap (chunk_number g) same ∙ h'.chunk_is in
          (chunk, h.index_is ∙ ap (number_in (chunk_window g a)) same ∙ ap (λ k. number_in (chunk_window g k) h'.p) chunk ∙ sym h'.index_is);
    }
