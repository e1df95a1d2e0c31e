-- Kinds of the cells on a window.
use Rattle.std.proofs.Common.{◌≡◌, ℕ, List, length, map, sym, ap, ◌∙◌, subst, inl, inr, Option, Some, None}
use Rattle.std.specs.List.{All, slice_index_or}
use Rattle.std.specs.Option.{option_map, unwrap_or}
use Rattle.std.proofs.lemmas.Bool.{cases_lt}
use Rattle.std.proofs.lemmas.List.Elements.{All-map}
use Rattle.std.proofs.lemmas.Option.{slice_get_past, unwrap_or-slice_get}
use Rattle.oe_cell.specs.declared.cell.Cell.{Cell}
use Rattle.oe_cell.specs.declared.cell.Cell.TheVariants.{Empty}
use Rattle.oe_cube.specs.Kinds.{IsOfKind}
use Rattle.oe_dims.specs.Dimensions.{Dimensions}
use Rattle.oe_dims.specs.Positions.{Position}
use Rattle.oe_dims.specs.declared.kind.CellKind.{CellKind}
use Rattle.oe_meanings.proofs.CellKindLemmas.{null_fits}
use Rattle.oe_ops.specs.Indices.{found_in, position_in}
use Rattle.oe_ops.specs.Slices.{cell_of}
use Rattle.oe_ops.specs.declared.slice.Slice.{Slice}

-- of a list of cells of a kind, and past its end
pub fits_at : (kind : CellKind) (cells : List Cell) (n : ℕ) → All (IsOfKind kind) cells → IsOfKind kind (slice_index_or cells n Empty)
fits_at kind cells n h = elim (cases_lt n (length cells)) [
  | inl lt ↦ h n Empty lt
  | inr ge ↦ subst (IsOfKind kind) (ap (λ o. unwrap_or o Empty) (sym (slice_get_past cells n ge)) ∙ unwrap_or-slice_get cells n Empty) (null_fits kind)
]

fits_where_found : (kind : CellKind) (slice : Slice) (o : Option Position) → All (IsOfKind kind) slice.cells.now → IsOfKind kind (unwrap_or (option_map (cell_of slice) o) Empty)
fits_where_found kind slice None h = null_fits kind
fits_where_found kind slice (Some q) h = fits_at kind slice.cells.now _ h

pub found_fits : (kind : CellKind) (shape argument : Dimensions) (slice : Slice) (p : Position) → All (IsOfKind kind) slice.cells.now → IsOfKind kind (unwrap_or (found_in shape argument slice p) Empty)
found_fits kind shape argument slice p h = fits_where_found kind slice (position_in shape argument p) h

-- of what is made of each position
pub all_fit : (kind : CellKind) (f : Position → Cell) (ps : List Position) (cells : List Cell) → cells ≡ map f ps → ((p : Position) → IsOfKind kind (f p)) → All (IsOfKind kind) cells
all_fit kind f ps cells is each = subst (All (IsOfKind kind)) (sym is) (All-map (IsOfKind kind) f ps (λ k other lt. each (slice_index_or ps k other)))
