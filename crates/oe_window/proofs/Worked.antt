-- Worked values of the definitions.
use Rattle.std.specs.Prelude.{◌≡◌, ℕ, [], ◌∷◌, Some, None, pos, codes, refl}
use Rattle.oe_dims.specs.Dimensions.{Dimensions}
use Rattle.oe_dims.specs.Cube.{Cube}
use Rattle.oe_window.specs.Cells.{cells_on}
use Rattle.oe_window.specs.Parts.{plane_of, row_of}
use Rattle.oe_window.specs.Chunks.{Tiling, parts_along, chunk_count, chunk_number, chunk_window}
use Rattle.oe_window.specs.Runs.{laid, window_numbers}
use Rattle.oe_window.specs.Windows.{positions, position_count, number_in, whole_window}
use Rattle.oe_window.specs.declared.window.Span.{Span}
use Rattle.oe_window.specs.declared.window.Window.{Window}

span : ℕ → ℕ → Span
span from to = record { from = from; to = to }

-- two bands of 2 rows and 3 columns
cube : Dimensions
cube = record { epsg = 4326; t = None; bands = Some (codes "B1" ∷ codes "B2" ∷ []); y = Some (pos 10 ∷ pos 0 ∷ []); x = Some (pos 0 ∷ pos 10 ∷ pos 20 ∷ []) }

-- the second column of both bands
column : Window
column = record { t = span 0 1; bands = span 0 2; y = span 0 2; x = span 1 2 }

all_of_the_cube : whole_window cube ≡ record { t = span 0 1; bands = span 0 2; y = span 0 2; x = span 0 3 }
unfolding cube span
all_of_the_cube = refl

four_in_the_column : position_count column ≡ 4
unfolding column span
four_in_the_column = refl

numbers_of_the_column : window_numbers cube column ≡ 1 ∷ 4 ∷ 7 ∷ 10 ∷ []
unfolding cube column span
numbers_of_the_column = refl

last_of_the_column : number_in column (record { t = 0; band = 1; y = 1; x = 1 }) ≡ 3
unfolding column span
last_of_the_column = refl

-- twelve cells, each its own number
numbered : Cube ℕ
numbered = record { shape = cube; cells = 0 ∷ 1 ∷ 2 ∷ 3 ∷ 4 ∷ 5 ∷ 6 ∷ 7 ∷ 8 ∷ 9 ∷ 10 ∷ 11 ∷ [] }

cells_of_the_column : cells_on 99 numbered column ≡ 1 ∷ 4 ∷ 7 ∷ 10 ∷ []
unfolding cube column span numbered
cells_of_the_column = refl

last_plane_of_the_column : plane_of column 1 ≡ record { t = span 0 1; bands = span 1 2; y = span 0 2; x = span 1 2 }
unfolding column span
last_plane_of_the_column = refl

third_row_of_the_column : row_of column 2 ≡ record { t = span 0 1; bands = span 1 2; y = span 0 1; x = span 1 2 }
unfolding column span
third_row_of_the_column = refl

none_where_a_span_ends_before_it_begins : positions (record { t = span 0 1; bands = span 2 1; y = span 0 2; x = span 0 3 }) ≡ []
unfolding span
none_where_a_span_ends_before_it_begins = refl

two_runs : laid ((1, 2) ∷ (7, 1) ∷ []) ≡ 1 ∷ 2 ∷ 7 ∷ []
two_runs = refl

-- 5 dates, 4 bands, 3 rows and 7 columns in chunks of 2 dates, 2 rows and 3 columns
grid : Tiling
grid = record { t = 5; bands = 4; y = 3; x = 7; side_t = 2; side_y = 2; side_x = 3 }

three_parts : parts_along 7 3 ≡ 3
three_parts = refl

eighteen_chunks : chunk_count grid ≡ 18
unfolding grid
eighteen_chunks = refl

-- columns run fastest, then rows, then dates
fourth_chunk : chunk_window grid 4 ≡ record { t = span 0 2; bands = span 0 4; y = span 2 3; x = span 3 6 }
unfolding grid span
fourth_chunk = refl

last_chunk : chunk_window grid 17 ≡ record { t = span 4 5; bands = span 0 4; y = span 2 3; x = span 6 7 }
unfolding grid span
last_chunk = refl

number_of_the_last : chunk_number grid (record { t = 4; band = 3; y = 2; x = 6 }) ≡ 17
unfolding grid
number_of_the_last = refl

no_chunk_without_labels : chunk_count (record grid { bands = 0 }) ≡ 0
unfolding grid
no_chunk_without_labels = refl
