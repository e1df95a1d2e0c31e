-- Worked values of the rows of the table of faults: where each holds, and where it just does not.
use Rattle.std.specs.Prelude.{◌≡◌, ℕ, ℤ, pos, neg_ℤ, true, false, List, [], ◌∷◌, Option, Some, None, codes, refl}
use Rattle.oe_cell.specs.Rational.{whole_of}
use Rattle.oe_cell.specs.declared.cell.Cell.TheVariants.{Empty, Flag}
use Rattle.oe_dims.specs.Dimensions.{Dimensions}
use Rattle.oe_dims.specs.declared.dims.DimsRow.{DimsRow}
use Rattle.oe_dims.specs.declared.kind.CellKind.{CellKind}
use Rattle.oe_dims.specs.declared.kind.CellKind.TheVariants.{Numbers, Flags}
use Rattle.oe_graph.specs.Tree as tree
use Rattle.oe_graph.specs.declared.code.Code.TheVariants.{DimensionNotAvailable, TemporalExtentEmpty, BandFilterParameterMissing}
use Rattle.oe_kernel.specs.declared.border.Border.TheVariants.{Wrap}
use Rattle.oe_expr.specs.Nodes.{down_from}
use Rattle.oe_expr.specs.Rows.{first_row}
use Rattle.oe_requests.specs.Operations.{Outline}
use Rattle.oe_requests.specs.Parameters.{extent_from, labelled_interval}
use Rattle.oe_requests.specs.Requests.{CubeRequest, Called, called, load_collection, filter_bbox, filter_temporal, filter_bands, apply_kernel, reduce_dimension, aggregate_temporal, merge_cubes, mask, save_result}
use Rattle.oe_meanings.specs.Rows.{collection_not_found, crs_unsupported, format_unsupported, dimension_not_available, temporal_extent_empty, band_filter_parameter_missing, band_not_available, kernel_dimensions_uneven, kernel_too_large, distinct_labels_required, merge_dimensions_differ, overlap_resolver_missing, mask_dimensions_differ, cell_kind_invalid, cube_too_large}
use Rattle.oe_meanings.specs.Stands.{early_rows}
use Rattle.oe_meanings.specs.Words.{share_tuple}
use Rattle.oe_requests.specs.declared.extent.BoundingBox.{BoundingBox}
use Rattle.oe_requests.specs.declared.extent.Interval.{Interval}
use Rattle.oe_requests.specs.declared.extent.TemporalExtent.{TemporalExtent}
use Rattle.oe_check.proofs.WorkedWords.{january_1, january_2, january_3, shape_with, whole}

-- ---- cubes, each over one date, band and pixel but for what is said

abbrev a : List ℕ
a = codes "a"

abbrev b : List ℕ
b = codes "b"

abbrev outline_with : Dimensions → CellKind → Outline
outline_with shape kind = record { shape = shape; kind = kind }

abbrev dot : Dimensions
dot = shape_with (january_1 ∷ []) (codes "B1" ∷ []) (pos 0 ∷ []) (pos 0 ∷ [])

abbrev one : List Outline
one = outline_with dot Numbers ∷ []

-- a cube and another, both of numbers
abbrev two : Dimensions → Dimensions → List Outline
two s t = outline_with s Numbers ∷ outline_with t Numbers ∷ []

abbrev without_t : Dimensions
without_t = record dot { t = None }

abbrev without_bands : Dimensions
without_bands = record dot { bands = None }

abbrev without_x : Dimensions
without_x = record dot { x = None }

-- without x and y, so without a reference system
abbrev without_plane : Dimensions
without_plane = record dot { epsg = 0; y = None; x = None }

abbrev of_shape : Dimensions → List Outline
of_shape s = outline_with s Numbers ∷ []

abbrev box_of_code : ℕ → BoundingBox
box_of_code epsg = record { west = pos 0; south = pos 0; east = pos 1; north = pos 1; epsg = epsg }

abbrev first_day : TemporalExtent
first_day = extent_from (Some january_1) (Some january_2)

-- ---- collections, boxes and formats

collection_is_there : collection_not_found (record { id = a; shape = dot; kind = Numbers } ∷ []) (load_collection a None None None) ≡ false
collection_is_there = refl

collection_is_not_there : collection_not_found (record { id = a; shape = dot; kind = Numbers } ∷ []) (load_collection b None None None) ≡ true
collection_is_not_there = refl

box_of_the_cube : crs_unsupported (filter_bbox a (box_of_code 4326)) one ≡ false
box_of_the_cube = refl

box_of_another_system : crs_unsupported (filter_bbox a (box_of_code 32631)) one ≡ true
box_of_another_system = refl

box_without_a_plane : crs_unsupported (filter_bbox a (box_of_code 4326)) (of_shape without_plane) ≡ true
box_without_a_plane = refl

load_of_another_system : crs_unsupported (load_collection a (Some (box_of_code 1)) None None) one ≡ true
load_of_another_system = refl

format_in_small_letters : format_unsupported (save_result a (codes "fJson")) ≡ false
format_in_small_letters = refl

another_format : format_unsupported (save_result a (codes "JSON")) ≡ true
another_format = refl

-- ---- dimensions

box_on_y_alone : dimension_not_available (filter_bbox a (box_of_code 4326)) (of_shape without_x) ≡ true
box_on_y_alone = refl

load_in_time_without_t : dimension_not_available (load_collection a None (Some first_day) None) (of_shape without_t) ≡ true
load_in_time_without_t = refl

load_of_bands_without_bands : dimension_not_available (load_collection a None None (Some (b ∷ []))) (of_shape without_bands) ≡ true
load_of_bands_without_bands = refl

load_of_all : dimension_not_available (load_collection a None None None) (of_shape without_t) ≡ false
load_of_all = refl

time_of_another_name : dimension_not_available (filter_temporal a first_day (Some (codes "x"))) one ≡ true
time_of_another_name = refl

time_of_its_name : dimension_not_available (filter_temporal a first_day (Some (codes "t"))) one ≡ false
time_of_its_name = refl

no_bands_of_no_bands : first_row (early_rows [] (filter_bands a []) (of_shape without_bands)) ≡ Some BandFilterParameterMissing
no_bands_of_no_bands = refl

bands_of_no_bands : first_row (early_rows [] (filter_bands a (b ∷ [])) (of_shape without_bands)) ≡ Some DimensionNotAvailable
bands_of_no_bands = refl

kernel_without_x : dimension_not_available (apply_kernel a (record { width = 1; height = 1; values = whole_of (pos 1) ∷ [] }) (whole_of (pos 1)) Wrap (whole_of (pos 0))) (of_shape without_x) ≡ true
kernel_without_x = refl

abbrev given_null : Called
given_null = called (record { nodes = tree.no_nodes; result = 0 }) Empty

reduced_along_z : dimension_not_available (reduce_dimension a (codes "z") given_null) one ≡ true
reduced_along_z = refl

reduced_along_a_missing_one : dimension_not_available (reduce_dimension a (codes "t") given_null) (of_shape without_t) ≡ true
reduced_along_a_missing_one = refl

reduced_along_t : dimension_not_available (reduce_dimension a (codes "t") given_null) one ≡ false
reduced_along_t = refl

-- ---- extents and bands

end_at_its_start : temporal_extent_empty (filter_temporal a (extent_from (Some january_1) (Some january_1)) None) ≡ true
end_at_its_start = refl

end_after_its_start : temporal_extent_empty (filter_temporal a first_day None) ≡ false
end_after_its_start = refl

without_a_start : temporal_extent_empty (filter_temporal a (extent_from None (Some january_1)) None) ≡ false
without_a_start = refl

abbrev intervals : List Interval → CubeRequest
intervals given = aggregate_temporal a given None given_null

second_interval_empty : temporal_extent_empty (intervals (labelled_interval first_day january_1 ∷ labelled_interval (extent_from (Some january_2) (Some january_1)) january_2 ∷ [])) ≡ true
second_interval_empty = refl

band_is_there : band_not_available (filter_bands a (codes "B1" ∷ [])) one ≡ false
band_is_there = refl

band_is_not_there : band_not_available (filter_bands a (codes "B1" ∷ codes "B2" ∷ [])) one ≡ true
band_is_not_there = refl

-- ---- kernels

abbrev kernel_of_sizes : ℕ → ℕ → CubeRequest
kernel_of_sizes width height =
    apply_kernel a (record { width = width; height = height; values = [] }) (whole_of (pos 1)) Wrap (whole_of (pos 0))

even_height : kernel_dimensions_uneven (kernel_of_sizes 3 2) ≡ true
even_height = refl

odd_sizes : kernel_dimensions_uneven (kernel_of_sizes 3 31) ≡ false
odd_sizes = refl

largest_kernel : kernel_too_large (kernel_of_sizes 31 31) ≡ false
largest_kernel = refl

width_over_it : kernel_too_large (kernel_of_sizes 32 1) ≡ true
width_over_it = refl

-- ---- labels of intervals

equal_labels : distinct_labels_required (intervals (labelled_interval first_day january_1 ∷ labelled_interval first_day january_1 ∷ [])) ≡ true
equal_labels = refl

other_labels : distinct_labels_required (intervals (labelled_interval first_day january_1 ∷ labelled_interval first_day january_2 ∷ [])) ≡ false
other_labels = refl

-- ---- merges

abbrev merged : CubeRequest
merged = merge_cubes a b None

abbrev dot_of_b2 : Dimensions
dot_of_b2 = record dot { bands = Some (codes "B2" ∷ []) }

neither_among_the_other : merge_dimensions_differ merged (two without_t without_bands) ≡ true
neither_among_the_other = refl

one_among_the_other : merge_dimensions_differ merged (two without_t dot) ≡ false
one_among_the_other = refl

differing_along_one : merge_dimensions_differ merged (two dot dot_of_b2) ≡ false
differing_along_one = refl

differing_along_two : merge_dimensions_differ merged (two dot (record dot_of_b2 { t = Some (january_2 ∷ []) })) ≡ true
differing_along_two = refl

codes_that_differ : merge_dimensions_differ merged (two dot (record dot { epsg = 32631 })) ≡ true
codes_that_differ = refl

code_beside_none : merge_dimensions_differ merged (two dot without_plane) ≡ false
code_beside_none = refl

same_cube_twice : overlap_resolver_missing merged (two dot dot) ≡ true
same_cube_twice = refl

other_bands : overlap_resolver_missing merged (two dot dot_of_b2) ≡ false
other_bands = refl

resolver_given : overlap_resolver_missing (merge_cubes a b (Some given_null)) (two dot dot) ≡ false
resolver_given = refl

-- a cube is repeated over a dimension that it lacks; where that has no label there is no tuple
repeated_over_labels : share_tuple without_t dot ≡ true
repeated_over_labels = refl

repeated_over_none : share_tuple without_t (record dot { t = Some [] }) ≡ false
repeated_over_none = refl

-- ---- masks

abbrev masked : CubeRequest
masked = mask a b Empty

mask_of_more_dimensions : mask_dimensions_differ masked (two without_t dot) ≡ true
mask_of_more_dimensions = refl

mask_of_fewer : mask_dimensions_differ masked (two dot without_t) ≡ false
mask_of_fewer = refl

mask_of_another_band : mask_dimensions_differ masked (two dot dot_of_b2) ≡ true
mask_of_another_band = refl

mask_of_another_system : mask_dimensions_differ masked (two dot (record dot { epsg = 32631 })) ≡ true
mask_of_another_system = refl

mask_without_a_system : mask_dimensions_differ masked (two dot without_plane) ≡ false
mask_without_a_system = refl

-- ---- kinds of cells

abbrev numbers_and_flags : List Outline
numbers_and_flags = outline_with dot Numbers ∷ outline_with dot Flags ∷ []

abbrev both_flags : List Outline
both_flags = outline_with dot Flags ∷ outline_with dot Flags ∷ []

-- the node that gives true where x equals y
abbrev equal_cells : tree.PlainGraph
equal_cells = record {
  nodes =
      tree.node (codes "e") (codes "eq") None
      (tree.named (codes "case_sensitive") (tree.flag true) (tree.named (codes "delta") tree.null
      (tree.named (codes "x") (tree.from_parameter (codes "x")) (tree.named (codes "y") (tree.from_parameter (codes "y")) tree.no_named))))
      tree.no_nodes;
  result = 0;
}

merge_of_two_kinds : cell_kind_invalid merged numbers_and_flags ≡ true
merge_of_two_kinds = refl

merge_of_one_kind : cell_kind_invalid merged both_flags ≡ false
merge_of_one_kind = refl

resolver_to_flags : cell_kind_invalid (merge_cubes a b (Some (called equal_cells Empty))) (two dot dot) ≡ true
unfolding down_from
resolver_to_flags = refl

resolver_of_flags : cell_kind_invalid (merge_cubes a b (Some (called equal_cells Empty))) both_flags ≡ false
unfolding down_from
resolver_of_flags = refl

-- a callback whose kind stays open gives numbers
open_resolver_of_flags : cell_kind_invalid (merge_cubes a b (Some given_null)) both_flags ≡ true
unfolding down_from
open_resolver_of_flags = refl

mask_takes_either_kind : cell_kind_invalid masked numbers_and_flags ≡ false
mask_takes_either_kind = refl

replacement_of_another_kind : cell_kind_invalid (mask a b (Flag true)) (two dot dot) ≡ true
replacement_of_another_kind = refl

replacement_of_its_kind : cell_kind_invalid (mask a b (Flag true)) both_flags ≡ false
replacement_of_its_kind = refl

-- ---- sizes

small_cube : cube_too_large masked (two dot dot) ≡ false
small_cube = refl
