-- The rows of the table of faults for the nodes of the main graph, one definition a row: where its code stands at a
-- node whose arguments are what they may be and refer to nodes without a fault. `cubes` are the outlines of the cubes
-- that the request works on, the collection of a load among them. A row says nothing of the rows before it: the first
-- that holds is the one that stands. A process without a clause never has the code.
use Rattle.std.specs.Prelude.{ℕ, ◌%◌, ◌==◌, ◌&&◌, ◌||◌, not, nat_lt, Bool, true, false, List, [], map, Option, Some, None, codes, find, is_some, is_none}
use Rattle.std.specs.List.{list_any}
use Rattle.std.specs.Option.{option_map_or}
use Rattle.std.specs.Str.{str_eq_ignore_ascii_case}
use Rattle.oe_cell.specs.declared.cell.Cell.{Cell}
use Rattle.oe_dims.specs.Dimensions.{Dimensions, band_names}
use Rattle.oe_dims.specs.Indices.{same_number}
use Rattle.oe_dims.specs.Names.{same_name}
use Rattle.oe_dims.specs.declared.dims.DimsRow.{DimsRow}
use Rattle.oe_dims.specs.declared.kind.CellKind.{CellKind}
use Rattle.oe_dims.specs.declared.kind.CellKind.TheVariants.{Numbers}
use Rattle.oe_dims.specs.declared.kind.Kind.TheVariants.{Time, Bands}
use Rattle.oe_kernel.specs.Kernels.{KernelValues, largest_size}
use Rattle.oe_expr.specs.Callback.{Callback, callback_kind}
use Rattle.oe_expr.specs.Kinds.{literal_kind}
use Rattle.oe_expr.specs.Scope as scope
use Rattle.oe_requests.specs.Extents.{is_empty_extent}
use Rattle.oe_requests.specs.Labels.{are_among, are_distinct, differing}
use Rattle.oe_requests.specs.Operations.{Operation, Outline, no_outline, first_or, second_or, callback_under, operation_of, shape_of}
use Rattle.oe_requests.specs.Requests.{CubeRequest, Called, load_collection, filter_bbox, filter_temporal, filter_bands, apply, apply_kernel, reduce_dimension, aggregate_temporal, aggregate_temporal_period, apply_dimension, merge_cubes, mask, save_result}
use Rattle.oe_meanings.specs.ValidShapes.{labels_of, is_within_limits}
use Rattle.oe_requests.specs.declared.extent.BoundingBox.{BoundingBox}
use Rattle.oe_requests.specs.declared.extent.Interval.{Interval}
use Rattle.oe_meanings.specs.Words.{lacks_dimension, lacks_plane, lacks_named, names_other, has_another, codes_differ, has_label, share_tuple, same_cell_kind}
use Rattle.oe_requests.specs.declared.extent.BoundingBox.{BoundingBox}
use Rattle.oe_requests.specs.declared.extent.Interval.{Interval}

abbrev pub first_shape : List Outline → Dimensions
first_shape cubes = (first_or no_outline cubes).shape

abbrev pub second_shape : List Outline → Dimensions
second_shape cubes = (second_or no_outline cubes).shape

-- ---- collections, reference systems and formats

-- `CollectionNotFound`: no collection has the id
abbrev pub collection_not_found : List DimsRow → CubeRequest → Bool
collection_not_found rows (load_collection id box time bands) =
    is_none (find (λ (row : DimsRow). same_name row.id id) rows)
collection_not_found rows _ = false

-- the reference system of a box is not that of a cube; a cube without x and y has none
abbrev pub is_in_another : Dimensions → BoundingBox → Bool
is_in_another d box = not (box.epsg == d.epsg)

-- `CrsUnsupported`: a box is in another reference system than the cube
abbrev pub crs_unsupported : CubeRequest → List Outline → Bool
crs_unsupported (load_collection id box time bands) cubes =
    option_map_or (is_in_another (first_shape cubes)) box false
crs_unsupported (filter_bbox data_id box) cubes = is_in_another (first_shape cubes) box
crs_unsupported _ cubes = false

-- `FormatUnsupported`: the format is not FJSON, in letters of either case
abbrev pub format_unsupported : CubeRequest → Bool
format_unsupported (save_result data_id format) = not (str_eq_ignore_ascii_case format (codes "FJSON"))
format_unsupported _ = false

-- ---- dimensions and their labels

-- `DimensionNotAvailable`: the cube lacks the dimension that is named, or one that is needed: x and y for a box and for
-- a kernel, t for a temporal extent and for intervals, where a name that is given is that of t, and bands for given
-- bands
abbrev pub dimension_not_available : CubeRequest → List Outline → Bool
dimension_not_available (load_collection id box time bands) cubes =
    (is_some box && lacks_plane (first_shape cubes)) || (is_some time && lacks_dimension Time (first_shape cubes))
    || (is_some bands && lacks_dimension Bands (first_shape cubes))
dimension_not_available (filter_bbox data_id box) cubes = lacks_plane (first_shape cubes)
dimension_not_available (filter_temporal data_id time name) cubes =
    lacks_dimension Time (first_shape cubes) || names_other name
dimension_not_available (filter_bands data_id bands) cubes =
    has_label bands && lacks_dimension Bands (first_shape cubes)
dimension_not_available (apply data_id c) cubes = false
dimension_not_available (apply_kernel data_id kernel factor border replace) cubes = lacks_plane (first_shape cubes)
dimension_not_available (reduce_dimension data_id name c) cubes = lacks_named name (first_shape cubes)
dimension_not_available (aggregate_temporal data_id intervals name c) cubes =
    lacks_dimension Time (first_shape cubes) || names_other name
dimension_not_available (aggregate_temporal_period data_id period name c) cubes =
    lacks_dimension Time (first_shape cubes) || names_other name
dimension_not_available (apply_dimension data_id g) cubes = lacks_dimension Time (first_shape cubes)
dimension_not_available (merge_cubes one two resolver) cubes = false
dimension_not_available (mask data_id mask_id replacement) cubes = false
dimension_not_available (save_result data_id format) cubes = false

-- `TemporalExtentEmpty`: the end of a temporal extent or of an interval is not later than its start
abbrev pub temporal_extent_empty : CubeRequest → Bool
temporal_extent_empty (load_collection id box time bands) = option_map_or is_empty_extent time false
temporal_extent_empty (filter_temporal data_id time name) = is_empty_extent time
temporal_extent_empty (aggregate_temporal data_id intervals name c) =
    list_any (λ (i : Interval). is_empty_extent i.extent) intervals
temporal_extent_empty _ = false

-- `BandFilterParameterMissing`: `filter_bands` has no bands
abbrev pub band_filter_parameter_missing : CubeRequest → Bool
band_filter_parameter_missing (filter_bands data_id bands) = not (has_label bands)
band_filter_parameter_missing _ = false

-- a band is not one of the cube's
abbrev pub lacks_a_band : Dimensions → List (List ℕ) → Bool
lacks_a_band d bands = not (are_among same_name (band_names d) bands)

-- `BandNotAvailable`: a band that is given is no label
abbrev pub band_not_available : CubeRequest → List Outline → Bool
band_not_available (load_collection id box time bands) cubes =
    option_map_or (lacks_a_band (first_shape cubes)) bands false
band_not_available (filter_bands data_id bands) cubes = lacks_a_band (first_shape cubes) bands
band_not_available _ cubes = false

-- ---- kernels

abbrev pub is_even : ℕ → Bool
is_even size = size % 2 == 0

-- `KernelDimensionsUneven`: the width or the height of a kernel is even
abbrev pub kernel_dimensions_uneven : CubeRequest → Bool
kernel_dimensions_uneven (apply_kernel data_id kernel factor border replace) =
    is_even kernel.width || is_even kernel.height
kernel_dimensions_uneven _ = false

-- `KernelTooLarge`: the width or the height of a kernel is over 31
abbrev pub kernel_too_large : CubeRequest → Bool
kernel_too_large (apply_kernel data_id kernel factor border replace) =
    nat_lt largest_size kernel.width || nat_lt largest_size kernel.height
kernel_too_large _ = false

-- ---- labels of a result, and two cubes

-- `DistinctDimensionLabelsRequired`: two labels of the intervals are equal
abbrev pub distinct_labels_required : CubeRequest → Bool
distinct_labels_required (aggregate_temporal data_id intervals name c) =
    not (are_distinct same_number (labels_of intervals))
distinct_labels_required _ = false

-- neither cube's dimensions are among the other's, or the label sets differ along two dimensions that both have, or
-- both have an EPSG code and these differ
abbrev pub differ_in_dimensions : Dimensions → Dimensions → Bool
differ_in_dimensions one two =
    (has_another one two && has_another two one) || nat_lt 1 (differing one two) || codes_differ one two

-- `MergeDimensionsDiffer`: the two cubes differ so
abbrev pub merge_dimensions_differ : CubeRequest → List Outline → Bool
merge_dimensions_differ (merge_cubes one two resolver) cubes =
    differ_in_dimensions (first_shape cubes) (second_shape cubes)
merge_dimensions_differ _ cubes = false

-- `OverlapResolverMissing`: there is no resolver, and a tuple of labels is in both cubes
abbrev pub overlap_resolver_missing : CubeRequest → List Outline → Bool
overlap_resolver_missing (merge_cubes one two None) cubes = share_tuple (first_shape cubes) (second_shape cubes)
overlap_resolver_missing _ cubes = false

-- a dimension of the mask is not in the data or has another label set there, or both have an EPSG code and these differ
abbrev pub differs_from_data : Dimensions → Dimensions → Bool
differs_from_data d m = has_another m d || nat_lt 0 (differing d m) || codes_differ d m

-- `MaskDimensionsDiffer`: the mask differs so
abbrev pub mask_dimensions_differ : CubeRequest → List Outline → Bool
mask_dimensions_differ (mask data_id mask_id replacement) cubes =
    differs_from_data (first_shape cubes) (second_shape cubes)
mask_dimensions_differ _ cubes = false

-- ---- kinds of cells, and the size of the result

-- a resolver gives cells of another kind than those that it sees
abbrev pub resolves_to_another : CellKind → Option Called → Bool
resolves_to_another kind None = false
resolves_to_another kind (Some c) = not (same_cell_kind (callback_kind (callback_under (scope.merge kind) c)) kind)

-- a literal is of another kind; null is of each
abbrev pub is_of_another : CellKind → Cell → Bool
is_of_another kind literal = option_map_or (λ other. not (same_cell_kind other kind)) (literal_kind literal) false

-- `CellKindInvalid`: the two cubes of a merge differ in kind, its resolver gives another kind than that of the first,
-- or a replacement has another kind than the data; and running sums are of numbers. All other processes take cubes of
-- either kind.
abbrev pub cell_kind_invalid : CubeRequest → List Outline → Bool
cell_kind_invalid (merge_cubes one two resolver) cubes =
    not (same_cell_kind (first_or no_outline cubes).kind (second_or no_outline cubes).kind)
    || resolves_to_another (first_or no_outline cubes).kind resolver
cell_kind_invalid (apply_dimension data_id g) cubes =
    not (same_cell_kind (first_or no_outline cubes).kind Numbers)
cell_kind_invalid (mask data_id mask_id replacement) cubes =
    is_of_another (first_or no_outline cubes).kind replacement
cell_kind_invalid _ cubes = false

-- the cube of an operation has too many labels or cells
abbrev pub gives_too_large : List Outline → Operation → Bool
gives_too_large cubes operation =
    not (is_within_limits (shape_of operation (map (λ (o : Outline). o.shape) cubes)))

-- `CubeTooLarge`: the cube has over 65536 labels along a dimension or over 2^40 cells
abbrev pub cube_too_large : CubeRequest → List Outline → Bool
cube_too_large r cubes = option_map_or (gives_too_large cubes) (operation_of r cubes) false
