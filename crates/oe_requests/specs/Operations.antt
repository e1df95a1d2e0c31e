-- The operation that a request asks for, where the shapes and kinds of the cubes that it works on are known, and the
-- shape and the kind of the cube that it gives: none of this looks at a cell.
use Rattle.std.specs.Prelude.{ℕ, ℤ, Bool, ◌||◌, List, [], ◌∷◌, map, Option, Some, None, codes, is_some, option_map, slice_index_or, if◌then◌else◌}
use Rattle.oe_cell.specs.Fraction.{Fraction}
use Rattle.oe_cell.specs.declared.cell.Cell.{Cell}
use Rattle.oe_dims.specs.Dimensions.{Dimensions, number_labels, band_names}
use Rattle.oe_dims.specs.Names.{same_name}
use Rattle.oe_dims.specs.Plain.{PlainLabels, plain_instants, plain_names, plain_coordinates}
use Rattle.oe_dims.specs.declared.kind.CellKind.{CellKind}
use Rattle.oe_dims.specs.declared.kind.CellKind.TheVariants.{Numbers}
use Rattle.oe_dims.specs.declared.kind.Kind.{Kind}
use Rattle.oe_dims.specs.declared.kind.Kind.TheVariants.{Time, Bands, Y, X}
use Rattle.oe_kernel.specs.Kernels.{KernelValues}
use Rattle.oe_kernel.specs.declared.border.Border.{Border}
use Rattle.oe_expr.specs.Callback.{Callback, callback_of, callback_kind}
use Rattle.oe_expr.specs.Scope as scope
use Rattle.oe_expr.specs.Scope.{PlainScope, count_labels}
use Rattle.oe_requests.specs.Extents.{Restriction, shape_of_restriction, part_in_time}
use Rattle.oe_requests.specs.Labels.{is_below, sorted_labels, shape_of_merge}
use Rattle.oe_requests.specs.Periods.{period_intervals}
use Rattle.oe_requests.specs.RunningSums.{ignores_nulls}
use Rattle.oe_requests.specs.declared.extent.Interval.{Interval}
use Rattle.oe_requests.specs.Requests as request
use Rattle.oe_requests.specs.Requests.{CubeRequest, Called}

-- a cube without its cells: its shape and the kind of its cells
pub record Outline : Type 0 where
  pub shape : Dimensions
  pub kind : CellKind

-- no dimension at all
abbrev pub no_dimensions : Dimensions
no_dimensions = record { epsg = 0; t = None; bands = None; y = None; x = None }

abbrev pub no_outline : Outline
no_outline = record { shape = no_dimensions; kind = Numbers }

-- ---- operations

pub data Operation : Type 0 where
  -- of a collection or of a cube, what is kept
  keep : Restriction → Operation
  -- each cell by a callback
  each_cell : Callback → Operation
  -- kernel, factor, border, and what counts for null
  convolve : KernelValues → Fraction → Border → Fraction → Operation
  -- the lists of cells along a dimension by a callback
  reduce : Kind → Callback → Operation
  -- the lists of cells inside each interval by a callback
  aggregate : List Interval → Callback → Operation
  -- the running sums along t, with nulls ignored or not
  accumulate : Bool → Operation
  -- two cubes, by a resolver where a tuple is in both
  merge : Option Callback → Operation
  -- a cube under a mask, with a replacement
  cover : Cell → Operation
  -- the cube as it is
  give_back : Operation

-- ---- the callbacks, each under the scope that its parent gives it

abbrev pub callback_under : PlainScope → Called → Callback
callback_under given c = callback_of c.graph given c.context

-- the labels along a dimension
abbrev pub labels_along : Kind → Dimensions → PlainLabels
labels_along Time d = plain_instants (number_labels d Time)
labels_along Bands d = plain_names (band_names d)
labels_along Y d = plain_coordinates (number_labels d Y)
labels_along X d = plain_coordinates (number_labels d X)

-- one list, with all labels of a dimension
abbrev pub reduction_scope : Kind → Outline → PlainScope
reduction_scope kind cube =
    let labels = labels_along kind cube.shape in
    scope.reduce cube.kind labels (record { from = 0; to = count_labels labels } ∷ [])

-- one list for each interval, with the labels inside
abbrev pub interval_scope : List Interval → Outline → PlainScope
interval_scope intervals cube =
    let labels = number_labels cube.shape Time in
    scope.reduce cube.kind (plain_instants labels) (map (λ (i : Interval). part_in_time i.extent labels) intervals)

-- ---- from requests

-- the dimension of a name
abbrev pub dimension_named : List ℕ → Option Kind
dimension_named name =
    if same_name name (codes "t") then Some Time else (
    if same_name name (codes "bands") then Some Bands else (
    if same_name name (codes "y") then Some Y else (
    if same_name name (codes "x") then Some X else None)))

-- the first of some things; another where there is none
abbrev pub first_or : {A : Type 0} → A → List A → A
first_or other things = slice_index_or things 0 other

-- the second of some things; another where there is none
abbrev pub second_or : {A : Type 0} → A → List A → A
second_or other things = slice_index_or things 1 other

-- The operation on cubes of these outlines; a load works on the cube of its collection. There is none for a dimension
-- of another name than the four. A resolver sees `x` and `y` of the kind of the first cube (rule of this profile).
abbrev pub operation_of : CubeRequest → List Outline → Option Operation
operation_of (request.load_collection id box time bands) cubes =
    Some (keep (record { box = box; time = time; bands = bands }))
operation_of (request.filter_bbox data_id box) cubes =
    Some (keep (record { box = Some box; time = None; bands = None }))
operation_of (request.filter_temporal data_id time name) cubes =
    Some (keep (record { box = None; time = Some time; bands = None }))
operation_of (request.filter_bands data_id bands) cubes =
    Some (keep (record { box = None; time = None; bands = Some bands }))
operation_of (request.apply data_id c) cubes =
    Some (each_cell (callback_under (scope.apply (first_or no_outline cubes).kind) c))
operation_of (request.apply_kernel data_id kernel factor border replace) cubes =
    Some (convolve kernel factor border replace)
operation_of (request.reduce_dimension data_id name c) cubes =
    option_map (λ kind. reduce kind (callback_under (reduction_scope kind (first_or no_outline cubes)) c))
    (dimension_named name)
operation_of (request.aggregate_temporal data_id intervals name c) cubes =
    Some (aggregate intervals (callback_under (interval_scope intervals (first_or no_outline cubes)) c))
operation_of (request.aggregate_temporal_period data_id period name c) cubes =
    let intervals = period_intervals period (number_labels (first_or no_outline cubes).shape Time) in
    Some (aggregate intervals (callback_under (interval_scope intervals (first_or no_outline cubes)) c))
operation_of (request.apply_dimension data_id g) cubes = Some (accumulate (ignores_nulls g))
operation_of (request.merge_cubes one two resolver) cubes =
    Some (merge (option_map (callback_under (scope.merge (first_or no_outline cubes).kind)) resolver))
operation_of (request.mask data_id mask_id replacement) cubes = Some (cover replacement)
operation_of (request.save_result data_id format) cubes = Some give_back

-- ---- the shape of what an operation gives

-- the reference system of a cube that may have lost x or y: none where it has neither
abbrev pub epsg_without : ℕ → Option (List ℤ) → Option (List ℤ) → ℕ
epsg_without epsg y x = if is_some y || is_some x then epsg else 0

-- the shape without a dimension
abbrev pub without_dimension : Kind → Dimensions → Dimensions
without_dimension Time d = record d { t = None }
without_dimension Bands d = record d { bands = None }
without_dimension Y d = record d { y = None; epsg = epsg_without d.epsg None d.x }
without_dimension X d = record d { x = None; epsg = epsg_without d.epsg d.y None }

-- the shape with one label of t for each interval, in the order of time
abbrev pub shape_of_aggregation : List Interval → Dimensions → Dimensions
shape_of_aggregation intervals d =
    record d { t = Some (sorted_labels is_below (map (λ (i : Interval). i.label) intervals)) }

abbrev pub shape_of : Operation → List Dimensions → Dimensions
shape_of (keep restriction) shapes = shape_of_restriction restriction (first_or no_dimensions shapes)
shape_of (each_cell c) shapes = first_or no_dimensions shapes
shape_of (convolve kernel factor border replace) shapes = first_or no_dimensions shapes
shape_of (reduce kind c) shapes = without_dimension kind (first_or no_dimensions shapes)
shape_of (aggregate intervals c) shapes = shape_of_aggregation intervals (first_or no_dimensions shapes)
shape_of (accumulate ignore) shapes = first_or no_dimensions shapes
shape_of (merge resolver) shapes = shape_of_merge (first_or no_dimensions shapes) (second_or no_dimensions shapes)
shape_of (cover replacement) shapes = first_or no_dimensions shapes
shape_of give_back shapes = first_or no_dimensions shapes

-- ---- the kind of its cells: that of the callback, numbers for a kernel, and else that of the data

abbrev pub operation_kind : Operation → List CellKind → CellKind
operation_kind (keep restriction) kinds = first_or Numbers kinds
operation_kind (each_cell c) kinds = callback_kind c
operation_kind (convolve kernel factor border replace) kinds = Numbers
operation_kind (reduce kind c) kinds = callback_kind c
operation_kind (aggregate intervals c) kinds = callback_kind c
operation_kind (accumulate ignore) kinds = first_or Numbers kinds
operation_kind (merge resolver) kinds = first_or Numbers kinds
operation_kind (cover replacement) kinds = first_or Numbers kinds
operation_kind give_back kinds = first_or Numbers kinds

abbrev pub outline_of : Operation → List Outline → Outline
outline_of operation cubes = record {
  shape = shape_of operation (map (λ (o : Outline). o.shape) cubes);
  kind = operation_kind operation (map (λ (o : Outline). o.kind) cubes);
}
