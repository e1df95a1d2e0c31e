-- The cubes that a request works on, and the shape and the kinds of what it gives on them.
use Rattle.std.specs.Prelude.{◌≡◌, ⊤, ◌||◌, Bool, true, false, not, List, [], ◌∷◌, map, Option, Some, None, IfSome, if◌then◌else◌}
use Rattle.std.specs.Option.{option_map_or}
use Rattle.oe_dims.specs.Dimensions.{Dimensions}
use Rattle.oe_dims.specs.declared.kind.CellKind.{CellKind}
use Rattle.oe_dims.specs.declared.kind.CellKind.TheVariants.{Numbers}
use Rattle.oe_dims.specs.declared.kind.Kind.{Kind}
use Rattle.oe_dims.specs.declared.kind.Kind.TheVariants.{Time, Bands, Y, X}
use Rattle.oe_expr.specs.Callback.{Callback, callback_kind}
use Rattle.oe_requests.specs.Operations.{Operation, keep, each_cell, convolve, reduce, aggregate, accumulate, merge, cover, give_back, Outline, operation_of, shape_of}
use Rattle.oe_requests.specs.Requests.{CubeRequest, load_collection, filter_bbox, filter_temporal, filter_bands, apply, apply_kernel, reduce_dimension, aggregate_temporal, aggregate_temporal_period, apply_dimension, merge_cubes, mask, save_result}
use Rattle.oe_meanings.specs.Rows.{is_of_another}
use Rattle.oe_meanings.specs.ValidShapes.{AreBands, AreIntervalLabels, labels_of, is_within_limits}
use Rattle.oe_meanings.specs.Words.{same_cell_kind}

-- both cubes where a request takes two, and else the first alone
abbrev pub cubes_among : CubeRequest → Outline → Outline → List Outline
cubes_among (merge_cubes one_id two_id resolver) one two = one ∷ two ∷ []
cubes_among (mask data_id mask_id replacement) one two = one ∷ two ∷ []
cubes_among _ one two = one ∷ []

-- labels rise along t and x
abbrev pub IsRisingKind : Kind → Type 0
IsRisingKind Time = ⊤
IsRisingKind Bands = ⊥
IsRisingKind Y = ⊥
IsRisingKind X = ⊤

-- ---- shapes

-- the dimensions, where they are within the limits
abbrev pub where_within_limits : Dimensions → Option Dimensions
where_within_limits d = if is_within_limits d then Some d else None

-- the bands that a request brings with it are valid names, none of them twice, and the labels of its intervals are
-- instants, none of them twice
abbrev pub HasValidLabels : CubeRequest → Type 0
HasValidLabels (load_collection id box time bands) = IfSome bands AreBands
HasValidLabels (filter_bbox data_id box) = ⊤
HasValidLabels (filter_temporal data_id time name) = ⊤
HasValidLabels (filter_bands data_id bands) = AreBands bands
HasValidLabels (apply data_id c) = ⊤
HasValidLabels (apply_kernel data_id kernel factor border replace) = ⊤
HasValidLabels (reduce_dimension data_id name c) = ⊤
HasValidLabels (aggregate_temporal data_id intervals name c) = AreIntervalLabels (labels_of intervals)
HasValidLabels (aggregate_temporal_period data_id period name c) = ⊤
HasValidLabels (apply_dimension data_id g) = ⊤
HasValidLabels (merge_cubes one two resolver) = ⊤
HasValidLabels (mask data_id mask_id replacement) = ⊤
HasValidLabels (save_result data_id format) = ⊤

-- the shape of what a request gives on cubes of these shapes, whatever the kinds of their cells, where it is not too
-- large
abbrev pub IsResultShape : CubeRequest → Dimensions → Dimensions → Option Dimensions → Type 0
IsResultShape r one two found =
    (kind other_kind : CellKind) (operation : Operation)
    → operation_of r
    (cubes_among r (record { shape = one; kind = kind }) (record { shape = two; kind = other_kind })) ≡ Some operation
    → found ≡ where_within_limits (shape_of operation (map (λ (o : Outline). o.shape)
    (cubes_among r (record { shape = one; kind = kind }) (record { shape = two; kind = other_kind }))))

-- a request for calendar periods, whose cube may be too large before its intervals are made
abbrev pub is_by_period : CubeRequest → Bool
is_by_period (aggregate_temporal_period data_id period name c) = true
is_by_period _ = false

-- ---- kinds

-- the resolver gives cells of another kind than those that it sees
abbrev pub gives_another_kind : CellKind → Option Callback → Bool
gives_another_kind kind resolver = option_map_or (λ c. not (same_cell_kind (callback_kind c) kind)) resolver false

-- an operation takes cells of other kinds than those of its cubes
abbrev pub takes_other_kinds : Operation → CellKind → CellKind → Bool
takes_other_kinds (keep restriction) one two = false
takes_other_kinds (each_cell c) one two = false
takes_other_kinds (convolve kernel factor border replace) one two = false
takes_other_kinds (reduce kind c) one two = false
takes_other_kinds (aggregate intervals c) one two = false
takes_other_kinds (accumulate ignore) one two = not (same_cell_kind one Numbers)
takes_other_kinds (merge resolver) one two = not (same_cell_kind one two) || gives_another_kind one resolver
takes_other_kinds (cover replacement) one two = is_of_another one replacement
takes_other_kinds give_back one two = false
