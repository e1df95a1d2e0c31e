-- What each process means on whole cubes (openEO Processes): the cube that it gives, from the labels of its result back
-- to those of the cubes that it works on. Chunks, windows and orders of evaluation do not occur here.
use Rattle.std.specs.Prelude.{ℕ, ℤ, Bool, ◌==◌, cond, filter, int_lt, unsigned_abs, List, [], ◌∷◌, map, Option, Some, None, find, unwrap_or}
use Rattle.std.specs.Option.{option_map_or}
use Rattle.oe_cell.specs.Fraction.{Fraction}
use Rattle.oe_cell.specs.declared.cell.Cell.{Cell}
use Rattle.oe_cell.specs.declared.cell.Cell.TheVariants.{Empty, Flag, Number, Over}
use Rattle.oe_dims.specs.Cube.{Tuple, Cube, at, tabulate, cell_or, index_along}
use Rattle.oe_dims.specs.Dimensions.{Dimensions, extent, number_labels, band_names}
use Rattle.oe_dims.specs.Indices.{same_number}
use Rattle.oe_dims.specs.Plain.{PlainLabels, plain_instants}
use Rattle.oe_dims.specs.Positions.{label_of}
use Rattle.oe_dims.specs.declared.kind.CellKind.{CellKind}
use Rattle.oe_dims.specs.declared.kind.Kind.{Kind}
use Rattle.oe_dims.specs.declared.kind.Kind.TheVariants.{Time, Bands, Y, X}
use Rattle.oe_kernel.specs.Convolution.{WholePlane, convolved}
use Rattle.oe_kernel.specs.Kernels.{KernelValues}
use Rattle.oe_kernel.specs.declared.border.Border.{Border}
use Rattle.oe_expr.specs.Callback.{Callback, callback_value}
use Rattle.oe_expr.specs.Scope.{no_labels}
use Rattle.oe_periods.specs.Calendar.{period_number}
use Rattle.oe_periods.specs.Sums.{running_sum}
use Rattle.oe_periods.specs.declared.calendar.Period.{Period}
use Rattle.oe_requests.specs.Extents.{Restriction, shape_of_restriction, labels_in_time}
use Rattle.oe_requests.specs.Periods.{period_shape}
use Rattle.oe_requests.specs.declared.extent.TemporalExtent.{TemporalExtent}
use Rattle.oe_requests.specs.Labels.{restrict, shape_of_merge}
use Rattle.oe_requests.specs.Operations.{Operation, keep, each_cell, convolve, reduce, aggregate, accumulate, merge, cover, give_back, Outline, no_dimensions, first_or, second_or, labels_along, without_dimension, shape_of_aggregation, operation_kind}
use Rattle.oe_requests.specs.declared.extent.Interval.{Interval}

-- the cell of a tuple; of one that the cube does not have, which is never asked for, null
abbrev pub cell : Cube Cell → Tuple → Cell
cell cube tuple = cell_or cube Empty tuple

-- ---- the value of a callback

-- on the cells `x` and `y`
abbrev pub value_on_cells : Callback → Cell → Cell → Cell
value_on_cells c x y =
    callback_value c (record { x = x; y = y; context = c.context; cells = []; labels = no_labels })

-- on the list `data` with its labels
abbrev pub value_on_list : Callback → PlainLabels → List Cell → Cell
value_on_list c labels cells =
    callback_value c (record { x = Empty; y = Empty; context = c.context; cells = cells; labels = labels })

-- ---- `load_collection`, `filter_bbox`, `filter_temporal`, `filter_bands`: the labels inside the extents stay, and so
-- do the bands that are given, in the order in which they are given; each tuple that stays keeps its cell

abbrev pub restricted_cube : Restriction → Cube Cell → Cube Cell
restricted_cube r cube = tabulate (shape_of_restriction r cube.shape) (cell cube)

-- ---- `apply`: each cell becomes the value of the callback with it as `x`

abbrev pub applied : Callback → Cube Cell → Cube Cell
applied c cube = tabulate cube.shape (λ tuple. value_on_cells c (cell cube tuple) Empty)

-- ---- `apply_kernel`: each cell becomes the total of the weighted pixels around it, in its own plane along y and x
-- (rules of this profile: the kernel is not flipped, true counts as 1 and false as 0, and the result has numbers)

-- the plane in which a tuple stands
abbrev pub plane_of_tuple : Cube Cell → Tuple → WholePlane
plane_of_tuple cube tuple = record {
  side_y = extent cube.shape.y;
  side_x = extent cube.shape.x;
  cell = λ row column. cell cube (record tuple { y = label_of cube.shape.y row; x = label_of cube.shape.x column });
}

-- the index of its label along y or x
abbrev pub index_in : Option (List ℤ) → Option ℤ → ℕ
index_in labels label = unwrap_or (index_along same_number labels label) 0

abbrev pub convolution : KernelValues → Fraction → Border → Fraction → Cube Cell → Cube Cell
convolution kernel factor border replace cube =
    tabulate cube.shape (λ tuple. convolved kernel factor border replace (plane_of_tuple cube tuple)
    (index_in cube.shape.y tuple.y) (index_in cube.shape.x tuple.x))

-- ---- `reduce_dimension`: the dimension is gone, and the cells along it become the value of the reducer on their list

-- the tuples that differ from one by their label along a dimension alone, in the order of its labels
abbrev pub tuples_along : Kind → Dimensions → Tuple → List Tuple
tuples_along Time d tuple = map (λ label. record tuple { t = Some label }) (number_labels d Time)
tuples_along Bands d tuple = map (λ name. record tuple { band = Some name }) (band_names d)
tuples_along Y d tuple = map (λ label. record tuple { y = Some label }) (number_labels d Y)
tuples_along X d tuple = map (λ label. record tuple { x = Some label }) (number_labels d X)

abbrev pub cells_along : Kind → Cube Cell → Tuple → List Cell
cells_along kind cube tuple = map (cell cube) (tuples_along kind cube.shape tuple)

abbrev pub reduced : Kind → Callback → Cube Cell → Cube Cell
reduced kind c cube =
    tabulate (without_dimension kind cube.shape)
    (λ tuple. value_on_list c (labels_along kind cube.shape) (cells_along kind cube tuple))

-- ---- `aggregate_temporal`: each interval becomes a label, whose cell is the value of the reducer on the list of the
-- cells inside the interval; labels stand in the order of time (rule of this profile)

-- the extent of the interval that a label stands for
abbrev pub extent_labelled : List Interval → Option ℤ → Option TemporalExtent
extent_labelled intervals None = None
extent_labelled intervals (Some label) =
    option_map_or (λ (i : Interval). Some i.extent) (find (λ (i : Interval). same_number i.label label) intervals) None

-- the labels of t inside
abbrev pub instants_inside : Dimensions → Option TemporalExtent → List ℤ
instants_inside d None = []
instants_inside d (Some e) = labels_in_time e (number_labels d Time)

-- the cells of a tuple at these labels of t
abbrev pub cells_at : Cube Cell → Tuple → List ℤ → List Cell
cells_at cube tuple labels = map (λ label. cell cube (record tuple { t = Some label })) labels

abbrev pub aggregated : List Interval → Callback → Cube Cell → Cube Cell
aggregated intervals c cube =
    tabulate (shape_of_aggregation intervals cube.shape) (λ tuple.
    let labels = instants_inside cube.shape (extent_labelled intervals tuple.t) in
    value_on_list c (plain_instants labels) (cells_at cube tuple labels))

-- ---- `aggregate_temporal_period`: each calendar period of the labels becomes a label, its first instant, whose cell
-- is the value of the reducer on the list of the cells inside. The law `periods_are_aggregations` says that its
-- operation, an aggregation, gives this cube.

-- the labels that lie in one period with another
abbrev pub labels_in_period_of : Period → ℤ → List ℤ → List ℤ
labels_in_period_of period label labels =
    filter (λ other. period_number period other == period_number period label) labels

-- the same of a label of a tuple
abbrev pub labels_in_period : Period → Dimensions → Option ℤ → List ℤ
labels_in_period period d None = []
labels_in_period period d (Some label) = labels_in_period_of period label (number_labels d Time)

abbrev pub by_period : Period → Callback → Cube Cell → Cube Cell
by_period period c cube =
    tabulate (period_shape period cube.shape) (λ tuple.
    let labels = labels_in_period period cube.shape tuple.t in
    value_on_list c (plain_instants labels) (cells_at cube tuple labels))

-- ---- `apply_dimension` by `cumsum`: each cell becomes the running sum at it, along t

-- the labels before one, among labels that rise
abbrev pub labels_before : Option ℤ → List ℤ → List ℤ
labels_before None labels = []
labels_before (Some label) labels = filter (λ other. int_lt other label) labels

abbrev pub accumulated : Bool → Cube Cell → Cube Cell
accumulated ignore cube =
    tabulate cube.shape (λ tuple.
    running_sum ignore (cells_at cube tuple (labels_before tuple.t (number_labels cube.shape Time))) (cell cube tuple))

-- ---- `merge_cubes`: all labels of both cubes; a cube that lacks a dimension is repeated over it. A tuple that is in
-- both has the value of the resolver, with `x` from the first cube and `y` from the second; one that is in one cube has
-- its cell there. Rules of this profile: the resolver gets nulls too, and labels of t, y and x stand in their order.

-- the cell of a tuple from its cells in both cubes. A tuple is in one of them at least, and there is a resolver where
-- one is in both.
abbrev pub joined : Option Callback → Option Cell → Option Cell → Cell
joined (Some c) (Some a) (Some b) = value_on_cells c a b
joined None (Some a) (Some b) = Empty
joined resolver (Some a) None = a
joined resolver None (Some b) = b
joined resolver None None = Empty

abbrev pub merged : Option Callback → Cube Cell → Cube Cell → Cube Cell
merged resolver one two =
    tabulate (shape_of_merge one.shape two.shape)
    (λ tuple. joined resolver (at one (restrict one.shape tuple)) (at two (restrict two.shape tuple)))

-- ---- `mask`: a cell is replaced where the mask has true or a number other than 0; a mask that lacks a dimension is
-- repeated over it. Rule of this profile: null, 0 and false replace nothing.

-- a cell under the cell of the mask. Rules of this profile: Over there gives Over, and an Over of the data is replaced
abbrev pub covered_by : Cell → Cell → Cell → Cell
covered_by replacement Over c = Over
covered_by replacement Empty c = c
covered_by replacement (Flag b) c = cond b replacement c
covered_by replacement (Number q) c = cond (unsigned_abs q.num == 0) c replacement

abbrev pub covered : Cell → Cube Cell → Cube Cell → Cube Cell
covered replacement cube mask =
    tabulate cube.shape (λ tuple. covered_by replacement (cell mask (restrict mask.shape tuple)) (cell cube tuple))

-- ---- all of them

-- a cube with the kind of its cells
pub record Datacube : Type 0 where
  pub cube : Cube Cell
  pub kind : CellKind

abbrev pub outline : Datacube → Outline
outline d = record { shape = d.cube.shape; kind = d.kind }

-- the cube without dimensions whose one cell is null, which stands where there is none
abbrev pub no_cube : Cube Cell
no_cube = record { shape = no_dimensions; cells = Empty ∷ [] }

-- the cube that an operation gives; `save_result` gives back its own (rule of this profile)
abbrev pub cube_of : Operation → List (Cube Cell) → Cube Cell
cube_of (keep r) cubes = restricted_cube r (first_or no_cube cubes)
cube_of (each_cell c) cubes = applied c (first_or no_cube cubes)
cube_of (convolve kernel factor border replace) cubes =
    convolution kernel factor border replace (first_or no_cube cubes)
cube_of (reduce kind c) cubes = reduced kind c (first_or no_cube cubes)
cube_of (aggregate intervals c) cubes = aggregated intervals c (first_or no_cube cubes)
cube_of (accumulate ignore) cubes = accumulated ignore (first_or no_cube cubes)
cube_of (merge resolver) cubes = merged resolver (first_or no_cube cubes) (second_or no_cube cubes)
cube_of (cover replacement) cubes = covered replacement (first_or no_cube cubes) (second_or no_cube cubes)
cube_of give_back cubes = first_or no_cube cubes

-- the same with the kind of its cells
abbrev pub operated : Operation → List Datacube → Datacube
operated operation inputs = record {
  cube = cube_of operation (map (λ (d : Datacube). d.cube) inputs);
  kind = operation_kind operation (map (λ (d : Datacube). d.kind) inputs);
}
