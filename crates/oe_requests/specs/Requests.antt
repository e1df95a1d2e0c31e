-- What the arguments of a node of the main graph ask for, where each is what its parameter may hold. Cubes are named by
-- the nodes that they are results of; arguments that have no effect are looked at and left out.
use Rattle.std.specs.Prelude.{ℕ, List, [], ◌∷◌, Option, Some, None, codes, option_map, option_and_then, if◌then◌else◌}
use Rattle.oe_cell.specs.Fraction.{Fraction}
use Rattle.oe_cell.specs.declared.cell.Cell.{Cell}
use Rattle.oe_dims.specs.Names.{same_name}
use Rattle.oe_graph.specs.Tree.{Named, PlainGraph, PlainNode}
use Rattle.oe_kernel.specs.Kernels.{KernelValues}
use Rattle.oe_kernel.specs.declared.border.Border.{Border}
use Rattle.oe_expr.specs.Requests.{with_both, read, passes, where_passed, is_null}
use Rattle.oe_periods.specs.declared.calendar.Period.{Period}
use Rattle.oe_requests.specs.declared.extent.BoundingBox.{BoundingBox}
use Rattle.oe_requests.specs.declared.extent.TemporalExtent.{TemporalExtent}
use Rattle.oe_requests.specs.Parameters.{cube_in, callback_in, text_in, number_in, literal_in, box_in, extent_in, instant_in, bands_in, some_bands_in, kernel_in, border_in, list_in, null_or, period_in, is_time_name, intervals_of, is_empty_list, is_empty_object, is_null_or_empty_object}
use Rattle.oe_requests.specs.declared.extent.Interval.{Interval}
use Rattle.oe_requests.specs.declared.process.CubeProcess.{CubeProcess}
use Rattle.oe_requests.specs.declared.process.CubeProcess.TheVariants.{AggregateTemporal, AggregateTemporalPeriod, Apply, ApplyDimension, ApplyKernel, FilterBands, FilterBbox, FilterTemporal, LoadCollection, Mask, MergeCubes, ReduceDimension, SaveResult}

-- ---- the processes, by the ids that openEO Processes gives them

abbrev pub NamedProcess : Type 0
NamedProcess = List ℕ × CubeProcess

abbrev pub cube_processes : List NamedProcess
cube_processes =
    (codes "aggregate_temporal", AggregateTemporal)
    ∷ (codes "aggregate_temporal_period", AggregateTemporalPeriod)
    ∷ (codes "apply", Apply)
    ∷ (codes "apply_dimension", ApplyDimension)
    ∷ (codes "apply_kernel", ApplyKernel)
    ∷ (codes "filter_bands", FilterBands)
    ∷ (codes "filter_bbox", FilterBbox)
    ∷ (codes "filter_temporal", FilterTemporal)
    ∷ (codes "load_collection", LoadCollection)
    ∷ (codes "mask", Mask)
    ∷ (codes "merge_cubes", MergeCubes)
    ∷ (codes "reduce_dimension", ReduceDimension)
    ∷ (codes "save_result", SaveResult)
    ∷ []

-- of the first entry with this id
abbrev pub process_among : List ℕ → List NamedProcess → Option CubeProcess
process_among id [] = None
process_among id (p ∷ others) = if same_name p.0 id then Some p.1 else process_among id others

abbrev pub cube_process_named : List ℕ → Option CubeProcess
cube_process_named id = process_among id cube_processes

-- ---- requests

-- a callback with the literal `context` that it sees
pub record Called : Type 0 where
  pub graph : PlainGraph
  pub context : Cell

abbrev pub called : PlainGraph → Cell → Called
called graph context = record { graph = graph; context = context }

-- what each process asks for; the cubes come first
pub data CubeRequest : Type 0 where
  -- a collection by its id
  load_collection : List ℕ → Option BoundingBox → Option TemporalExtent → Option (List (List ℕ)) → CubeRequest
  filter_bbox : List ℕ → BoundingBox → CubeRequest
  -- perhaps with the name of the dimension
  filter_temporal : List ℕ → TemporalExtent → Option (List ℕ) → CubeRequest
  filter_bands : List ℕ → List (List ℕ) → CubeRequest
  apply : List ℕ → Called → CubeRequest
  -- kernel, factor, border, and what counts for null
  apply_kernel : List ℕ → KernelValues → Fraction → Border → Fraction → CubeRequest
  -- by the name of the dimension
  reduce_dimension : List ℕ → List ℕ → Called → CubeRequest
  -- perhaps with the name of the dimension
  aggregate_temporal : List ℕ → List Interval → Option (List ℕ) → Called → CubeRequest
  -- perhaps with the name of the dimension
  aggregate_temporal_period : List ℕ → Period → Option (List ℕ) → Called → CubeRequest
  -- along t, by a callback of running sums
  apply_dimension : List ℕ → PlainGraph → CubeRequest
  -- perhaps with a resolver
  merge_cubes : List ℕ → List ℕ → Option Called → CubeRequest
  -- data, mask and replacement
  mask : List ℕ → List ℕ → Cell → CubeRequest
  -- the format
  save_result : List ℕ → List ℕ → CubeRequest

-- the nodes whose cubes a request works on, in their order
abbrev pub cube_ids : CubeRequest → List (List ℕ)
cube_ids (load_collection id box time bands) = []
cube_ids (filter_bbox data_id box) = data_id ∷ []
cube_ids (filter_temporal data_id time dimension) = data_id ∷ []
cube_ids (filter_bands data_id bands) = data_id ∷ []
cube_ids (apply data_id callback) = data_id ∷ []
cube_ids (apply_kernel data_id kernel factor border replace) = data_id ∷ []
cube_ids (reduce_dimension data_id dimension callback) = data_id ∷ []
cube_ids (aggregate_temporal data_id intervals dimension callback) = data_id ∷ []
cube_ids (aggregate_temporal_period data_id period dimension callback) = data_id ∷ []
cube_ids (apply_dimension data_id callback) = data_id ∷ []
cube_ids (merge_cubes one two resolver) = one ∷ two ∷ []
cube_ids (mask data_id mask_id replacement) = data_id ∷ mask_id ∷ []
cube_ids (save_result data_id format) = data_id ∷ []

-- ---- from the arguments of a node

-- `load_collection`: `properties` is null or empty
abbrev pub load_request : Named → Option CubeRequest
load_request arguments =
    where_passed (passes is_null_or_empty_object (codes "properties") arguments)
    (option_and_then (λ id. option_and_then (λ box. with_both (load_collection id box)
    (read (null_or extent_in) (codes "temporal_extent") arguments)
    (read (null_or some_bands_in) (codes "bands") arguments))
    (read (null_or box_in) (codes "spatial_extent") arguments)) (read text_in (codes "id") arguments))

abbrev pub filter_bbox_request : Named → Option CubeRequest
filter_bbox_request arguments =
    with_both filter_bbox (read cube_in (codes "data") arguments) (read box_in (codes "extent") arguments)

abbrev pub filter_temporal_request : Named → Option CubeRequest
filter_temporal_request arguments =
    option_and_then (λ data_id. with_both (filter_temporal data_id)
    (read extent_in (codes "extent") arguments) (read (null_or text_in) (codes "dimension") arguments))
    (read cube_in (codes "data") arguments)

-- `filter_bands`: `wavelengths` is the empty list
abbrev pub filter_bands_request : Named → Option CubeRequest
filter_bands_request arguments =
    where_passed (passes is_empty_list (codes "wavelengths") arguments)
    (with_both filter_bands (read cube_in (codes "data") arguments) (read bands_in (codes "bands") arguments))

-- a callback under a name, with `context`
abbrev pub called_in : List ℕ → Named → Option Called
called_in name arguments =
    with_both called (read callback_in name arguments) (read literal_in (codes "context") arguments)

abbrev pub apply_request : Named → Option CubeRequest
apply_request arguments =
    with_both apply (read cube_in (codes "data") arguments) (called_in (codes "process") arguments)

-- with the cube and the kernel
abbrev pub convolution_request : List ℕ → KernelValues → Named → Option CubeRequest
convolution_request data_id kernel arguments =
    option_and_then (λ factor. with_both (apply_kernel data_id kernel factor)
    (read border_in (codes "border") arguments) (read number_in (codes "replace_invalid") arguments))
    (read number_in (codes "factor") arguments)

abbrev pub apply_kernel_request : Named → Option CubeRequest
apply_kernel_request arguments =
    option_and_then (λ data_id. option_and_then (λ kernel. convolution_request data_id kernel arguments)
    (read kernel_in (codes "kernel") arguments)) (read cube_in (codes "data") arguments)

abbrev pub reduce_request : Named → Option CubeRequest
reduce_request arguments =
    option_and_then (λ data_id. with_both (reduce_dimension data_id)
    (read text_in (codes "dimension") arguments) (called_in (codes "reducer") arguments))
    (read cube_in (codes "data") arguments)

-- the intervals with their labels; `labels` has as many, or is empty where the starts stand for the intervals
abbrev pub intervals_in : Named → Option (List Interval)
intervals_in arguments =
    option_and_then (λ extents. option_and_then (intervals_of extents)
    (read (list_in instant_in) (codes "labels") arguments))
    (read (list_in extent_in) (codes "intervals") arguments)

abbrev pub aggregate_request : Named → Option CubeRequest
aggregate_request arguments =
    option_and_then (λ data_id. option_and_then (λ intervals. with_both (aggregate_temporal data_id intervals)
    (read (null_or text_in) (codes "dimension") arguments) (called_in (codes "reducer") arguments))
    (intervals_in arguments)) (read cube_in (codes "data") arguments)

abbrev pub period_request : Named → Option CubeRequest
period_request arguments =
    option_and_then (λ data_id. option_and_then (λ period. with_both (aggregate_temporal_period data_id period)
    (read (null_or text_in) (codes "dimension") arguments) (called_in (codes "reducer") arguments))
    (read period_in (codes "period") arguments)) (read cube_in (codes "data") arguments)

-- `apply_dimension`: `dimension` is t, `target_dimension` null, and `context` a literal without effect
abbrev pub apply_dimension_request : Named → Option CubeRequest
apply_dimension_request arguments =
    where_passed (passes is_time_name (codes "dimension") arguments)
    (where_passed (passes is_null (codes "target_dimension") arguments)
    (option_and_then (λ context. with_both apply_dimension (read cube_in (codes "data") arguments)
    (read callback_in (codes "process") arguments)) (read literal_in (codes "context") arguments)))

-- a resolver or null, with `context`
abbrev pub resolver_in : Named → Option (Option Called)
resolver_in arguments =
    with_both (λ resolver context. option_map (λ graph. called graph context) resolver)
    (read (null_or callback_in) (codes "overlap_resolver") arguments) (read literal_in (codes "context") arguments)

abbrev pub merge_request : Named → Option CubeRequest
merge_request arguments =
    option_and_then (λ one. with_both (merge_cubes one)
    (read cube_in (codes "cube2") arguments) (resolver_in arguments)) (read cube_in (codes "cube1") arguments)

abbrev pub mask_request : Named → Option CubeRequest
mask_request arguments =
    option_and_then (λ data_id. with_both (mask data_id)
    (read cube_in (codes "mask") arguments) (read literal_in (codes "replacement") arguments))
    (read cube_in (codes "data") arguments)

-- `save_result`: `options` is the empty object
abbrev pub save_request : Named → Option CubeRequest
save_request arguments =
    where_passed (passes is_empty_object (codes "options") arguments)
    (with_both save_result (read cube_in (codes "data") arguments) (read text_in (codes "format") arguments))

abbrev pub cube_request_of : CubeProcess → Named → Option CubeRequest
cube_request_of AggregateTemporal arguments = aggregate_request arguments
cube_request_of AggregateTemporalPeriod arguments = period_request arguments
cube_request_of Apply arguments = apply_request arguments
cube_request_of ApplyDimension arguments = apply_dimension_request arguments
cube_request_of ApplyKernel arguments = apply_kernel_request arguments
cube_request_of FilterBands arguments = filter_bands_request arguments
cube_request_of FilterBbox arguments = filter_bbox_request arguments
cube_request_of FilterTemporal arguments = filter_temporal_request arguments
cube_request_of LoadCollection arguments = load_request arguments
cube_request_of Mask arguments = mask_request arguments
cube_request_of MergeCubes arguments = merge_request arguments
cube_request_of ReduceDimension arguments = reduce_request arguments
cube_request_of SaveResult arguments = save_request arguments

-- what a node asks for: none where an argument is not what its parameter may hold
abbrev pub cube_request_at : PlainNode → Option CubeRequest
cube_request_at n = option_and_then (λ process. cube_request_of process n.arguments) (cube_process_named n.process_id)
