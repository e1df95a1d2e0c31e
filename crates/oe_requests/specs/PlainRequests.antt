-- What contracts see of the requests and operations of the code: their plain values.
use Rattle.std.specs.Prelude.{ℕ, List, map}
use Rattle.std.specs.Option.{option_map}
use Rattle.oe_graph.specs.Plain.{plain_graph}
use Rattle.oe_kernel.specs.Kernels.{KernelValues}
use Rattle.oe_requests.specs.Extents as extent
use Rattle.oe_requests.specs.Operations as operation
use Rattle.oe_requests.specs.Requests as request
use Rattle.oe_requests.specs.declared.operation.Operation.{Operation}
use Rattle.oe_requests.specs.declared.operation.Operation.TheVariants.{Keep, EachCell, Convolve, Reduce, Aggregate, Accumulate, Merge, Cover, GiveBack}
use Rattle.oe_requests.specs.declared.operation.Restriction.{Restriction}
use Rattle.oe_requests.specs.declared.request.Called.{Called}
use Rattle.oe_requests.specs.declared.request.KernelRows.{KernelRows}
use Rattle.oe_requests.specs.declared.request.Request.{Request}
use Rattle.oe_requests.specs.declared.request.Request.TheVariants.{LoadCollection, FilterBbox, FilterTemporal, FilterBands, Apply, ApplyKernel, ReduceDimension, AggregateTemporal, AggregateTemporalPeriod, ApplyDimension, MergeCubes, Mask, SaveResult}

-- ---- requests

abbrev pub plain_called : Called → request.Called
plain_called c = request.called (plain_graph c.graph.now) c.context

abbrev pub plain_kernel : KernelRows → KernelValues
plain_kernel k = record { width = k.width; height = k.height; values = k.values.items }

abbrev pub plain_cube_request : Request → request.CubeRequest
plain_cube_request (LoadCollection id area time bands) =
    request.load_collection id.now area time (option_map (λ names. map (λ name. name.now) names.items) bands)
plain_cube_request (FilterBbox cube area) = request.filter_bbox cube.now area
plain_cube_request (FilterTemporal cube time dimension) =
    request.filter_temporal cube.now time (option_map (λ name. name.now) dimension)
plain_cube_request (FilterBands cube bands) = request.filter_bands cube.now (map (λ name. name.now) bands.items)
plain_cube_request (Apply cube process) = request.apply cube.now (plain_called process)
plain_cube_request (ApplyKernel cube kernel factor border replace_invalid) =
    request.apply_kernel cube.now (plain_kernel kernel) factor border replace_invalid
plain_cube_request (ReduceDimension cube dimension reducer) =
    request.reduce_dimension cube.now dimension.now (plain_called reducer)
plain_cube_request (AggregateTemporal cube intervals dimension reducer) =
    request.aggregate_temporal cube.now intervals.items (option_map (λ name. name.now) dimension) (plain_called reducer)
plain_cube_request (AggregateTemporalPeriod cube period dimension reducer) =
    request.aggregate_temporal_period cube.now period (option_map (λ name. name.now) dimension) (plain_called reducer)
plain_cube_request (ApplyDimension cube process) = request.apply_dimension cube.now (plain_graph process.now)
plain_cube_request (MergeCubes one two resolver) =
    request.merge_cubes one.now two.now (option_map plain_called resolver)
plain_cube_request (Mask cube mask replacement) = request.mask cube.now mask.now replacement
plain_cube_request (SaveResult cube format) = request.save_result cube.now format.now

-- ---- operations

abbrev pub plain_restriction : Restriction → extent.Restriction
plain_restriction r = record { box = r.area; time = r.time; bands = option_map (λ names. names.items) r.bands }

abbrev pub plain_operation : Operation → operation.Operation
plain_operation (Keep restriction) = operation.keep (plain_restriction restriction)
plain_operation (EachCell callback) = operation.each_cell callback
plain_operation (Convolve kernel factor border replace_invalid) =
    operation.convolve kernel factor border replace_invalid
plain_operation (Reduce kind callback) = operation.reduce kind callback
plain_operation (Aggregate intervals callback) = operation.aggregate intervals callback
plain_operation (Accumulate ignore) = operation.accumulate ignore
plain_operation (Merge resolver) = operation.merge resolver
plain_operation (Cover replacement) = operation.cover replacement
plain_operation GiveBack = operation.give_back
