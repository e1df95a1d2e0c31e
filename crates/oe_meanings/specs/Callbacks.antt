-- What a request must be for its operation to be built: its callback is resolved, its kernel is one, and its intervals
-- are those of a scope. The rows of the check see to the last two. Besides, where a fault stands in its callback.
use Rattle.std.specs.Prelude.{◌≡◌, ◌<◌, ◌^◌, ℕ, ⊤, Option, Some, true, false, List, [], ◌∷◌, length, codes, All, IfSome, Result, IfOk, IfErr, OnOk}
use Rattle.std.specs.Option.{option_map}
use Rattle.oe_cell.specs.Kinds.{is_over}
use Rattle.oe_graph.specs.Resolved.{IsResolvedUnder}
use Rattle.oe_graph.specs.Form.{callback_name}
use Rattle.oe_graph.specs.Tree.{PlainGraph}
use Rattle.oe_graph.specs.Read.{IsFault}
use Rattle.oe_graph.specs.declared.code.Code.{Code}
use Rattle.oe_graph.specs.declared.fault.Refusal.{Refusal}
use Rattle.oe_kernel.specs.Kernels.{IsKernel}
use Rattle.oe_expr.specs.Callback.{Callback, StandsInCallbackAt}
use Rattle.oe_requests.specs.Extents.{is_empty_extent}
use Rattle.oe_requests.specs.Operations.{Outline, operation_of}
use Rattle.oe_requests.specs.PlainRequests.{plain_operation}
use Rattle.oe_requests.specs.RunningSums.{IsWellFormed, StandsInSums}
use Rattle.oe_meanings.specs.Stands.{HasFaultlessCallbackOn, callback_on, sums_of}
use Rattle.oe_requests.specs.Requests.{Called, CubeRequest, load_collection, filter_bbox, filter_temporal, filter_bands, apply, apply_kernel, reduce_dimension, aggregate_temporal, aggregate_temporal_period, apply_dimension, merge_cubes, mask, save_result}
use Rattle.oe_requests.specs.declared.extent.Interval.{Interval}
use Rattle.oe_requests.specs.declared.operation.Operation.{Operation}

-- a callback that sees these parameters is resolved, and its `context` is a literal
pub record IsResolvedCallback (names : List (List ℕ)) (c : Called) : Type 0 where
  pub resolved : IsResolvedUnder true names c.graph
  pub context : is_over c.context ≡ false

-- each interval ends later than it starts, and they can be counted
pub record AreIntervals (intervals : List Interval) : Type 0 where
  pub not_empty : All (λ (i : Interval). is_empty_extent i.extent ≡ false) intervals
  pub few : length intervals < 2 ^ 32

abbrev pub IsBuildable : CubeRequest → Type 0
IsBuildable (load_collection id box time bands) = ⊤
IsBuildable (filter_bbox data_id box) = ⊤
IsBuildable (filter_temporal data_id time dimension) = ⊤
IsBuildable (filter_bands data_id bands) = ⊤
IsBuildable (apply data_id c) = IsResolvedCallback (codes "x" ∷ codes "context" ∷ []) c
IsBuildable (apply_kernel data_id kernel factor border replace) = IsKernel kernel
IsBuildable (reduce_dimension data_id dimension c) = IsResolvedCallback (codes "data" ∷ codes "context" ∷ []) c
IsBuildable (aggregate_temporal data_id intervals dimension c) =
    AreIntervals intervals × IsResolvedCallback (codes "data" ∷ codes "context" ∷ []) c
IsBuildable (aggregate_temporal_period data_id period dimension c) =
    IsResolvedCallback (codes "data" ∷ codes "context" ∷ []) c
IsBuildable (apply_dimension data_id g) = IsWellFormed g
IsBuildable (merge_cubes one two resolver) =
    IfSome resolver (IsResolvedCallback (codes "x" ∷ codes "y" ∷ codes "context" ∷ []))
IsBuildable (mask data_id mask_id replacement) = ⊤
IsBuildable (save_result data_id format) = ⊤

-- a fault stands in the callback of a request of the node `id`, of whose cubes the first has this outline
pub data StandsInCallback (id : List ℕ) (r : CubeRequest) (one : Outline) (code : Code) (name : List ℕ) : Type 0 where
  of_cells : {argument : List ℕ} {c : Callback}
      → ((others : List Outline) → callback_on r (one ∷ others) ≡ Some (argument, c))
      → StandsInCallbackAt c (callback_name id argument) code name → StandsInCallback id r one code name
  of_sums : {g : PlainGraph} → sums_of r ≡ Some g → StandsInSums g id code name → StandsInCallback id r one code name

-- What is built for a request of the node `id`, of whose cubes the first has this outline: its operation, in whose
-- callback no fault stands. Refused are the least of the faults that stand there, and out of memory.
pub record IsBuilt (id : List ℕ) (r : CubeRequest) (one : Outline) (result : Result (Option Operation) Refusal)
    : Type 0 where
  pub built : IfOk result (λ operation. (others : List Outline)
      → option_map plain_operation operation ≡ operation_of r (one ∷ others))
  pub faultless : OnOk result ((others : List Outline) → HasFaultlessCallbackOn r (one ∷ others))
  pub refused : IfErr result (IsFault (StandsInCallback id r one))
