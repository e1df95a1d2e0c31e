-- Where faults stand among the nodes of a graph and in their callbacks.
use Rattle.std.specs.Prelude.{◌≡◌, ℕ, true, false, List, [], ◌∷◌, Option, Some, None, Contains, IfSome, codes, option_map, option_and_then}
use Rattle.oe_dims.specs.declared.dims.DimsRow.{DimsRow}
use Rattle.oe_graph.specs.Form.{callback_name}
use Rattle.oe_graph.specs.References.{references_named}
use Rattle.oe_graph.specs.Tree.{Nodes, PlainGraph, PlainNode}
use Rattle.oe_graph.specs.declared.code.Code.{Code}
use Rattle.oe_graph.specs.declared.code.Code.TheVariants.{ProcessParameterInvalid, CollectionNotFound, CrsUnsupported, FormatUnsupported, DimensionNotAvailable, TemporalExtentEmpty, BandFilterParameterMissing, BandNotAvailable, KernelDimensionsUneven, KernelTooLarge, DistinctDimensionLabelsRequired, MergeDimensionsDiffer, OverlapResolverMissing, MaskDimensionsDiffer, CellKindInvalid, CubeTooLarge}
use Rattle.oe_expr.specs.Callback.{Callback, StandsInCallbackAt, IsFaultlessCallback}
use Rattle.oe_expr.specs.Nodes.{node_named}
use Rattle.oe_expr.specs.Rows.{JudgedRow, first_row}
use Rattle.oe_meanings.specs.Graphs.{request_inputs, outline_named, outline_at}
use Rattle.oe_requests.specs.Operations.{Operation, each_cell, reduce, aggregate, merge, Outline, operation_of}
use Rattle.oe_requests.specs.Requests.{CubeRequest, apply_dimension, cube_request_at}
use Rattle.oe_requests.specs.RunningSums.{AreSums, StandsInSums}
use Rattle.oe_meanings.specs.Rows.{collection_not_found, crs_unsupported, format_unsupported, dimension_not_available, temporal_extent_empty, band_filter_parameter_missing, band_not_available, kernel_dimensions_uneven, kernel_too_large, distinct_labels_required, merge_dimensions_differ, overlap_resolver_missing, mask_dimensions_differ, cell_kind_invalid, cube_too_large}

-- ---- the table

-- the rows that the faults of a callback wait for, by their numbers
abbrev pub early_rows : List DimsRow → CubeRequest → List Outline → List JudgedRow
early_rows rows r cubes =
    (CollectionNotFound, collection_not_found rows r)
    ∷ (CrsUnsupported, crs_unsupported r cubes)
    ∷ (FormatUnsupported, format_unsupported r)
    ∷ (DimensionNotAvailable, dimension_not_available r cubes)
    ∷ (TemporalExtentEmpty, temporal_extent_empty r)
    ∷ (BandFilterParameterMissing, band_filter_parameter_missing r)
    ∷ (BandNotAvailable, band_not_available r cubes)
    ∷ (KernelDimensionsUneven, kernel_dimensions_uneven r)
    ∷ (KernelTooLarge, kernel_too_large r)
    ∷ (DistinctDimensionLabelsRequired, distinct_labels_required r)
    ∷ (MergeDimensionsDiffer, merge_dimensions_differ r cubes)
    ∷ (OverlapResolverMissing, overlap_resolver_missing r cubes)
    ∷ (MaskDimensionsDiffer, mask_dimensions_differ r cubes)
    ∷ []

-- the callback of an operation, with the name of the argument that holds it
abbrev pub callback_in : Operation → Option (List ℕ × Callback)
callback_in (each_cell c) = Some (codes "process", c)
callback_in (reduce along c) = Some (codes "reducer", c)
callback_in (aggregate intervals c) = Some (codes "reducer", c)
callback_in (merge resolver) = option_map (λ c. (codes "overlap_resolver", c)) resolver
callback_in _ = None

-- that of a request, under the scope that the cubes give it
abbrev pub callback_on : CubeRequest → List Outline → Option (List ℕ × Callback)
callback_on r cubes = option_and_then callback_in (operation_of r cubes)

-- the running sums of a request: the nodes of its callback
abbrev pub sums_of : CubeRequest → Option PlainGraph
sums_of (apply_dimension data_id g) = Some g
sums_of _ = None

-- no fault stands in the callback of a request on these cubes, nor in its running sums, where it has such
abbrev pub HasFaultlessCallbackOn : CubeRequest → List Outline → Type 0
HasFaultlessCallbackOn r cubes =
    IfSome (callback_on r cubes) (λ c. IsFaultlessCallback c.1) × IfSome (sums_of r) AreSums

-- ---- one node, where `at` has the outlines of the nodes that it refers to

module _ (rows : List DimsRow) (at : List ℕ → Outline) where
  -- the outlines of the cubes that a request works on
  abbrev pub cubes_of : CubeRequest → List Outline
  cubes_of r = request_inputs (outline_named rows) at r

  -- this is what the node asks for, and none of the rows holds that the faults of its callback wait for
  pub record Passes (n : PlainNode) (r : CubeRequest) : Type 0 where
    pub asks : cube_request_at n ≡ Some r
    pub none_holds : first_row (early_rows rows r (cubes_of r)) ≡ None

  -- no fault stands in the callback, where there is one
  abbrev pub HasFaultlessCallback : CubeRequest → Type 0
  HasFaultlessCallback r = HasFaultlessCallbackOn r (cubes_of r)

  -- A fault stands at a node or in its callback. At the node it is the first row that holds; of kinds a row holds only
  -- where the callback has no fault, while the size of the cube does not wait for the callback.
  pub data StandsHere (n : PlainNode) : Code → List ℕ → Type 0 where
    -- an argument is not what its parameter may hold
    asks_for_nothing : cube_request_at n ≡ None → StandsHere n ProcessParameterInvalid n.id
    early : {r : CubeRequest} {code : Code}
        → cube_request_at n ≡ Some r → first_row (early_rows rows r (cubes_of r)) ≡ Some code → StandsHere n code n.id
    inside : {r : CubeRequest} {argument : List ℕ} {c : Callback} {code : Code} {name : List ℕ}
        → Passes n r → callback_on r (cubes_of r) ≡ Some (argument, c)
        → StandsInCallbackAt c (callback_name n.id argument) code name → StandsHere n code name
    in_sums : {r : CubeRequest} {g : PlainGraph} {code : Code} {name : List ℕ}
        → Passes n r → sums_of r ≡ Some g → StandsInSums g n.id code name → StandsHere n code name
    of_kind : {r : CubeRequest}
        → Passes n r → HasFaultlessCallback r → cell_kind_invalid r (cubes_of r) ≡ true
        → StandsHere n CellKindInvalid n.id
    of_size : {r : CubeRequest}
        → Passes n r → (HasFaultlessCallback r → cell_kind_invalid r (cubes_of r) ≡ false)
        → cube_too_large r (cubes_of r) ≡ true → StandsHere n CubeTooLarge n.id

  -- none stands there
  abbrev pub HasNoFault : PlainNode → Type 0
  HasNoFault n = (code : Code) (name : List ℕ) → ¬ StandsHere n code name

-- ---- all nodes of a graph over collections

module _ (rows : List DimsRow) (nodes : Nodes) where
  -- no fault at the node of a name or below it: not at those that it refers to, nor at itself or in its callback
  pub data IsSound : List ℕ → Type 0 where
    sound : {name : List ℕ} {n : PlainNode}
        → node_named name nodes ≡ Some n
        → ((other : List ℕ) → Contains (references_named n.arguments) other → IsSound other)
        → HasNoFault rows (outline_at rows nodes) n → IsSound name

  -- a fault stands at the node of an id or in its callback, where the nodes that it refers to have none at or below
  -- them
  pub record StandsAt (id : List ℕ) (code : Code) (name : List ℕ) : Type 0 where
    pub node : PlainNode
    pub is_node : node_named id nodes ≡ Some node
    pub below : (other : List ℕ) → Contains (references_named node.arguments) other → IsSound other
    pub here : StandsHere rows (outline_at rows nodes) node code name

  -- a fault stands in the graph
  pub record StandsInGraph (code : Code) (name : List ℕ) : Type 0 where
    pub id : List ℕ
    pub at : StandsAt id code name

  -- that a fault stands only where none stands at or below the nodes that its node refers to: a node without a fault at
  -- or below it has none itself
  abbrev pub HasNoneAtOrBelow : Type 0
  HasNoneAtOrBelow = (id : List ℕ) → IsSound id → (code : Code) (name : List ℕ) → ¬ StandsAt id code name
