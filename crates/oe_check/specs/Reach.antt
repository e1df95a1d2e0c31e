-- Which labels of its inputs an operation needs beyond those of the part of the result at hand: the whole side, or some
-- pixels to both sides; and which reductions of time can be made date by date.
use Rattle.std.specs.Prelude.{◌≡◌, ℕ, ◌==◌, ◌&&◌, Bool, true, false, List, map, Option, Some, None, slice_get, option_map, option_and_then}
use Rattle.oe_cell.specs.declared.cell.Cell.{Cell}
use Rattle.oe_dims.specs.Dimensions.{Dimensions}
use Rattle.oe_dims.specs.Plain.{PlainLabels}
use Rattle.oe_dims.specs.Rules.{kind_rank}
use Rattle.oe_dims.specs.declared.kind.Kind.{Kind}
use Rattle.oe_dims.specs.declared.kind.Kind.TheVariants.{Time, Bands, Y, X}
use Rattle.oe_fold.specs.declared.reducer.Reducer.{Reducer}
use Rattle.oe_fold.specs.Value.{reduction_of}
use Rattle.oe_graph.specs.References.{each_node}
use Rattle.oe_graph.specs.Resolved.{IsResolvedUnder}
use Rattle.oe_kernel.specs.Kernels.{radius_of}
use Rattle.oe_kernel.specs.declared.border.Border.{Border}
use Rattle.oe_kernel.specs.declared.border.Border.TheVariants.{Wrap}
use Rattle.oe_expr.specs.Callback.{Callback}
use Rattle.oe_expr.specs.Folds.{callback_reducer}
use Rattle.oe_expr.specs.Requests.{with_both}
use Rattle.oe_expr.specs.Scope.{scope_parameters}
use Rattle.oe_check.specs.Checked.{CheckedGraph, operation_of_node}
use Rattle.oe_requests.specs.Labels.{differ_along}
use Rattle.oe_meanings.specs.Meaning.{value_on_list}
use Rattle.oe_requests.specs.Operations.{Operation, keep, each_cell, convolve, reduce, aggregate, accumulate, merge, cover, give_back, Outline, no_dimensions, first_or, second_or}
use Rattle.oe_requests.specs.Requests.{cube_request_at}
use Rattle.oe_meanings.specs.SoundNodes.{input_outlines}

abbrev pub same_kind : Kind → Kind → Bool
same_kind a b = kind_rank a == kind_rank b

abbrev pub is_spatial : Kind → Bool
is_spatial Time = false
is_spatial Bands = false
is_spatial Y = true
is_spatial X = true

abbrev pub is_wrap : Border → Bool
is_wrap Wrap = true
is_wrap _ = false

-- It needs the whole side: a reduction along the dimension, an aggregation and running sums along t, a kernel whose
-- border wraps along x and y, and a merge along a dimension that both cubes have with other label sets.
abbrev pub needs_whole : Operation → List Dimensions → Kind → Bool
needs_whole (keep restriction) shapes along = false
needs_whole (each_cell c) shapes along = false
needs_whole (convolve kernel factor border replace) shapes along = is_wrap border && is_spatial along
needs_whole (reduce kind c) shapes along = same_kind kind along
needs_whole (aggregate intervals c) shapes along = same_kind Time along
needs_whole (accumulate ignore) shapes along = same_kind Time along
needs_whole (merge resolver) shapes along =
    differ_along along (first_or no_dimensions shapes) (second_or no_dimensions shapes)
needs_whole (cover replacement) shapes along = false
needs_whole give_back shapes along = false

-- by how many pixels a kernel reaches to each side
abbrev pub halo_of : Operation → Kind → ℕ
halo_of (convolve kernel factor border replace) X = radius_of kernel.width
halo_of (convolve kernel factor border replace) Y = radius_of kernel.height
halo_of _ along = 0

-- ---- of the nodes of a checked graph

-- the shapes of the cubes that a node works on
abbrev pub input_shapes : CheckedGraph → ℕ → Option (List Dimensions)
input_shapes c index =
    option_map (λ r. map (λ (o : Outline). o.shape) (input_outlines c.rows c.nodes r))
    (option_and_then cube_request_at (slice_get (each_node c.nodes) index))

-- whether a node needs the whole side along a dimension
abbrev pub whole_of_node : CheckedGraph → ℕ → Kind → Option Bool
whole_of_node c index along =
    with_both (λ operation shapes. needs_whole operation shapes along) (operation_of_node c index)
    (input_shapes c index)

-- the node merges two cubes
abbrev pub IsMerge : CheckedGraph → ℕ → Type 0
IsMerge c index = (resolver : Option Callback) × (operation_of_node c index ≡ Some (merge resolver))

-- by how many pixels a node reaches to each side
abbrev pub halo_of_node : CheckedGraph → ℕ → Kind → Option ℕ
halo_of_node c index along = option_map (λ operation. halo_of operation along) (operation_of_node c index)

-- ---- reductions that go date by date

-- a reduction of t whose callback is one node that reduces cell by cell, and whether it ignores nulls, as `count` does
abbrev pub time_fold : Operation → Option (Reducer × Bool)
time_fold (reduce Time c) = callback_reducer c
time_fold _ = None

-- that of a node of a checked graph
abbrev pub time_fold_of_node : CheckedGraph → ℕ → Option (Reducer × Bool)
time_fold_of_node c index = option_and_then time_fold (operation_of_node c index)

-- a resolved callback of such a reduction has the value of its reducer on the cells, whatever their labels
pub record FoldDateByDate : Type 0 where
  pub each : (c : Callback) (reducer : Reducer) (ignore : Bool)
      → IsResolvedUnder true (scope_parameters c.scope) c.graph → time_fold (reduce Time c) ≡ Some (reducer, ignore)
      → (labels : PlainLabels) (cells : List Cell) → value_on_list c labels cells ≡ reduction_of reducer ignore cells
