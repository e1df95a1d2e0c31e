-- The labels that a request brings with it are valid, by the readers of its parameters.
use Rattle.std.specs.Prelude.{◌≡◌, ⊤, true, List, Some}
use Rattle.oe_dims.specs.Indices.{same_number}
use Rattle.oe_dims.specs.Dimensions.{IsShape}
use Rattle.oe_graph.specs.Tree.{PlainNode}
use Rattle.oe_requests.specs.Labels.{are_distinct}
use Rattle.oe_requests.specs.Operations.{Operation, keep, each_cell, convolve, reduce, aggregate, accumulate, merge, cover, give_back, Outline, no_outline, first_or, operation_of}
use Rattle.oe_requests.specs.Requests.{CubeRequest, cube_request_at}
use Rattle.oe_meanings.specs.ValidShapes.{labels_of, BringsLabels}

-- no two labels of its intervals are equal
abbrev pub HasDistinctLabels : Operation → Type 0
HasDistinctLabels (keep r) = ⊤
HasDistinctLabels (each_cell c) = ⊤
HasDistinctLabels (convolve kernel factor border replace) = ⊤
HasDistinctLabels (reduce kind c) = ⊤
HasDistinctLabels (aggregate intervals c) = are_distinct same_number (labels_of intervals) ≡ true
HasDistinctLabels (accumulate ignore) = ⊤
HasDistinctLabels (merge resolver) = ⊤
HasDistinctLabels (cover replacement) = ⊤
HasDistinctLabels give_back = ⊤

-- bands are valid names, none of them twice, and labels of intervals, and of the periods of a valid shape, are instants
pub record BringValidLabels : Type 0 where
  pub each : (n : PlainNode) (r : CubeRequest) (cubes : List Outline) (operation : Operation)
      → IsShape (first_or no_outline cubes).shape → cube_request_at n ≡ Some r
      → operation_of r cubes ≡ Some operation → HasDistinctLabels operation → BringsLabels operation
