-- What an operation gives its callback to see is a scope: each list lies within the labels of the dimension, which
-- differ; and which labels each list has.
use Rattle.std.specs.Prelude.{◌≡◌, ◌<◌, ◌^◌, false, List, [], ◌∷◌, length, map, All}
use Rattle.oe_dims.specs.Dimensions.{IsShape, number_labels}
use Rattle.oe_dims.specs.Plain.{plain_instants}
use Rattle.oe_dims.specs.declared.kind.Kind.{Kind}
use Rattle.oe_dims.specs.declared.kind.Kind.TheVariants.{Time}
use Rattle.oe_expr.specs.Scope.{IsScope, list_labels}
use Rattle.oe_requests.specs.Extents.{is_empty_extent, labels_in_time}
use Rattle.oe_requests.specs.Operations.{Outline, labels_along, reduction_scope, interval_scope}
use Rattle.oe_requests.specs.declared.extent.Interval.{Interval}

-- On cubes of valid shapes, and for intervals that end later than they start: a reduction has one list, with all labels
-- along its dimension, and an aggregation one for each interval, with the labels inside it.
pub record GiveScopes : Type 0 where
  pub of_reduction : (kind : Kind) (cube : Outline) → IsShape cube.shape → IsScope (reduction_scope kind cube)
  pub of_intervals : (intervals : List Interval) (cube : Outline) → IsShape cube.shape
      → All (λ (i : Interval). is_empty_extent i.extent ≡ false) intervals → length intervals < 2 ^ 32
      → IsScope (interval_scope intervals cube)
  pub reduction_lists : (kind : Kind) (cube : Outline)
      → list_labels (reduction_scope kind cube) ≡ labels_along kind cube.shape ∷ []
  pub interval_lists : (intervals : List Interval) (cube : Outline) → IsShape cube.shape
      → list_labels (interval_scope intervals cube)
      ≡ map (λ (i : Interval). plain_instants (labels_in_time i.extent (number_labels cube.shape Time))) intervals
