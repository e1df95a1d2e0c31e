-- When the shape of a result is valid: that of an operation without a fault, where it is not too large.
use Rattle.std.specs.Prelude.{◌≡◌, ⊤, ℕ, ℤ, ◌&&◌, Bool, true, nat_le, List, map, All, IfSome}
use Rattle.std.specs.List.{list_all}
use Rattle.oe_dims.specs.Dimensions.{Dimensions, IsShape, all_differ, all_between, first_instant, last_instant, all_kinds, is_within_limit, cell_count, most_cells}
use Rattle.oe_dims.specs.Indices.{same_number}
use Rattle.oe_dims.specs.Names.{is_name}
use Rattle.oe_requests.specs.Labels.{are_distinct}
use Rattle.oe_requests.specs.Operations.{Operation, keep, each_cell, convolve, reduce, aggregate, accumulate, merge, cover, give_back, shape_of}
use Rattle.oe_requests.specs.declared.extent.Interval.{Interval}

-- at most 65536 labels along each dimension, and at most 2^40 cells
abbrev pub is_within_limits : Dimensions → Bool
is_within_limits d = list_all (is_within_limit d) all_kinds && nat_le (cell_count d) most_cells

-- valid names, none of them twice
pub record AreBands (names : List (List ℕ)) : Type 0 where
  pub differ : all_differ names ≡ true
  pub valid : list_all is_name names ≡ true

abbrev pub labels_of : List Interval → List ℤ
labels_of intervals = map (λ (i : Interval). i.label) intervals

-- instants of the years 1 to 9999, none of them twice
pub record AreIntervalLabels (labels : List ℤ) : Type 0 where
  pub differ : are_distinct same_number labels ≡ true
  pub in_range : all_between first_instant last_instant labels ≡ true

-- what a check has seen of the labels that an operation brings with it
abbrev pub BringsLabels : Operation → Type 0
BringsLabels (keep r) = IfSome r.bands AreBands
BringsLabels (each_cell c) = ⊤
BringsLabels (convolve kernel factor border replace) = ⊤
BringsLabels (reduce kind c) = ⊤
BringsLabels (aggregate intervals c) = AreIntervalLabels (labels_of intervals)
BringsLabels (accumulate ignore) = ⊤
BringsLabels (merge resolver) = ⊤
BringsLabels (cover replacement) = ⊤
BringsLabels give_back = ⊤

-- an operation gives a valid shape, where it works on such and the result is within the limits
pub record GiveValidShapes : Type 0 where
  pub each : (operation : Operation) (shapes : List Dimensions) → BringsLabels operation → All IsShape shapes
      → is_within_limits (shape_of operation shapes) ≡ true → IsShape (shape_of operation shapes)
