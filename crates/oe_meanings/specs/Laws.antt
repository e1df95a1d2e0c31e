-- What holds of every meaning.
use Rattle.std.specs.Prelude.{◌≡◌, ◌⊎◌, ◌↔◌, ◌≤◌, ℕ, ℤ, ◌||◌, Bool, true, Some, List, map, IfSome}
use Rattle.std.specs.List.{list_any}
use Rattle.oe_cell.specs.declared.cell.Cell.{Cell}
use Rattle.oe_dims.specs.Cube.{Cube, Tuple, IsTuple}
use Rattle.oe_dims.specs.Dimensions.{Dimensions, IsShape, number_labels}
use Rattle.oe_dims.specs.Indices.{same_number}
use Rattle.oe_dims.specs.Names.{same_name}
use Rattle.oe_expr.specs.Callback.{Callback}
use Rattle.oe_graph.specs.Tree.{Nodes}
use Rattle.oe_meanings.specs.Graphs.{Collections, collection_rows, outline_at, meaning_at}
use Rattle.oe_requests.specs.Labels.{sorted_labels, all_in_order, all_bands, shape_of_merge, differing, restrict}
use Rattle.oe_meanings.specs.Meaning.{Datacube, aggregated, operated, outline, by_period}
use Rattle.oe_requests.specs.Operations.{Operation, outline_of}
use Rattle.oe_meanings.specs.Words.{share_tuple}
use Rattle.oe_requests.specs.Periods.{period_intervals}
use Rattle.oe_dims.specs.declared.kind.Kind.TheVariants.{Time}
use Rattle.oe_periods.specs.declared.calendar.Period.{Period}

-- The shape and the kind of a cube are found without cells: of what an operation gives, from those of the cubes that it
-- works on, and of a node of any graph, from those of the collections.
pub record AreFoundWithoutCells : Type 0 where
  pub of_operation : (operation : Operation) (inputs : List Datacube)
      → outline (operated operation inputs) ≡ outline_of operation (map outline inputs)
  pub of_node : (collections : Collections) (nodes : Nodes) (name : List ℕ)
      → outline (meaning_at collections nodes name) ≡ outline_at (collection_rows collections) nodes name

-- a label is one of these
abbrev pub is_label : ℤ → List ℤ → Bool
is_label label labels = list_any (same_number label) labels

abbrev pub is_band : List ℕ → List (List ℕ) → Bool
is_band name names = list_any (same_name name) names

-- Labels that are put in order stay the same, and those of a merge are all labels of both cubes. That they stand in the
-- order of their dimension is a part of the rules of a shape.
pub record KeepAllLabels : Type 0 where
  pub sorted_labels : (is_before : ℤ → ℤ → Bool) (labels : List ℤ) (label : ℤ)
      → is_label label (sorted_labels is_before labels) ≡ is_label label labels
  pub of_both : (is_before : ℤ → ℤ → Bool) (one two : List ℤ) (label : ℤ)
      → IfSome (all_in_order is_before (Some one) (Some two))
      (λ labels. is_label label labels ≡ (is_label label one || is_label label two))
  pub bands_of_both : (one two : List (List ℕ)) (name : List ℕ)
      → IfSome (all_bands (Some one) (Some two)) (λ names. is_band name names ≡ (is_band name one || is_band name two))

-- Where the label sets of two cubes differ along one dimension at most, each tuple of their merge is in one of them at
-- least.
pub record AreInOneAtLeast : Type 0 where
  pub each : (one two : Dimensions) → differing one two ≤ 1 → (tuple : Tuple) → IsTuple (shape_of_merge one two) tuple
      → IsTuple one (restrict one tuple) ⊎ IsTuple two (restrict two tuple)

-- a tuple of the merge of two cubes is in both of them, each repeated over the dimensions that it lacks
pub record IsInBoth (one two : Dimensions) (tuple : Tuple) : Type 0 where
  pub merged : IsTuple (shape_of_merge one two) tuple
  pub first : IsTuple one (restrict one tuple)
  pub second : IsTuple two (restrict two tuple)

-- A merge needs a resolver exactly where a tuple of labels is in both of its cubes, whatever their shapes.
pub record NeedResolvers : Type 0 where
  pub each : (one two : Dimensions) → (share_tuple one two ≡ true) ↔ ((tuple : Tuple) × IsInBoth one two tuple)

-- The operation of `aggregate_temporal_period`, an aggregation over the periods as intervals, gives what calendar
-- periods mean on a cube of a valid shape.
pub record AggregateByPeriods : Type 0 where
  pub each : (period : Period) (c : Callback) (cube : Cube Cell) → IsShape cube.shape
      → aggregated (period_intervals period (number_labels cube.shape Time)) c cube ≡ by_period period c cube
