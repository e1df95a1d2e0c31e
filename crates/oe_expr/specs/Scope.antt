-- What a callback sees: the scope that its parent gives it, and what it is evaluated on.
use Rattle.std.specs.Prelude.{◌≡◌, ◌≢◌, ◌<◌, ◌≤◌, ◌^◌, ℕ, ⊤, List, [], ◌∷◌, map, length, slice_range, Option, Some, None, codes, All, AllPairs, Contains, Result, Ok, Err}
use Rattle.std.specs.Option.{option_and_then}
use Rattle.std.specs.Prelude.{ℤ}
use Rattle.oe_cell.specs.declared.cell.Cell.{Cell}
use Rattle.oe_dims.specs.Indices.{same_number, index_where}
use Rattle.oe_dims.specs.Instant.{instant_read}
use Rattle.oe_dims.specs.Names.{same_name}
use Rattle.oe_dims.specs.Plain.{PlainLabels, plain_labels, plain_instants, plain_names, plain_coordinates}
use Rattle.oe_dims.specs.declared.instant.InstantFault.{InstantFault}
use Rattle.oe_dims.specs.declared.kind.CellKind.{CellKind}
use Rattle.oe_cube.specs.Kinds.{IsOfKind}
use Rattle.oe_expr.specs.declared.scope.ListPart.{ListPart}
use Rattle.oe_expr.specs.declared.scope.Scope.{Scope}
use Rattle.oe_expr.specs.declared.scope.Scope.TheVariants.{Apply, Reduce, Merge}

-- The kind of the cells, and for a reduction the labels of its dimension and the lists that it is evaluated on: one
-- with all labels for `reduce_dimension`, one per interval for `aggregate_temporal`.
pub data PlainScope : Type 0 where
  apply : CellKind → PlainScope
  reduce : CellKind → PlainLabels → List ListPart → PlainScope
  merge : CellKind → PlainScope

abbrev pub plain_scope : Scope → PlainScope
plain_scope (Apply kind) = apply kind
plain_scope (Reduce kind labels lists) = reduce kind (plain_labels labels) lists.items
plain_scope (Merge kind) = merge kind

-- the parameters that a callback sees of its parent
abbrev pub scope_parameters : PlainScope → List (List ℕ)
scope_parameters (apply kind) = codes "x" ∷ codes "context" ∷ []
scope_parameters (reduce kind labels lists) = codes "data" ∷ codes "context" ∷ []
scope_parameters (merge kind) = codes "x" ∷ codes "y" ∷ codes "context" ∷ []

-- ---- labels

abbrev pub count_labels : PlainLabels → ℕ
count_labels (plain_instants labels) = length labels
count_labels (plain_names labels) = length labels
count_labels (plain_coordinates labels) = length labels

-- a list that is written in a callback has no labels
abbrev pub no_labels : PlainLabels
no_labels = plain_names []

-- the labels of a list
abbrev pub labels_in : PlainLabels → ListPart → PlainLabels
labels_in (plain_instants labels) part = plain_instants (slice_range labels part.from part.to)
labels_in (plain_names labels) part = plain_names (slice_range labels part.from part.to)
labels_in (plain_coordinates labels) part = plain_coordinates (slice_range labels part.from part.to)

-- the labels of each list of a scope
abbrev pub list_labels : PlainScope → List PlainLabels
list_labels (apply kind) = []
list_labels (reduce kind labels lists) = map (labels_in labels) lists
list_labels (merge kind) = []

-- a label as an argument writes it
pub data Label : Type 0 where
  text : List ℕ → Label
  whole : ℤ → Label

abbrev pub read_or_none : Result ℤ InstantFault → Option ℤ
read_or_none (Ok seconds) = Some seconds
read_or_none (Err fault) = None

-- The index of a label among those of a list: an instant by either of its spellings, a band by its name, a coordinate
-- by its number. A label of another type is no label of the list.
abbrev pub label_index : PlainLabels → Label → Option ℕ
label_index (plain_instants labels) (text spelling) =
    option_and_then (λ seconds. index_where (same_number seconds) labels) (read_or_none (instant_read spelling))
label_index (plain_names labels) (text name) = index_where (same_name name) labels
label_index (plain_coordinates labels) (whole z) = index_where (same_number z) labels
label_index (plain_instants labels) (whole z) = None
label_index (plain_names labels) (whole z) = None
label_index (plain_coordinates labels) (text spelling) = None

-- ---- conditions

-- no label occurs twice
abbrev pub AreDistinct : PlainLabels → Type 0
AreDistinct (plain_instants labels) = AllPairs (λ a b. a ≢ b) labels
AreDistinct (plain_names labels) = AllPairs (λ a b. a ≢ b) labels
AreDistinct (plain_coordinates labels) = AllPairs (λ a b. a ≢ b) labels

-- the list lies within so many labels
pub record LiesWithin (count : ℕ) (part : ListPart) : Type 0 where
  pub rises : part.from ≤ part.to
  pub ends : part.to ≤ count

-- the labels are those of a dimension, and each list lies within them
pub record AreLists (labels : PlainLabels) (lists : List ListPart) : Type 0 where
  pub within : All (LiesWithin (count_labels labels)) lists
  pub distinct : AreDistinct labels
  pub few_labels : count_labels labels < 2 ^ 32
  pub few_lists : length lists < 2 ^ 32

abbrev pub IsScope : PlainScope → Type 0
IsScope (apply kind) = ⊤
IsScope (reduce kind labels lists) = AreLists labels lists
IsScope (merge kind) = ⊤

-- the number of a list of the scope, where the scope has lists
abbrev pub IsListNumber : PlainScope → ℕ → Type 0
IsListNumber (apply kind) list = ⊤
IsListNumber (reduce kind labels lists) list = list < length lists
IsListNumber (merge kind) list = ⊤

-- ---- environments

-- the cells of the parameters, and the labels of the list `data`
pub record Environment : Type 0 where
  pub x : Cell
  pub y : Cell
  pub context : Cell
  pub cells : List Cell
  pub labels : PlainLabels

-- the list is one of these, with as many cells as labels, each of the kind
pub record IsListOf (kind : CellKind) (lists : List PlainLabels) (e : Environment) : Type 0 where
  pub among : Contains lists e.labels
  pub as_many : length e.cells ≡ count_labels e.labels
  pub of_kind : All (IsOfKind kind) e.cells

-- what the scope promises of an environment; what it lacks may be anything
abbrev pub IsEnvironmentOf : PlainScope → Environment → Type 0
IsEnvironmentOf (apply kind) e = IsOfKind kind e.x
IsEnvironmentOf (reduce kind labels lists) e = IsListOf kind (map (labels_in labels) lists) e
IsEnvironmentOf (merge kind) e = IsOfKind kind e.x × IsOfKind kind e.y
