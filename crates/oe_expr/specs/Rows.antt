-- The rows of the table of faults for the nodes of a callback, one definition a row: where its code stands at a node
-- whose references have no fault. A row says nothing of the rows before it: the first that holds is the one that
-- stands. A node of a callback has no callback of its own, since none of its parameters may hold one; so all rows are
-- the node's own, and nothing stands between the one of an element that is missing and the one of kinds.
use Rattle.std.specs.Prelude.{ℕ, ◌||◌, Bool, true, false, not, nat_lt, List, [], ◌∷◌, length, map, Option, Some, None, if◌then◌else◌}
use Rattle.std.specs.List.{list_any}
use Rattle.std.specs.Option.{option_map_or}
use Rattle.oe_cell.specs.declared.cell.Cell.{Cell}
use Rattle.oe_dims.specs.Plain.{PlainLabels}
use Rattle.oe_dims.specs.declared.kind.CellKind.{CellKind}
use Rattle.oe_dims.specs.declared.kind.CellKind.TheVariants.{Flags}
use Rattle.oe_graph.specs.Tree.{PlainNode}
use Rattle.oe_graph.specs.declared.code.Code.{Code}
use Rattle.oe_graph.specs.declared.code.Code.TheVariants.{ProcessParameterInvalid, ArrayElementParameterMissing, ArrayElementParameterConflict, ArrayElementNotAvailable, CellKindInvalid}
use Rattle.oe_expr.specs.Kinds.{are_mixed}
use Rattle.oe_expr.specs.NodeKinds.{scalar_kind, items_kinds}
use Rattle.oe_expr.specs.Operations.{unary_takes, binary_takes, reducer_takes}
use Rattle.oe_expr.specs.Requests.{Items, the_data, written, CellRequest, unary, binary, choice, reduction, element, cell_request_at}
use Rattle.oe_expr.specs.Scope.{PlainScope, Label, count_labels, no_labels, list_labels}
use Rattle.oe_expr.specs.Value.{element_index}

-- a list as a check sees it: its length and its labels
pub record Listing : Type 0 where
  pub count : ℕ
  pub labels : PlainLabels

abbrev pub listing_of_labels : PlainLabels → Listing
listing_of_labels labels = record { count = count_labels labels; labels = labels }

-- the lists that a list argument may be: each of the scope's, or the one that is written
abbrev pub listings : PlainScope → Items → List Listing
listings scope the_data = map listing_of_labels (list_labels scope)
listings scope (written scalars) = record { count = length scalars; labels = no_labels } ∷ []

-- the list lacks the element
abbrev pub has_no_element : Option ℕ → Option Label → Listing → Bool
has_no_element index label list =
    not (option_map_or (λ k. nat_lt k list.count) (element_index list.labels index label) false)

-- neither an index nor a label is given
abbrev pub parameter_missing : CellRequest → Bool
parameter_missing (element items None None return_nodata) = true
parameter_missing _ = false

-- both are given
abbrev pub parameter_conflict : CellRequest → Bool
parameter_conflict (element items (Some index) (Some label) return_nodata) = true
parameter_conflict _ = false

-- a missing element is not null, and a list lacks the element
abbrev pub element_not_available : PlainScope → CellRequest → Bool
element_not_available scope (element items index label false) =
    list_any (has_no_element index label) (listings scope items)
element_not_available scope _ = false

-- A cell is of a kind that the process does not take: of another than the process names, or the cells that are to be of
-- one kind are of both. The condition of `if` is a flag; its branches are of one kind, and so are the elements of a
-- list.
abbrev pub callback_cell_kind_invalid : PlainScope → Cell → (List ℕ → Option CellKind) → CellRequest → Bool
callback_cell_kind_invalid scope context at (unary f x) =
    are_mixed (unary_takes f ∷ scalar_kind scope context at x ∷ [])
callback_cell_kind_invalid scope context at (binary f x y) =
    are_mixed (binary_takes f ∷ scalar_kind scope context at x ∷ scalar_kind scope context at y ∷ [])
callback_cell_kind_invalid scope context at (choice value accept reject) =
    are_mixed (Some Flags ∷ scalar_kind scope context at value ∷ [])
    || are_mixed (scalar_kind scope context at accept ∷ scalar_kind scope context at reject ∷ [])
callback_cell_kind_invalid scope context at (reduction reducer ignore items) =
    are_mixed (reducer_takes reducer ∷ items_kinds scope context at items)
callback_cell_kind_invalid scope context at (element items index label return_nodata) =
    are_mixed (items_kinds scope context at items)

-- ---- the table

-- a row: its code, and whether it holds
abbrev pub JudgedRow : Type 0
JudgedRow = Code × Bool

abbrev pub first_row : List JudgedRow → Option Code
first_row [] = None
first_row (row ∷ rows) = if row.1 then Some row.0 else first_row rows

-- the rows of a node whose arguments are what they may be, by their numbers
abbrev pub request_rows : PlainScope → Cell → (List ℕ → Option CellKind) → CellRequest → List JudgedRow
request_rows scope context at request =
    (ArrayElementParameterMissing, parameter_missing request)
    ∷ (ArrayElementParameterConflict, parameter_conflict request)
    ∷ (ArrayElementNotAvailable, element_not_available scope request)
    ∷ (CellKindInvalid, callback_cell_kind_invalid scope context at request)
    ∷ []

abbrev pub request_fault : PlainScope → Cell → (List ℕ → Option CellKind) → CellRequest → Option Code
request_fault scope context at request = first_row (request_rows scope context at request)

-- the first row that holds at a node, where `at` has the kinds of the nodes that it refers to
abbrev pub node_fault : PlainScope → Cell → (List ℕ → Option CellKind) → PlainNode → Option Code
node_fault scope context at n =
    option_map_or (request_fault scope context at) (cell_request_at n) (Some ProcessParameterInvalid)
