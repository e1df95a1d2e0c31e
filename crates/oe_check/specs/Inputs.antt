-- The cubes that the request of a node works on, as a check finds them among what it knows.
use Rattle.std.specs.Prelude.{◌≡◌, ⊤, ℕ, ◌<◌, ◌^◌, true, false, List, Option, Some, None, Contains, length}
use Rattle.oe_dims.specs.declared.dims.DimsRow.{DimsRow}
use Rattle.oe_graph.specs.Printed.{ids_of}
use Rattle.oe_graph.specs.Tree.{Nodes}
use Rattle.oe_graph.specs.declared.node_state.NodeState.TheVariants.{Sound}
use Rattle.oe_requests.specs.Operations.{Outline}
use Rattle.oe_requests.specs.Requests.{CubeRequest, aggregate_temporal}
use Rattle.oe_meanings.specs.Results.{cubes_among}
use Rattle.oe_meanings.specs.Rows.{collection_not_found}
use Rattle.oe_meanings.specs.Stands.{cubes_of}
use Rattle.oe_check.specs.Walked.{State, outline_kept}
use Rattle.oe_check.specs.declared.input.Input.{Input}

-- ---- outlines

abbrev pub outline_in : Input → Outline
outline_in i = record { shape = i.shape.now; kind = i.kind }

abbrev pub both_outlines : Input × Input → Outline × Outline
both_outlines inputs = (outline_in inputs.0, outline_in inputs.1)

-- that of a node without a fault at or below it
abbrev pub outline_sound : State → Option Outline
outline_sound (Sound kept) = Some (outline_kept kept)
outline_sound _ = None

-- ---- the cubes of a request

-- each name is that of a node
abbrev pub AreNamed : Nodes → List (List ℕ) → Type 0
AreNamed nodes names = (name : List ℕ) → Contains names name → Contains (ids_of nodes) name

-- their outlines, where `at` has those of the nodes that the request names

module _ (rows : List DimsRow) (at : List ℕ → Outline) where
  -- these are their outlines, where a request that takes one cube alone does not look at the second
  abbrev pub WorksOn : CubeRequest → Outline → Outline → Type 0
  WorksOn r one two = cubes_of rows at r ≡ cubes_among r one two

  -- none where the collection of a load is not found, and else their outlines
  abbrev pub AreInputs : CubeRequest → Option (Outline × Outline) → Type 0
  AreInputs r None = collection_not_found rows r ≡ true
  AreInputs r (Some both) = (collection_not_found rows r ≡ false) × WorksOn r both.0 both.1

-- ---- intervals

-- the intervals of a request can be counted
abbrev pub HasFewIntervals : CubeRequest → Type 0
HasFewIntervals (aggregate_temporal id intervals name c) = length intervals < 2 ^ 32
HasFewIntervals _ = ⊤
