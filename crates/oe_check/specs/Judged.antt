-- What judging the request of a node goes by, and what it answers.
use Rattle.std.specs.Prelude.{◌≡◌, ℕ, Bool, List, ◌∷◌, Option, Some, is_none}
use Rattle.oe_dims.specs.Dimensions.{Dimensions}
use Rattle.oe_dims.specs.declared.dims.DimsRow.{DimsRow}
use Rattle.oe_graph.specs.Tree.{PlainNode}
use Rattle.oe_meanings.specs.Callbacks.{IsBuildable}
use Rattle.oe_meanings.specs.Results.{HasValidLabels, IsResultShape}
use Rattle.oe_meanings.specs.Stands.{HasFaultlessCallbackOn, Passes}
use Rattle.oe_requests.specs.Operations.{Operation, Outline, operation_of}
use Rattle.oe_requests.specs.Requests.{CubeRequest}
use Rattle.oe_check.specs.Inputs.{WorksOn}
use Rattle.oe_check.specs.Walked.{IsVerdict}
use Rattle.oe_check.specs.declared.walk.Verdict.{Verdict}

-- This is the operation of a request that can be built and has valid labels, on two cubes of these outlines, without a
-- fault in its callback; and this is the shape of its result, none where that is too large.
pub record IsBuiltFor (r : CubeRequest) (one two : Outline) (shape : Option Dimensions) (operation : Operation)
    : Type 0 where
  pub buildable : IsBuildable r
  pub labels : HasValidLabels r
  pub shape_is : IsResultShape r one.shape two.shape shape
  pub operation_is : (others : List Outline) → Some operation ≡ operation_of r (one ∷ others)
  pub faultless : (others : List Outline) → HasFaultlessCallbackOn r (one ∷ others)

-- this says whether the result of a request on two cubes of these outlines is too large: then it has no shape
abbrev pub TellsIfTooLarge : CubeRequest → Outline → Outline → Bool → Type 0
TellsIfTooLarge r one two is_too_large =
    (found : Option Dimensions) × IsResultShape r one.shape two.shape found × (is_too_large ≡ is_none found)

-- This is the verdict on a node whose request works on two cubes of these outlines, whatever the collections and the
-- nodes are that give them, where no fault stands that those of its callback wait for.
abbrev pub IsVerdictOn : PlainNode → CubeRequest → Outline → Outline → Verdict → Type 0
IsVerdictOn n r one two verdict =
    (rows : List DimsRow) (at : List ℕ → Outline) → Passes rows at n r → WorksOn rows at r one two
    → IsVerdict rows at n verdict
