-- When the cells of a result are of its kind: null, Over, numbers in a cube of numbers and flags in a cube of flags.
use Rattle.std.specs.Prelude.{◌≡◌, ⊤, List, map, All, Option, Some, None}
use Rattle.oe_cube.specs.Kinds.{IsOfKind}
use Rattle.oe_dims.specs.Dimensions.{IsShape}
use Rattle.oe_expr.specs.Callback.{Callback, callback_kind, KeepsKind}
use Rattle.oe_expr.specs.Scope as scope
use Rattle.oe_expr.specs.Scope.{PlainScope}
use Rattle.oe_meanings.specs.Meaning.{Datacube, operated, outline}
use Rattle.oe_requests.specs.Operations.{Operation, keep, each_cell, convolve, reduce, aggregate, accumulate, merge, cover, give_back, Outline, no_outline, first_or, second_or, reduction_scope, interval_scope}

-- each cell is null, Over or of the kind
abbrev pub HasCellsOfKind : Datacube → Type 0
HasCellsOfKind d = All (IsOfKind d.kind) d.cube.cells

-- the callback stands under this scope, and each of its values is of its kind, as it is where no fault stands in it
pub record IsSoundUnder (given : PlainScope) (c : Callback) : Type 0 where
  pub scope_is : c.scope ≡ given
  pub keeps : KeepsKind c

-- a resolver that gives the kind of the cubes
abbrev pub ResolvesTo : Outline → Option Callback → Type 0
ResolvesTo cube None = ⊤
ResolvesTo cube (Some c) = IsSoundUnder (scope.merge cube.kind) c × (callback_kind c ≡ cube.kind)

-- the kinds that an operation takes and gives: what a check has seen of one on cubes of these outlines without a fault
abbrev pub IsSoundOn : Operation → List Outline → Type 0
IsSoundOn (keep r) cubes = ⊤
IsSoundOn (each_cell c) cubes = IsSoundUnder (scope.apply (first_or no_outline cubes).kind) c
IsSoundOn (convolve kernel factor border replace) cubes = ⊤
IsSoundOn (reduce kind c) cubes = IsSoundUnder (reduction_scope kind (first_or no_outline cubes)) c
IsSoundOn (aggregate intervals c) cubes =
    IsSoundUnder (interval_scope intervals (first_or no_outline cubes)) c × IsShape (first_or no_outline cubes).shape
IsSoundOn (accumulate ignore) cubes = ⊤
IsSoundOn (merge resolver) cubes =
    ((second_or no_outline cubes).kind ≡ (first_or no_outline cubes).kind)
    × ResolvesTo (first_or no_outline cubes) resolver
IsSoundOn (cover replacement) cubes = IsOfKind (first_or no_outline cubes).kind replacement
IsSoundOn give_back cubes = ⊤

-- an operation without a fault gives cells of its kind, where it works on such
pub record GiveCellsOfKind : Type 0 where
  pub each : (operation : Operation) (inputs : List Datacube) → IsSoundOn operation (map outline inputs)
      → All HasCellsOfKind inputs → HasCellsOfKind (operated operation inputs)
