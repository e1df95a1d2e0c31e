-- What an operation asks of the cells that it works on, from what a check has seen of it. An operation on one cube has it
-- as its second too.
use Rattle.std.proofs.Common.{◌≡◌, List, [], ◌∷◌, Option, Some, None, refl, subst, arith, IfSome}
use Rattle.std.specs.List.{All}
use Rattle.oe_cell.specs.declared.cell.Cell.{Cell}
use Rattle.oe_cube.specs.Kinds.{IsOfKind}
use Rattle.oe_dims.specs.Cube.{Cube}
use Rattle.oe_dims.specs.Dimensions.{Dimensions}
use Rattle.oe_dims.specs.Positions.{Position}
use Rattle.oe_dims.specs.declared.kind.CellKind.{CellKind}
use Rattle.oe_expr.specs.Callback.{Callback, KeepsKind, callback_kind}
use Rattle.oe_ops.specs.Needs.{Needs}
use Rattle.oe_ops.specs.Nodes.{TakesInputs, FitsFirstKind}
use Rattle.oe_ops.specs.Slices.{TakesPairs}
use Rattle.oe_meanings.specs.CellKinds.{IsSoundOn, ResolvesTo}
use Rattle.oe_meanings.specs.Meaning.{cube_of}
use Rattle.oe_requests.specs.Operations.{Operation, keep, each_cell, convolve, reduce, aggregate, accumulate, merge, cover, give_back, Outline, operation_kind, shape_of}
use Rattle.oe_steps.proofs.NodeLemmas.{cube_count}

-- ---- an operation on one cube does not look at the second

pub sound_twice : (operation : Operation) (a : Outline) → cube_count operation ≡ 1 → IsSoundOn operation (a ∷ [])
    → IsSoundOn operation (a ∷ a ∷ [])
sound_twice (keep r) a one s = s
sound_twice (each_cell c) a one s = s
sound_twice (convolve kernel factor border replace) a one s = s
sound_twice (reduce kind c) a one s = s
sound_twice (aggregate intervals c) a one s = s
sound_twice (accumulate ignore) a one s = s
sound_twice (merge resolver) a one s = absurd (omega arith)
sound_twice (cover replacement) a one s = s
sound_twice give_back a one s = s

pub shape_twice : (operation : Operation) (d : Dimensions) → cube_count operation ≡ 1
    → shape_of operation (d ∷ []) ≡ shape_of operation (d ∷ d ∷ [])
shape_twice (keep r) d one = refl
shape_twice (each_cell c) d one = refl
shape_twice (convolve kernel factor border replace) d one = refl
shape_twice (reduce kind c) d one = refl
shape_twice (aggregate intervals c) d one = refl
shape_twice (accumulate ignore) d one = refl
shape_twice (merge resolver) d one = absurd (omega arith)
shape_twice (cover replacement) d one = refl
shape_twice give_back d one = refl

pub cube_twice : (operation : Operation) (a : Cube Cell) → cube_count operation ≡ 1
    → cube_of operation (a ∷ []) ≡ cube_of operation (a ∷ a ∷ [])
cube_twice (keep r) a one = refl
cube_twice (each_cell c) a one = refl
cube_twice (convolve kernel factor border replace) a one = refl
cube_twice (reduce kind c) a one = refl
cube_twice (aggregate intervals c) a one = refl
cube_twice (accumulate ignore) a one = refl
cube_twice (merge resolver) a one = absurd (omega arith)
cube_twice (cover replacement) a one = absurd (omega arith)
cube_twice give_back a one = refl

-- the kind of its cells is found by the first cube alone
pub kind_first : (operation : Operation) (kind : CellKind) (others : List CellKind)
    → operation_kind operation (kind ∷ others) ≡ operation_kind operation (kind ∷ [])
kind_first (keep r) kind others = refl
kind_first (each_cell c) kind others = refl
kind_first (convolve kernel factor border replace) kind others = refl
kind_first (reduce along c) kind others = refl
kind_first (aggregate intervals c) kind others = refl
kind_first (accumulate ignore) kind others = refl
kind_first (merge resolver) kind others = refl
kind_first (cover replacement) kind others = refl
kind_first give_back kind others = refl

pub needs_twice : (operation : Operation) (d : Dimensions) (p q : Position) → cube_count operation ≡ 1
    → Needs operation (d ∷ d ∷ []) 0 p q → Needs operation (d ∷ []) 0 p q
needs_twice (keep r) d p q one n = n
needs_twice (each_cell c) d p q one n = n
needs_twice (convolve kernel factor border replace) d p q one n = n
needs_twice (reduce kind c) d p q one n = n
needs_twice (aggregate intervals c) d p q one n = n
needs_twice (accumulate ignore) d p q one n = n
needs_twice (merge resolver) d p q one n = absurd (omega arith)
needs_twice (cover replacement) d p q one n = n
needs_twice give_back d p q one n = n

pub needs_second : (operation : Operation) (d : Dimensions) (p q : Position) → cube_count operation ≡ 1
    → Needs operation (d ∷ d ∷ []) 1 p q → Needs operation (d ∷ []) 0 p q
needs_second (keep r) d p q one n = n
needs_second (each_cell c) d p q one n = n
needs_second (convolve kernel factor border replace) d p q one n = n
needs_second (reduce kind c) d p q one n = n
needs_second (aggregate intervals c) d p q one n = n
needs_second (accumulate ignore) d p q one n = n
needs_second (merge resolver) d p q one n = absurd (omega arith)
needs_second (cover replacement) d p q one n = n
needs_second give_back d p q one n = n

-- ---- cells of the kinds of two cubes

abbrev cube_outline : Dimensions → CellKind → Outline
cube_outline d kind = record { shape = d; kind = kind }

takes_pairs : (d : Dimensions) (kind : CellKind) (resolver : Option Callback) (one two : List Cell)
    → ResolvesTo (cube_outline d kind) resolver → All (IsOfKind kind) one → All (IsOfKind kind) two
    → IfSome resolver (λ c. KeepsKind c × TakesPairs c one two)
takes_pairs d kind None one two s h k = tt
takes_pairs d kind (Some c) one two s h k =
    (s.0.keeps, record { kind = kind; scope_is = s.0.scope_is; one_of_kind = h; two_of_kind = k })

pub takes_inputs : (operation : Operation) (d e : Dimensions) (kind other : CellKind) (one two : List Cell)
    → IsSoundOn operation (cube_outline d kind ∷ cube_outline e other ∷ [])
    → All (IsOfKind kind) one → All (IsOfKind other) two → TakesInputs operation d one two
takes_inputs (keep r) d e kind other one two s h k = tt
takes_inputs (each_cell c) d e kind other one two s h k =
    (s.keeps, record { kind = kind; scope_is = s.scope_is; of_kind = h })
takes_inputs (convolve kernel factor border replace) d e kind other one two s h k = tt
takes_inputs (reduce along c) d e kind other one two s h k =
    (s.keeps, record { kind = kind; scope_is = s.scope_is; of_kind = h })
takes_inputs (aggregate intervals c) d e kind other one two s h k =
    (s.0.keeps, record { kind = kind; scope_is = s.0.scope_is; of_kind = h })
takes_inputs (accumulate ignore) d e kind other one two s h k = tt
takes_inputs (merge resolver) d e kind other one two s h k =
    takes_pairs d kind resolver one two s.1 h (subst (λ (of : CellKind). All (IsOfKind of) two) s.0 k)
takes_inputs (cover replacement) d e kind other one two s h k = tt
takes_inputs give_back d e kind other one two s h k = tt

resolves_kind : (d : Dimensions) (kind : CellKind) (resolver : Option Callback) → ResolvesTo (cube_outline d kind) resolver
    → IfSome resolver (λ c. callback_kind c ≡ kind)
resolves_kind d kind None s = tt
resolves_kind d kind (Some c) s = s.1

pub fits_kind : (operation : Operation) (d e : Dimensions) (kind other : CellKind) (two : List Cell)
    → IsSoundOn operation (cube_outline d kind ∷ cube_outline e other ∷ [])
    → All (IsOfKind other) two → FitsFirstKind operation kind two
fits_kind (keep r) d e kind other two s k = tt
fits_kind (each_cell c) d e kind other two s k = tt
fits_kind (convolve kernel factor border replace) d e kind other two s k = tt
fits_kind (reduce along c) d e kind other two s k = tt
fits_kind (aggregate intervals c) d e kind other two s k = tt
fits_kind (accumulate ignore) d e kind other two s k = tt
fits_kind (merge resolver) d e kind other two s k =
    (subst (λ (of : CellKind). All (IsOfKind of) two) s.0 k, resolves_kind d kind resolver s.1)
fits_kind (cover replacement) d e kind other two s k = s
fits_kind give_back d e kind other two s k = tt
