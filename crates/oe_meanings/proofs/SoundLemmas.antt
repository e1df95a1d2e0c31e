-- An operation without a fault gives cells of its kind.
use Rattle.std.proofs.Common.{◌≡◌, zero, suc, List, [], ◌∷◌, map, refl, sym, subst, arith, Option, Some, None}
use Rattle.std.specs.Prelude.{All}
use Rattle.oe_dims.proofs.ShapeLemmas.{t_rises}
use Rattle.oe_expr.specs.Callback.{Callback}
use Rattle.oe_meanings.proofs.AggregateLemmas.{aggregated_fits}
use Rattle.oe_meanings.proofs.CellKindLemmas.{AllOfKind, Resolves, resolves, kept_fits, applied_fits, convolution_fits, reduced_fits, accumulated_fits, covered_fits, merged_fits}
use Rattle.oe_meanings.specs.CellKinds.{HasCellsOfKind, ResolvesTo, IsSoundOn, GiveCellsOfKind}
use Rattle.oe_meanings.specs.Graphs.{no_datacube}
use Rattle.oe_meanings.specs.Meaning.{Datacube, operated, outline}
use Rattle.oe_requests.specs.Operations.{Operation, keep, each_cell, convolve, reduce, aggregate, accumulate, merge, cover, give_back, Outline, first_or, second_or}

-- the first and the second input, or the one that stands where there is none
abbrev first : List Datacube → Datacube
first inputs = first_or no_datacube inputs

abbrev second : List Datacube → Datacube
second inputs = second_or no_datacube inputs

pub nothing_fits : HasCellsOfKind no_datacube
nothing_fits zero d l = tt
nothing_fits (suc k) d l = absurd (omega arith)

first_fits : (inputs : List Datacube) → All HasCellsOfKind inputs → HasCellsOfKind (first inputs)
first_fits [] h = nothing_fits
first_fits (a ∷ inputs) h = h 0 a (omega arith)

second_fits : (inputs : List Datacube) → All HasCellsOfKind inputs → HasCellsOfKind (second inputs)
second_fits [] h = nothing_fits
second_fits (a ∷ []) h = nothing_fits
second_fits (a ∷ b ∷ inputs) h = h 1 b (omega arith)

-- an input by its cube, its kind and its outline
first_map : {B : Type 0} (f : Datacube → B) (inputs : List Datacube) → first_or (f no_datacube) (map f inputs) ≡ f (first inputs)
first_map f [] = refl
first_map f (a ∷ inputs) = refl

second_map : {B : Type 0} (f : Datacube → B) (inputs : List Datacube) → second_or (f no_datacube) (map f inputs) ≡ f (second inputs)
second_map f [] = refl
second_map f (a ∷ []) = refl
second_map f (a ∷ b ∷ inputs) = refl

-- a resolver where the cubes are of its kind
resolves_to : (cube : Outline) (resolver : Option Callback) → ResolvesTo cube resolver → Resolves cube.kind resolver
resolves_to cube None h = tt
resolves_to cube (Some c) h = resolves cube.kind c h.0.scope_is h.0.keeps h.1

-- ---- each operation, on the first and the second input

-- of one or two cubes by themselves
abbrev IsSoundOnBoth : Operation → Datacube → Datacube → Type 0
IsSoundOnBoth operation one two = IsSoundOn operation (outline one ∷ outline two ∷ [])

both_fit : (operation : Operation) (one two : Datacube) → IsSoundOnBoth operation one two → HasCellsOfKind one → HasCellsOfKind two → HasCellsOfKind (operated operation (one ∷ two ∷ []))
both_fit (keep r) one two s h k = kept_fits one.kind r one.cube h
both_fit (each_cell c) one two s h k = applied_fits one.kind c one.cube s.scope_is s.keeps h
both_fit (convolve kernel factor border replace) one two s h k = convolution_fits kernel factor border replace one.cube
both_fit (reduce kind c) one two s h k = reduced_fits one.kind kind c one.cube s.scope_is s.keeps h
both_fit (aggregate intervals c) one two s h k = aggregated_fits one.kind intervals c one.cube s.0.scope_is s.0.keeps (t_rises one.cube.shape s.1) h
both_fit (accumulate ignore) one two s h k = accumulated_fits one.kind ignore one.cube h
both_fit (merge resolver) one two s h k =
    merged_fits one.kind resolver one.cube two.cube (resolves_to (outline one) resolver s.1) h (subst (λ kind. AllOfKind kind two.cube) s.0 k)
both_fit (cover replacement) one two s h k = covered_fits one.kind replacement one.cube two.cube s h
both_fit give_back one two s h k = h

-- an operation looks at no other input
same_operated : (operation : Operation) (inputs : List Datacube) → operated operation inputs ≡ operated operation (first inputs ∷ second inputs ∷ [])
same_operated operation inputs = by operation inputs
  where
    by : (operation : Operation) (inputs : List Datacube) → operated operation inputs ≡ operated operation (first inputs ∷ second inputs ∷ [])
    by (keep r) [] = refl
    by (keep r) (a ∷ inputs) = refl
    by (each_cell c) [] = refl
    by (each_cell c) (a ∷ inputs) = refl
    by (convolve kernel factor border replace) [] = refl
    by (convolve kernel factor border replace) (a ∷ inputs) = refl
    by (reduce kind c) [] = refl
    by (reduce kind c) (a ∷ inputs) = refl
    by (aggregate intervals c) [] = refl
    by (accumulate ignore) [] = refl
    by (aggregate intervals c) (a ∷ inputs) = refl
    by (accumulate ignore) (a ∷ inputs) = refl
    by (merge resolver) [] = refl
    by (merge resolver) (a ∷ []) = refl
    by (merge resolver) (a ∷ b ∷ inputs) = refl
    by (cover replacement) [] = refl
    by (cover replacement) (a ∷ []) = refl
    by (cover replacement) (a ∷ b ∷ inputs) = refl
    by give_back [] = refl
    by give_back (a ∷ inputs) = refl

same_sound : (operation : Operation) (inputs : List Datacube) → IsSoundOn operation (map outline inputs) → IsSoundOnBoth operation (first inputs) (second inputs)
same_sound (keep r) inputs s = tt
same_sound (each_cell c) [] s = s
same_sound (each_cell c) (a ∷ inputs) s = s
same_sound (convolve kernel factor border replace) inputs s = tt
same_sound (reduce kind c) [] s = s
same_sound (reduce kind c) (a ∷ inputs) s = s
same_sound (aggregate intervals c) [] s = s
same_sound (accumulate ignore) [] s = s
same_sound (aggregate intervals c) (a ∷ inputs) s = s
same_sound (accumulate ignore) (a ∷ inputs) s = s
same_sound (merge resolver) [] s = s
same_sound (merge resolver) (a ∷ []) s = s
same_sound (merge resolver) (a ∷ b ∷ inputs) s = s
same_sound (cover replacement) [] s = s
same_sound (cover replacement) (a ∷ inputs) s = s
same_sound give_back inputs s = tt

pub gives_cells_of_kind : GiveCellsOfKind
gives_cells_of_kind = record {
  each = λ operation inputs s h.
      subst HasCellsOfKind (sym (same_operated operation inputs))
      (both_fit operation (first inputs) (second inputs) (same_sound operation inputs s) (first_fits inputs h) (second_fits inputs h));
}
