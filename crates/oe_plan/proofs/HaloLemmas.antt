-- No kernel reaches along t.
use Rattle.std.specs.Prelude.{◌≡◌, ℕ, List, [], ◌∷◌, Option, Some, None, option_map, unwrap_or, sum_by}
use Rattle.std.proofs.Common.{refl, arith}
use Rattle.std.proofs.lemmas.List.Sums.{sum_by-cons}
use Rattle.oe_dims.specs.declared.kind.Kind.TheVariants.{Time}
use Rattle.oe_check.specs.Checked.{CheckedGraph, operation_of_node}
use Rattle.oe_requests.specs.Operations.{Operation, keep, each_cell, convolve, reduce, aggregate, accumulate, merge, cover, give_back}
use Rattle.oe_check.specs.Reach.{halo_of, halo_of_node}
use Rattle.oe_plan.specs.Figures.{halo_along, steps_of}

no_halo : (operation : Operation) → halo_of operation Time ≡ 0
no_halo (keep restriction) = refl
no_halo (each_cell callback) = refl
no_halo (convolve kernel factor border replace) = refl
no_halo (reduce kind callback) = refl
no_halo (aggregate intervals callback) = refl
no_halo (accumulate ignore) = refl
no_halo (merge resolver) = refl
no_halo (cover replacement) = refl
no_halo give_back = refl

no_halo_at : (operation : Option Operation) → unwrap_or (option_map (λ o. halo_of o Time) operation) 0 ≡ 0
no_halo_at None = refl
no_halo_at (Some operation) = no_halo operation

sum_none : (f : ℕ → ℕ) → ((n : ℕ) → f n ≡ 0) → (ns : List ℕ) → sum_by f ns ≡ 0
sum_none f none [] = refl
sum_none f none (n ∷ ns) = omega (arith, sum_by-cons f n ns, none n, sum_none f none ns)

pub none_in_time : (c : CheckedGraph) → halo_along c Time ≡ 0
none_in_time c =
    sum_none (λ node. unwrap_or (halo_of_node c node Time) 0) (λ node. no_halo_at (operation_of_node c node)) (steps_of c)
