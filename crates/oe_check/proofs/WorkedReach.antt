-- Worked values of how far operations look.
use Rattle.std.specs.Prelude.{◌≡◌, pos, true, false, [], ◌∷◌, Some, None, codes, refl}
use Rattle.oe_cell.specs.Rational.{whole_of}
use Rattle.oe_dims.specs.declared.kind.CellKind.TheVariants.{Numbers}
use Rattle.oe_dims.specs.declared.kind.Kind.TheVariants.{Time, Bands, Y, X}
use Rattle.oe_fold.specs.declared.reducer.Reducer.TheVariants.{Sum, Count}
use Rattle.oe_graph.specs.Tree as tree
use Rattle.oe_kernel.specs.declared.border.Border.{Border}
use Rattle.oe_kernel.specs.declared.border.Border.TheVariants.{Replicate, Wrap}
use Rattle.oe_expr.specs.Scope as scope
use Rattle.oe_requests.specs.Operations.{Operation, convolve, reduce, merge}
use Rattle.oe_check.specs.Reach.{needs_whole, halo_of, time_fold}
use Rattle.oe_check.proofs.WorkedWords.{january_1, january_2, banded, dated, reducing, counting, ratio, under}

abbrev wide : Border → Operation
wide border = convolve (record { width = 5; height = 3; values = [] }) (whole_of (pos 1)) border (whole_of (pos 0))

two_to_each_side : halo_of (wide Replicate) X ≡ 2
two_to_each_side = refl

one_up_and_down : halo_of (wide Replicate) Y ≡ 1
one_up_and_down = refl

none_in_time : halo_of (wide Replicate) Time ≡ 0
none_in_time = refl

wraps_along_x : needs_whole (wide Wrap) [] X ≡ true
wraps_along_x = refl

wraps_along_no_band : needs_whole (wide Wrap) [] Bands ≡ false
wraps_along_no_band = refl

replicates_nearby : needs_whole (wide Replicate) [] Y ≡ false
replicates_nearby = refl

-- the same bands in another order do not differ
same_bands :
    needs_whole (merge None) ((banded (codes "B1" ∷ codes "B2" ∷ []) []).shape ∷ (banded (codes "B2" ∷ codes "B1" ∷ []) []).shape ∷ []) Bands ≡ false
same_bands = refl

other_bands :
    needs_whole (merge None) ((banded (codes "B1" ∷ []) []).shape ∷ (banded (codes "B1" ∷ codes "B2" ∷ []) []).shape ∷ []) Bands ≡ true
other_bands = refl

other_dates : needs_whole (merge None) ((dated (january_1 ∷ []) []).shape ∷ (dated (january_2 ∷ []) []).shape ∷ []) Time ≡ true
other_dates = refl

sums_by_date : time_fold (reduce Time (under (scope.reduce Numbers scope.no_labels []) (reducing (codes "sum") false))) ≡ Some (Sum, false)
sums_by_date = refl

counts_by_date : time_fold (reduce Time (under (scope.reduce Numbers scope.no_labels []) (counting tree.null))) ≡ Some (Count, true)
counts_by_date = refl

no_median_by_date : time_fold (reduce Time (under (scope.reduce Numbers scope.no_labels []) (reducing (codes "median") true))) ≡ None
no_median_by_date = refl

no_bands_by_date : time_fold (reduce Bands (under (scope.reduce Numbers scope.no_labels []) (reducing (codes "sum") true))) ≡ None
no_bands_by_date = refl

no_formula_by_date : time_fold (reduce Time (under (scope.reduce Numbers scope.no_labels []) ratio)) ≡ None
no_formula_by_date = refl
