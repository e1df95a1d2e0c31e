use Rattle.std.proofs.Common.{◌≡◌, ℕ, ◌<◌, Option, Some, None, IfSome, sym, arith, FitsSigned, w64, ℤ}
use Rattle.std.proofs.lemmas.Int.{to_z-of_z}
use Rattle.oe_dims.specs.Dimensions.{number_labels, most_labels, IsShape, Dimensions}
use Rattle.oe_dims.specs.Lists.{dimensions_of}
use Rattle.oe_dims.specs.Indices.{same_number, index_where}
use Rattle.oe_dims.specs.declared.kind.Kind.{Kind}
use Rattle.oe_dims.proofs.IndexLemmas.{index_where_within}
use Rattle.oe_dims.proofs.ShapeLemmas.{y_falls, numbers_rise, numbers_within}
use Rattle.oe_dims.proofs.lists.Lists.position_of.Goals as goal

pub index_in_falling-requires : goal.index_in_falling-requires
index_in_falling-requires c = rw (c.numbers-labels.ensures, c.in-Y.is) (y_falls _ c.requires)

pub index_in_rising-requires : goal.index_in_rising-requires
index_in_rising-requires c = rw c.numbers-labels.ensures (numbers_rise _ _ c.requires c.in_default.not-Y)

index_is_low : (d : Dimensions) (kind : Kind) (label : ℤ) (index : Option ℕ) → IsShape d → index ≡ index_where (same_number label) (number_labels d kind) → IfSome index (λ p. p < most_labels)
index_is_low d kind label None h e = tt
index_is_low d kind label (Some p) h e =
    omega (arith, index_where_within (same_number label) (number_labels d kind) p (sym e), numbers_within d kind h)

pub returns-in-Y-clause-most : goal.returns-in-Y-clause-most
returns-in-Y-clause-most c =
    let fits : FitsSigned w64 c.args.label = c.ranges.label in
    let value = simp (to_z-of_z, c.numbers-labels.ensures) at c.index_in_falling.ensures in
    index_is_low (dimensions_of c.args.self.now) c.args.kind c.args.label c.index_in_falling.result c.requires value

pub returns-in_default : goal.returns-in_default
returns-in_default c =
    let fits : FitsSigned w64 c.args.label = c.ranges.label in
    let value = simp (to_z-of_z, c.numbers-labels.ensures) at c.index_in_rising.ensures in
    record { value = value; most = index_is_low (dimensions_of c.args.self.now) c.args.kind c.args.label c.index_in_rising.result c.requires value }
