-- Each label of an argument is found at its own index.
use Rattle.std.proofs.Common.{◌≡◌, ℕ, zero, suc, ◌+◌, ◌^◌, ◌<◌, Bool, List, [], ◌∷◌, length, ap, arith, Option, Some, None}
use Rattle.std.specs.List.{slice_get}
use Rattle.std.specs.Option.{unwrap_or}
use Rattle.oe_dims.specs.Cube.{index_along}
use Rattle.oe_dims.specs.Dimensions.{Dimensions, IsShape, extent}
use Rattle.oe_dims.specs.Indices.{index_where, same_number}
use Rattle.oe_dims.specs.Names.{same_name}
use Rattle.oe_dims.specs.Positions.{label_of}
use Rattle.oe_dims.specs.declared.kind.Kind.{Kind}
use Rattle.oe_dims.specs.declared.kind.Kind.TheVariants.{Time, Bands, Y, X}
use Rattle.oe_dims.proofs.IndexLemmas.{same_number_is}
use Rattle.oe_dims.proofs.OrderLemmas.{same_name_is}
use Rattle.oe_dims.proofs.ShapeLemmas.{extents_of_shape}
use Rattle.oe_dims.proofs.ReaderLemmas.{IsIndexOf-band, IsIndexOf-number}
use Rattle.oe_ops.specs.Indices.{index_in_argument}
use Rattle.oe_ops.proofs.FoundLemmas.{found_label}

-- there is a label inside
no_label : {L : Type 0} (labels : List L) (j : ℕ) → j < length labels → slice_get labels j ≡ None → ⊥
no_label [] j lt e = absurd (omega arith)
no_label (l ∷ labels) zero lt e = cc
no_label (l ∷ labels) (suc j) lt e = no_label labels j (omega arith) e

-- along one dimension
pub along_found : {L : Type 0} (same : L → L → Bool) (others : Option (List L)) (o : Option L) (j : ℕ) → j < extent others → label_of others j ≡ o → ((l : L) → slice_get (unwrap_or others []) j ≡ Some l → index_where (same l) (unwrap_or others []) ≡ Some j) → index_along same others o ≡ Some j
along_found same None None j lt h alone = let first : 0 ≡ j = omega arith in ap Some first
along_found same None (Some l) j lt h alone = cc
along_found same (Some os) None j lt h alone = absurd (no_label os j lt h)
along_found same (Some os) (Some l) j lt h alone = alone l h

module _ (d : Dimensions) (valid : IsShape d) where
  pub t_found : (o : _) (j : ℕ) → j < extent d.t → label_of d.t j ≡ o → index_along same_number d.t o ≡ Some j
  t_found o j lt h = along_found same_number d.t o j lt h (λ l g. ((IsIndexOf-number d Time l valid).there j).1 g)

  pub band_found : (o : _) (j : ℕ) → j < extent d.bands → label_of d.bands j ≡ o → index_along same_name d.bands o ≡ Some j
  band_found o j lt h = along_found same_name d.bands o j lt h (λ l g. ((IsIndexOf-band d l valid).there j).1 g)

  pub y_found : (o : _) (j : ℕ) → j < extent d.y → label_of d.y j ≡ o → index_along same_number d.y o ≡ Some j
  y_found o j lt h = along_found same_number d.y o j lt h (λ l g. ((IsIndexOf-number d Y l valid).there j).1 g)

  pub x_found : (o : _) (j : ℕ) → j < extent d.x → label_of d.x j ≡ o → index_along same_number d.x o ≡ Some j
  x_found o j lt h = along_found same_number d.x o j lt h (λ l g. ((IsIndexOf-number d X l valid).there j).1 g)

-- an index that is found is one of the argument, which has few
pub found_below : (along : Kind) (shape argument : Dimensions) (i j : ℕ) → IsShape argument → index_in_argument along shape argument i ≡ Some j → j + 1 < 2 ^ 32
found_below Time shape argument i j valid h = let most = (extents_of_shape argument valid).t in let below = (found_label same_number same_number_is argument.t (label_of shape.t i) j h).1 in omega arith
found_below Bands shape argument i j valid h = let most = (extents_of_shape argument valid).bands in let below = (found_label same_name same_name_is argument.bands (label_of shape.bands i) j h).1 in omega arith
found_below Y shape argument i j valid h = let most = (extents_of_shape argument valid).y in let below = (found_label same_number same_number_is argument.y (label_of shape.y i) j h).1 in omega arith
found_below X shape argument i j valid h = let most = (extents_of_shape argument valid).x in let below = (found_label same_number same_number_is argument.x (label_of shape.x i) j h).1 in omega arith
