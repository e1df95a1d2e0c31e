-- What contracts see of the values of dimensions that were found.
use Rattle.std.specs.Prelude.{◌≡◌, MatchOption, Option, Vec, option_map}
use Rattle.std.specs.Borrow.{Bor}
use Rattle.std.specs.declared.alloc.Global.{Global}
use Rattle.serde_json.specs.Data.{Data, Items, no_items}
use Rattle.serde_json.specs.View.{view}
use Rattle.serde_json.specs.declared.value.Value.{Value}
use Rattle.oe_dims.specs.Lists.{items_of}
use Rattle.oe_dims.specs.declared.kind.Kind.{Kind}
use Rattle.oe_dims.specs.declared.kind.Kind.TheVariants.{Time, Bands, Y, X}
use Rattle.oe_render.specs.CubeText.{Along, HasNoneAlong, dimension_in, behind, after_y}

-- the data of a value that was found
abbrev pub found_data : Option (Bor Value) → Option Data
found_data value = option_map (λ v. view v.now) value

-- these are the values of the four dimensions, and no other stands behind them
pub record HasValues (values : Items) (t bands y x : Option Data) : Type 0 where
  pub t_is : t ≡ dimension_in Time values
  pub bands_is : bands ≡ dimension_in Bands values
  pub y_is : y ≡ dimension_in Y values
  pub x_is : x ≡ dimension_in X values
  pub last : behind X (after_y values) ≡ no_items

-- what reading a dimension that may be there answers: its labels, none where it is not there, or that it has no labels
-- that are spelled so
abbrev pub ReadsAlong : {A : Type 0} → Kind → (Data → A → Type 0) → Option Data → Option (Option (Vec A Global))
    → Type 0
ReadsAlong kind Spells found read =
    MatchOption read (HasNoneAlong kind Spells found) (λ labels. Along kind Spells found (option_map items_of labels))
