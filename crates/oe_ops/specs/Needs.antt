-- Which positions of an argument an operation needs for a position of its result.
use Rattle.std.specs.Prelude.{◌≡◌, ⊤, ℕ, ◌+◌, ◌≤◌, Bool, true, false, List}
use Rattle.std.specs.List.{slice_index_or}
use Rattle.oe_dims.specs.Dimensions.{Dimensions}
use Rattle.oe_dims.specs.Positions.{Position, IsPosition, tuple_of}
use Rattle.oe_dims.specs.declared.kind.Kind.{Kind}
use Rattle.oe_dims.specs.declared.kind.Kind.TheVariants.{Time, Bands, Y, X}
use Rattle.oe_window.specs.Windows.{IsIn, Holds, span_at, span_below}
use Rattle.oe_window.specs.declared.window.Window.{Window}
use Rattle.oe_requests.specs.Labels.{restrict}
use Rattle.oe_requests.specs.Operations.{Operation, keep, each_cell, convolve, reduce, aggregate, accumulate, merge, cover, give_back}
use Rattle.oe_requests.specs.Operations.{no_dimensions, shape_of, without_dimension}
use Rattle.oe_check.specs.Reach.{needs_whole, halo_of}

-- ---- one position for another

-- the position q of the argument has the labels of the position p of the result, in the argument's dimensions
pub record HasLabelsOf (result argument : Dimensions) (p q : Position) : Type 0 where
  pub is_position : IsPosition argument q
  pub labels : tuple_of argument q ≡ restrict argument (tuple_of result p)

-- the same, but for the labels along one dimension
pub record HasLabelsBeside (kind : Kind) (result argument : Dimensions) (p q : Position) : Type 0 where
  pub is_position : IsPosition argument q
  pub labels : restrict (without_dimension kind argument) (tuple_of argument q)
      ≡ restrict (without_dimension kind argument) (tuple_of result p)

-- along a side: any index where the whole side is needed, and else those at most so far away
abbrev pub IsWithinReach : Bool → ℕ → ℕ → ℕ → Type 0
IsWithinReach true halo p q = ⊤
IsWithinReach false halo p q = (p ≤ q + halo) × (q ≤ p + halo)

-- each index of the position q of a cube is needed for that of the position p
pub record IsInReach (whole : Kind → Bool) (halo : Kind → ℕ) (d : Dimensions) (p q : Position) : Type 0 where
  pub is_position : IsPosition d q
  pub t : IsWithinReach (whole Time) (halo Time) p.t q.t
  pub bands : IsWithinReach (whole Bands) (halo Bands) p.band q.band
  pub y : IsWithinReach (whole Y) (halo Y) p.y q.y
  pub x : IsWithinReach (whole X) (halo X) p.x q.x

-- ---- of each operation

-- the shape of the argument of a number
abbrev pub argument_shape : List Dimensions → ℕ → Dimensions
argument_shape shapes argument = slice_index_or shapes argument no_dimensions

-- For the position p of its result an operation on cubes of these shapes needs the position q of an argument. A filter,
-- a callback on each cell, a merge, a mask and a result that is saved need the labels of p alone; a kernel the pixels
-- around p up to the sides, and the whole sides where its border wraps; a reduction, an aggregation and
-- running sums need the labels of p with all labels of the dimension that they go along.
abbrev pub Needs : Operation → List Dimensions → ℕ → Position → Position → Type 0
Needs (keep r) shapes argument p q = HasLabelsOf (shape_of (keep r) shapes) (argument_shape shapes argument) p q
Needs (each_cell c) shapes argument p q =
    HasLabelsOf (shape_of (each_cell c) shapes) (argument_shape shapes argument) p q
Needs (convolve kernel factor border replace) shapes argument p q =
    IsInReach (needs_whole (convolve kernel factor border replace) shapes)
    (halo_of (convolve kernel factor border replace))
    (argument_shape shapes argument) p q
Needs (reduce kind c) shapes argument p q =
    HasLabelsBeside kind (shape_of (reduce kind c) shapes) (argument_shape shapes argument) p q
Needs (aggregate intervals c) shapes argument p q =
    HasLabelsBeside Time (shape_of (aggregate intervals c) shapes) (argument_shape shapes argument) p q
Needs (accumulate ignore) shapes argument p q =
    HasLabelsBeside Time (shape_of (accumulate ignore) shapes) (argument_shape shapes argument) p q
Needs (merge resolver) shapes argument p q =
    HasLabelsOf (shape_of (merge resolver) shapes) (argument_shape shapes argument) p q
Needs (cover replacement) shapes argument p q =
    HasLabelsOf (shape_of (cover replacement) shapes) (argument_shape shapes argument) p q
Needs give_back shapes argument p q = HasLabelsOf (shape_of give_back shapes) (argument_shape shapes argument) p q

-- ---- of a window

-- the box holds each position that is needed for one of the window
abbrev pub HoldsNeed : (Position → Position → Type 0) → Window → Window → Type 0
HoldsNeed needs window box = (p q : Position) → IsIn window p → needs p q → IsIn box q

-- the plane of a window at an index of t and one of bands
abbrev pub plane_window : Window → ℕ → ℕ → Window
plane_window window t band = record window { t = span_at t; bands = span_at band }

-- the part of a window at an index of t
abbrev pub part_at_time : Window → ℕ → Window
part_at_time window t = record window { t = span_at t }

-- The window without a position that stands where nothing is needed.
abbrev pub zero_window : Window
zero_window = record { t = span_below 0; bands = span_below 0; y = span_below 0; x = span_below 0 }

-- the least box that holds what a window needs, and the zero window where that is nothing
pub record IsNeed (needs : Position → Position → Type 0) (window box : Window) : Type 0 where
  pub holds : HoldsNeed needs window box
  pub least : (other : Window) → HoldsNeed needs window other → Holds other box
  pub zero : ((p q : Position) → IsIn window p → ¬ needs p q) → box ≡ zero_window
