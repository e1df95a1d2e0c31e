-- Windows of a cube, as sets of positions.
use Rattle.std.specs.Prelude.{ℕ, ◌+◌, ◌-◌, ◌*◌, ◌<◌, ◌≤◌, List, map}
use Rattle.std.specs.List.{flat_map, range_with_len}
use Rattle.oe_dims.specs.Dimensions.{Dimensions, extent}
use Rattle.oe_dims.specs.Positions.{Position}
use Rattle.oe_dims.specs.declared.kind.Kind.{Kind}
use Rattle.oe_dims.specs.declared.kind.Kind.TheVariants.{Time, Bands, Y, X}
use Rattle.oe_window.specs.declared.window.Span.{Span}
use Rattle.oe_window.specs.declared.window.Window.{Window}

-- an index lies in a span: from its first one on, and before its end
pub record IsAlong (span : Span) (index : ℕ) : Type 0 where
  pub begun : span.from ≤ index
  pub before : index < span.to

-- a position lies in a window: in each of its four spans
pub record IsIn (window : Window) (p : Position) : Type 0 where
  pub t : IsAlong window.t p.t
  pub bands : IsAlong window.bands p.band
  pub y : IsAlong window.y p.y
  pub x : IsAlong window.x p.x

-- no position lies in the window
abbrev pub IsEmpty : Window → Type 0
IsEmpty window = (p : Position) → ¬ IsIn window p

-- each position of the second window lies in the first
abbrev pub Holds : Window → Window → Type 0
Holds a b = (p : Position) → IsIn b p → IsIn a p

-- how many indices a dimension has: one a label, or one where it is missing
abbrev pub extent_along : Dimensions → Kind → ℕ
extent_along d Time = extent d.t
extent_along d Bands = extent d.bands
extent_along d Y = extent d.y
extent_along d X = extent d.x

-- the indices from 0 to before an end
abbrev pub span_below : ℕ → Span
span_below end = record { from = 0; to = end }

-- one index alone
abbrev pub span_at : ℕ → Span
span_at index = record { from = index; to = index + 1 }

-- all positions of a cube of these dimensions
abbrev pub whole_window : Dimensions → Window
whole_window d = record {
  t = span_below (extent d.t);
  bands = span_below (extent d.bands);
  y = span_below (extent d.y);
  x = span_below (extent d.x);
}

-- how many indices a span has
abbrev pub span_length : Span → ℕ
span_length span = span.to - span.from

-- the indices of a span, in order
abbrev pub span_indices : Span → List ℕ
span_indices span = range_with_len span.from (span_length span)

-- the positions of a window in row-major order: t, bands, y, x, the last running fastest
abbrev pub positions : Window → List Position
positions window =
    flat_map (λ t. flat_map (λ band. flat_map (λ y. map (λ x. record { t = t; band = band; y = y; x = x })
    (span_indices window.x)) (span_indices window.y)) (span_indices window.bands)) (span_indices window.t)

-- how many positions a window has
abbrev pub position_count : Window → ℕ
position_count window =
    span_length window.t * span_length window.bands * span_length window.y * span_length window.x

-- the number of a position among those of a window, in row-major order from 0
abbrev pub number_in : Window → Position → ℕ
number_in window p =
    (((p.t - window.t.from) * span_length window.bands + (p.band - window.bands.from)) * span_length window.y
    + (p.y - window.y.from)) * span_length window.x + (p.x - window.x.from)

-- the position where a window begins
abbrev pub first_position : Window → Position
first_position window =
    record { t = window.t.from; band = window.bands.from; y = window.y.from; x = window.x.from }
