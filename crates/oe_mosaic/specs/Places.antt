-- For private functions. How the positions of a window lie in a part, and how a window is cut.
use Rattle.std.specs.Prelude.{◌≡◌, ◌⊎◌, ⊤, ℕ, ℤ, ◌+◌, ◌-◌, ◌<◌, ◌≤◌, Bool, true, false, ◌||◌, ◌++◌, List, length, slice_get, Option, None, IfSome}
use Rattle.std.specs.List.{Contains, slice_range}
use Rattle.oe_dims.specs.Cube.{index_along, row_major}
use Rattle.oe_dims.specs.Dimensions.{Dimensions, extent, number_labels}
use Rattle.oe_dims.specs.Indices.{index_where, is_inside, same_number}
use Rattle.oe_dims.specs.Names.{same_name}
use Rattle.oe_dims.specs.Positions.{Position, label_of, tuple_of}
use Rattle.oe_dims.specs.declared.kind.Kind.{Kind}
use Rattle.oe_dims.specs.declared.kind.Kind.TheVariants.{Time, Bands, Y, X}
use Rattle.oe_mosaic.specs.declared.place.Along.{Along}
use Rattle.oe_mosaic.specs.declared.place.Along.TheVariants.{Apart, From, Across}
use Rattle.oe_mosaic.specs.declared.place.Sides.{Sides}
use Rattle.oe_mosaic.specs.declared.place.Place.{Place}
use Rattle.oe_mosaic.specs.declared.place.Place.TheVariants as place
use Rattle.oe_window.specs.Windows.{Holds, IsAlong, IsEmpty, IsIn, positions, span_length, whole_window}
use Rattle.oe_window.specs.declared.window.Span.{Span}
use Rattle.oe_window.specs.declared.window.Window.{Window}

-- ---- along one dimension

-- labels lie among those of a part: it has none of them, or all from an index on, in the same order and one behind the
-- other. Only several labels lie across.
abbrev pub LieAmong : {L : Type 0} → (L → L → Bool) → List L → List L → Along → Type 0
LieAmong same labels own Apart =
    (k : ℕ) → k < length labels → IfSome (slice_get labels k) (λ label. index_where (same label) own ≡ None)
LieAmong same labels own (From first) = slice_range own first (first + length labels) ≡ labels
LieAmong same labels own Across = 1 < length labels

-- labels have each label of a part that lies between two of them
abbrev pub HaveAllBetween : List ℤ → List ℤ → Type 0
HaveAllBetween labels own =
    (from to label : ℤ) → Contains labels from → Contains labels to → Contains own label
    → is_inside from to label ≡ true → Contains labels label

-- the index in a part where an index of a span stands, from a first one on
abbrev pub index_from : ℕ → Span → ℕ → ℕ
index_from first span index = first + (index - span.from)

-- the part has none of the labels at the indices of a span
abbrev pub HasNoLabelOf : {L : Type 0} → (L → L → Bool) → Option (List L) → Option (List L) → Span → Type 0
HasNoLabelOf same labels own span =
    (i : ℕ) → IsAlong span i → index_along same own (label_of labels i) ≡ None

-- the part has the labels of a span in the same order, one behind the other from an index on
pub record HasLabelsFrom {L : Type 0} (labels own : Option (List L)) (span : Span) (first : ℕ) : Type 0 where
  pub within : first + span_length span ≤ extent own
  pub same : (i : ℕ) → IsAlong span i → label_of own (index_from first span i) ≡ label_of labels i

-- what is said of a span. Only one that has several indices lies across.
abbrev pub LiesAlong : {L : Type 0} → (L → L → Bool) → Option (List L) → Option (List L) → Span → Along → Type 0
LiesAlong same labels own span Apart = HasNoLabelOf same labels own span
LiesAlong same labels own span (From first) = HasLabelsFrom labels own span first
LiesAlong same labels own span Across = 1 < span_length span

-- t, y and x have numbers as labels
abbrev pub IsOfNumbers : Kind → Type 0
IsOfNumbers Time = ⊤
IsOfNumbers Bands = ⊥
IsOfNumbers Y = ⊤
IsOfNumbers X = ⊤

-- ---- along all of them

-- dimensions have each label of a part along t, y and x
abbrev pub HasNumbersOf : Dimensions → Dimensions → Type 0
HasNumbersOf d own =
    (kind : Kind) (label : ℤ) → Contains (number_labels own kind) label → Contains (number_labels d kind) label

-- how the four spans of a window lie in a part
abbrev pub is_apart : Along → Bool
is_apart Apart = true
is_apart (From first) = false
is_apart Across = false

abbrev pub is_across : Along → Bool
is_across Apart = false
is_across (From first) = false
is_across Across = true

abbrev pub has_apart : Sides → Bool
has_apart s = is_apart s.t || is_apart s.bands || is_apart s.y || is_apart s.x

abbrev pub has_across : Sides → Bool
has_across s = is_across s.t || is_across s.bands || is_across s.y || is_across s.x

pub record LieAlong (d own : Dimensions) (window : Window) (s : Sides) : Type 0 where
  pub t : LiesAlong same_number d.t own.t window.t s.t
  pub bands : LiesAlong same_name d.bands own.bands window.bands s.bands
  pub y : LiesAlong same_number d.y own.y window.y s.y
  pub x : LiesAlong same_number d.x own.x window.x s.x

-- the box of a part in which they lie
abbrev pub first_index : Along → ℕ
first_index Apart = 0
first_index (From first) = first
first_index Across = 0

abbrev pub span_in_part : Along → Span → Span
span_in_part along span =
    record { from = first_index along; to = first_index along + span_length span }

abbrev pub box_of : Sides → Window → Window
box_of s window = record {
  t = span_in_part s.t window.t;
  bands = span_in_part s.bands window.bands;
  y = span_in_part s.y window.y;
  x = span_in_part s.x window.x;
}

-- a part of these dimensions has none of the tuples of the window
abbrev pub HasNoTupleOf : Dimensions → Dimensions → Window → Type 0
HasNoTupleOf d own window = (p : Position) → IsIn window p → row_major own (tuple_of d p) ≡ None

-- the position of a box that stands where a position stands in a window
abbrev pub moved : Window → Window → Position → Position
moved window box p = record {
  t = index_from box.t.from window.t p.t;
  band = index_from box.bands.from window.bands p.band;
  y = index_from box.y.from window.y p.y;
  x = index_from box.x.from window.x p.x;
}

-- the tuples of the window are those of a box of the part, in the same order
pub record HasBox (d own : Dimensions) (window box : Window) : Type 0 where
  pub t : span_length box.t ≡ span_length window.t
  pub bands : span_length box.bands ≡ span_length window.bands
  pub y : span_length box.y ≡ span_length window.y
  pub x : span_length box.x ≡ span_length window.x
  pub within : Holds (whole_window own) box
  pub same : (p : Position) → IsIn window p → tuple_of own (moved window box p) ≡ tuple_of d p

-- the lengths of the sides of a window together: over 4 exactly where one that is not empty has several positions
abbrev pub side_sum : Window → ℕ
side_sum w = span_length w.t + span_length w.bands + span_length w.y + span_length w.x

-- what is said of a window. Only one that has several positions lies across.
abbrev pub LiesIn : Dimensions → Dimensions → Window → Place → Type 0
LiesIn d own window place.Apart = HasNoTupleOf d own window
LiesIn d own window (place.Box box) = HasBox d own window box
LiesIn d own window place.Across = 4 < side_sum window

-- the first position of a window
abbrev pub first_of : Window → Position
first_of w = record { t = w.t.from; band = w.bands.from; y = w.y.from; x = w.x.from }

-- ---- cut

-- a window has one index at most along each dimension
pub record IsSingle (w : Window) : Type 0 where
  pub t : span_length w.t ≤ 1
  pub bands : span_length w.bands ≤ 1
  pub y : span_length w.y ≤ 1
  pub x : span_length w.x ≤ 1

-- a span cut at an index inside of it
pub record AreHalvesOfSpan (span front back : Span) : Type 0 where
  pub begin : front.from ≡ span.from
  pub cut : back.from ≡ front.to
  pub end : back.to ≡ span.to
  pub front_filled : front.from < front.to
  pub back_filled : back.from < back.to

-- two windows that are not empty have the positions of a window, those of the first before those of the second
pub record AreHalves (window front back : Window) : Type 0 where
  pub listed : positions window ≡ positions front ++ positions back
  pub covered : (p : Position) → IsIn window p → IsIn front p ⊎ IsIn back p
  pub front_within : Holds window front
  pub back_within : Holds window back
  pub front_filled : ¬ IsEmpty front
  pub back_filled : ¬ IsEmpty back
  pub front_less : side_sum front < side_sum window
  pub back_less : side_sum back < side_sum window
