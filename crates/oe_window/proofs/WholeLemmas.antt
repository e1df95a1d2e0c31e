-- The whole window of a shape, and windows that lie in others.
use Rattle.std.proofs.Common.{◌≡◌, ◌↔◌, ℕ, ◌-◌, ◌*◌, ◌<◌, ◌≤◌, refl, arith, inl, inr}
use Rattle.std.proofs.lemmas.Nat.{mul-le}
use Rattle.std.proofs.lemmas.Option.{slice_get_within}
use Rattle.oe_dims.specs.Dimensions.{Dimensions, extent, cell_count}
use Rattle.oe_dims.specs.Positions.{Position, IsPosition, number_of}
use Rattle.oe_window.specs.Windows.{IsIn, IsEmpty, Holds, whole_window, span_length, positions, position_count, number_in}
use Rattle.oe_window.specs.declared.window.Window.{Window}
use Rattle.oe_window.proofs.WindowLemmas.{position_at, length-positions, within_from_holds, filled_or_not, count_zero, count_of_empty}

-- ---- the whole window

from_zero : (n : ℕ) → n - 0 ≡ n
from_zero n = omega arith

pub number_whole : (d : Dimensions) (p : Position) → number_in (whole_window d) p ≡ number_of d p
number_whole d p =
    rw (from_zero p.t, from_zero p.band, from_zero p.y, from_zero p.x, from_zero (extent d.bands), from_zero (extent d.y), from_zero (extent d.x)) refl

pub count_whole : (d : Dimensions) → position_count (whole_window d) ≡ cell_count d
count_whole d = rw (from_zero (extent d.t), from_zero (extent d.bands), from_zero (extent d.y), from_zero (extent d.x)) refl

pub in_whole : (d : Dimensions) (p : Position) → IsPosition d p → IsIn (whole_window d) p
in_whole d p h = record {
  t = record { begun = omega arith; before = h.t };
  bands = record { begun = omega arith; before = h.band };
  y = record { begun = omega arith; before = h.y };
  x = record { begun = omega arith; before = h.x };
}

pub position_in : (d : Dimensions) (p : Position) → IsIn (whole_window d) p → IsPosition d p
position_in d p h = record { t = h.t.before; band = h.bands.before; y = h.y.before; x = h.x.before }

pub whole_is : (d : Dimensions) (p : Position) → IsIn (whole_window d) p ↔ IsPosition d p
whole_is d p = (position_in d p, in_whole d p)

-- ---- how many positions there are

-- a position has a number below the count
pub number_in_below : (w : Window) (p : Position) → IsIn w p → number_in w p < position_count w
number_in_below w p h =
    let long = length-positions w in omega (arith, slice_get_within (positions w) (number_in w p) p (position_at w p h))

pub empty_if_none : (w : Window) → position_count w ≡ 0 → IsEmpty w
empty_if_none w none p h = let below = number_in_below w p h in absurd (omega arith)

pub none_exactly_if_empty : (w : Window) → (position_count w ≡ 0) ↔ IsEmpty w
none_exactly_if_empty w = (empty_if_none w, count_of_empty w)

-- a window that another one holds has at most as many
pub held_count : (outer inner : Window) → Holds outer inner → position_count inner ≤ position_count outer
held_count outer inner holds =
    elim (filled_or_not inner) [
      | inr none ↦ let zero_is = count_zero inner none in omega arith
      | inl filled ↦
          let within = within_from_holds inner outer filled holds in
          let t : span_length inner.t ≤ span_length outer.t = omega (arith, within.t.from, within.t.to) in
          let b : span_length inner.bands ≤ span_length outer.bands = omega (arith, within.bands.from, within.bands.to) in
          let y : span_length inner.y ≤ span_length outer.y = omega (arith, within.y.from, within.y.to) in
          let x : span_length inner.x ≤ span_length outer.x = omega (arith, within.x.from, within.x.to) in
          let two = mul-le (span_length inner.t) (span_length inner.bands) (span_length outer.t) (span_length outer.bands) t b in
          let three = mul-le (span_length inner.t * span_length inner.bands) (span_length inner.y) (span_length outer.t * span_length outer.bands) (span_length outer.y) two y in
          mul-le (span_length inner.t * span_length inner.bands * span_length inner.y) (span_length inner.x) (span_length outer.t * span_length outer.bands * span_length outer.y) (span_length outer.x) three x
    ]

-- and one inside a shape at most as many as the shape has cells
pub count_within : (d : Dimensions) (w : Window) → Holds (whole_window d) w → position_count w ≤ cell_count d
count_within d w holds = let whole = count_whole d in let fewer = held_count (whole_window d) w holds in omega arith
