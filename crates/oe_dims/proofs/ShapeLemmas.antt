-- What every shape keeps, rule by rule.
use Rattle.std.proofs.Common.{◌≡◌, ℕ, length, ◌≤◌, nat_le, Bool, true, false, List, [], refl, Option, Some, None, unwrap_or, cond, pos, neg_ℤ, arith}
use Rattle.std.specs.List.{list_all}
use Rattle.std.specs.Option.{option_map_or}
use Rattle.std.proofs.lemmas.Bool.{leb-true}
use Rattle.oe_dims.specs.Names.{is_name}
use Rattle.oe_dims.specs.Dimensions.{Dimensions, extent, IsShape, shape_fault, order_fault, range_fault, limit_fault, epsg_fault, cells_fault, of_labels, is_ordered, is_in_range, is_within_limit, has_fitting_epsg, rises, falls, all_differ, all_between, first_instant, last_instant, farthest_coordinate, label_count, cell_count, number_labels, band_names, most_labels, most_cells}
use Rattle.oe_dims.specs.declared.kind.Kind.{Kind}
use Rattle.oe_dims.specs.declared.kind.Kind.TheVariants.{Time, Bands, Y, X}
use Rattle.oe_dims.specs.declared.shape.ShapeFault.{ShapeFault}
use Rattle.oe_dims.specs.declared.shape.ShapeFault.TheVariants.{OrderWrong, OutOfRange, TooMany}
use Rattle.oe_dims.proofs.ListsLemmas.{each_passes, or_else_none, ExtentsAreWithin, extents_within}

-- no rule is broken, one by one
pub record BreaksNoRule (d : Dimensions) : Type 0 where
  pub order : order_fault d ≡ None
  pub range : range_fault d ≡ None
  pub limit : limit_fault d ≡ None
  pub epsg : epsg_fault d ≡ None
  pub cells : cells_fault d ≡ None

pub breaks_no_rule : (d : Dimensions) → IsShape d → BreaksNoRule d
unfolding shape_fault
breaks_no_rule d h =
    let order = or_else_none (order_fault d) _ h in
    let range = or_else_none (range_fault d) _ order.1 in
    let limit = or_else_none (limit_fault d) _ range.1 in
    let epsg = or_else_none (epsg_fault d) _ limit.1 in
    record { order = order.0; range = range.0; limit = limit.0; epsg = epsg.0; cells = epsg.1 }

pub is_ordered_kind : (d : Dimensions) → IsShape d → (kind : Kind) → is_ordered d kind ≡ true
unfolding order_fault
is_ordered_kind d h = each_passes (is_ordered d) OrderWrong (breaks_no_rule d h).order

pub is_in_range_kind : (d : Dimensions) → IsShape d → (kind : Kind) → is_in_range d kind ≡ true
unfolding range_fault
is_in_range_kind d h = each_passes (is_in_range d) OutOfRange (breaks_no_rule d h).range

pub is_within_limit_kind : (d : Dimensions) → IsShape d → (kind : Kind) → is_within_limit d kind ≡ true
unfolding limit_fault
is_within_limit_kind d h = each_passes (is_within_limit d) TooMany (breaks_no_rule d h).limit

-- a test that holds of no labels holds of those that a missing dimension has
pub labels_pass : {L : Type 0} (test : List L → Bool) (labels : Option (List L)) → test [] ≡ true → of_labels test labels ≡ true → test (unwrap_or labels []) ≡ true
labels_pass test None none h = none
labels_pass test (Some labels) none h = h

-- the labels of t and x rise, those of y fall, and the names of the bands differ
pub t_rises : (d : Dimensions) → IsShape d → rises (number_labels d Time) ≡ true
t_rises d h = labels_pass rises d.t refl (is_ordered_kind d h Time)

pub y_falls : (d : Dimensions) → IsShape d → falls (number_labels d Y) ≡ true
y_falls d h = labels_pass falls d.y refl (is_ordered_kind d h Y)

pub x_rises : (d : Dimensions) → IsShape d → rises (number_labels d X) ≡ true
x_rises d h = labels_pass rises d.x refl (is_ordered_kind d h X)

pub bands_differ : (d : Dimensions) → IsShape d → all_differ (band_names d) ≡ true
bands_differ d h = labels_pass all_differ d.bands refl (is_ordered_kind d h Bands)

-- the labels lie in their ranges, and the names of the bands are valid
pub t_in_range : (d : Dimensions) → IsShape d → all_between first_instant last_instant (number_labels d Time) ≡ true
t_in_range d h = labels_pass (all_between first_instant last_instant) d.t refl (is_in_range_kind d h Time)

pub y_in_range : (d : Dimensions) → IsShape d → all_between (neg_ℤ (pos farthest_coordinate)) (pos farthest_coordinate) (number_labels d Y) ≡ true
y_in_range d h = labels_pass (all_between (neg_ℤ (pos farthest_coordinate)) (pos farthest_coordinate)) d.y refl (is_in_range_kind d h Y)

pub x_in_range : (d : Dimensions) → IsShape d → all_between (neg_ℤ (pos farthest_coordinate)) (pos farthest_coordinate) (number_labels d X) ≡ true
x_in_range d h = labels_pass (all_between (neg_ℤ (pos farthest_coordinate)) (pos farthest_coordinate)) d.x refl (is_in_range_kind d h X)

pub bands_are_names : (d : Dimensions) → IsShape d → list_all is_name (band_names d) ≡ true
bands_are_names d h = labels_pass (list_all is_name) d.bands refl (is_in_range_kind d h Bands)

-- no dimension has over 65536 labels
count_at : (count : Option ℕ) (n : ℕ) → option_map_or (λ n. nat_le n most_labels) count true ≡ true → count ≡ Some n → n ≤ most_labels
count_at None n h e = cc
count_at (Some m) n h e = let same : m ≡ n = cc in rw (← same) (leb-true m most_labels h)

pub label_count_within : (d : Dimensions) (kind : Kind) (n : ℕ) → IsShape d → label_count d kind ≡ Some n → n ≤ most_labels
label_count_within d kind n h e = count_at (label_count d kind) n (is_within_limit_kind d h kind) e

pub extents_of_shape : (d : Dimensions) → IsShape d → ExtentsAreWithin d
extents_of_shape d h = extents_within d (breaks_no_rule d h).limit

-- and there are at most 2^40 cells
pub no_fault : (b : Bool) (fault : ShapeFault) → cond b None (Some fault) ≡ None → b ≡ true
no_fault true fault e = refl
no_fault false fault e = cc

pub cell_count_within : (d : Dimensions) → IsShape d → cell_count d ≤ most_cells
unfolding cells_fault
cell_count_within d h = leb-true (cell_count d) most_cells (no_fault _ _ (breaks_no_rule d h).cells)

pub fitting_epsg : (d : Dimensions) → IsShape d → has_fitting_epsg d ≡ true
unfolding epsg_fault
fitting_epsg d h = no_fault _ _ (breaks_no_rule d h).epsg

-- all labels but those of y rise
pub numbers_rise : (d : Dimensions) (kind : Kind) → IsShape d → (kind ≡ Y → ⊥) → rises (number_labels d kind) ≡ true
numbers_rise d Time h other = t_rises d h
numbers_rise d Bands h other = refl
numbers_rise d Y h other = absurd (other refl)
numbers_rise d X h other = x_rises d h

-- and there are at most 65536
length_within : {L : Type 0} (labels : Option (List L)) → extent labels ≤ most_labels → length (unwrap_or labels []) ≤ most_labels
length_within None h = omega arith
length_within (Some labels) h = h

pub numbers_within : (d : Dimensions) (kind : Kind) → IsShape d → length (number_labels d kind) ≤ most_labels
numbers_within d Time h = length_within d.t (extents_of_shape d h).t
numbers_within d Bands h = omega arith
numbers_within d Y h = length_within d.y (extents_of_shape d h).y
numbers_within d X h = length_within d.x (extents_of_shape d h).x

pub names_within : (d : Dimensions) → IsShape d → length (band_names d) ≤ most_labels
names_within d h = length_within d.bands (extents_of_shape d h).bands
