-- The shape of a result is valid.
use Rattle.std.proofs.Common.{◌≡◌, ℕ, zero, suc, Bool, true, false, ◌&&◌, ◌||◌, List, [], ◌∷◌, ◌++◌, filter, refl, sym, ◌∙◌, subst, arith, Option, Some, None, is_some, ℤ, pos, neg_ℤ, nat_le, ◌==◌, if◌then◌else◌, true≢false}
use Rattle.std.specs.Prelude.{All, IfSome, int_le}
use Rattle.std.specs.List.{list_all}
use Rattle.oe_dims.proofs.ShapeLemmas.{is_ordered_kind, is_in_range_kind, fitting_epsg}
use Rattle.oe_dims.specs.Dimensions.{Dimensions, IsShape, shape_fault, order_fault, range_fault, limit_fault, epsg_fault, cells_fault, of_labels, is_within_limit, has_fitting_epsg, rises, falls, all_differ, all_between, first_instant, last_instant, farthest_coordinate, cell_count, most_cells}
use Rattle.oe_dims.specs.Indices.{same_number}
use Rattle.oe_dims.specs.Names.{is_name, same_name}
use Rattle.oe_dims.specs.declared.kind.Kind.{Kind}
use Rattle.oe_dims.specs.declared.kind.Kind.TheVariants.{Time, Bands, Y, X}
use Rattle.oe_meanings.proofs.OrderedLemmas.{left_of, right_of, filter_all, filtered_rise, filtered_fall, ordered_rise, merged_rise, merged_fall, merged_all, order_all, below_is_order, above_is_order, all_bands_differ}
use Rattle.oe_requests.specs.Extents.{Restriction, is_in_time, is_up, is_across, kept_labels, kept_bands, shape_of_restriction}
use Rattle.oe_requests.specs.Labels.{is_below, is_above, sorted_labels, new_among, all_in_order, all_bands, either_epsg, shape_of_merge}
use Rattle.oe_requests.specs.Operations.{Operation, keep, each_cell, convolve, reduce, aggregate, accumulate, merge, cover, give_back, no_dimensions, first_or, second_or, epsg_without, without_dimension, shape_of_aggregation, shape_of}
use Rattle.oe_requests.specs.declared.extent.Interval.{Interval}
use Rattle.oe_meanings.specs.ValidShapes.{is_within_limits, AreBands, labels_of, AreIntervalLabels, BringsLabels, GiveValidShapes}

-- ---- a shape from its parts

abbrev is_coordinate : ℤ → Bool
is_coordinate label = int_le (neg_ℤ (pos farthest_coordinate)) label && int_le label (pos farthest_coordinate)

abbrev is_instant : ℤ → Bool
is_instant label = int_le first_instant label && int_le label last_instant

abbrev coordinates_in_range : List ℤ → Bool
coordinates_in_range labels = all_between (neg_ℤ (pos farthest_coordinate)) (pos farthest_coordinate) labels

abbrev instants_in_range : List ℤ → Bool
instants_in_range labels = all_between first_instant last_instant labels

-- what makes dimensions a shape, but for the limits
pub record AreLabelled (d : Dimensions) : Type 0 where
  t_rises : of_labels rises d.t ≡ true
  t_range : of_labels instants_in_range d.t ≡ true
  bands_differ : of_labels all_differ d.bands ≡ true
  bands_valid : of_labels (list_all is_name) d.bands ≡ true
  y_falls : of_labels falls d.y ≡ true
  y_range : of_labels coordinates_in_range d.y ≡ true
  x_rises : of_labels rises d.x ≡ true
  x_range : of_labels coordinates_in_range d.x ≡ true
  epsg_fits : has_fitting_epsg d ≡ true

pub labelled_shape : (d : Dimensions) → IsShape d → AreLabelled d
labelled_shape d h = record {
  t_rises = is_ordered_kind d h Time;
  t_range = is_in_range_kind d h Time;
  bands_differ = is_ordered_kind d h Bands;
  bands_valid = is_in_range_kind d h Bands;
  y_falls = is_ordered_kind d h Y;
  y_range = is_in_range_kind d h Y;
  x_rises = is_ordered_kind d h X;
  x_range = is_in_range_kind d h X;
  epsg_fits = fitting_epsg d h;
}

order_kept : (d : Dimensions) → AreLabelled d → order_fault d ≡ None
unfolding order_fault
order_kept d h = rw (h.t_rises, h.bands_differ, h.y_falls, h.x_rises) refl

range_kept : (d : Dimensions) → AreLabelled d → range_fault d ≡ None
unfolding range_fault
range_kept d h = rw (h.t_range, h.bands_valid, h.y_range, h.x_range) refl

limit_kept : (d : Dimensions) → is_within_limits d ≡ true → limit_fault d ≡ None
unfolding limit_fault
limit_kept d h =
    let limits = left_of _ (nat_le (cell_count d) most_cells) h in
    let t : is_within_limit d Time ≡ true = left_of (is_within_limit d Time) _ limits in
    let others = right_of (is_within_limit d Time) _ limits in
    let bands : is_within_limit d Bands ≡ true = left_of (is_within_limit d Bands) _ others in
    let sides = right_of (is_within_limit d Bands) _ others in
    let y : is_within_limit d Y ≡ true = left_of (is_within_limit d Y) _ sides in
    let x : is_within_limit d X ≡ true = left_of (is_within_limit d X) _ (right_of (is_within_limit d Y) _ sides) in
    rw (t, bands, y, x) refl

epsg_kept : (d : Dimensions) → AreLabelled d → epsg_fault d ≡ None
unfolding epsg_fault
epsg_kept d h = rw h.epsg_fits refl

cells_kept : (d : Dimensions) → is_within_limits d ≡ true → cells_fault d ≡ None
unfolding cells_fault
cells_kept d h = let few : nat_le (cell_count d) most_cells ≡ true = right_of _ (nat_le (cell_count d) most_cells) h in rw few refl

pub is_shape : (d : Dimensions) → AreLabelled d → is_within_limits d ≡ true → IsShape d
unfolding shape_fault
is_shape d h l = rw (order_kept d h, range_kept d h, limit_kept d l, epsg_kept d h, cells_kept d l) refl

pub no_dimensions_is_shape : IsShape no_dimensions
unfolding shape_fault order_fault range_fault limit_fault epsg_fault cells_fault
no_dimensions_is_shape = refl

-- ---- what is kept

kept_pass : {E : Type 0} (test : List ℤ → Bool) → ((q : ℤ → Bool) (labels : List ℤ) → test labels ≡ true → test (filter q labels) ≡ true)
    → (is_inside : E → ℤ → Bool) (extent : Option E) (labels : Option (List ℤ)) → of_labels test labels ≡ true → of_labels test (kept_labels is_inside extent labels) ≡ true
kept_pass test part is_inside None labels h = h
kept_pass test part is_inside (Some e) None h = h
kept_pass test part is_inside (Some e) (Some labels) h = part (is_inside e) labels h

kept_there : {E : Type 0} (is_inside : E → ℤ → Bool) (extent : Option E) (labels : Option (List ℤ)) → is_some (kept_labels is_inside extent labels) ≡ is_some labels
kept_there is_inside None labels = refl
kept_there is_inside (Some e) None = refl
kept_there is_inside (Some e) (Some labels) = refl

bands_pass : (test : List (List ℕ) → Bool) (given labels : Option (List (List ℕ))) → IfSome given (λ names. test names ≡ true) → of_labels test labels ≡ true → of_labels test (kept_bands given labels) ≡ true
bands_pass test given None g h = h
bands_pass test None (Some labels) g h = h
bands_pass test (Some names) (Some labels) g h = g

given_differ : (given : Option (List (List ℕ))) → IfSome given AreBands → IfSome given (λ names. all_differ names ≡ true)
given_differ None g = tt
given_differ (Some names) g = g.differ

given_valid : (given : Option (List (List ℕ))) → IfSome given AreBands → IfSome given (λ names. list_all is_name names ≡ true)
given_valid None g = tt
given_valid (Some names) g = g.valid

pub kept_labelled : (r : Restriction) (d : Dimensions) → IfSome r.bands AreBands → AreLabelled d → AreLabelled (shape_of_restriction r d)
kept_labelled r d g h = record {
  t_rises = kept_pass rises filtered_rise is_in_time r.time d.t h.t_rises;
  t_range = kept_pass instants_in_range (λ q labels. filter_all _ q labels) is_in_time r.time d.t h.t_range;
  bands_differ = bands_pass all_differ r.bands d.bands (given_differ r.bands g) h.bands_differ;
  bands_valid = bands_pass (list_all is_name) r.bands d.bands (given_valid r.bands g) h.bands_valid;
  y_falls = kept_pass falls filtered_fall is_up r.box d.y h.y_falls;
  y_range = kept_pass coordinates_in_range (λ q labels. filter_all _ q labels) is_up r.box d.y h.y_range;
  x_rises = kept_pass rises filtered_rise is_across r.box d.x h.x_rises;
  x_range = kept_pass coordinates_in_range (λ q labels. filter_all _ q labels) is_across r.box d.x h.x_range;
  epsg_fits = rw (kept_there is_up r.box d.y, kept_there is_across r.box d.x) h.epsg_fits;
}

-- ---- without a dimension

pub without_labelled : (kind : Kind) (d : Dimensions) → AreLabelled d → AreLabelled (without_dimension kind d)
without_labelled Time d h = record { t_rises = refl; t_range = refl; bands_differ = h.bands_differ; bands_valid = h.bands_valid; y_falls = h.y_falls; y_range = h.y_range; x_rises = h.x_rises; x_range = h.x_range; epsg_fits = h.epsg_fits }
without_labelled Bands d h = record { t_rises = h.t_rises; t_range = h.t_range; bands_differ = refl; bands_valid = refl; y_falls = h.y_falls; y_range = h.y_range; x_rises = h.x_rises; x_range = h.x_range; epsg_fits = h.epsg_fits }
without_labelled Y d h = record {
  t_rises = h.t_rises;
  t_range = h.t_range;
  bands_differ = h.bands_differ;
  bands_valid = h.bands_valid;
  y_falls = refl;
  y_range = refl;
  x_rises = h.x_rises;
  x_range = h.x_range;
  epsg_fits = fits d.x d.y h.epsg_fits;
}
  where
    fits : (x y : Option (List ℤ)) → has_fitting_epsg (record d { x = x; y = y }) ≡ true → has_fitting_epsg (record d { x = x; y = None; epsg = epsg_without d.epsg None x }) ≡ true
    fits None y k = refl
    fits (Some x) None k = k
    fits (Some x) (Some y) k = k
without_labelled X d h = record {
  t_rises = h.t_rises;
  t_range = h.t_range;
  bands_differ = h.bands_differ;
  bands_valid = h.bands_valid;
  y_falls = h.y_falls;
  y_range = h.y_range;
  x_rises = refl;
  x_range = refl;
  epsg_fits = fits d.x d.y h.epsg_fits;
}
  where
    fits : (x y : Option (List ℤ)) → has_fitting_epsg (record d { x = x; y = y }) ≡ true → has_fitting_epsg (record d { x = None; y = y; epsg = epsg_without d.epsg y None }) ≡ true
    fits x None k = refl
    fits None (Some y) k = k
    fits (Some x) (Some y) k = k

-- ---- one label for each interval

pub aggregated_labelled : (intervals : List Interval) (d : Dimensions) → AreIntervalLabels (labels_of intervals) → AreLabelled d → AreLabelled (shape_of_aggregation intervals d)
aggregated_labelled intervals d g h = record {
  t_rises = ordered_rise (labels_of intervals) g.differ;
  t_range = order_all is_below below_is_order _ (labels_of intervals) g.in_range;
  bands_differ = h.bands_differ;
  bands_valid = h.bands_valid;
  y_falls = h.y_falls;
  y_range = h.y_range;
  x_rises = h.x_rises;
  x_range = h.x_range;
  epsg_fits = h.epsg_fits;
}

-- ---- all labels of two cubes

merged_pass : (is_before : ℤ → ℤ → Bool) (test : List ℤ → Bool) → ((one two : List ℤ) → test one ≡ true → test two ≡ true → test (sorted_labels is_before (one ++ new_among same_number one two)) ≡ true)
    → (one two : Option (List ℤ)) → of_labels test one ≡ true → of_labels test two ≡ true → of_labels test (all_in_order is_before one two) ≡ true
merged_pass is_before test both None two h k = k
merged_pass is_before test both (Some one) None h k = h
merged_pass is_before test both (Some one) (Some two) h k = both one two h k

merged_there : (is_before : ℤ → ℤ → Bool) (one two : Option (List ℤ)) → is_some (all_in_order is_before one two) ≡ (is_some one || is_some two)
merged_there is_before None two = refl
merged_there is_before (Some one) None = refl
merged_there is_before (Some one) (Some two) = refl

all_bands_pass : (test : List (List ℕ) → Bool) → ((one two : List (List ℕ)) → test one ≡ true → test two ≡ true → test (one ++ new_among same_name one two) ≡ true)
    → (one two : Option (List (List ℕ))) → of_labels test one ≡ true → of_labels test two ≡ true → of_labels test (all_bands one two) ≡ true
all_bands_pass test both None two h k = k
all_bands_pass test both (Some one) None h k = h
all_bands_pass test both (Some one) (Some two) h k = both one two h k

-- a code that fits where there is a side, and where there is none
abbrev fits_where : Bool → ℕ → Bool
fits_where spatial epsg = if spatial then nat_le 1 epsg && nat_le epsg 999999 else epsg == 0

zero_fits : (spatial : Bool) → fits_where spatial 0 ≡ true → spatial ≡ false
zero_fits true h = absurd (true≢false (sym h))
zero_fits false h = refl

not_none : (n : ℕ) → (suc n == 0) ≡ false
not_none n = grind arith

some_fits : (spatial : Bool) (n : ℕ) → fits_where spatial (suc n) ≡ true → spatial ≡ true
some_fits true n h = refl
some_fits false n h = absurd (true≢false (sym h ∙ not_none n))

either_fits : (a b : Bool) (one two : ℕ) → fits_where a one ≡ true → fits_where b two ≡ true → fits_where (a || b) (either_epsg one two) ≡ true
either_fits a b zero two h k = let none : a ≡ false = zero_fits a h in rw none k
either_fits a b (suc n) two h k =
    let there : a ≡ true = some_fits a n h in
    let first : either_epsg (suc n) two ≡ suc n = rw (not_none n) refl in
    rw (there, first) (subst (λ s. fits_where s (suc n) ≡ true) there h)

four_or : (a b c d : Bool) → ((a || c) || (b || d)) ≡ ((a || b) || (c || d))
four_or true b c d = refl
four_or false true c d = or_true c d
  where
    or_true : (c d : Bool) → (c || true) ≡ true
    or_true true d = refl
    or_true false d = refl
four_or false false c d = refl

pub merged_labelled : (one two : Dimensions) → AreLabelled one → AreLabelled two → AreLabelled (shape_of_merge one two)
merged_labelled one two h k = record {
  t_rises = merged_pass is_below rises merged_rise one.t two.t h.t_rises k.t_rises;
  t_range = merged_pass is_below instants_in_range (λ a b p q. order_all is_below below_is_order is_instant (a ++ new_among same_number a b) (merged_all same_number is_instant a b p q)) one.t two.t h.t_range k.t_range;
  bands_differ = all_bands_pass all_differ all_bands_differ one.bands two.bands h.bands_differ k.bands_differ;
  bands_valid = all_bands_pass (list_all is_name) (merged_all same_name is_name) one.bands two.bands h.bands_valid k.bands_valid;
  y_falls = merged_pass is_above falls merged_fall one.y two.y h.y_falls k.y_falls;
  y_range = merged_pass is_above coordinates_in_range (λ a b p q. order_all is_above above_is_order is_coordinate (a ++ new_among same_number a b) (merged_all same_number is_coordinate a b p q)) one.y two.y h.y_range k.y_range;
  x_rises = merged_pass is_below rises merged_rise one.x two.x h.x_rises k.x_rises;
  x_range = merged_pass is_below coordinates_in_range (λ a b p q. order_all is_below below_is_order is_coordinate (a ++ new_among same_number a b) (merged_all same_number is_coordinate a b p q)) one.x two.x h.x_range k.x_range;
  epsg_fits =
      rw (merged_there is_above one.y two.y, merged_there is_below one.x two.x, four_or (is_some one.y) (is_some one.x) (is_some two.y) (is_some two.x))
      (either_fits (is_some one.y || is_some one.x) (is_some two.y || is_some two.x) one.epsg two.epsg h.epsg_fits k.epsg_fits);
}

-- ---- all of them

first_is_shape : (shapes : List Dimensions) → All IsShape shapes → IsShape (first_or no_dimensions shapes)
first_is_shape [] h = no_dimensions_is_shape
first_is_shape (d ∷ shapes) h = h 0 d (omega arith)

second_is_shape : (shapes : List Dimensions) → All IsShape shapes → IsShape (second_or no_dimensions shapes)
second_is_shape [] h = no_dimensions_is_shape
second_is_shape (d ∷ []) h = no_dimensions_is_shape
second_is_shape (d ∷ e ∷ shapes) h = h 1 e (omega arith)

gives_shape : (operation : Operation) (shapes : List Dimensions) → BringsLabels operation → All IsShape shapes → is_within_limits (shape_of operation shapes) ≡ true → IsShape (shape_of operation shapes)
gives_shape (keep r) shapes g h l =
    is_shape (shape_of_restriction r (first_or no_dimensions shapes)) (kept_labelled r (first_or no_dimensions shapes) g (labelled_shape _ (first_is_shape shapes h))) l
gives_shape (each_cell c) shapes g h l = first_is_shape shapes h
gives_shape (convolve kernel factor border replace) shapes g h l = first_is_shape shapes h
gives_shape (reduce kind c) shapes g h l =
    is_shape (without_dimension kind (first_or no_dimensions shapes)) (without_labelled kind (first_or no_dimensions shapes) (labelled_shape _ (first_is_shape shapes h))) l
gives_shape (aggregate intervals c) shapes g h l =
    is_shape (shape_of_aggregation intervals (first_or no_dimensions shapes)) (aggregated_labelled intervals (first_or no_dimensions shapes) g (labelled_shape _ (first_is_shape shapes h))) l
gives_shape (accumulate ignore) shapes g h l = first_is_shape shapes h
gives_shape (merge resolver) shapes g h l =
    is_shape (shape_of_merge (first_or no_dimensions shapes) (second_or no_dimensions shapes))
    (merged_labelled (first_or no_dimensions shapes) (second_or no_dimensions shapes) (labelled_shape _ (first_is_shape shapes h)) (labelled_shape _ (second_is_shape shapes h))) l
gives_shape (cover replacement) shapes g h l = first_is_shape shapes h
gives_shape give_back shapes g h l = first_is_shape shapes h

pub gives_valid_shapes : GiveValidShapes
gives_valid_shapes = record { each = gives_shape }
