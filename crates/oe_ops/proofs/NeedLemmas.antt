-- The least box of what a window needs, from the least span along each dimension.
use Rattle.std.proofs.Common.{◌≡◌, ◌⊎◌, inl, inr, ℕ, ◌+◌, ◌<◌, ◌≤◌, Bool, true, false, ◌&&◌, List, ◌∷◌, [], refl, sym, ap, ◌∙◌, subst, arith, Option, Some, None}
use Rattle.oe_cell.specs.Fraction.{Fraction}
use Rattle.oe_dims.specs.Cube.{Tuple}
use Rattle.oe_dims.specs.Dimensions.{Dimensions, IsShape, extent}
use Rattle.oe_dims.specs.Indices.{same_number}
use Rattle.oe_dims.specs.Names.{same_name}
use Rattle.oe_dims.specs.Positions.{Position, label_of}
use Rattle.oe_dims.specs.declared.kind.Kind.{Kind}
use Rattle.oe_dims.specs.declared.kind.Kind.TheVariants.{Time, Bands, Y, X}
use Rattle.oe_dims.proofs.IndexLemmas.{same_number_is}
use Rattle.oe_dims.proofs.OrderLemmas.{same_name_is}
use Rattle.oe_kernel.specs.Kernels.{KernelValues, radius_of}
use Rattle.oe_kernel.specs.declared.border.Border.{Border}
use Rattle.oe_window.specs.Windows.{Holds, IsAlong, IsEmpty, IsIn, whole_window}
use Rattle.oe_window.specs.declared.window.Span.{Span}
use Rattle.oe_window.specs.declared.window.Window.{Window}
use Rattle.oe_window.proofs.WindowLemmas.{AreWithin, IsFilled, filled_or_not, filled_unless_empty, not_empty, within_from_holds}
use Rattle.oe_requests.specs.Labels.{only_along}
use Rattle.oe_requests.specs.Operations.{convolve}
use Rattle.oe_check.specs.Reach.{is_wrap, same_kind}
use Rattle.oe_ops.specs.Needs.{HasLabelsBeside, HasLabelsOf, HoldsNeed, IsNeed, IsWithinReach, Needs, plane_window, zero_window}
use Rattle.oe_ops.specs.Spans.{EndsAreNeeded, IsBeside, IsLabelAt, IsNeededFor, IsReached, IsSpanOf, product}
use Rattle.oe_ops.proofs.FoundLemmas.{found_label, has_labels}
use Rattle.oe_ops.proofs.IndexLemmas.{band_found, t_found, x_found, y_found}

-- ---- a product of spans

not_along : (s : Span) (i : ℕ) → s.to ≤ s.from → IsAlong s i → ⊥
not_along s i h a = let begun = a.begun in let before = a.before in omega arith

-- what is needed along each dimension by itself
pub record NeedsEach (t bands y x : ℕ → ℕ → Type 0) (p q : Position) : Type 0 where
  pub t_needed : t p.t q.t
  pub bands_needed : bands p.band q.band
  pub y_needed : y p.y q.y
  pub x_needed : x p.x q.x

ends_of : (R : ℕ → ℕ → Type 0) (span found : Span) → found.from < found.to → IsSpanOf R span found → EndsAreNeeded R span found
ends_of R span found filled h = elim h.least [ inl e ↦ absurd (omega arith) | inr e ↦ e ]

-- a span that has both ends has what lies between
between : (s found : Span) (last i : ℕ) → found.to ≡ last + 1 → IsAlong s found.from → IsAlong s last → IsAlong found i → IsAlong s i
between s found last i ends first end h =
    let a = first.begun in
    let b = end.before in
    let c = h.begun in
    let d = h.before in
    record { begun = omega arith; before = omega arith }

module _ (Rt Rb Ry Rx : ℕ → ℕ → Type 0) (needs : Position → Position → Type 0) (window : Window) (t b y x : Span)
    (each : (p q : Position) → needs p q → NeedsEach Rt Rb Ry Rx p q) (all : (p q : Position) → NeedsEach Rt Rb Ry Rx p q → needs p q)
    (t_is : IsSpanOf Rt window.t t) (b_is : IsSpanOf Rb window.bands b) (y_is : IsSpanOf Ry window.y y) (x_is : IsSpanOf Rx window.x x) where
  product_holds : HoldsNeed needs window (product t b y x)
  product_holds p q h n =
      let r = each p q n in
      record {
        t = t_is.holds q.t (record { from = p.t; along = h.t; needed = r.t_needed });
        bands = b_is.holds q.band (record { from = p.band; along = h.bands; needed = r.bands_needed });
        y = y_is.holds q.y (record { from = p.y; along = h.y; needed = r.y_needed });
        x = x_is.holds q.x (record { from = p.x; along = h.x; needed = r.x_needed });
      }

  -- positions with an index that is needed along each dimension
  needed_at : (i j k l : ℕ) (ti : IsNeededFor Rt window.t i) (bj : IsNeededFor Rb window.bands j) (yk : IsNeededFor Ry window.y k) (xl : IsNeededFor Rx window.x l) → (other : Window) → HoldsNeed needs window other → IsIn other (record { t = i; band = j; y = k; x = l })
  needed_at i j k l ti bj yk xl other h =
      h (record { t = ti.from; band = bj.from; y = yk.from; x = xl.from }) (record { t = i; band = j; y = k; x = l })
      (record { t = ti.along; bands = bj.along; y = yk.along; x = xl.along })
      (all _ _ (record { t_needed = ti.needed; bands_needed = bj.needed; y_needed = yk.needed; x_needed = xl.needed }))

  filled_need : (box : Window) → IsFilled (product t b y x) → box ≡ product t b y x → IsNeed needs window box
  filled_need box filled is =
      let et = ends_of Rt window.t t filled.t t_is in
      let eb = ends_of Rb window.bands b filled.bands b_is in
      let ey = ends_of Ry window.y y filled.y y_is in
      let ex = ends_of Rx window.x x filled.x x_is in
      subst (IsNeed needs window) (sym is) (record {
        holds = product_holds;
        least = λ other h q inside.
            let first = needed_at t.from b.from y.from x.from et.first eb.first ey.first ex.first other h in
            let last = needed_at et.last eb.last ey.last ex.last et.last_needed eb.last_needed ey.last_needed ex.last_needed other h in
            record {
              t = between other.t t et.last q.t et.ends first.t last.t inside.t;
              bands = between other.bands b eb.last q.band eb.ends first.bands last.bands inside.bands;
              y = between other.y y ey.last q.y ey.ends first.y last.y inside.y;
              x = between other.x x ex.last q.x ex.ends first.x last.x inside.x;
            };
        zero = λ none. absurd (none (record { t = et.first.from; band = eb.first.from; y = ey.first.from; x = ex.first.from }) (record { t = t.from; band = b.from; y = y.from; x = x.from })
            (record { t = et.first.along; bands = eb.first.along; y = ey.first.along; x = ex.first.along })
            (all _ _ (record { t_needed = et.first.needed; bands_needed = eb.first.needed; y_needed = ey.first.needed; x_needed = ex.first.needed })));
      })

  empty_need : (box : Window) → IsEmpty (product t b y x) → box ≡ zero_window → IsNeed needs window box
  empty_need box none is = subst (IsNeed needs window) (sym is) (record {
    holds = λ p q h n. absurd (none q (product_holds p q h n));
    least = λ other h q inside. absurd (not_along zero_window.t q.t (omega arith) inside.t);
    zero = λ no. refl;
  })

  pub product_need : (box : Window) → (¬ IsEmpty (product t b y x) → box ≡ product t b y x) → (IsEmpty (product t b y x) → box ≡ zero_window) → IsNeed needs window box
  product_need box filled_is empty_is = elim (filled_or_not (product t b y x)) [
    | inl filled ↦ filled_need box filled (filled_is (not_empty (product t b y x) filled))
    | inr none ↦ let nowhere = nowhere_in none in empty_need box nowhere (empty_is nowhere)
  ]
    where
      nowhere_in : (t.to ≤ t.from) ⊎ ((b.to ≤ b.from) ⊎ ((y.to ≤ y.from) ⊎ (x.to ≤ x.from))) → IsEmpty (product t b y x)
      nowhere_in (inl e) p h = not_along t p.t e h.t
      nowhere_in (inr (inl e)) p h = not_along b p.band e h.bands
      nowhere_in (inr (inr (inl e))) p h = not_along y p.y e h.y
      nowhere_in (inr (inr (inr e))) p h = not_along x p.x e h.x

-- nothing is needed for no position
pub empty_window_need : (needs : Position → Position → Type 0) (window box : Window) → IsEmpty window → box ≡ zero_window → IsNeed needs window box
empty_window_need needs window box none is = subst (IsNeed needs window) (sym is) (record {
  holds = λ p q h n. absurd (none p h);
  least = λ other h q inside. absurd (not_along zero_window.t q.t (omega arith) inside.t);
  zero = λ no. refl;
})

-- ---- by labels

pub labels_each : (shape argument : Dimensions) → IsShape argument → (p q : Position) → HasLabelsOf shape argument p q → NeedsEach (IsLabelAt Time shape argument) (IsLabelAt Bands shape argument) (IsLabelAt Y shape argument) (IsLabelAt X shape argument) p q
labels_each shape argument valid p q h =
    let on = h.is_position in
    record {
      t_needed = t_found argument valid _ q.t on.t (ap (λ (u : Tuple). u.t) h.labels);
      bands_needed = band_found argument valid _ q.band on.band (ap (λ (u : Tuple). u.band) h.labels);
      y_needed = y_found argument valid _ q.y on.y (ap (λ (u : Tuple). u.y) h.labels);
      x_needed = x_found argument valid _ q.x on.x (ap (λ (u : Tuple). u.x) h.labels);
    }

pub labels_all : (shape argument : Dimensions) (p q : Position) → NeedsEach (IsLabelAt Time shape argument) (IsLabelAt Bands shape argument) (IsLabelAt Y shape argument) (IsLabelAt X shape argument) p q → HasLabelsOf shape argument p q
labels_all shape argument p q h =
    let t = h.t_needed in
    let band = h.bands_needed in
    let y = h.y_needed in
    let x = h.x_needed in
    has_labels shape argument p q (rw (t, band, y, x) refl)

-- ---- beside a dimension

only_own : {L : Type 0} (labels : Option (List L)) (i : ℕ) → only_along labels (label_of labels i) ≡ label_of labels i
only_own None i = refl
only_own (Some labels) i = refl

-- the labels of a position along one dimension, from those of a tuple
own_label : {L : Type 0} (labels : Option (List L)) (o : Option L) (j : ℕ) → only_along labels (label_of labels j) ≡ only_along labels o → label_of labels j ≡ only_along labels o
own_label labels o j h = sym (only_own labels j) ∙ h

module _ (shape argument : Dimensions) (valid : IsShape argument) (p q : Position) where
  pub beside_each : (reduced : Kind) → HasLabelsBeside reduced shape argument p q → NeedsEach (IsBeside (same_kind reduced Time) Time shape argument) (IsBeside (same_kind reduced Bands) Bands shape argument) (IsBeside (same_kind reduced Y) Y shape argument) (IsBeside (same_kind reduced X) X shape argument) p q
  beside_each Time h =
      let on = h.is_position in
      record {
        t_needed = on.t;
        bands_needed = band_found argument valid _ q.band on.band (own_label argument.bands (label_of shape.bands p.band) q.band (ap (λ (u : Tuple). u.band) h.labels));
        y_needed = y_found argument valid _ q.y on.y (own_label argument.y (label_of shape.y p.y) q.y (ap (λ (u : Tuple). u.y) h.labels));
        x_needed = x_found argument valid _ q.x on.x (own_label argument.x (label_of shape.x p.x) q.x (ap (λ (u : Tuple). u.x) h.labels));
      }
  beside_each Bands h =
      let on = h.is_position in
      record {
        t_needed = t_found argument valid _ q.t on.t (own_label argument.t (label_of shape.t p.t) q.t (ap (λ (u : Tuple). u.t) h.labels));
        bands_needed = on.band;
        y_needed = y_found argument valid _ q.y on.y (own_label argument.y (label_of shape.y p.y) q.y (ap (λ (u : Tuple). u.y) h.labels));
        x_needed = x_found argument valid _ q.x on.x (own_label argument.x (label_of shape.x p.x) q.x (ap (λ (u : Tuple). u.x) h.labels));
      }
  beside_each Y h =
      let on = h.is_position in
      record {
        t_needed = t_found argument valid _ q.t on.t (own_label argument.t (label_of shape.t p.t) q.t (ap (λ (u : Tuple). u.t) h.labels));
        bands_needed = band_found argument valid _ q.band on.band (own_label argument.bands (label_of shape.bands p.band) q.band (ap (λ (u : Tuple). u.band) h.labels));
        y_needed = on.y;
        x_needed = x_found argument valid _ q.x on.x (own_label argument.x (label_of shape.x p.x) q.x (ap (λ (u : Tuple). u.x) h.labels));
      }
  beside_each X h =
      let on = h.is_position in
      record {
        t_needed = t_found argument valid _ q.t on.t (own_label argument.t (label_of shape.t p.t) q.t (ap (λ (u : Tuple). u.t) h.labels));
        bands_needed = band_found argument valid _ q.band on.band (own_label argument.bands (label_of shape.bands p.band) q.band (ap (λ (u : Tuple). u.band) h.labels));
        y_needed = y_found argument valid _ q.y on.y (own_label argument.y (label_of shape.y p.y) q.y (ap (λ (u : Tuple). u.y) h.labels));
        x_needed = on.x;
      }

  -- where an index is found, it is one of the argument, and has the label
  found_t : IsLabelAt Time shape argument p.t q.t → (label_of argument.t q.t ≡ only_along argument.t (label_of shape.t p.t)) × (q.t < extent argument.t)
  found_t e = found_label same_number same_number_is argument.t (label_of shape.t p.t) q.t e

  found_band : IsLabelAt Bands shape argument p.band q.band → (label_of argument.bands q.band ≡ only_along argument.bands (label_of shape.bands p.band)) × (q.band < extent argument.bands)
  found_band e = found_label same_name same_name_is argument.bands (label_of shape.bands p.band) q.band e

  found_y : IsLabelAt Y shape argument p.y q.y → (label_of argument.y q.y ≡ only_along argument.y (label_of shape.y p.y)) × (q.y < extent argument.y)
  found_y e = found_label same_number same_number_is argument.y (label_of shape.y p.y) q.y e

  found_x : IsLabelAt X shape argument p.x q.x → (label_of argument.x q.x ≡ only_along argument.x (label_of shape.x p.x)) × (q.x < extent argument.x)
  found_x e = found_label same_number same_number_is argument.x (label_of shape.x p.x) q.x e

  pub beside_all : (reduced : Kind) → NeedsEach (IsBeside (same_kind reduced Time) Time shape argument) (IsBeside (same_kind reduced Bands) Bands shape argument) (IsBeside (same_kind reduced Y) Y shape argument) (IsBeside (same_kind reduced X) X shape argument) p q → HasLabelsBeside reduced shape argument p q
  beside_all Time h =
      let band = found_band h.bands_needed in
      let y = found_y h.y_needed in
      let x = found_x h.x_needed in
      let band_is = only_own argument.bands q.band ∙ band.0 in
      let y_is = only_own argument.y q.y ∙ y.0 in
      let x_is = only_own argument.x q.x ∙ x.0 in
      record { is_position = record { t = h.t_needed; band = band.1; y = y.1; x = x.1 }; labels = rw (band_is, y_is, x_is) refl }
  beside_all Bands h =
      let t = found_t h.t_needed in
      let y = found_y h.y_needed in
      let x = found_x h.x_needed in
      let t_is = only_own argument.t q.t ∙ t.0 in
      let y_is = only_own argument.y q.y ∙ y.0 in
      let x_is = only_own argument.x q.x ∙ x.0 in
      record { is_position = record { t = t.1; band = h.bands_needed; y = y.1; x = x.1 }; labels = rw (t_is, y_is, x_is) refl }
  beside_all Y h =
      let t = found_t h.t_needed in
      let band = found_band h.bands_needed in
      let x = found_x h.x_needed in
      let t_is = only_own argument.t q.t ∙ t.0 in
      let band_is = only_own argument.bands q.band ∙ band.0 in
      let x_is = only_own argument.x q.x ∙ x.0 in
      record { is_position = record { t = t.1; band = band.1; y = h.y_needed; x = x.1 }; labels = rw (t_is, band_is, x_is) refl }
  beside_all X h =
      let t = found_t h.t_needed in
      let band = found_band h.bands_needed in
      let y = found_y h.y_needed in
      let t_is = only_own argument.t q.t ∙ t.0 in
      let band_is = only_own argument.bands q.band ∙ band.0 in
      let y_is = only_own argument.y q.y ∙ y.0 in
      record { is_position = record { t = t.1; band = band.1; y = y.1; x = h.x_needed }; labels = rw (t_is, band_is, y_is) refl }

-- ---- within reach

never_whole : (b : Bool) (reach i j : ℕ) → IsWithinReach (b && false) reach i j → IsWithinReach false reach i j
never_whole true reach i j h = h
never_whole false reach i j h = h

never_whole_back : (b : Bool) (reach i j : ℕ) → IsWithinReach false reach i j → IsWithinReach (b && false) reach i j
never_whole_back true reach i j h = h
never_whole_back false reach i j h = h

whole_if : (b : Bool) (reach i j : ℕ) → IsWithinReach (b && true) reach i j → IsWithinReach b reach i j
whole_if true reach i j h = h
whole_if false reach i j h = h

whole_if_back : (b : Bool) (reach i j : ℕ) → IsWithinReach b reach i j → IsWithinReach (b && true) reach i j
whole_if_back true reach i j h = h
whole_if_back false reach i j h = h

module _ (kernel : KernelValues) (factor : Fraction) (border : Border) (replace : Fraction) (d : Dimensions) (p q : Position) where
  pub reach_each : Needs (convolve kernel factor border replace) (d ∷ []) 0 p q → NeedsEach (IsReached false 0 (extent d.t)) (IsReached false 0 (extent d.bands)) (IsReached (is_wrap border) (radius_of kernel.height) (extent d.y)) (IsReached (is_wrap border) (radius_of kernel.width) (extent d.x)) p q
  reach_each h =
      let on = h.is_position in
      record {
        t_needed = record { on_side = on.t; within = never_whole (is_wrap border) 0 p.t q.t h.t };
        bands_needed = record { on_side = on.band; within = never_whole (is_wrap border) 0 p.band q.band h.bands };
        y_needed = record { on_side = on.y; within = whole_if (is_wrap border) (radius_of kernel.height) p.y q.y h.y };
        x_needed = record { on_side = on.x; within = whole_if (is_wrap border) (radius_of kernel.width) p.x q.x h.x };
      }

  pub reach_all : NeedsEach (IsReached false 0 (extent d.t)) (IsReached false 0 (extent d.bands)) (IsReached (is_wrap border) (radius_of kernel.height) (extent d.y)) (IsReached (is_wrap border) (radius_of kernel.width) (extent d.x)) p q → Needs (convolve kernel factor border replace) (d ∷ []) 0 p q
  reach_all h = record {
    is_position = record { t = h.t_needed.on_side; band = h.bands_needed.on_side; y = h.y_needed.on_side; x = h.x_needed.on_side };
    t = never_whole_back (is_wrap border) 0 p.t q.t h.t_needed.within;
    bands = never_whole_back (is_wrap border) 0 p.band q.band h.bands_needed.within;
    y = whole_if_back (is_wrap border) (radius_of kernel.height) p.y q.y h.y_needed.within;
    x = whole_if_back (is_wrap border) (radius_of kernel.width) p.x q.x h.x_needed.within;
  }

-- ---- windows that lie within

pub spans_within : (d : Dimensions) (window : Window) → Holds (whole_window d) window → ¬ IsEmpty window → AreWithin window (whole_window d)
spans_within d window holds some = within_from_holds window (whole_window d) (filled_unless_empty window some) holds

pub spans_some : (window : Window) → ¬ IsEmpty window → IsFilled window
spans_some window some = filled_unless_empty window some

-- a plane of a window lies where the window lies
pub plane_holds : (outer window : Window) (t band : ℕ) → Holds outer window → IsAlong window.t t → IsAlong window.bands band → Holds outer (plane_window window t band)
plane_holds outer window t band holds t_in band_in p h =
    let at_t = h.t in
    let at_band = h.bands in
    let a = at_t.begun in
    let b = at_t.before in
    let c = at_band.begun in
    let d = at_band.before in
    let e = t_in.begun in
    let f = t_in.before in
    let g = band_in.begun in
    let i = band_in.before in
    holds p (record { t = record { begun = omega arith; before = omega arith }; bands = record { begun = omega arith; before = omega arith }; y = h.y; x = h.x })

pub not_both : (b : Bool) → b ≡ true → b ≡ false → ⊥
not_both b h k = cc
