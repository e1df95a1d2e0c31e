-- A window cut in two: its positions are those of the first half, and then those of the second.
use Rattle.std.proofs.Common.{◌≡◌, ℕ, ◌+◌, ◌<◌, ◌≤◌, List, [], ◌∷◌, ◌++◌, map, refl, sym, ap, ◌∙◌, subst, arith, append_assoc, inl, inr, ◌⊎◌}
use Rattle.std.specs.List.{flat_map, range_with_len}
use Rattle.std.proofs.lemmas.Bool.{cases_lt}
use Rattle.std.proofs.lemmas.List.{append-nil, map-append}
use Rattle.oe_dims.specs.Positions.{Position}
use Rattle.oe_mosaic.specs.Places.{AreHalves, AreHalvesOfSpan}
use Rattle.oe_window.specs.Windows.{IsAlong, IsEmpty, positions, span_indices, span_length}
use Rattle.oe_window.specs.declared.window.Span.{Span}
use Rattle.oe_window.specs.declared.window.Window.{Window}
use Rattle.oe_window.proofs.RunLemmas.{range-append}
use Rattle.oe_window.proofs.WindowLemmas.{filled_unless_empty, not_empty}

flat_map-append : {A B : Type 0} (f : A → List B) (xs ys : List A) → flat_map f (xs ++ ys) ≡ flat_map f xs ++ flat_map f ys
flat_map-append f [] ys = refl
flat_map-append f (x ∷ xs) ys =
    ap (λ zs. f x ++ zs) (flat_map-append f xs ys) ∙ sym (append_assoc (f x) (flat_map f xs) (flat_map f ys))

cut_indices : (span front back : Span) → AreHalvesOfSpan span front back → span_indices span ≡ span_indices front ++ span_indices back
cut_indices span front back h =
    let long : span_length span ≡ span_length front + span_length back = omega (arith, h.begin, h.cut, h.end, h.front_filled, h.back_filled) in
    let begin : back.from ≡ front.from + span_length front = omega (arith, h.cut, h.front_filled) in
    ap (range_with_len span.from) long
    ∙ ap (λ a. range_with_len a (span_length front + span_length back)) (sym h.begin)
    ∙ range-append front.from (span_length front) (span_length back)
    ∙ ap (λ a. range_with_len front.from (span_length front) ++ range_with_len a (span_length back)) (sym begin)

-- one index alone
one_index : (span : Span) → span.from < span.to → span_length span ≤ 1 → span_indices span ≡ span.from ∷ []
one_index span some few =
    let one : span_length span ≡ 1 = omega (arith, some, few) in
    ap (range_with_len span.from) one

of_one : {B : Type 0} (f : ℕ → List B) (span : Span) → span.from < span.to → span_length span ≤ 1 → flat_map f (span_indices span) ≡ f span.from
of_one f span some few = ap (flat_map f) (one_index span some few) ∙ append-nil (f span.from)

row_at : ℕ → ℕ → ℕ → Span → List Position
row_at t b y x = map (λ i. record { t = t; band = b; y = y; x = i }) (span_indices x)

plane_at : ℕ → ℕ → Span → Span → List Position
plane_at t b y x = flat_map (λ i. row_at t b i x) (span_indices y)

volume_at : ℕ → Span → Span → Span → List Position
volume_at t b y x = flat_map (λ i. plane_at t i y x) (span_indices b)

all_at : Span → Span → Span → Span → List Position
all_at t b y x = flat_map (λ i. volume_at i b y x) (span_indices t)

positions_are : (w : Window) → positions w ≡ all_at w.t w.bands w.y w.x
unfolding all_at volume_at plane_at row_at
positions_are w = refl

cut_t : (t front back b y x : Span) → AreHalvesOfSpan t front back → all_at t b y x ≡ all_at front b y x ++ all_at back b y x
unfolding all_at
cut_t t front back b y x h =
    ap (flat_map (λ i. volume_at i b y x)) (cut_indices t front back h) ∙ flat_map-append (λ i. volume_at i b y x) (span_indices front) (span_indices back)

cut_b : (t b front back y x : Span) → t.from < t.to → span_length t ≤ 1 → AreHalvesOfSpan b front back → all_at t b y x ≡ all_at t front y x ++ all_at t back y x
unfolding all_at volume_at
cut_b t b front back y x some few h =
    let one : (bands : Span) → all_at t bands y x ≡ volume_at t.from bands y x = λ bands. of_one (λ i. volume_at i bands y x) t some few in
    let cut : volume_at t.from b y x ≡ volume_at t.from front y x ++ volume_at t.from back y x =
    ap (flat_map (λ i. plane_at t.from i y x)) (cut_indices b front back h) ∙ flat_map-append (λ i. plane_at t.from i y x) (span_indices front) (span_indices back) in
    one b ∙ cut ∙ ap (λ l. l ++ volume_at t.from back y x) (sym (one front)) ∙ ap (λ l. all_at t front y x ++ l) (sym (one back))

cut_y : (t b y front back x : Span) → t.from < t.to → span_length t ≤ 1 → b.from < b.to → span_length b ≤ 1 → AreHalvesOfSpan y front back
    → all_at t b y x ≡ all_at t b front x ++ all_at t b back x
unfolding all_at volume_at plane_at
cut_y t b y front back x some few some_b few_b h =
    let one : (rows : Span) → all_at t b rows x ≡ plane_at t.from b.from rows x =
    λ rows. of_one (λ i. volume_at i b rows x) t some few ∙ of_one (λ i. plane_at t.from i rows x) b some_b few_b in
    let cut : plane_at t.from b.from y x ≡ plane_at t.from b.from front x ++ plane_at t.from b.from back x =
    ap (flat_map (λ i. row_at t.from b.from i x)) (cut_indices y front back h) ∙ flat_map-append (λ i. row_at t.from b.from i x) (span_indices front) (span_indices back) in
    one y ∙ cut ∙ ap (λ l. l ++ plane_at t.from b.from back x) (sym (one front)) ∙ ap (λ l. all_at t b front x ++ l) (sym (one back))

cut_x : (t b y x front back : Span) → t.from < t.to → span_length t ≤ 1 → b.from < b.to → span_length b ≤ 1 → y.from < y.to → span_length y ≤ 1
    → AreHalvesOfSpan x front back → all_at t b y x ≡ all_at t b y front ++ all_at t b y back
unfolding all_at volume_at plane_at row_at
cut_x t b y x front back some few some_b few_b some_y few_y h =
    let make : ℕ → Position = λ i. record { t = t.from; band = b.from; y = y.from; x = i } in
    let one : (columns : Span) → all_at t b y columns ≡ row_at t.from b.from y.from columns =
    λ columns. of_one (λ i. volume_at i b y columns) t some few ∙ of_one (λ i. plane_at t.from i y columns) b some_b few_b
    ∙ of_one (λ i. row_at t.from b.from i columns) y some_y few_y in
    let cut : row_at t.from b.from y.from x ≡ row_at t.from b.from y.from front ++ row_at t.from b.from y.from back =
    ap (map make) (cut_indices x front back h) ∙ map-append make (span_indices front) (span_indices back) in
    one x ∙ cut ∙ ap (λ l. l ++ row_at t.from b.from y.from back) (sym (one front)) ∙ ap (λ l. all_at t b y front ++ l) (sym (one back))

front_along : (span front back : Span) → AreHalvesOfSpan span front back → (i : ℕ) → IsAlong front i → IsAlong span i
front_along span front back h i in_ = record { begun = omega (arith, h.begin, in_.begun); before = omega (arith, in_.before, h.cut, h.end, h.back_filled) }

back_along : (span front back : Span) → AreHalvesOfSpan span front back → (i : ℕ) → IsAlong back i → IsAlong span i
back_along span front back h i in_ = record { begun = omega (arith, h.begin, h.cut, h.front_filled, in_.begun); before = omega (arith, in_.before, h.end) }

either_along : (span front back : Span) → AreHalvesOfSpan span front back → (i : ℕ) → IsAlong span i → IsAlong front i ⊎ IsAlong back i
either_along span front back h i in_ = elim (cases_lt i front.to) [
  | inl below ↦ inl (record { begun = omega (arith, h.begin, in_.begun); before = below })
  | inr above ↦ inr (record { begun = omega (arith, h.cut, above); before = omega (arith, h.end, in_.before) })
]

pub halves_t : (w : Window) (front back : Span) → ¬ IsEmpty w → AreHalvesOfSpan w.t front back → AreHalves w (record w { t = front }) (record w { t = back })
halves_t w front back some h =
    let filled = filled_unless_empty w some in
    record {
      listed = positions_are w ∙ cut_t w.t front back w.bands w.y w.x h
          ∙ ap (λ l. l ++ all_at back w.bands w.y w.x) (sym (positions_are (record w { t = front })))
          ∙ ap (λ l. positions (record w { t = front }) ++ l) (sym (positions_are (record w { t = back })));
      covered = λ p in_. elim (either_along w.t front back h p.t in_.t) [
        | inl early ↦ inl (record { t = early; bands = in_.bands; y = in_.y; x = in_.x })
        | inr late ↦ inr (record { t = late; bands = in_.bands; y = in_.y; x = in_.x })
      ];
      front_within = λ p in_. record { t = front_along w.t front back h p.t in_.t; bands = in_.bands; y = in_.y; x = in_.x };
      back_within = λ p in_. record { t = back_along w.t front back h p.t in_.t; bands = in_.bands; y = in_.y; x = in_.x };
      front_filled = not_empty (record w { t = front }) (record { t = h.front_filled; bands = filled.bands; y = filled.y; x = filled.x });
      back_filled = not_empty (record w { t = back }) (record { t = h.back_filled; bands = filled.bands; y = filled.y; x = filled.x });
      front_less = omega (arith, h.begin, h.cut, h.end, h.front_filled, h.back_filled);
      back_less = omega (arith, h.begin, h.cut, h.end, h.front_filled, h.back_filled);
    }

pub halves_b : (w : Window) (front back : Span) → ¬ IsEmpty w → span_length w.t ≤ 1 → AreHalvesOfSpan w.bands front back → AreHalves w (record w { bands = front }) (record w { bands = back })
halves_b w front back some few h =
    let filled = filled_unless_empty w some in
    record {
      listed = positions_are w ∙ cut_b w.t w.bands front back w.y w.x filled.t few h
          ∙ ap (λ l. l ++ all_at w.t back w.y w.x) (sym (positions_are (record w { bands = front })))
          ∙ ap (λ l. positions (record w { bands = front }) ++ l) (sym (positions_are (record w { bands = back })));
      covered = λ p in_. elim (either_along w.bands front back h p.band in_.bands) [
        | inl early ↦ inl (record { t = in_.t; bands = early; y = in_.y; x = in_.x })
        | inr late ↦ inr (record { t = in_.t; bands = late; y = in_.y; x = in_.x })
      ];
      front_within = λ p in_. record { t = in_.t; bands = front_along w.bands front back h p.band in_.bands; y = in_.y; x = in_.x };
      back_within = λ p in_. record { t = in_.t; bands = back_along w.bands front back h p.band in_.bands; y = in_.y; x = in_.x };
      front_filled = not_empty (record w { bands = front }) (record { t = filled.t; bands = h.front_filled; y = filled.y; x = filled.x });
      back_filled = not_empty (record w { bands = back }) (record { t = filled.t; bands = h.back_filled; y = filled.y; x = filled.x });
      front_less = omega (arith, h.begin, h.cut, h.end, h.front_filled, h.back_filled);
      back_less = omega (arith, h.begin, h.cut, h.end, h.front_filled, h.back_filled);
    }

pub halves_y : (w : Window) (front back : Span) → ¬ IsEmpty w → span_length w.t ≤ 1 → span_length w.bands ≤ 1 → AreHalvesOfSpan w.y front back → AreHalves w (record w { y = front }) (record w { y = back })
halves_y w front back some few few_b h =
    let filled = filled_unless_empty w some in
    record {
      listed = positions_are w ∙ cut_y w.t w.bands w.y front back w.x filled.t few filled.bands few_b h
          ∙ ap (λ l. l ++ all_at w.t w.bands back w.x) (sym (positions_are (record w { y = front })))
          ∙ ap (λ l. positions (record w { y = front }) ++ l) (sym (positions_are (record w { y = back })));
      covered = λ p in_. elim (either_along w.y front back h p.y in_.y) [
        | inl early ↦ inl (record { t = in_.t; bands = in_.bands; y = early; x = in_.x })
        | inr late ↦ inr (record { t = in_.t; bands = in_.bands; y = late; x = in_.x })
      ];
      front_within = λ p in_. record { t = in_.t; bands = in_.bands; y = front_along w.y front back h p.y in_.y; x = in_.x };
      back_within = λ p in_. record { t = in_.t; bands = in_.bands; y = back_along w.y front back h p.y in_.y; x = in_.x };
      front_filled = not_empty (record w { y = front }) (record { t = filled.t; bands = filled.bands; y = h.front_filled; x = filled.x });
      back_filled = not_empty (record w { y = back }) (record { t = filled.t; bands = filled.bands; y = h.back_filled; x = filled.x });
      front_less = omega (arith, h.begin, h.cut, h.end, h.front_filled, h.back_filled);
      back_less = omega (arith, h.begin, h.cut, h.end, h.front_filled, h.back_filled);
    }

pub halves_x : (w : Window) (front back : Span) → ¬ IsEmpty w → span_length w.t ≤ 1 → span_length w.bands ≤ 1 → span_length w.y ≤ 1 → AreHalvesOfSpan w.x front back → AreHalves w (record w { x = front }) (record w { x = back })
halves_x w front back some few few_b few_y h =
    let filled = filled_unless_empty w some in
    record {
      listed = positions_are w ∙ cut_x w.t w.bands w.y w.x front back filled.t few filled.bands few_b filled.y few_y h
          ∙ ap (λ l. l ++ all_at w.t w.bands w.y back) (sym (positions_are (record w { x = front })))
          ∙ ap (λ l. positions (record w { x = front }) ++ l) (sym (positions_are (record w { x = back })));
      covered = λ p in_. elim (either_along w.x front back h p.x in_.x) [
        | inl early ↦ inl (record { t = in_.t; bands = in_.bands; y = in_.y; x = early })
        | inr late ↦ inr (record { t = in_.t; bands = in_.bands; y = in_.y; x = late })
      ];
      front_within = λ p in_. record { t = in_.t; bands = in_.bands; y = in_.y; x = front_along w.x front back h p.x in_.x };
      back_within = λ p in_. record { t = in_.t; bands = in_.bands; y = in_.y; x = back_along w.x front back h p.x in_.x };
      front_filled = not_empty (record w { x = front }) (record { t = filled.t; bands = filled.bands; y = filled.y; x = h.front_filled });
      back_filled = not_empty (record w { x = back }) (record { t = filled.t; bands = filled.bands; y = filled.y; x = h.back_filled });
      front_less = omega (arith, h.begin, h.cut, h.end, h.front_filled, h.back_filled);
      back_less = omega (arith, h.begin, h.cut, h.end, h.front_filled, h.back_filled);
    }

-- the same of windows that are known by equations
pub cut_t_is : (w front_window back_window : Window) (front back : Span) → ¬ IsEmpty w → AreHalvesOfSpan w.t front back → front_window ≡ record w { t = front } → back_window ≡ record w { t = back }
    → AreHalves w front_window back_window
cut_t_is w f b front back some h is_front is_back =
    subst (λ (v : Window). AreHalves w v b) (sym is_front) (subst (AreHalves w (record w { t = front })) (sym is_back) (halves_t w front back some h))

pub cut_b_is : (w front_window back_window : Window) (front back : Span) → ¬ IsEmpty w → span_length w.t ≤ 1 → AreHalvesOfSpan w.bands front back → front_window ≡ record w { bands = front } → back_window ≡ record w { bands = back }
    → AreHalves w front_window back_window
cut_b_is w f b front back some few h is_front is_back =
    subst (λ (v : Window). AreHalves w v b) (sym is_front) (subst (AreHalves w (record w { bands = front })) (sym is_back) (halves_b w front back some few h))

pub cut_y_is : (w front_window back_window : Window) (front back : Span) → ¬ IsEmpty w → span_length w.t ≤ 1 → span_length w.bands ≤ 1 → AreHalvesOfSpan w.y front back → front_window ≡ record w { y = front } → back_window ≡ record w { y = back }
    → AreHalves w front_window back_window
cut_y_is w f b front back some few few_b h is_front is_back =
    subst (λ (v : Window). AreHalves w v b) (sym is_front) (subst (AreHalves w (record w { y = front })) (sym is_back) (halves_y w front back some few few_b h))

pub cut_x_is : (w front_window back_window : Window) (front back : Span) → ¬ IsEmpty w → span_length w.t ≤ 1 → span_length w.bands ≤ 1 → span_length w.y ≤ 1 → AreHalvesOfSpan w.x front back → front_window ≡ record w { x = front } → back_window ≡ record w { x = back }
    → AreHalves w front_window back_window
cut_x_is w f b front back some few few_b few_y h is_front is_back =
    subst (λ (v : Window). AreHalves w v b) (sym is_front) (subst (AreHalves w (record w { x = front })) (sym is_back) (halves_x w front back some few few_b few_y h))
