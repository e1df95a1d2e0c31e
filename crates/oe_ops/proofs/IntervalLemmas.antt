-- Where the labels of a result rise no two intervals have one label, so that an interval with a label is the first with it.
use Rattle.std.proofs.Common.{◌≡◌, ℕ, zero, suc, Bool, true, false, ◌||◌, not, if◌then◌else◌, List, [], ◌∷◌, ℤ, refl, sym, ◌∙◌, subst, true≢false}
use Rattle.std.specs.List.{list_any, slice_get}
use Rattle.oe_dims.specs.Dimensions.{Dimensions, IsShape, number_labels, rises}
use Rattle.oe_dims.specs.Indices.{same_number}
use Rattle.oe_dims.specs.declared.kind.Kind.TheVariants.{Time}
use Rattle.oe_dims.proofs.IndexLemmas.{same_number_is, same_number_refl}
use Rattle.oe_dims.proofs.ShapeLemmas.{t_rises}
use Rattle.oe_requests.specs.Labels.{are_distinct, insert_label, is_below, sorted_labels}
use Rattle.oe_requests.specs.Operations.{shape_of_aggregation}
use Rattle.oe_meanings.specs.ValidShapes.{labels_of}
use Rattle.oe_requests.specs.declared.extent.Interval.{Interval}
use Rattle.oe_meanings.proofs.LabelLemmas.{keep_all_labels}
use Rattle.oe_meanings.proofs.OrderedLemmas.{below_is_order, first_not, left_of, ordered_differ, right_of, rises_stand, second_not, turned}
use Rattle.oe_ops.specs.Lists.{interval_labelled, is_labelled_at}

-- ---- labels differ where they differ once they are in order

apart_too : (x y : ℤ) → same_number y x ≡ false → same_number x y ≡ false
apart_too x y apart = by (same_number x y) refl
  where
    by : (b : Bool) → same_number x y ≡ b → same_number x y ≡ false
    by true is = absurd (true≢false (sym (subst (λ z. same_number z x ≡ true) (sym (same_number_is x y is)) (same_number_refl x)) ∙ apart))
    by false is = is

-- where no label passes a test with another put among them, neither that one nor any of them does
put_none : (p : ℤ → Bool) (x : ℤ) (ys : List ℤ) → list_any p (insert_label is_below x ys) ≡ false → (p x ≡ false) × (list_any p ys ≡ false)
put_none p x [] h = (first_not (p x) false h, refl)
put_none p x (y ∷ ys) h = by (is_below x y) h (put_none p x ys)
  where
    by : (b : Bool) → list_any p (if b then x ∷ y ∷ ys else y ∷ insert_label is_below x ys) ≡ false
        → (list_any p (insert_label is_below x ys) ≡ false → (p x ≡ false) × (list_any p ys ≡ false))
        → (p x ≡ false) × (list_any p (y ∷ ys) ≡ false)
    by true h rest = (first_not (p x) (list_any p (y ∷ ys)) h, second_not (p x) (list_any p (y ∷ ys)) h)
    by false h rest =
        let here : p y ≡ false = first_not (p y) (list_any p (insert_label is_below x ys)) h in
        let later = rest (second_not (p y) (list_any p (insert_label is_below x ys)) h) in
        (later.0, rw (here, later.1) refl)

put_differ : (x : ℤ) (ys : List ℤ) → are_distinct same_number (insert_label is_below x ys) ≡ true → are_distinct same_number (x ∷ ys) ≡ true
put_differ x [] h = refl
put_differ x (y ∷ ys) h = by (is_below x y) h (put_differ x ys)
  where
    by : (b : Bool) → are_distinct same_number (if b then x ∷ y ∷ ys else y ∷ insert_label is_below x ys) ≡ true
        → (are_distinct same_number (insert_label is_below x ys) ≡ true → are_distinct same_number (x ∷ ys) ≡ true)
        → are_distinct same_number (x ∷ y ∷ ys) ≡ true
    by true h rest = h
    by false h rest =
        let put = insert_label is_below x ys in
        let later = rest (right_of (not (list_any (same_number y) put)) (are_distinct same_number put) h) in
        let none = put_none (same_number y) x ys (turned (list_any (same_number y) put) (left_of (not (list_any (same_number y) put)) (are_distinct same_number put) h)) in
        let fresh : list_any (same_number x) ys ≡ false = turned (list_any (same_number x) ys) (left_of (not (list_any (same_number x) ys)) (are_distinct same_number ys) later) in
        let differ : are_distinct same_number ys ≡ true = right_of (not (list_any (same_number x) ys)) (are_distinct same_number ys) later in
        rw (apart_too x y none.0, fresh, none.1, differ) refl

order_differ : (labels : List ℤ) → are_distinct same_number (sorted_labels is_below labels) ≡ true → are_distinct same_number labels ≡ true
order_differ [] h = refl
order_differ (l ∷ labels) h =
    let sorted = sorted_labels is_below labels in
    let put = put_differ l sorted h in
    let fresh : list_any (same_number l) sorted ≡ false = turned (list_any (same_number l) sorted) (left_of (not (list_any (same_number l) sorted)) (are_distinct same_number sorted) put) in
    let none : list_any (same_number l) labels ≡ false = sym (keep_all_labels.sorted_labels is_below labels l) ∙ fresh in
    let rest = order_differ labels (right_of (not (list_any (same_number l) sorted)) (are_distinct same_number sorted) put) in
    rw (none, rest) refl

-- no two intervals of a valid result have one label
pub intervals_differ : (intervals : List Interval) (d shape : Dimensions) → shape ≡ shape_of_aggregation intervals d → IsShape shape → are_distinct same_number (labels_of intervals) ≡ true
intervals_differ intervals d shape is valid =
    let up : rises (sorted_labels is_below (labels_of intervals)) ≡ true = subst (λ (s : Dimensions). rises (number_labels s Time) ≡ true) is (t_rises shape valid) in
    order_differ (labels_of intervals) (ordered_differ is_below below_is_order (sorted_labels is_below (labels_of intervals)) (rises_stand (sorted_labels is_below (labels_of intervals)) up))

-- ---- the interval of a label

labelled_among : (intervals : List Interval) (label : ℤ) (n : ℕ) → is_labelled_at intervals n label ≡ true → list_any (same_number label) (labels_of intervals) ≡ true
labelled_among [] label n h = absurd (true≢false (sym h))
labelled_among (i ∷ intervals) label zero h =
    let here : same_number label i.label ≡ true = subst (λ l. same_number l i.label ≡ true) (sym (same_number_is i.label label h)) (same_number_refl i.label) in
    rw here refl
labelled_among (i ∷ intervals) label (suc n) h = or_right (same_number label i.label) (list_any (same_number label) (labels_of intervals)) (labelled_among intervals label n h)
  where
    or_right : (a b : Bool) → b ≡ true → (a || b) ≡ true
    or_right true b h = refl
    or_right false b h = h

-- where no two have one label, one that has it is the first
pub labelled_first : (intervals : List Interval) (label : ℤ) (n : ℕ) → are_distinct same_number (labels_of intervals) ≡ true → is_labelled_at intervals n label ≡ true → slice_get intervals n ≡ interval_labelled intervals label
labelled_first [] label n differ h = absurd (true≢false (sym h))
labelled_first (i ∷ intervals) label zero differ h = rw h refl
labelled_first (i ∷ intervals) label (suc n) differ h = by (same_number i.label label) refl (labelled_first intervals label n (right_of (not (list_any (same_number i.label) (labels_of intervals))) (are_distinct same_number (labels_of intervals)) differ) h)
  where
    fresh : list_any (same_number i.label) (labels_of intervals) ≡ false
    fresh = turned (list_any (same_number i.label) (labels_of intervals)) (left_of (not (list_any (same_number i.label) (labels_of intervals))) (are_distinct same_number (labels_of intervals)) differ)

    by : (b : Bool) → same_number i.label label ≡ b → slice_get intervals n ≡ interval_labelled intervals label → slice_get intervals n ≡ interval_labelled (i ∷ intervals) label
    by true is rest =
        let same : label ≡ i.label = same_number_is i.label label is in
        absurd (true≢false (sym (subst (λ l. list_any (same_number l) (labels_of intervals) ≡ true) same (labelled_among intervals label n h)) ∙ fresh))
    by false is rest = rw is rest
