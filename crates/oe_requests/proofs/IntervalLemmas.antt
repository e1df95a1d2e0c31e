-- Intervals, one after the other.
use Rattle.std.proofs.Common.{◌≡◌, ◌≢◌, ℕ, ℤ, suc, ◌+◌, ◌<◌, ◌≤◌, List, [], ◌∷◌, ◌++◌, length, drop, get_or, Option, Some, None, option_map, refl, sym, ap, ◌∙◌, append_assoc}
use Rattle.std.proofs.lemmas.List.{at_drop_more, at_drop_all}
use Rattle.oe_expr.specs.Requests.{with_both}
use Rattle.oe_requests.specs.Parameters.{labelled_interval, by_starts, by_labels}
use Rattle.oe_requests.specs.declared.extent.Interval.{Interval}
use Rattle.oe_requests.specs.declared.extent.TemporalExtent.{TemporalExtent}

abbrev behind : List Interval → Option (List Interval) → Option (List Interval)
behind before rest = option_map (λ xs. before ++ xs) rest

none_before : (o : Option (List Interval)) → behind [] o ≡ o
none_before None = refl
none_before (Some xs) = refl

append_none : (xs : List Interval) → xs ++ [] ≡ xs
append_none [] = refl
append_none (x ∷ xs) = ap (λ (rest : List Interval). x ∷ rest) (append_none xs)

-- ---- by their starts

abbrev pub starts_from : List Interval → List TemporalExtent → ℕ → Option (List Interval)
starts_from before extents i = behind before (by_starts (drop i extents))

pub starts_first : (extents : List TemporalExtent) → starts_from [] extents 0 ≡ by_starts extents
starts_first extents = none_before (by_starts extents)

one_start : (before : List Interval) (extents : List TemporalExtent) (i : ℕ) (e : TemporalExtent) → i < length extents → e ≡ get_or extents i e
    → starts_from before extents i
    ≡ behind before (with_both (λ start intervals. labelled_interval e start ∷ intervals) e.start (by_starts (drop (i + 1) extents)))
one_start before extents i e below is =
    at_drop_more (λ xs. behind before (by_starts xs)) extents i e below
    ∙ ap (λ (x : TemporalExtent). behind before (with_both (λ start intervals. labelled_interval x start ∷ intervals) x.start (by_starts (drop (i + 1) extents)))) (sym is)

start_by : (before : List Interval) (e : TemporalExtent) (label : ℤ) (rest : Option (List Interval))
    → behind before (with_both (λ start intervals. labelled_interval e start ∷ intervals) (Some label) rest) ≡ behind (before ++ labelled_interval e label ∷ []) rest
start_by before e label None = refl
start_by before e label (Some xs) = ap Some (sym (append_assoc before (labelled_interval e label ∷ []) xs))

pub starts_next : (before : List Interval) (extents : List TemporalExtent) (i : ℕ) (e : TemporalExtent) (label : ℤ) → i < length extents → e ≡ get_or extents i e
    → e.start ≡ Some label → starts_from before extents i ≡ starts_from (before ++ labelled_interval e label ∷ []) extents (i + 1)
starts_next before extents i e label below is found =
    one_start before extents i e below is
    ∙ (ap (λ o. behind before (with_both (λ start intervals. labelled_interval e start ∷ intervals) o (by_starts (drop (i + 1) extents)))) found
    ∙ start_by before e label (by_starts (drop (i + 1) extents)))

pub starts_stop : (before : List Interval) (extents : List TemporalExtent) (i : ℕ) (e : TemporalExtent) → i < length extents → e ≡ get_or extents i e
    → e.start ≡ None → starts_from before extents i ≡ None
starts_stop before extents i e below is none =
    one_start before extents i e below is
    ∙ ap (λ o. behind before (with_both (λ start intervals. labelled_interval e start ∷ intervals) o (by_starts (drop (i + 1) extents)))) none

pub starts_end : (before : List Interval) (extents : List TemporalExtent) (i : ℕ) → length extents ≤ i → starts_from before extents i ≡ Some before
starts_end before extents i past =
    at_drop_all (λ xs. behind before (by_starts xs)) extents i past ∙ ap Some (append_none before)

-- ---- by labels

abbrev pub labels_from : List Interval → List TemporalExtent → List ℤ → ℕ → Option (List Interval)
labels_from before extents labels i = behind before (by_labels (drop i extents) (drop i labels))

pub labels_first : (extents : List TemporalExtent) (labels : List ℤ) → labels_from [] extents labels 0 ≡ by_labels extents labels
labels_first extents labels = none_before (by_labels extents labels)

label_by : (before : List Interval) (e : TemporalExtent) (label : ℤ) (rest : Option (List Interval))
    → behind before (option_map (λ intervals. labelled_interval e label ∷ intervals) rest) ≡ behind (before ++ labelled_interval e label ∷ []) rest
label_by before e label None = refl
label_by before e label (Some xs) = ap Some (sym (append_assoc before (labelled_interval e label ∷ []) xs))

pub labels_next : (before : List Interval) (extents : List TemporalExtent) (labels : List ℤ) (i : ℕ) (e : TemporalExtent) (label : ℤ)
    → i < length extents → i < length labels → e ≡ get_or extents i e → label ≡ get_or labels i label
    → labels_from before extents labels i ≡ labels_from (before ++ labelled_interval e label ∷ []) extents labels (i + 1)
labels_next before extents labels i e label below inside is same =
    at_drop_more (λ xs. behind before (by_labels xs (drop i labels))) extents i e below
    ∙ (at_drop_more (λ ls. behind before (by_labels (get_or extents i e ∷ drop (i + 1) extents) ls)) labels i label inside
    ∙ (ap (λ (x : TemporalExtent). behind before (option_map (λ intervals. labelled_interval x (get_or labels i label) ∷ intervals) (by_labels (drop (i + 1) extents) (drop (i + 1) labels)))) (sym is)
    ∙ (ap (λ (l : ℤ). behind before (option_map (λ intervals. labelled_interval e l ∷ intervals) (by_labels (drop (i + 1) extents) (drop (i + 1) labels)))) (sym same)
    ∙ label_by before e label (by_labels (drop (i + 1) extents) (drop (i + 1) labels)))))

pub labels_end : (before : List Interval) (extents : List TemporalExtent) (labels : List ℤ) (i : ℕ) → length extents ≤ i → length labels ≤ i
    → labels_from before extents labels i ≡ Some before
labels_end before extents labels i past over =
    at_drop_all (λ xs. behind before (by_labels xs (drop i labels))) extents i past
    ∙ (at_drop_all (λ ls. behind before (by_labels [] ls)) labels i over ∙ ap Some (append_none before))

pub uneven : (extents : List TemporalExtent) (labels : List ℤ) → length extents ≢ length labels → None ≡ by_labels extents labels
uneven [] [] h = absurd (h refl)
uneven [] (label ∷ labels) h = refl
uneven (e ∷ extents) [] h = refl
uneven (e ∷ extents) (label ∷ labels) h =
    ap (option_map (λ intervals. labelled_interval e label ∷ intervals)) (uneven extents labels (λ same. h (ap suc same)))
