-- The labels of a mosaic are all labels of its parts.
use Rattle.std.proofs.Common.{◌≡◌, ◌↔◌, ℕ, zero, suc, ◌<◌, ◌⊎◌, inl, inr, ◌||◌, Bool, true, false, List, [], ◌∷◌, ◌++◌, append_assoc, length, map, slice_get, slice_index_or, is_some, unwrap_or, Option, Some, None, IfSome, ℤ, ◌<ℤ◌, refl, sym, ap, ◌∙◌, subst, arith}
use Rattle.std.specs.Prelude.{⊤}
use Rattle.std.specs.List.{Contains, list_any}
use Rattle.std.specs.Option.{option_map}
use Rattle.std.specs.Int.Signed.{lt_z}
use Rattle.std.proofs.lemmas.Bool.{cases_Bool, false≢true, or_parts}
use Rattle.std.proofs.lemmas.Int.{ints}
use Rattle.std.proofs.lemmas.List.{append-nil}
use Rattle.std.proofs.lemmas.Option.{same_Some}
use Rattle.oe_dims.specs.Dimensions.{Dimensions, IsShape, band_names, label_count, number_labels, numbers_along}
use Rattle.oe_dims.specs.Names.{same_name}
use Rattle.oe_dims.specs.Rules.{IsInOrder, IsWithoutTwice, KeepsRule}
use Rattle.oe_dims.specs.declared.kind.Kind.{Kind}
use Rattle.oe_dims.specs.declared.kind.Kind.TheVariants.{Time, Bands, Y, X}
use Rattle.oe_dims.specs.declared.shape.ShapeFault.TheVariants.{OrderWrong}
use Rattle.oe_dims.proofs.IndexLemmas.{from_lt}
use Rattle.oe_dims.proofs.OrderLemmas.{same_name_is, same_name_refl}
use Rattle.oe_dims.proofs.RuleLemmas.{KeepsEveryRule-IsShape}
use Rattle.oe_mosaic.specs.Labels.{bands_with, join_bands, join_labels, labels_with, merge_labels, new_names, stands_before}
use Rattle.oe_mosaic.specs.MosaicLaws.{BeginWith, MosaicsHaveAllLabels, SomePartHasBand, SomePartHasLabel, some_part_has}
use Rattle.oe_mosaic.specs.Mosaics.{Part, bands_of_parts, labels_of_parts, mosaic_shape}
use Rattle.oe_mosaic.proofs.LabelLemmas.{takes_both, takes_first, takes_second}

-- ---- an element of a list, by cases on the list

abbrev pub Has : {L : Type 0} → List L → L → Type 0
Has [] x = ⊥
Has (a ∷ items) x = (a ≡ x) ⊎ Has items x

pub has_at : {L : Type 0} (items : List L) (k : ℕ) (x : L) → slice_get items k ≡ Some x → Has items x
has_at [] k x e = cc
has_at (a ∷ items) zero x e = inl (same_Some a x e)
has_at (a ∷ items) (suc k) x e = inr (has_at items k x e)

pub at_has : {L : Type 0} (items : List L) (x : L) → Has items x → (k : ℕ) × (slice_get items k ≡ Some x)
at_has [] x h = absurd h
at_has (a ∷ items) x (inl e) = (0, ap Some e)
at_has (a ∷ items) x (inr h) = let rest = at_has items x h in (suc rest.0, rest.1)

has_index : {L : Type 0} (items : List L) (x : L) (k : ℕ) → k < length items → slice_index_or items k x ≡ x → Has items x
has_index [] x k lt e = absurd (omega arith)
has_index (a ∷ items) x zero lt e = inl e
has_index (a ∷ items) x (suc k) lt e = inr (has_index items x k (omega arith) e)

pub has : {L : Type 0} (items : List L) (x : L) → Contains items x → Has items x
has items x c = has_index items x c.0 c.1 c.2

pub contains : {L : Type 0} (items : List L) (x : L) → Has items x → Contains items x
contains [] x h = absurd h
contains (a ∷ items) x (inl e) = (0, omega arith, e)
contains (a ∷ items) x (inr h) = let rest = contains items x h in (suc rest.0, omega (arith, rest.1), rest.2)

-- ---- what stands before

before_later : (kind : Kind) (a b c : ℤ) → stands_before kind a b ≡ true → stands_before kind b c ≡ true → stands_before kind a c ≡ true
before_later Time a b c h k = grind (arith, ints)
before_later Bands a b c h k = grind (arith, ints)
before_later Y a b c h k = grind (arith, ints)
before_later X a b c h k = grind (arith, ints)

neither_before : (kind : Kind) (a b : ℤ) → stands_before kind a b ≡ false → stands_before kind b a ≡ false → a ≡ b
neither_before Time a b h k = grind (arith, ints)
neither_before Bands a b h k = grind (arith, ints)
neither_before Y a b h k = grind (arith, ints)
neither_before X a b h k = grind (arith, ints)

-- ---- in order, by cases on the list

abbrev pub IsFirst : Kind → ℤ → List ℤ → Type 0
IsFirst kind a labels = (x : ℤ) → Has labels x → stands_before kind a x ≡ true

abbrev pub Ordered : Kind → List ℤ → Type 0
Ordered kind [] = ⊤
Ordered kind (a ∷ labels) = IsFirst kind a labels × Ordered kind labels

abbrev pub Later : Kind → List ℤ → Type 0
Later kind labels = (i j : ℕ) (a b : ℤ) → i < j → slice_get labels i ≡ Some a → slice_get labels j ≡ Some b → stands_before kind a b ≡ true

is_less : (a b : ℤ) → lt_z a b ≡ true → a <ℤ b
is_less a b h = grind (arith, ints)

pub later : (kind : Kind) (labels : List ℤ) → IsInOrder kind labels → Later kind labels
later Time labels h i j a b lt ea eb = from_lt a b (h i j a b lt ea eb)
later Bands labels h i j a b lt ea eb = from_lt a b (h i j a b lt ea eb)
later Y labels h i j a b lt ea eb = from_lt b a (h i j a b lt ea eb)
later X labels h i j a b lt ea eb = from_lt a b (h i j a b lt ea eb)

in_order : (kind : Kind) (labels : List ℤ) → Later kind labels → IsInOrder kind labels
in_order Time labels h = λ i j a b lt ea eb. is_less a b (h i j a b lt ea eb)
in_order Bands labels h = λ i j a b lt ea eb. is_less a b (h i j a b lt ea eb)
in_order Y labels h = λ i j a b lt ea eb. is_less b a (h i j a b lt ea eb)
in_order X labels h = λ i j a b lt ea eb. is_less a b (h i j a b lt ea eb)

pub ordered_later : (kind : Kind) (labels : List ℤ) → Later kind labels → Ordered kind labels
ordered_later kind [] h = tt
ordered_later kind (a ∷ labels) h = (
  (λ x in_. let at = at_has labels x in_ in h 0 (suc at.0) a x (omega arith) refl at.1),
  ordered_later kind labels (λ i j c e lt ec ee. h (suc i) (suc j) c e (omega arith) ec ee),
)

later_ordered : (kind : Kind) (labels : List ℤ) → Ordered kind labels → Later kind labels
later_ordered kind [] p i j a b lt ea eb = cc
later_ordered kind (c ∷ labels) p i zero a b lt ea eb = absurd (omega arith)
later_ordered kind (c ∷ labels) p zero (suc j) a b lt ea eb =
    subst (λ v. stands_before kind v b ≡ true) (same_Some c a ea) (p.0 b (has_at labels j b eb))
later_ordered kind (c ∷ labels) p (suc i) (suc j) a b lt ea eb = later_ordered kind labels p.1 i j a b (omega arith) ea eb

-- ---- two lists merged

abbrev Either : {L : Type 0} → List L → List L → L → Type 0
Either one two x = Has one x ⊎ Has two x

-- an element before the rest, where the rest has those of two lists
from_first : {L : Type 0} (a : L) (rest one two : List L) (x : L) → (Has rest x → Either one two x) → Has (a ∷ rest) x → Either (a ∷ one) two x
from_first a rest one two x tail (inl e) = inl (inl e)
from_first a rest one two x tail (inr h) = elim (tail h) [ inl p ↦ inl (inr p) | inr q ↦ inr q ]

from_second : {L : Type 0} (b : L) (rest one two : List L) (x : L) → (Has rest x → Either one two x) → Has (b ∷ rest) x → Either one (b ∷ two) x
from_second b rest one two x tail (inl e) = inr (inl e)
from_second b rest one two x tail (inr h) = elim (tail h) [ inl p ↦ inl p | inr q ↦ inr (inr q) ]

to_first : {L : Type 0} (a : L) (rest one two : List L) (x : L) → (Either one two x → Has rest x) → Either (a ∷ one) two x → Has (a ∷ rest) x
to_first a rest one two x tail (inl (inl e)) = inl e
to_first a rest one two x tail (inl (inr p)) = inr (tail (inl p))
to_first a rest one two x tail (inr q) = inr (tail (inr q))

to_second : {L : Type 0} (b : L) (rest one two : List L) (x : L) → (Either one two x → Has rest x) → Either one (b ∷ two) x → Has (b ∷ rest) x
to_second b rest one two x tail (inl p) = inr (tail (inl p))
to_second b rest one two x tail (inr (inl e)) = inl e
to_second b rest one two x tail (inr (inr q)) = inr (tail (inr q))

-- the same element before both
behind_both : {L : Type 0} (a b : L) (one two : List L) (x : L) → a ≡ b → Either (a ∷ one) (b ∷ two) x → Either (a ∷ one) two x
behind_both a b one two x same (inl p) = inl p
behind_both a b one two x same (inr (inl e)) = inl (inl (same ∙ e))
behind_both a b one two x same (inr (inr q)) = inr q

more_behind : {L : Type 0} (b : L) (one two : List L) (x : L) → Either one two x → Either one (b ∷ two) x
more_behind b one two x (inl p) = inl p
more_behind b one two x (inr q) = inr (inr q)

in_merge : (kind : Kind) (one two : List ℤ) (x : ℤ) → Has (merge_labels kind one two) x → Either one two x
in_merge kind [] two x h = inr h
in_merge kind (a ∷ one) [] x h = inl h
in_merge kind (a ∷ one) (b ∷ two) x h =
    elim (cases_Bool (stands_before kind a b)) [
      | inl t ↦ from_first a (merge_labels kind one (b ∷ two)) one (b ∷ two) x (in_merge kind one (b ∷ two) x)
          (subst (λ l. Has l x) (takes_first kind a b one two t) h)
      | inr f ↦ elim (cases_Bool (stands_before kind b a)) [
        | inl t ↦ from_second b (merge_labels kind (a ∷ one) two) (a ∷ one) two x (in_merge kind (a ∷ one) two x)
            (subst (λ l. Has l x) (takes_second kind a b one two f t) h)
        | inr g ↦ more_behind b (a ∷ one) two x (from_first a (merge_labels kind one two) one two x (in_merge kind one two x)
            (subst (λ l. Has l x) (takes_both kind a b one two f g) h))
      ]
    ]

to_merge : (kind : Kind) (one two : List ℤ) (x : ℤ) → Either one two x → Has (merge_labels kind one two) x
to_merge kind [] two x (inl h) = absurd h
to_merge kind [] two x (inr h) = h
to_merge kind (a ∷ one) [] x (inl h) = h
to_merge kind (a ∷ one) [] x (inr h) = absurd h
to_merge kind (a ∷ one) (b ∷ two) x h =
    elim (cases_Bool (stands_before kind a b)) [
      | inl t ↦ subst (λ l. Has l x) (sym (takes_first kind a b one two t))
          (to_first a (merge_labels kind one (b ∷ two)) one (b ∷ two) x (to_merge kind one (b ∷ two) x) h)
      | inr f ↦ elim (cases_Bool (stands_before kind b a)) [
        | inl t ↦ subst (λ l. Has l x) (sym (takes_second kind a b one two f t))
            (to_second b (merge_labels kind (a ∷ one) two) (a ∷ one) two x (to_merge kind (a ∷ one) two x) h)
        | inr g ↦ subst (λ l. Has l x) (sym (takes_both kind a b one two f g))
            (to_first a (merge_labels kind one two) one two x (to_merge kind one two x)
            (behind_both a b one two x (neither_before kind a b f g) h))
      ]
    ]

-- a label stands before all of a list where it stands before its first
pub before_all : (kind : Kind) (a b : ℤ) (two : List ℤ) → stands_before kind a b ≡ true → IsFirst kind b two → IsFirst kind a (b ∷ two)
before_all kind a b two h first x (inl e) = subst (λ v. stands_before kind a v ≡ true) e h
before_all kind a b two h first x (inr in_) = before_later kind a b x h (first x in_)

first_merged : (kind : Kind) (a : ℤ) (one two : List ℤ) → IsFirst kind a one → IsFirst kind a two → IsFirst kind a (merge_labels kind one two)
first_merged kind a one two h k x in_ = elim (in_merge kind one two x in_) [ inl p ↦ h x p | inr q ↦ k x q ]

merge_ordered : (kind : Kind) (one two : List ℤ) → Ordered kind one → Ordered kind two → Ordered kind (merge_labels kind one two)
merge_ordered kind [] two p q = q
merge_ordered kind (a ∷ one) [] p q = p
merge_ordered kind (a ∷ one) (b ∷ two) p q =
    elim (cases_Bool (stands_before kind a b)) [
      | inl t ↦ subst (Ordered kind) (sym (takes_first kind a b one two t))
          (first_merged kind a one (b ∷ two) p.0 (before_all kind a b two t q.0), merge_ordered kind one (b ∷ two) p.1 q)
      | inr f ↦ elim (cases_Bool (stands_before kind b a)) [
        | inl t ↦ subst (Ordered kind) (sym (takes_second kind a b one two f t))
            (first_merged kind b (a ∷ one) two (before_all kind b a one t p.0) q.0, merge_ordered kind (a ∷ one) two p q.1)
        | inr g ↦ subst (Ordered kind) (sym (takes_both kind a b one two f g)) (
          first_merged kind a one two p.0 (subst (λ v. IsFirst kind v two) (sym (neither_before kind a b f g)) q.0),
          merge_ordered kind one two p.1 q.1,
        )
      ]
    ]

-- ---- a cube that may lack the dimension

abbrev HasLabel : {L : Type 0} → Option (List L) → L → Type 0
HasLabel labels x = Has (unwrap_or labels []) x

in_join : (kind : Kind) (before labels : Option (List ℤ)) (x : ℤ) → HasLabel (join_labels kind before labels) x → HasLabel before x ⊎ HasLabel labels x
in_join kind None labels x h = inr h
in_join kind (Some one) None x h = inl h
in_join kind (Some one) (Some two) x h = in_merge kind one two x h

to_join : (kind : Kind) (before labels : Option (List ℤ)) (x : ℤ) → HasLabel before x ⊎ HasLabel labels x → HasLabel (join_labels kind before labels) x
to_join kind None labels x (inl h) = absurd h
to_join kind None labels x (inr h) = h
to_join kind (Some one) None x (inl h) = h
to_join kind (Some one) None x (inr h) = absurd h
to_join kind (Some one) (Some two) x h = to_merge kind one two x h

join_ordered : (kind : Kind) (before labels : Option (List ℤ)) → Ordered kind (unwrap_or before []) → Ordered kind (unwrap_or labels []) → Ordered kind (unwrap_or (join_labels kind before labels) [])
join_ordered kind None labels p q = q
join_ordered kind (Some one) None p q = p
join_ordered kind (Some one) (Some two) p q = merge_ordered kind one two p q

-- ---- names

among : (name : List ℕ) (names : List (List ℕ)) → list_any (same_name name) names ≡ true → Has names name
among name [] h = absurd (false≢true h)
among name (a ∷ names) h =
    elim (cases_Bool (same_name name a)) [
      | inl t ↦ inl (same_name_is name a t)
      | inr f ↦ inr (among name names (rw f at h))
    ]

not_among : (name : List ℕ) (names : List (List ℕ)) → list_any (same_name name) names ≡ false → Has names name → ⊥
not_among name [] h in_ = in_
not_among name (a ∷ names) h (inl e) =
    false≢true (sym (or_parts _ _ h).0 ∙ ap (same_name name) e ∙ same_name_refl name)
not_among name (a ∷ names) h (inr in_) = not_among name names (or_parts _ _ h).1 in_

keeps_new : (before : List (List ℕ)) (a : List ℕ) (names : List (List ℕ)) → list_any (same_name a) before ≡ false
    → new_names before (a ∷ names) ≡ a ∷ new_names before names
keeps_new before a names h = rw h refl

drops_known : (before : List (List ℕ)) (a : List ℕ) (names : List (List ℕ)) → list_any (same_name a) before ≡ true
    → new_names before (a ∷ names) ≡ new_names before names
drops_known before a names h = rw h refl

-- a new name is one of the names, and none of those before
in_new : (before names : List (List ℕ)) (x : List ℕ) → Has (new_names before names) x → Has names x × (list_any (same_name x) before ≡ false)
in_new before [] x h = absurd h
in_new before (a ∷ names) x h =
    elim (cases_Bool (list_any (same_name a) before)) [
      | inl t ↦ let rest = in_new before names x (subst (λ l. Has l x) (drops_known before a names t) h) in (inr rest.0, rest.1)
      | inr f ↦ in_new_here before a names x f (in_new before names x) (subst (λ l. Has l x) (keeps_new before a names f) h)
    ]
  where
    in_new_here : (before : List (List ℕ)) (a : List ℕ) (names : List (List ℕ)) (x : List ℕ) → list_any (same_name a) before ≡ false → (Has (new_names before names) x → Has names x × (list_any (same_name x) before ≡ false)) → Has (a ∷ new_names before names) x → Has (a ∷ names) x × (list_any (same_name x) before ≡ false)
    in_new_here before a names x f tail (inl e) = (inl e, subst (λ v. list_any (same_name v) before ≡ false) e f)
    in_new_here before a names x f tail (inr h) = let rest = tail h in (inr rest.0, rest.1)

-- a name is one of those before or a new one
to_new : (before names : List (List ℕ)) (x : List ℕ) → Has names x → Has before x ⊎ Has (new_names before names) x
to_new before [] x h = absurd h
to_new before (a ∷ names) x h =
    elim (cases_Bool (list_any (same_name a) before)) [
      | inl t ↦ subst (λ l. Has before x ⊎ Has l x) (sym (drops_known before a names t)) (known before a names x (among a before t) (to_new before names x) h)
      | inr f ↦ subst (λ l. Has before x ⊎ Has l x) (sym (keeps_new before a names f)) (not_known before a names x (to_new before names x) h)
    ]
  where
    known : (before : List (List ℕ)) (a : List ℕ) (names : List (List ℕ)) (x : List ℕ) → Has before a → (Has names x → Has before x ⊎ Has (new_names before names) x) → Has (a ∷ names) x → Has before x ⊎ Has (new_names before names) x
    known before a names x in_ tail (inl e) = inl (subst (Has before) e in_)
    known before a names x in_ tail (inr h) = tail h

    not_known : (before : List (List ℕ)) (a : List ℕ) (names : List (List ℕ)) (x : List ℕ) → (Has names x → Has before x ⊎ Has (new_names before names) x) → Has (a ∷ names) x → Has before x ⊎ Has (a ∷ new_names before names) x
    not_known before a names x tail (inl e) = inr (inl e)
    not_known before a names x tail (inr h) = elim (tail h) [ inl p ↦ inl p | inr q ↦ inr (inr q) ]

in_append : {L : Type 0} (one two : List L) (x : L) → Has (one ++ two) x → Either one two x
in_append [] two x h = inr h
in_append (a ∷ one) two x h = from_first a (one ++ two) one two x (in_append one two x) h

to_append : {L : Type 0} (one two : List L) (x : L) → Either one two x → Has (one ++ two) x
to_append [] two x (inl h) = absurd h
to_append [] two x (inr h) = h
to_append (a ∷ one) two x h = to_first a (one ++ two) one two x (to_append one two x) h

-- no name twice, by cases on the list
abbrev Differ : List (List ℕ) → Type 0
Differ [] = ⊤
Differ (a ∷ names) = (Has names a → ⊥) × Differ names

differ : (names : List (List ℕ)) → IsWithoutTwice names → Differ names
differ [] h = tt
differ (a ∷ names) h = (
  (λ in_. let at = at_has names a in_ in absurd (omega (arith, h 0 (suc at.0) a refl at.1))),
  differ names (λ i j name ei ej. omega (arith, h (suc i) (suc j) name ei ej)),
)

without_twice : (names : List (List ℕ)) → Differ names → IsWithoutTwice names
without_twice [] p i j name ei ej = cc
without_twice (a ∷ names) p zero zero name ei ej = refl
without_twice (a ∷ names) p zero (suc j) name ei ej =
    absurd (p.0 (subst (Has names) (sym (same_Some a name ei)) (has_at names j name ej)))
without_twice (a ∷ names) p (suc i) zero name ei ej =
    absurd (p.0 (subst (Has names) (sym (same_Some a name ej)) (has_at names i name ei)))
without_twice (a ∷ names) p (suc i) (suc j) name ei ej = ap suc (without_twice names p.1 i j name ei ej)

differ_append : (one two : List (List ℕ)) → Differ one → Differ two → ((x : List ℕ) → Has one x → Has two x → ⊥) → Differ (one ++ two)
differ_append [] two p q apart = q
differ_append (a ∷ one) two p q apart = (
  (λ in_. elim (in_append one two a in_) [ inl h ↦ p.0 h | inr h ↦ apart a (inl refl) h ]),
  differ_append one two p.1 q (λ x h k. apart x (inr h) k),
)

differ_new : (before names : List (List ℕ)) → Differ names → Differ (new_names before names)
differ_new before [] p = tt
differ_new before (a ∷ names) p =
    elim (cases_Bool (list_any (same_name a) before)) [
      | inl t ↦ subst Differ (sym (drops_known before a names t)) (differ_new before names p.1)
      | inr f ↦ subst Differ (sym (keeps_new before a names f)) ((λ in_. p.0 (in_new before names a in_).0), differ_new before names p.1)
    ]

in_bands : (before names : Option (List (List ℕ))) (x : List ℕ) → HasLabel (join_bands before names) x → HasLabel before x ⊎ HasLabel names x
in_bands None names x h = inr h
in_bands (Some one) None x h = inl h
in_bands (Some one) (Some two) x h =
    elim (in_append one (new_names one two) x h) [ inl p ↦ inl p | inr q ↦ inr (in_new one two x q).0 ]

to_bands : (before names : Option (List (List ℕ))) (x : List ℕ) → HasLabel before x ⊎ HasLabel names x → HasLabel (join_bands before names) x
to_bands None names x (inl h) = absurd h
to_bands None names x (inr h) = h
to_bands (Some one) None x (inl h) = h
to_bands (Some one) None x (inr h) = absurd h
to_bands (Some one) (Some two) x (inl h) = to_append one (new_names one two) x (inl h)
to_bands (Some one) (Some two) x (inr h) = to_append one (new_names one two) x (to_new one two x h)

differ_bands : (before names : Option (List (List ℕ))) → Differ (unwrap_or before []) → Differ (unwrap_or names []) → Differ (unwrap_or (join_bands before names) [])
differ_bands None names p q = q
differ_bands (Some one) None p q = p
differ_bands (Some one) (Some two) p q =
    differ_append one (new_names one two) p (differ_new one two q) (λ x h k. not_among x one (in_new one two x k).1 h)

-- ---- several cubes: what is said of joining two, said of all

abbrev SomeHas : {L : Type 0} → List (Option (List L)) → L → Type 0
SomeHas [] x = ⊥
SomeHas (labels ∷ cubes) x = HasLabel labels x ⊎ SomeHas cubes x

regroup : {A B C D : Type 0} → (D → A ⊎ B) → D ⊎ C → A ⊎ (B ⊎ C)
regroup f (inl d) = elim (f d) [ inl a ↦ inl a | inr b ↦ inr (inl b) ]
regroup f (inr c) = inr (inr c)

ungroup : {A B C D : Type 0} → (A ⊎ B → D) → A ⊎ (B ⊎ C) → D ⊎ C
ungroup f (inl a) = inl (f (inl a))
ungroup f (inr (inl b)) = inl (f (inr b))
ungroup f (inr (inr c)) = inr c

in_all : (kind : Kind) (before : Option (List ℤ)) (cubes : List (Option (List ℤ))) (x : ℤ) → HasLabel (labels_with kind before cubes) x → HasLabel before x ⊎ SomeHas cubes x
in_all kind before [] x h = inl h
in_all kind before (labels ∷ cubes) x h = regroup (in_join kind before labels x) (in_all kind (join_labels kind before labels) cubes x h)

to_all : (kind : Kind) (before : Option (List ℤ)) (cubes : List (Option (List ℤ))) (x : ℤ) → HasLabel before x ⊎ SomeHas cubes x → HasLabel (labels_with kind before cubes) x
to_all kind before [] x (inl h) = h
to_all kind before [] x (inr h) = absurd h
to_all kind before (labels ∷ cubes) x h = to_all kind (join_labels kind before labels) cubes x (ungroup (to_join kind before labels x) h)

in_all_bands : (before : Option (List (List ℕ))) (cubes : List (Option (List (List ℕ)))) (x : List ℕ) → HasLabel (bands_with before cubes) x → HasLabel before x ⊎ SomeHas cubes x
in_all_bands before [] x h = inl h
in_all_bands before (names ∷ cubes) x h = regroup (in_bands before names x) (in_all_bands (join_bands before names) cubes x h)

to_all_bands : (before : Option (List (List ℕ))) (cubes : List (Option (List (List ℕ)))) (x : List ℕ) → HasLabel before x ⊎ SomeHas cubes x → HasLabel (bands_with before cubes) x
to_all_bands before [] x (inl h) = h
to_all_bands before [] x (inr h) = absurd h
to_all_bands before (names ∷ cubes) x h = to_all_bands (join_bands before names) cubes x (ungroup (to_bands before names x) h)

-- ---- the parts

some_part : {L : Type 0} (f : Part → Option (List L)) (parts : List Part) (x : L) → SomeHas (map f parts) x → (part : Part) × Has parts part × HasLabel (f part) x
some_part f [] x h = absurd h
some_part f (part ∷ parts) x (inl h) = (part, inl refl, h)
some_part f (part ∷ parts) x (inr h) = let rest = some_part f parts x h in (rest.0, inr rest.1, rest.2)

of_part : {L : Type 0} (f : Part → Option (List L)) (parts : List Part) (part : Part) (x : L) → Has parts part → HasLabel (f part) x → SomeHas (map f parts) x
of_part f [] part x in_ h = absurd in_
of_part f (first ∷ parts) part x (inl e) h = inl (subst (λ (q : Part). HasLabel (f q) x) (sym e) h)
of_part f (first ∷ parts) part x (inr in_) h = inr (of_part f parts part x in_ h)

abbrev AreShapes : List Part → Type 0
AreShapes parts = (part : Part) → Contains parts part → IsShape part.shape

shapes_behind : (first : Part) (parts : List Part) → AreShapes (first ∷ parts) → AreShapes parts
shapes_behind first parts h part in_ = h part (contains (first ∷ parts) part (inr (has parts part in_)))

first_shape : (first : Part) (parts : List Part) → AreShapes (first ∷ parts) → IsShape first.shape
first_shape first parts h = h first (contains (first ∷ parts) first (inl refl))

shape_ordered : (kind : Kind) (d : Dimensions) → IsShape d → Ordered kind (unwrap_or (numbers_along kind d) [])
shape_ordered Time d h = ordered_later Time _ (later Time _ (KeepsEveryRule-IsShape d h (OrderWrong Time)))
shape_ordered Bands d h = tt
shape_ordered Y d h = ordered_later Y _ (later Y _ (KeepsEveryRule-IsShape d h (OrderWrong Y)))
shape_ordered X d h = ordered_later X _ (later X _ (KeepsEveryRule-IsShape d h (OrderWrong X)))

all_ordered : (kind : Kind) (before : Option (List ℤ)) (parts : List Part) → AreShapes parts → Ordered kind (unwrap_or before [])
    → Ordered kind (unwrap_or (labels_with kind before (map (λ (part : Part). numbers_along kind part.shape) parts)) [])
all_ordered kind before [] h p = p
all_ordered kind before (part ∷ parts) h p =
    all_ordered kind (join_labels kind before (numbers_along kind part.shape)) parts (shapes_behind part parts h)
    (join_ordered kind before (numbers_along kind part.shape) p (shape_ordered kind part.shape (first_shape part parts h)))

all_differ : (before : Option (List (List ℕ))) (parts : List Part) → AreShapes parts → Differ (unwrap_or before [])
    → Differ (unwrap_or (bands_with before (map (λ (part : Part). part.shape.bands) parts)) [])
all_differ before [] h p = p
all_differ before (part ∷ parts) h p =
    all_differ (join_bands before part.shape.bands) parts (shapes_behind part parts h)
    (differ_bands before part.shape.bands p (differ _ (KeepsEveryRule-IsShape part.shape (first_shape part parts h) (OrderWrong Bands))))

-- ---- the law, member by member

abbrev HasPart : {L : Type 0} → (Part → Option (List L)) → List Part → L → Type 0
HasPart f parts x = (part : Part) × Contains parts part × Contains (unwrap_or (f part) []) x

from_some : {L : Type 0} (f : Part → Option (List L)) (parts : List Part) (x : L) → ⊥ ⊎ SomeHas (map f parts) x → HasPart f parts x
from_some f parts x (inl h) = absurd h
from_some f parts x (inr h) =
    let some = some_part f parts x h in
    (some.0, contains parts some.0 some.1, contains (unwrap_or (f some.0) []) x some.2)

to_some : {L : Type 0} (f : Part → Option (List L)) (parts : List Part) (x : L) → HasPart f parts x → ⊥ ⊎ SomeHas (map f parts) x
to_some f parts x h = inr (of_part f parts h.0 x (has parts h.0 h.1) (has (unwrap_or (f h.0) []) x h.2))

abbrev numbers : Kind → Part → Option (List ℤ)
numbers kind part = numbers_along kind part.shape

labels_are : (kind : Kind) (parts : List Part) (x : ℤ) → Contains (unwrap_or (labels_of_parts kind parts) []) x ↔ HasPart (numbers kind) parts x
labels_are kind parts x = (
  (λ c. from_some (numbers kind) parts x (in_all kind None (map (numbers kind) parts) x (has _ x c))),
  (λ h. contains _ x (to_all kind None (map (numbers kind) parts) x (to_some (numbers kind) parts x h))),
)

bands_are : (parts : List Part) (x : List ℕ) → Contains (unwrap_or (bands_of_parts parts) []) x ↔ SomePartHasBand parts x
bands_are parts x = (
  (λ c. from_some (λ (part : Part). part.shape.bands) parts x (in_all_bands None (map (λ (part : Part). part.shape.bands) parts) x (has _ x c))),
  (λ h. contains _ x (to_all_bands None (map (λ (part : Part). part.shape.bands) parts) x (to_some (λ (part : Part). part.shape.bands) parts x h))),
)

labels_of_kind : (kind : Kind) (parts : List Part) (x : ℤ) → Contains (number_labels (mosaic_shape parts) kind) x ↔ SomePartHasLabel parts kind x
labels_of_kind Time parts x = labels_are Time parts x
labels_of_kind Bands parts x = ((λ c. absurd (omega (arith, c.1))), (λ h. let own = h.2 in absurd (omega (arith, own.1))))
labels_of_kind Y parts x = labels_are Y parts x
labels_of_kind X parts x = labels_are X parts x

order_of_kind : (kind : Kind) (parts : List Part) → AreShapes parts → KeepsRule (mosaic_shape parts) (OrderWrong kind)
order_of_kind Time parts h = in_order Time _ (later_ordered Time _ (all_ordered Time None parts h tt))
order_of_kind Bands parts h = without_twice _ (all_differ None parts h tt)
order_of_kind Y parts h = in_order Y _ (later_ordered Y _ (all_ordered Y None parts h tt))
order_of_kind X parts h = in_order X _ (later_ordered X _ (all_ordered X None parts h tt))

-- ---- which dimensions are there

pub counted : {L : Type 0} (labels : Option (List L)) → is_some (option_map length labels) ≡ is_some labels
counted None = refl
counted (Some labels) = refl

or_joined : (kind : Kind) (before labels : Option (List ℤ)) (c : Bool) → (is_some (join_labels kind before labels) || c) ≡ (is_some before || (is_some labels || c))
or_joined kind None labels c = refl
or_joined kind (Some one) None c = refl
or_joined kind (Some one) (Some two) c = refl

or_bands : (before names : Option (List (List ℕ))) (c : Bool) → (is_some (join_bands before names) || c) ≡ (is_some before || (is_some names || c))
or_bands None names c = refl
or_bands (Some one) None c = refl
or_bands (Some one) (Some two) c = refl

or_none : (b : Bool) → b ≡ (b || false)
or_none true = refl
or_none false = refl

present_numbers : (kind : Kind) (before : Option (List ℤ)) (parts : List Part)
    → is_some (labels_with kind before (map (numbers kind) parts))
    ≡ (is_some before || list_any (λ (part : Part). is_some (option_map length (numbers kind part))) parts)
present_numbers kind before [] = or_none (is_some before)
present_numbers kind before (part ∷ parts) =
    let rest = list_any (λ (p : Part). is_some (option_map length (numbers kind p))) parts in
    present_numbers kind (join_labels kind before (numbers kind part)) parts ∙ or_joined kind before (numbers kind part) rest
    ∙ ap (λ b. is_some before || (b || rest)) (sym (counted (numbers kind part)))

present_names : (before : Option (List (List ℕ))) (parts : List Part)
    → is_some (bands_with before (map (λ (part : Part). part.shape.bands) parts))
    ≡ (is_some before || list_any (λ (part : Part). is_some (option_map length part.shape.bands)) parts)
present_names before [] = or_none (is_some before)
present_names before (part ∷ parts) =
    let rest = list_any (λ (p : Part). is_some (option_map length p.shape.bands)) parts in
    present_names (join_bands before part.shape.bands) parts ∙ or_bands before part.shape.bands rest
    ∙ ap (λ b. is_some before || (b || rest)) (sym (counted part.shape.bands))

present_kind : (kind : Kind) (parts : List Part) → is_some (label_count (mosaic_shape parts) kind) ≡ some_part_has parts kind
present_kind Time parts = counted _ ∙ present_numbers Time None parts
present_kind Bands parts = counted _ ∙ present_names None parts
present_kind Y parts = counted _ ∙ present_numbers Y None parts
present_kind X parts = counted _ ∙ present_numbers X None parts

-- ---- the bands of the first part

begin_joined : (before names : Option (List (List ℕ))) → BeginWith (unwrap_or before []) (unwrap_or (join_bands before names) [])
begin_joined None names = (unwrap_or names [], refl)
begin_joined (Some one) None = ([], sym (append-nil one))
begin_joined (Some one) (Some two) = (new_names one two, refl)

begin_later : (one two three : List (List ℕ)) → BeginWith one two → BeginWith two three → BeginWith one three
begin_later one two three h k =
    (h.0 ++ k.0, k.1 ∙ ap (λ l. l ++ k.0) h.1 ∙ append_assoc one h.0 k.0)

begin_all : (before : Option (List (List ℕ))) (cubes : List (Option (List (List ℕ)))) → BeginWith (unwrap_or before []) (unwrap_or (bands_with before cubes) [])
begin_all before [] = ([], sym (append-nil (unwrap_or before [])))
begin_all before (names ∷ cubes) = begin_later _ _ _ (begin_joined before names) (begin_all (join_bands before names) cubes)

first_bands : (parts : List Part) → IfSome (slice_get parts 0) (λ (part : Part). BeginWith (band_names part.shape) (band_names (mosaic_shape parts)))
first_bands [] = tt
first_bands (part ∷ parts) = begin_all part.shape.bands (map (λ (p : Part). p.shape.bands) parts)

pub have_all_labels : MosaicsHaveAllLabels
have_all_labels parts h = record {
  present = λ kind. present_kind kind parts;
  in_order = λ kind. order_of_kind kind parts h;
  labels = λ kind label. labels_of_kind kind parts label;
  bands = λ name. bands_are parts name;
  first = first_bands parts;
}
