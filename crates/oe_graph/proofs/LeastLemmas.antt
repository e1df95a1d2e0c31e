-- The least of several faults: what is least among some and among others is least among both, so that a pass may hand
-- the least that it found along.
use Rattle.std.proofs.Common.{zero, suc, ◌+◌, length, slice_index_or, Contains, arith, ◌≡◌, ◌⊎◌, inl, inr, ℕ, List, Bool, true, false, if◌then◌else◌, Ordering, Less, Equal, Greater, Option, Some, None, [], ◌∷◌, ◌-◌, ◌<◌, option_and_then, slice_get, subst, nat_cmp, refl, sym, ap, ◌∙◌, true≢false}
use Rattle.std.specs.Cmp.{IsTotalOrder, nat_cmp_is}
use Rattle.std.specs.FinMap.{slice_cmp-IsAntisymmetric, nat_cmp-IsAntisymmetric}
use Rattle.std.specs.Cmp.Lexicographic.{slice_cmp}
use Rattle.std.specs.Ordering.{ordering_reverse, ordering_then, is_lt, is_gt}
use Rattle.std.proofs.lemmas.Cmp.{upto, nat_cmp_total, nat_list_cmp_total, on_total, then_total, tied_itself}
use Rattle.oe_graph.specs.Codes.{phase_of, number_in_phase}
use Rattle.oe_graph.specs.Faults.{fault_cmp, is_before, least, least_from, IsLeast, IsLeastFault}
use Rattle.oe_graph.specs.declared.code.Code.{Code}
use Rattle.oe_graph.specs.declared.code.Code.TheVariants.{InputTooLong, GraphUnreadable, ProcessGraphMissing, NodeInvalid, ResultNodeCount, ParametersInvalid, ProcessUnsupported, ProcessRecursive, GraphTooLarge, ArgumentUnknown, ProcessParameterMissing, ParameterUnknown, NodeUnknown, GraphCycle, ProcessParameterInvalid, CollectionNotFound, CrsUnsupported, FormatUnsupported, DimensionNotAvailable, TemporalExtentEmpty, BandFilterParameterMissing, BandNotAvailable, KernelDimensionsUneven, KernelTooLarge, DistinctDimensionLabelsRequired, MergeDimensionsDiffer, OverlapResolverMissing, MaskDimensionsDiffer, ArrayElementParameterMissing, ArrayElementParameterConflict, ArrayElementNotAvailable, CellKindInvalid, CubeTooLarge}
use Rattle.oe_graph.specs.declared.fault.Fault.{Fault}

pub fault_cmp_total : IsTotalOrder fault_cmp
fault_cmp_total =
    then_total (on_total (λ f. phase_of f.code) nat_cmp_total)
    (then_total (on_total (λ f. f.node) nat_list_cmp_total) (on_total (λ f. number_in_phase f.code) nat_cmp_total))

lt_gt : (o p : Ordering) → o ≡ ordering_reverse p → is_lt o ≡ is_gt p
lt_gt Less Less is = absurd cc
lt_gt Less Equal is = absurd cc
lt_gt Less Greater is = refl
lt_gt Equal Less is = absurd cc
lt_gt Equal Equal is = refl
lt_gt Equal Greater is = absurd cc
lt_gt Greater Less is = refl
lt_gt Greater Equal is = absurd cc
lt_gt Greater Greater is = absurd cc

-- being before is being greater the other way round
before_gt : (a b : Fault) → is_before a b ≡ is_gt (fault_cmp b a)
before_gt a b = lt_gt (fault_cmp a b) (fault_cmp b a) (fault_cmp_total.antisymm a b)

-- not before is transitive
pub not_before-trans : (a b c : Fault) → is_before b a ≡ false → is_before c b ≡ false → is_before c a ≡ false
not_before-trans a b c ab bc =
    before_gt c a ∙ upto fault_cmp_total a b c (sym (before_gt b a) ∙ ab) (sym (before_gt c b) ∙ bc)

gt_not_lt : (o : Ordering) → is_gt o ≡ true → is_lt o ≡ false
gt_not_lt Less is = absurd (true≢false (sym is))
gt_not_lt Equal is = absurd (true≢false (sym is))
gt_not_lt Greater is = refl

pub before_not_after : (a b : Fault) → is_before a b ≡ true → is_before b a ≡ false
before_not_after a b is = gt_not_lt (fault_cmp b a) (sym (before_gt a b) ∙ is)

not_before_itself_by : (a : Fault) (before : Bool) → is_before a a ≡ before → is_before a a ≡ false
not_before_itself_by a true is = before_not_after a a is
not_before_itself_by a false is = is

pub not_before_itself : (a : Fault) → is_before a a ≡ false
not_before_itself a = not_before_itself_by a (is_before a a) refl

-- ---- the least of the faults that a predicate has

pub IsLeastFault-iff : (P Q : Fault → Type 0) (o : Option Fault)
    → ((f : Fault) → P f → Q f) → ((f : Fault) → Q f → P f) → IsLeastFault P o → IsLeastFault Q o
IsLeastFault-iff P Q None there back none = λ f q. none f (back f q)
IsLeastFault-iff P Q (Some f) there back least = (there f least.0, λ g q. least.1 g (back g q))

abbrev pub Either : (Fault → Type 0) → (Fault → Type 0) → Fault → Type 0
Either P Q f = P f ⊎ Q f

both : (P Q : Fault → Type 0) (a b : Fault) (first : Bool) → is_before b a ≡ first
    → IsLeastFault P (Some a) → IsLeastFault Q (Some b) → IsLeastFault (Either P Q) (if first then Some b else Some a)
both P Q a b true is p q = (
  inr q.0,
  λ g either. elim either [
    | inl left ↦ not_before-trans b a g (before_not_after b a is) (p.1 g left)
    | inr right ↦ q.1 g right
  ],
)
both P Q a b false is p q = (
  inl p.0,
  λ g either. elim either [
    | inl left ↦ p.1 g left
    | inr right ↦ not_before-trans a b g is (q.1 g right)
  ],
)

pub IsLeastFault-least : (P Q : Fault → Type 0) (a b : Option Fault)
    → IsLeastFault P a → IsLeastFault Q b → IsLeastFault (Either P Q) (least a b)
IsLeastFault-least P Q None None p q = λ f either. elim either [ inl left ↦ p f left | inr right ↦ q f right ]
IsLeastFault-least P Q None (Some b) p q =
    (inr q.0, λ g either. elim either [ inl left ↦ absurd (p g left) | inr right ↦ q.1 g right ])
IsLeastFault-least P Q (Some a) None p q =
    (inl p.0, λ g either. elim either [ inl left ↦ p.1 g left | inr right ↦ absurd (q g right) ])
IsLeastFault-least P Q (Some a) (Some b) p q = both P Q a b (is_before b a) refl p q

-- ---- what a least fault says

abbrev pub Standing : (Code → List ℕ → Type 0) → Fault → Type 0
Standing Stands f = Stands f.code f.node

pub to_least : (Stands : Code → List ℕ → Type 0) (f : Fault) → IsLeastFault (Standing Stands) (Some f) → IsLeast Stands f
to_least Stands f is = record { stands = is.0; least = is.1 }

pub of_least : (Stands : Code → List ℕ → Type 0) (f : Fault) → IsLeast Stands f → IsLeastFault (Standing Stands) (Some f)
of_least Stands f is = (is.stands, is.least)

leads : (o p : Ordering) → Less ≡ o → is_lt (ordering_then o p) ≡ true
leads o p is = subst (λ x. is_lt (ordering_then x p) ≡ true) is refl

-- a fault of an earlier phase is reported rather than one of a later phase
pub earlier_phase : (a b : Fault) → phase_of a.code < phase_of b.code → is_before a b ≡ true
earlier_phase a b is = leads _ _ (nat_cmp_is (phase_of a.code) (phase_of b.code) Less is)

-- ---- faults of which neither is before the other are one

tied_parts : (o p : Ordering) → ordering_then o p ≡ Equal → (o ≡ Equal) × (p ≡ Equal)
tied_parts Less p is = absurd cc
tied_parts Equal p is = (refl, is)
tied_parts Greater p is = absurd cc

neither : (o p : Ordering) → o ≡ ordering_reverse p → is_lt o ≡ false → is_lt p ≡ false → o ≡ Equal
neither o Less is first other = absurd (true≢false other)
neither o Equal is first other = is
neither o Greater is first other = absurd (true≢false (sym (ap is_lt is) ∙ first))

-- a code by its phase and its number
abbrev codes_of : List (List Code)
codes_of = (InputTooLong ∷ GraphUnreadable ∷ ProcessGraphMissing ∷ NodeInvalid ∷ ResultNodeCount ∷ ParametersInvalid ∷ []) ∷ (ProcessUnsupported ∷ ProcessRecursive ∷ []) ∷ (GraphTooLarge ∷ []) ∷ (ArgumentUnknown ∷ ProcessParameterMissing ∷ ParameterUnknown ∷ NodeUnknown ∷ GraphCycle ∷ []) ∷ (ProcessParameterInvalid ∷ CollectionNotFound ∷ CrsUnsupported ∷ FormatUnsupported ∷ DimensionNotAvailable ∷ TemporalExtentEmpty ∷ BandFilterParameterMissing ∷ BandNotAvailable ∷ KernelDimensionsUneven ∷ KernelTooLarge ∷ DistinctDimensionLabelsRequired ∷ MergeDimensionsDiffer ∷ OverlapResolverMissing ∷ MaskDimensionsDiffer ∷ ArrayElementParameterMissing ∷ ArrayElementParameterConflict ∷ ArrayElementNotAvailable ∷ CellKindInvalid ∷ CubeTooLarge ∷ []) ∷ []

abbrev code_at : ℕ → ℕ → Option Code
code_at phase number = option_and_then (λ row. slice_get row (number - 1)) (slice_get codes_of (phase - 1))

is_at_row : (c : Code) → code_at (phase_of c) (number_in_phase c) ≡ Some c
is_at_row InputTooLong = refl
is_at_row GraphUnreadable = refl
is_at_row ProcessGraphMissing = refl
is_at_row NodeInvalid = refl
is_at_row ResultNodeCount = refl
is_at_row ParametersInvalid = refl
is_at_row ProcessUnsupported = refl
is_at_row ProcessRecursive = refl
is_at_row GraphTooLarge = refl
is_at_row ArgumentUnknown = refl
is_at_row ProcessParameterMissing = refl
is_at_row ParameterUnknown = refl
is_at_row NodeUnknown = refl
is_at_row GraphCycle = refl
is_at_row ProcessParameterInvalid = refl
is_at_row CollectionNotFound = refl
is_at_row CrsUnsupported = refl
is_at_row FormatUnsupported = refl
is_at_row DimensionNotAvailable = refl
is_at_row TemporalExtentEmpty = refl
is_at_row BandFilterParameterMissing = refl
is_at_row BandNotAvailable = refl
is_at_row KernelDimensionsUneven = refl
is_at_row KernelTooLarge = refl
is_at_row DistinctDimensionLabelsRequired = refl
is_at_row MergeDimensionsDiffer = refl
is_at_row OverlapResolverMissing = refl
is_at_row MaskDimensionsDiffer = refl
is_at_row ArrayElementParameterMissing = refl
is_at_row ArrayElementParameterConflict = refl
is_at_row ArrayElementNotAvailable = refl
is_at_row CellKindInvalid = refl
is_at_row CubeTooLarge = refl

same_code : (a b : Code) → phase_of a ≡ phase_of b → number_in_phase a ≡ number_in_phase b → a ≡ b
same_code a b phase number =
    let both : Some a ≡ Some b =
    sym (is_at_row a) ∙ ap (λ p. code_at p (number_in_phase a)) phase ∙ ap (code_at (phase_of b)) number ∙ is_at_row b in cc

same_fault : (a b : Fault) → a.code ≡ b.code → a.node ≡ b.node → a ≡ b
same_fault a b code node =
    ap (λ c. record { code = c; node = a.node }) code ∙ ap (λ n. record { code = b.code; node = n }) node

tied_fault : (a b : Fault) → fault_cmp a b ≡ Equal → a ≡ b
tied_fault a b tied =
    let phase = tied_parts _ _ tied in
    let rest = tied_parts _ _ phase.1 in
    same_fault a b
    (same_code a.code b.code (nat_cmp-IsAntisymmetric _ _ phase.0) (nat_cmp-IsAntisymmetric _ _ rest.1))
    (slice_cmp-IsAntisymmetric nat_cmp-IsAntisymmetric a.node b.node rest.0)

pub neither_before : (a b : Fault) → is_before a b ≡ false → is_before b a ≡ false → a ≡ b
neither_before a b first other =
    tied_fault a b (neither (fault_cmp a b) (fault_cmp b a) (fault_cmp_total.antisymm a b) first other)

-- there is one least fault
pub IsLeast-unique : (Stands : Code → List ℕ → Type 0) (a b : Fault) → IsLeast Stands a → IsLeast Stands b → a ≡ b
IsLeast-unique Stands a b one other = neither_before a b (other.least a one.stands) (one.least b other.stands)

-- ---- several phases

-- a fault of an earlier phase hides all those of later ones
pub IsLeastFault-earlier : (P Q : Fault → Type 0) (f : Fault) → IsLeastFault P (Some f)
    → ((g : Fault) → Q g → phase_of f.code < phase_of g.code) → IsLeastFault (Either P Q) (Some f)
IsLeastFault-earlier P Q f is later = (
  inl is.0,
  λ g either. elim either [
    | inl left ↦ is.1 g left
    | inr right ↦ before_not_after f g (earlier_phase f g (later g right))
  ],
)

-- just one fault
pub IsLeastFault-one : (f : Fault) → IsLeastFault (λ g. g ≡ f) (Some f)
IsLeastFault-one f = (refl, λ g is. subst (λ h. is_before h f ≡ false) (sym is) (not_before_itself f))

-- ---- along a list

-- a fault that one of a list has
pub record OneOf {X : Type 0} (Of : X → Fault → Type 0) (xs : List X) (f : Fault) : Type 0 where
  pub one : X
  pub is_there : Contains xs one
  pub has : Of one f

module _ {X : Type 0} where
  first_there : (x : X) (xs : List X) → Contains (x ∷ xs) x
  first_there x xs = (0, omega arith, refl)

  later_there : (x : X) (xs : List X) (y : X) → Contains xs y → Contains (x ∷ xs) y
  later_there x xs y has = let below = has.1 in (suc has.0, omega arith, has.2)

  first_or_later : (x : X) (xs : List X) (y : X) (k : ℕ) → k < length (x ∷ xs) → slice_index_or (x ∷ xs) k y ≡ y
      → (x ≡ y) ⊎ Contains xs y
  first_or_later x xs y zero below is = inl is
  first_or_later x xs y (suc k) below is = inr (k, omega arith, is)

  module _ (Of : X → Fault → Type 0) (P : Fault → Type 0) (x : X) (xs : List X) (f : Fault) where
    to_list : Either (Either P (Of x)) (OneOf Of xs) f → Either P (OneOf Of (x ∷ xs)) f
    to_list (inl (inl p)) = inl p
    to_list (inl (inr has)) = inr (record { one = x; is_there = first_there x xs; has = has })
    to_list (inr o) = inr (record { one = o.one; is_there = later_there x xs o.one o.is_there; has = o.has })

    of_place : (y : X) → Of y f → (x ≡ y) ⊎ Contains xs y → Either (Either P (Of x)) (OneOf Of xs) f
    of_place y has (inl is) = inl (inr (subst (λ z. Of z f) (sym is) has))
    of_place y has (inr there) = inr (record { one = y; is_there = there; has = has })

    of_list : Either P (OneOf Of (x ∷ xs)) f → Either (Either P (Of x)) (OneOf Of xs) f
    of_list (inl p) = inl (inl p)
    of_list (inr o) = of_place o.one o.has (first_or_later x xs o.one o.is_there.0 o.is_there.1 o.is_there.2)

  none_there : (y : X) → Contains [] y → ⊥
  none_there y has = let below = has.1 in absurd (omega arith)

  -- what a pass along a list finds
  pub IsLeastFault-from : (Of : X → Fault → Type 0) (step : X → Option Fault) (xs : List X) (P : Fault → Type 0) (found : Option Fault)
      → ((x : X) → Contains xs x → IsLeastFault (Of x) (step x)) → IsLeastFault P found
      → IsLeastFault (Either P (OneOf Of xs)) (least_from step found xs)
  IsLeastFault-from Of step [] P found each is =
      IsLeastFault-iff P (Either P (OneOf Of [])) found (λ f p. inl p)
      (λ f either. elim either [ inl p ↦ p | inr o ↦ absurd (none_there o.one o.is_there) ]) is
  IsLeastFault-from Of step (x ∷ xs) P found each is =
      IsLeastFault-iff (Either (Either P (Of x)) (OneOf Of xs)) (Either P (OneOf Of (x ∷ xs)))
      (least_from step (least found (step x)) xs) (to_list Of P x xs) (of_list Of P x xs)
      (IsLeastFault-from Of step xs (Either P (Of x)) (least found (step x)) (λ y there. each y (later_there x xs y there))
      (IsLeastFault-least P (Of x) found (step x) is (each x (first_there x xs))))
