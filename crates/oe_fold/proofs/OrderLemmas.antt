-- The order by which cells are sorted is a strict weak order, and on numbers of cells it is that of the numbers.
use Rattle.std.proofs.Common.{◌≡◌, ℕ, ◌<◌, true, false, Bool, refl, sym, ap, ◌∙◌, subst, arith, ℤ, pos, ◌*ℤ◌, ◌≤ℤ◌, ◌<ℤ◌, inl, inr, nat_lt}
use Rattle.std.specs.Prelude.{◌&&◌}
use Rattle.std.specs.Ordering.{is_lt, int_cmp, ordering_reverse}
use Rattle.std.specs.declared.cmp.Ordering.{Ordering}
use Rattle.std.specs.declared.cmp.Ordering.TheVariants.{Less, Equal, Greater}
use Rattle.std.specs.Cmp.{IsStrictWeakOrder, int_cmp_is}
use Rattle.std.proofs.lemmas.Cmp.{int_ranked}
use Rattle.std.proofs.lemmas.Int.{ints}
use Rattle.std.proofs.lemmas.Bool.{cases_Bool, cond-true, cond-false, ltb-true, lt-ltb}
use Rattle.oe_cell.specs.Fraction.{Fraction}
use Rattle.oe_cell.specs.Order.{compare_of}
use Rattle.oe_cell.specs.declared.cell.Cell.{Cell}
use Rattle.oe_cell.specs.declared.cell.Cell.TheVariants.{Empty, Flag, Number, Over}
use Rattle.oe_cell.proofs.OrderLemmas.{compare_of_antisymm, scale_swap}
use Rattle.oe_fold.specs.Order.{is_below, is_sound, is_before}
use Rattle.oe_cell.proofs.Scale.{below_scale, at_most_scale}

lt-from_below : (p q : Fraction) → is_lt (compare_of p q) ≡ true → (p.num *ℤ pos q.den) <ℤ (q.num *ℤ pos p.den)
lt-from_below p q e = int_ranked _ _ Less (sym (less (compare_of p q) e))
  where
    less : (o : Ordering) → is_lt o ≡ true → o ≡ Less
    less Less h = refl
    less Equal h = cc
    less Greater h = cc

not_true : (b : Bool) → (b ≡ true → ⊥) → b ≡ false
not_true true h = absurd (h refl)
not_true false h = refl

at_most : (p q : Fraction) → is_lt (compare_of p q) ≡ false → (q.num *ℤ pos p.den) ≤ℤ (p.num *ℤ pos q.den)
at_most p q e = by_order (compare_of p q) refl e
  where
    by_order : (o : Ordering) → o ≡ compare_of p q → is_lt o ≡ false → (q.num *ℤ pos p.den) ≤ℤ (p.num *ℤ pos q.den)
    by_order Less h g = cc
    by_order Equal h g = let same : p.num *ℤ pos q.den ≡ q.num *ℤ pos p.den = int_ranked _ _ Equal h in omega (arith, ints, same)
    by_order Greater h g = let over : (q.num *ℤ pos p.den) <ℤ (p.num *ℤ pos q.den) = int_ranked _ _ Greater h in omega (arith, ints, over)

not_below : (p q : Fraction) → is_lt (compare_of p q) ≡ false → (k : ℕ) → (q.num *ℤ pos p.den *ℤ pos k) ≤ℤ (p.num *ℤ pos q.den *ℤ pos k)
not_below p q e k = at_most_scale (q.num *ℤ pos p.den) (p.num *ℤ pos q.den) k (at_most p q e)

-- what is not less than a number that is not less than another is not less than that other
pub chain-below : (p q r : Fraction) → 0 < p.den → 0 < q.den → 0 < r.den → is_lt (compare_of p q) ≡ false → is_lt (compare_of q r) ≡ false → is_lt (compare_of p r) ≡ false
chain-below p q r p_some q_some r_some first second = not_true _ (λ h.
    let left : (q.num *ℤ pos p.den *ℤ pos r.den) ≤ℤ (p.num *ℤ pos q.den *ℤ pos r.den) = not_below p q first r.den in
    let right : (r.num *ℤ pos q.den *ℤ pos p.den) ≤ℤ (q.num *ℤ pos r.den *ℤ pos p.den) = not_below q r second p.den in
    let joined : (p.num *ℤ pos r.den *ℤ pos q.den) <ℤ (r.num *ℤ pos p.den *ℤ pos q.den) = below_scale (p.num *ℤ pos r.den) (r.num *ℤ pos p.den) q.den q_some (lt-from_below p r h) in
    let middle : q.num *ℤ pos p.den *ℤ pos r.den ≡ q.num *ℤ pos r.den *ℤ pos p.den = scale_swap q.num p.den r.den in
    let low : p.num *ℤ pos q.den *ℤ pos r.den ≡ p.num *ℤ pos r.den *ℤ pos q.den = scale_swap p.num q.den r.den in
    let high : r.num *ℤ pos q.den *ℤ pos p.den ≡ r.num *ℤ pos p.den *ℤ pos q.den = scale_swap r.num q.den p.den in
    omega (arith, ints, left, right, joined, middle, low, high))

pub one_way-below : (p q : Fraction) → is_lt (compare_of p q) ≡ true → is_lt (compare_of q p) ≡ false
one_way-below p q h = by_order (compare_of q p) (ap is_lt (sym (compare_of_antisymm p q)) ∙ h)
  where
    by_order : (o : Ordering) → is_lt (ordering_reverse o) ≡ true → is_lt o ≡ false
    by_order Less g = cc
    by_order Equal g = refl
    by_order Greater g = refl

and-false : (b : Bool) → (b && false) ≡ false
and-false true = refl
and-false false = refl

data Soundness (x : Cell) : Type 0 where
  sound : (q : Fraction) → x ≡ Number q → 0 < q.den → Soundness x
  unsound : is_sound x ≡ false → Soundness x

soundness : (x : Cell) → Soundness x
soundness Empty = unsound refl
soundness (Flag b) = unsound refl
soundness Over = unsound refl
soundness (Number q) = elim (cases_Bool (nat_lt 0 q.den)) [ inl e ↦ sound q refl (ltb-true _ _ e) | inr e ↦ unsound e ]

before_sound : (p : Fraction) (y : Cell) → 0 < p.den → is_before (Number p) y ≡ (is_sound y && is_below (Number p) y)
before_sound p y some = cond-true (nat_lt 0 p.den) _ _ (lt-ltb 0 p.den some)

before_unsound : (x y : Cell) → is_sound x ≡ false → is_before x y ≡ is_sound y
before_unsound x y h = cond-false (is_sound x) _ _ h

-- two numbers of cells stand as they compare
pub before-numbers : (p q : Fraction) → 0 < p.den → 0 < q.den → is_before (Number p) (Number q) ≡ is_lt (compare_of p q)
before-numbers p q p_some q_some = before_sound p (Number q) p_some ∙ ap (λ (b : Bool). b && is_lt (compare_of p q)) (lt-ltb 0 q.den q_some)

before_nothing : (p : Fraction) (y : Cell) → 0 < p.den → is_sound y ≡ false → is_before (Number p) y ≡ false
before_nothing p y some h = before_sound p y some ∙ ap (λ (b : Bool). b && is_below (Number p) y) h

one_way : (x y : Cell) → is_before x y ≡ true → is_before y x ≡ false
one_way x y h = elim (soundness x) [
  | sound p e some ↦ elim (soundness y) [
    | sound q g other ↦ subst (λ (v : Cell). is_before y v ≡ false) (sym e) (subst (λ (v : Cell). is_before v (Number p) ≡ false) (sym g) (before-numbers q p other some ∙ one_way-below p q (sym (before-numbers p q some other) ∙ ap (λ (v : Cell). is_before (Number p) v) (sym g) ∙ ap (λ (v : Cell). is_before v y) (sym e) ∙ h)))
    | unsound g ↦ (let no : is_before x y ≡ false = subst (λ (v : Cell). is_before v y ≡ false) (sym e) (before_nothing p y some g) in cc)
  ]
  | unsound e ↦ elim (soundness y) [
    | sound q g other ↦ subst (λ (v : Cell). is_before v x ≡ false) (sym g) (before_nothing q x other e)
    | unsound g ↦ before_unsound y x g ∙ e
  ]
]

chain : (x y z : Cell) → is_before x y ≡ false → is_before y z ≡ false → is_before x z ≡ false
chain x y z h k = elim (soundness x) [
  | sound p e some ↦ elim (soundness z) [
    | sound r f last ↦ elim (soundness y) [
      | sound q g other ↦ subst (λ (v : Cell). is_before v z ≡ false) (sym e) (subst (λ (v : Cell). is_before (Number p) v ≡ false) (sym f) (before-numbers p r some last ∙ chain-below p q r some other last
          (sym (before-numbers p q some other) ∙ ap (λ (v : Cell). is_before (Number p) v) (sym g) ∙ ap (λ (v : Cell). is_before v y) (sym e) ∙ h)
          (sym (before-numbers q r other last) ∙ ap (λ (v : Cell). is_before (Number q) v) (sym f) ∙ ap (λ (v : Cell). is_before v z) (sym g) ∙ k)))
      | unsound g ↦ (let yes : is_sound z ≡ true = ap is_sound f ∙ lt-ltb 0 r.den last in let no : is_sound z ≡ false = sym (before_unsound y z g) ∙ k in cc)
    ]
    | unsound f ↦ subst (λ (v : Cell). is_before v z ≡ false) (sym e) (before_nothing p z some f)
  ]
  | unsound e ↦ elim (soundness y) [
    | sound q g other ↦ (let yes : is_sound y ≡ true = ap is_sound g ∙ lt-ltb 0 q.den other in let no : is_sound y ≡ false = sym (before_unsound x y e) ∙ h in cc)
    | unsound g ↦ before_unsound x z e ∙ (sym (before_unsound y z g) ∙ k)
  ]
]

pub before-ranks : IsStrictWeakOrder is_before
before-ranks = record { one_way = one_way; chain = chain }

int_cmp-scale : (x y : ℤ) (k : ℕ) → 0 < k → int_cmp x y ≡ int_cmp (x *ℤ pos k) (y *ℤ pos k)
int_cmp-scale x y k some = by_order (int_cmp x y) refl
  where
    by_order : (o : Ordering) → o ≡ int_cmp x y → o ≡ int_cmp (x *ℤ pos k) (y *ℤ pos k)
    by_order Less e = int_cmp_is (x *ℤ pos k) (y *ℤ pos k) Less (below_scale x y k some (int_ranked x y Less e))
    by_order Equal e = int_cmp_is (x *ℤ pos k) (y *ℤ pos k) Equal (ap (λ (z : ℤ). z *ℤ pos k) (int_ranked x y Equal e))
    by_order Greater e = int_cmp_is (x *ℤ pos k) (y *ℤ pos k) Greater (below_scale y x k some (int_ranked x y Greater e))

-- numbers with one denominator stand as their numerators do
pub compare_of-same_den : (p q : Fraction) → 0 < p.den → p.den ≡ q.den → int_cmp p.num q.num ≡ compare_of p q
compare_of-same_den p q some e =
    int_cmp-scale p.num q.num p.den some ∙ ap (λ (d : ℕ). int_cmp (p.num *ℤ pos d) (q.num *ℤ pos p.den)) e
