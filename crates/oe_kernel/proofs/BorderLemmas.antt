-- Border rules: where a position is on its side and where not, and after how many positions a rule repeats.
use Rattle.std.proofs.Common.{◌≡◌, ◌≢◌, ℕ, suc, ◌+◌, ◌-◌, ◌*◌, ◌<◌, ◌≤◌, ◌%◌, true, false, eqb, inl, inr, refl, ap, ◌∙◌, subst, sym, arith, ltb}
use Rattle.std.specs.Prelude.{ℤ, pos, negsuc, ◌+ℤ◌, ◌≤ℤ◌, ◌<ℤ◌, unsigned_abs, Option, Some, None, IsNone, IsFalse, IfSome}
use Rattle.std.proofs.Math.Nat.{add-mod_right, mod-eq_of_lt, mul-le-mul_left}
use Rattle.std.proofs.lemmas.Int.{ints, int_rem_euclid_is}
use Rattle.std.proofs.lemmas.Bool.{cases_Bool, cond-true, cond-false}
use Rattle.std.proofs.lemmas.Bool.Decides.{Decides-ltb, Decides-eqb, nat_tests}
use Rattle.oe_kernel.specs.Borders.{is_on, modulo, nearest, folded, reflected, reflected_at_pixel, outside, border_position, period_of, IsNumberBorder}
use Rattle.oe_kernel.specs.declared.border.Border.{Border}
use Rattle.oe_kernel.specs.declared.border.Border.TheVariants.{Value, Replicate, Reflect, ReflectPixel, Wrap}

pub on_from : (i : ℤ) (n : ℕ) → pos 0 ≤ℤ i → i <ℤ pos n → is_on i n ≡ true
on_from (pos i) n low high = (Decides-ltb i n).1 (omega (arith, ints))
on_from (negsuc i) n low high = absurd (omega (arith, ints))

pub on_within : (i : ℤ) (n : ℕ) → is_on i n ≡ true → (pos 0 ≤ℤ i) × (i <ℤ pos n)
on_within (pos i) n h =
    let below : i < n = (Decides-ltb i n).0 h in
    (omega (arith, ints), omega (arith, ints))
on_within (negsuc i) n h = cc

pub off_below : (i : ℤ) (n : ℕ) → i <ℤ pos 0 → is_on i n ≡ false
off_below (pos i) n h = absurd (omega (arith, ints))
off_below (negsuc i) n h = refl

pub off_above : (i : ℤ) (n : ℕ) → pos n ≤ℤ i → is_on i n ≡ false
off_above (pos i) n h = let past : n ≤ i = omega (arith, ints) in grind (arith, nat_tests)
off_above (negsuc i) n h = refl

pub border_position-on : (border : Border) (i : ℤ) (n : ℕ) → is_on i n ≡ true → border_position border i n ≡ Some (unsigned_abs i)
unfolding border_position
border_position-on border i n h = cond-true _ _ _ h

pub border_position-off : (border : Border) (i : ℤ) (n : ℕ) → is_on i n ≡ false → border_position border i n ≡ outside border i n
unfolding border_position
border_position-off border i n h = cond-false _ _ _ h

-- ---- modulo

le_mul_some : (m n : ℕ) → 0 < n → m ≤ m * n
le_mul_some m n some =
    let h : m * 1 ≤ m * n = mul-le-mul_left m (omega arith) in
    omega arith

-- a natural number that is some multiple of n above i
above : (i : ℤ) (n : ℕ) → 0 < n → (k : ℕ) × (m : ℕ) × (i +ℤ pos (k * n) ≡ pos m)
above (pos a) n some = (0, a, omega (arith, ints))
above (negsuc a) n some =
    let most : suc a ≤ suc a * n = le_mul_some (suc a) n some in
    (suc a, suc a * n - suc a, omega (arith, ints))

mod-above : (i : ℤ) (n k m : ℕ) → 0 < n → i +ℤ pos (k * n) ≡ pos m → modulo i n ≡ m % n
mod-above i n k m some e = ap unsigned_abs (int_rem_euclid_is i (pos n) n k m some refl e)

mod-add_self : (m n : ℕ) → 0 < n → (m + n) % n ≡ m % n
mod-add_self m n some = add-mod_right m n

pub modulo-period : (i : ℤ) (n : ℕ) → 0 < n → modulo (i +ℤ pos n) n ≡ modulo i n
modulo-period i n some =
    let found = above i n some in
    let k : ℕ = found.0 in
    let m : ℕ = found.1 in
    let e : i +ℤ pos (k * n) ≡ pos m = found.2 in
    let shifted : i +ℤ pos n +ℤ pos (k * n) ≡ pos (m + n) = omega (arith, ints) in
    mod-above (i +ℤ pos n) n k (m + n) some shifted ∙ mod-add_self m n some ∙ sym (mod-above i n k m some e)

-- ---- rules that repeat, on the side too

reflected-on : (i : ℤ) (n : ℕ) → is_on i n ≡ true → reflected i n ≡ unsigned_abs i
reflected-on (pos a) n h =
    let below : a < n = (Decides-ltb a n).0 h in
    ap (folded n (2 * n - 1)) (mod-eq_of_lt (omega arith)) ∙ cond-true _ _ _ h
reflected-on (negsuc a) n h = cc

reflected_at_pixel-on : (i : ℤ) (n : ℕ) → is_on i n ≡ true → reflected_at_pixel i n ≡ unsigned_abs i
reflected_at_pixel-on (pos a) n h =
    let below : a < n = (Decides-ltb a n).0 h in
    elim (cases_Bool (eqb n 1)) [
      | inl t ↦
          let one : n ≡ 1 = (Decides-eqb n 1).0 t in
          let zero_is : 0 ≡ a = omega arith in
          cond-true _ _ _ t ∙ zero_is
      | inr f ↦
          let more : n ≢ 1 = grind (arith, nat_tests) in
          cond-false _ _ _ f ∙ ap (folded n (2 * n - 2)) (mod-eq_of_lt (omega arith)) ∙ cond-true _ _ _ h
    ]
reflected_at_pixel-on (negsuc a) n h = cc

modulo-on : (i : ℤ) (n : ℕ) → is_on i n ≡ true → modulo i n ≡ unsigned_abs i
modulo-on (pos a) n h = mod-eq_of_lt ((Decides-ltb a n).0 h)
modulo-on (negsuc a) n h = cc

reflected_at_pixel-period : (i : ℤ) (n : ℕ) → 0 < n → reflected_at_pixel (i +ℤ pos (2 * n - 2)) n ≡ reflected_at_pixel i n
reflected_at_pixel-period i n some =
    elim (cases_Bool (eqb n 1)) [
      | inl t ↦ cond-true _ _ _ t ∙ sym (cond-true _ _ _ t)
      | inr f ↦
          let more : n ≢ 1 = grind (arith, nat_tests) in
          cond-false _ _ _ f ∙ ap (folded n (2 * n - 2)) (modulo-period i (2 * n - 2) (omega arith)) ∙ sym (cond-false _ _ _ f)
    ]

-- what a rule gives inside and outside, where both are the same expression
everywhere : (border : Border) (i : ℤ) (n place : ℕ) → (is_on i n ≡ true → place ≡ unsigned_abs i) → outside border i n ≡ Some place → border_position border i n ≡ Some place
everywhere border i n place on off =
    elim (cases_Bool (is_on i n)) [
      | inl t ↦ border_position-on border i n t ∙ ap Some (sym (on t))
      | inr f ↦ border_position-off border i n f ∙ off
    ]

add-zero_ℤ : (i : ℤ) → i +ℤ pos 0 ≡ i
add-zero_ℤ i = omega (arith, ints)

pub border_position-period : (border : Border) (i : ℤ) (n : ℕ) → 0 < n → border_position border (i +ℤ pos (period_of border n)) n ≡ border_position border i n
border_position-period (Value q) i n some = ap (λ (z : ℤ). border_position (Value q) z n) (add-zero_ℤ i)
border_position-period Replicate i n some = ap (λ (z : ℤ). border_position Replicate z n) (add-zero_ℤ i)
border_position-period Reflect i n some =
    let shifted : ℤ = i +ℤ pos (2 * n) in
    everywhere Reflect shifted n (reflected shifted n) (reflected-on shifted n) refl ∙ ap (λ (p : ℕ). Some (folded n (2 * n - 1) p)) (modulo-period i (2 * n) (omega arith)) ∙ sym (everywhere Reflect i n (reflected i n) (reflected-on i n) refl)
border_position-period ReflectPixel i n some =
    let shifted : ℤ = i +ℤ pos (2 * n - 2) in
    everywhere ReflectPixel shifted n (reflected_at_pixel shifted n) (reflected_at_pixel-on shifted n) refl ∙ ap Some (reflected_at_pixel-period i n some) ∙ sym (everywhere ReflectPixel i n (reflected_at_pixel i n) (reflected_at_pixel-on i n) refl)
border_position-period Wrap i n some =
    let shifted : ℤ = i +ℤ pos n in
    everywhere Wrap shifted n (modulo shifted n) (modulo-on shifted n) refl ∙ ap Some (modulo-period i n some) ∙ sym (everywhere Wrap i n (modulo i n) (modulo-on i n) refl)

-- ---- when a rule puts no position

none_from_value : (border : Border) (i : ℤ) (n : ℕ) → IsNumberBorder border → outside border i n ≡ None
none_from_value (Value q) i n h = refl
none_from_value Replicate i n h = absurd h
none_from_value Reflect i n h = absurd h
none_from_value ReflectPixel i n h = absurd h
none_from_value Wrap i n h = absurd h

value_from_none : (border : Border) (i : ℤ) (n : ℕ) → outside border i n ≡ None → IsNumberBorder border
value_from_none (Value q) i n h = tt
value_from_none Replicate i n h = cc
value_from_none Reflect i n h = cc
value_from_none ReflectPixel i n h = cc
value_from_none Wrap i n h = cc

IsNone-same : (r : Option ℕ) → IsNone r → r ≡ None
IsNone-same None h = refl
IsNone-same (Some x) h = cc

pub border_position-none : (border : Border) (i : ℤ) (n : ℕ) (r : Option ℕ) → r ≡ border_position border i n → (IsNone r → IsNumberBorder border × IsFalse (is_on i n)) × (IsNumberBorder border × IsFalse (is_on i n) → IsNone r)
border_position-none border i n r e = (
  λ h.
      let none : r ≡ None = IsNone-same r h in
      elim (cases_Bool (is_on i n)) [
        | inl t ↦ let some = border_position-on border i n t in cc
        | inr f ↦ (value_from_none border i n (sym (border_position-off border i n f) ∙ sym e ∙ none), f)
      ],
  λ h.
      subst (λ (o : Option ℕ). IsNone o) (sym (e ∙ border_position-off border i n h.1 ∙ none_from_value border i n h.0)) refl,
)

-- ---- a rule puts every position on the side

folded-on : (n turn j : ℕ) → turn < 2 * n → folded n turn j < n
folded-on n turn j h =
    elim (cases_Bool (ltb j n)) [
      | inl t ↦
          subst (λ (p : ℕ). p < n) (sym (cond-true _ _ _ t)) ((Decides-ltb j n).0 t)
      | inr f ↦
          let past : n ≤ j = grind (arith, nat_tests) in
          let small : turn - j < n = omega arith in
          subst (λ (p : ℕ). p < n) (sym (cond-false _ _ _ f)) small
    ]

modulo-below : (i : ℤ) (n : ℕ) → 0 < n → modulo i n < n
modulo-below i n some =
    let found = above i n some in
    let m : ℕ = found.1 in
    let e : modulo i n ≡ m % n = mod-above i n found.0 m some found.2 in
    omega arith

pub nearest-on : (i : ℤ) (n : ℕ) → 0 < n → nearest i n < n
nearest-on (pos a) n some = omega arith
nearest-on (negsuc a) n some = some

pub reflected_at_pixel-within : (i : ℤ) (n : ℕ) → 0 < n → reflected_at_pixel i n < n
reflected_at_pixel-within i n some =
    elim (cases_Bool (eqb n 1)) [
      | inl t ↦ subst (λ (p : ℕ). p < n) (sym (cond-true _ _ _ t)) some
      | inr f ↦
          subst (λ (p : ℕ). p < n) (sym (cond-false _ _ _ f)) (folded-on n (2 * n - 2) (modulo i (2 * n - 2)) (omega arith))
    ]

pub reflected-within : (i : ℤ) (n : ℕ) → 0 < n → reflected i n < n
reflected-within i n some = folded-on n (2 * n - 1) (modulo i (2 * n)) (omega arith)

outside-within : (border : Border) (i : ℤ) (n : ℕ) → 0 < n → IfSome (outside border i n) (λ position. position < n)
outside-within (Value q) i n some = tt
outside-within Replicate i n some = nearest-on i n some
outside-within Reflect i n some = folded-on n (2 * n - 1) (modulo i (2 * n)) (omega arith)
outside-within ReflectPixel i n some = reflected_at_pixel-within i n some
outside-within Wrap i n some = modulo-below i n some

abs-on : (i : ℤ) (n : ℕ) → is_on i n ≡ true → unsigned_abs i < n
abs-on (pos a) n h = (Decides-ltb a n).0 h
abs-on (negsuc a) n h = cc

pub border_position-within : (border : Border) (i : ℤ) (n : ℕ) → 0 < n → IfSome (border_position border i n) (λ position. position < n)
border_position-within border i n some =
    elim (cases_Bool (is_on i n)) [
      | inl t ↦
          subst (λ (o : Option ℕ). IfSome o (λ position. position < n)) (sym (border_position-on border i n t)) (abs-on i n t)
      | inr f ↦
          subst (λ (o : Option ℕ). IfSome o (λ position. position < n)) (sym (border_position-off border i n f)) (outside-within border i n some)
    ]

-- ---- a mirror gives a position no further from the end of the side than the one outside

folded-past : (n turn j : ℕ) → n ≤ j → folded n turn j ≡ turn - j
folded-past n turn j h =
    let off : ltb j n ≡ false = grind (arith, nat_tests) in
    cond-false _ _ _ off

folded-short : (n turn j : ℕ) → j < n → folded n turn j ≡ j
folded-short n turn j h = cond-true _ _ _ ((Decides-ltb j n).1 h)

modulo-before : (a m : ℕ) → a < m → modulo (negsuc a) m ≡ m - suc a
modulo-before a m h =
    let shifted : negsuc a +ℤ pos (1 * m) ≡ pos (m - suc a) = omega (arith, ints) in
    mod-above (negsuc a) m 1 (m - suc a) (omega arith) shifted ∙ mod-eq_of_lt (omega arith)

pub reflected-before : (a n : ℕ) → a < n → reflected (negsuc a) n ≡ a
reflected-before a n h =
    let back : 2 * n - 1 - (2 * n - suc a) ≡ a = omega arith in
    ap (folded n (2 * n - 1)) (modulo-before a (2 * n) (omega arith)) ∙ folded-past n (2 * n - 1) (2 * n - suc a) (omega arith) ∙ back

pub reflected-after : (c n : ℕ) → c < n → reflected (pos (n + c)) n ≡ n - 1 - c
reflected-after c n h =
    let place : modulo (pos (n + c)) (2 * n) ≡ n + c = mod-eq_of_lt (omega arith) in
    let back : 2 * n - 1 - (n + c) ≡ n - 1 - c = omega arith in
    ap (folded n (2 * n - 1)) place ∙ folded-past n (2 * n - 1) (n + c) (omega arith) ∙ back

pub reflected_at_pixel-before : (a n : ℕ) → suc a < n → reflected_at_pixel (negsuc a) n ≡ suc a
reflected_at_pixel-before a n h =
    let more : eqb n 1 ≡ false = grind (arith, nat_tests) in
    let place : modulo (negsuc a) (2 * n - 2) ≡ 2 * n - 2 - suc a = modulo-before a (2 * n - 2) (omega arith) in
    cond-false _ _ _ more ∙ ap (folded n (2 * n - 2)) place ∙ elim (cases_Bool (ltb (2 * n - 2 - suc a) n)) [
      | inl t ↦
          let below : 2 * n - 2 - suc a < n = (Decides-ltb (2 * n - 2 - suc a) n).0 t in
          let same : 2 * n - 2 - suc a ≡ suc a = omega arith in
          folded-short n (2 * n - 2) (2 * n - 2 - suc a) below ∙ same
      | inr f ↦
          let past : n ≤ 2 * n - 2 - suc a = grind (arith, nat_tests) in
          let same : 2 * n - 2 - (2 * n - 2 - suc a) ≡ suc a = omega arith in
          folded-past n (2 * n - 2) (2 * n - 2 - suc a) past ∙ same
    ]

mod_self : (n : ℕ) → 0 < n → n % n ≡ 0
mod_self n some =
    let same : n ≡ 0 + n = omega arith in
    ap (λ (m : ℕ). m % n) same ∙ mod-add_self 0 n some ∙ mod-eq_of_lt some

pub reflected_at_pixel-after : (c n : ℕ) → suc c < n → reflected_at_pixel (pos (n + c)) n ≡ n - 2 - c
reflected_at_pixel-after c n h =
    let more : eqb n 1 ≡ false = grind (arith, nat_tests) in
    cond-false _ _ _ more ∙ elim (cases_Bool (ltb (suc (suc c)) n)) [
      | inl t ↦
          let below : suc (suc c) < n = (Decides-ltb (suc (suc c)) n).0 t in
          let place : modulo (pos (n + c)) (2 * n - 2) ≡ n + c = mod-eq_of_lt (omega arith) in
          let back : 2 * n - 2 - (n + c) ≡ n - 2 - c = omega arith in
          ap (folded n (2 * n - 2)) place ∙ folded-past n (2 * n - 2) (n + c) (omega arith) ∙ back
      | inr f ↦
          let last : n ≡ suc (suc c) = grind (arith, nat_tests) in
          let round : n + c ≡ 2 * n - 2 = omega arith in
          let zero_is : 0 ≡ n - 2 - c = omega arith in
          let place : modulo (pos (n + c)) (2 * n - 2) ≡ 0 = ap (λ (m : ℕ). m % (2 * n - 2)) round ∙ mod_self (2 * n - 2) (omega arith) in
          ap (folded n (2 * n - 2)) place ∙ folded-short n (2 * n - 2) 0 (omega arith) ∙ zero_is
    ]
