-- Whole numbers times natural numbers: what `z *ℤ pos k` keeps.
use Rattle.std.proofs.Common.{◌≡◌, ℕ, zero, suc, ◌+◌, ◌*◌, ◌/◌, ◌<◌, refl, sym, ◌∙◌, ap, arith, ℤ, pos, ◌+ℤ◌, ◌*ℤ◌, ◌<ℤ◌, ◌≤ℤ◌, ◌≤◌, neg_ℤ}
use Rattle.std.specs.Prelude.{negsuc, unsigned_abs, int_div}
use Rattle.std.specs.Int.{◌∣◌}
use Rattle.std.proofs.Math.Nat.{mul_assoc, mul_comm, mul_right_comm, zero-mul, zero-div, mul-div_cancel, div-mul_cancel, eq_of_mul-eq-mul_right, lt_of_mul-lt-mul_right, mul-lt-mul_of_pos_right, mul-le-mul_right}
use Rattle.std.proofs.Math.IntN.{*ℤ_comm}
use Rattle.std.proofs.lemmas.Int.{ints, unsigned_abs-mul}
use borrow.Author.Differences.{up, down, sum_is_lem, neg_is}

neg-scale : (m k : ℕ) → neg_ℤ (pos m) *ℤ pos k ≡ neg_ℤ (pos (m * k))
neg-scale zero k = rw zero-mul refl
neg-scale (suc m) k = refl

neg-scale_negsuc : (m k : ℕ) → neg_ℤ (pos m) *ℤ negsuc k ≡ pos (m * suc k)
neg-scale_negsuc zero k = rw zero-mul refl
neg-scale_negsuc (suc m) k = refl

pub scale-scale : (z : ℤ) (a b : ℕ) → z *ℤ pos a *ℤ pos b ≡ z *ℤ pos (a * b)
scale-scale (pos n) a b = ap pos (mul_assoc n a b)
scale-scale (negsuc n) a b = neg-scale (suc n * a) b ∙ ap (λ (x : ℕ). neg_ℤ (pos x)) (mul_assoc (suc n) a b)

pub scale-product : (x y : ℤ) (k : ℕ) → x *ℤ pos k *ℤ y ≡ x *ℤ y *ℤ pos k
scale-product (pos a) (pos b) k = ap pos (mul_right_comm a k b)
scale-product (pos a) (negsuc b) k =
    ap (λ (x : ℕ). neg_ℤ (pos x)) (mul_right_comm a k (suc b)) ∙ sym (neg-scale (a * suc b) k)
scale-product (negsuc a) (pos b) k =
    neg-scale (suc a * k) b ∙ ap (λ (x : ℕ). neg_ℤ (pos x)) (mul_right_comm (suc a) k b) ∙ sym (neg-scale (suc a * b) k)
scale-product (negsuc a) (negsuc b) k = neg-scale_negsuc (suc a * k) b ∙ ap pos (mul_right_comm (suc a) k (suc b))

pub scales-product : (x y : ℤ) (j k : ℕ) → x *ℤ pos j *ℤ (y *ℤ pos k) ≡ x *ℤ y *ℤ pos (j * k)
scales-product x y j k =
    scale-product x (y *ℤ pos k) j ∙ ap (λ (z : ℤ). z *ℤ pos j) (*ℤ_comm x (y *ℤ pos k) ∙ scale-product y x k ∙ ap (λ (z : ℤ). z *ℤ pos k) (*ℤ_comm y x)) ∙ scale-scale (x *ℤ y) k j ∙ ap (λ (n : ℕ). x *ℤ y *ℤ pos n) (mul_comm k j)

pub scale-add : (x y : ℤ) (k : ℕ) → (x +ℤ y) *ℤ pos k ≡ x *ℤ pos k +ℤ y *ℤ pos k
scale-add x y k = omega (arith, ints, ap (λ (n : ℕ). n * k) (sum_is_lem x y))

pub scale-neg : (x : ℤ) (k : ℕ) → neg_ℤ x *ℤ pos k ≡ neg_ℤ (x *ℤ pos k)
scale-neg x k =
    omega (arith, ints, ap (λ (n : ℕ). n * k) (neg_is x).0, ap (λ (n : ℕ). n * k) (neg_is x).1)

pub same_from_scale : (x y : ℤ) (k : ℕ) → 0 < k → x *ℤ pos k ≡ y *ℤ pos k → x ≡ y
same_from_scale x y k positive h =
    let e : (up x + down y) * k ≡ (up y + down x) * k = omega (arith, ints, h) in
    let f : up x + down y ≡ up y + down x = eq_of_mul-eq-mul_right k positive _ _ e in
    omega (arith, ints)

pub below_scale : (x y : ℤ) (k : ℕ) → 0 < k → x <ℤ y → (x *ℤ pos k) <ℤ (y *ℤ pos k)
below_scale x y k positive h =
    let f : up x + down y < up y + down x = omega (arith, ints) in
    let e : (up x + down y) * k < (up y + down x) * k = mul-lt-mul_of_pos_right f positive in
    omega (arith, ints)

pub below_from_scale : (x y : ℤ) (k : ℕ) → (x *ℤ pos k) <ℤ (y *ℤ pos k) → x <ℤ y
below_from_scale x y k h =
    let e : (up x + down y) * k < (up y + down x) * k = omega (arith, ints) in
    let f : up x + down y < up y + down x = lt_of_mul-lt-mul_right k e in
    omega (arith, ints)

pub abs-scale : (z : ℤ) (k : ℕ) → unsigned_abs (z *ℤ pos k) ≡ unsigned_abs z * k
abs-scale z k = unsigned_abs-mul z (pos k)

div-neg : (m k : ℕ) → int_div (neg_ℤ (pos m)) (pos k) ≡ neg_ℤ (pos (m / k))
div-neg zero k = rw zero-div refl
div-neg (suc m) k = refl

pub div-scale : (z : ℤ) (k : ℕ) → 0 < k → int_div (z *ℤ pos k) (pos k) ≡ z
div-scale (pos n) k positive = ap pos (mul-div_cancel n positive)
div-scale (negsuc n) k positive =
    div-neg (suc n * k) k ∙ ap (λ (x : ℕ). neg_ℤ (pos x)) (mul-div_cancel (suc n) positive)

pub scale-div : (z : ℤ) (k : ℕ) → k ∣ unsigned_abs z → int_div z (pos k) *ℤ pos k ≡ z
scale-div (pos n) k h = ap pos (div-mul_cancel k h)
scale-div (negsuc n) k h = neg-scale (suc n / k) k ∙ ap (λ (x : ℕ). neg_ℤ (pos x)) (div-mul_cancel k h)

pub *ℤ-pos_one : (z : ℤ) → z *ℤ pos 1 ≡ z
*ℤ-pos_one z = omega (arith, ints)

pub at_most_scale : (x y : ℤ) (k : ℕ) → x ≤ℤ y → (x *ℤ pos k) ≤ℤ (y *ℤ pos k)
at_most_scale x y k h =
    let f : up x + down y ≤ up y + down x = omega (arith, ints) in
    let e : (up x + down y) * k ≤ (up y + down x) * k = mul-le-mul_right k f in
    omega (arith, ints)
