-- Numbers without a common divisor, and the greatest common divisor.
use Rattle.std.proofs.Common.{◌≡◌, ℕ, zero, suc, ◌+◌, ◌*◌, ◌/◌, ◌%◌, ◌<◌, ◌≤◌, sym, ap, ◌∙◌, subst, arith}
use Rattle.std.specs.Int.{◌∣◌, IsGcd}
use Rattle.std.proofs.Math.Nat.{eq-one_of_dvd-one, dvd_trans, dvd-mul_right, mul-dvd-mul_right, dvd_of_mul-dvd-mul_right, mul_assoc, mul-one, one-mul, zero-mul, add-mul, one-dvd, dvd-zero, mod-lt, mod-eq_of_lt, div-add-mod', mul-add-mod_self_right, mul-lt-mul_of_pos_right}
use Rattle.std.proofs.lemmas.Nat.Gcd.{IsGcd-from_zero, IsGcd-from_mod, same_from_IsGcd}
use Rattle.oe_cell.specs.Fraction.{IsCoprime}
use Rattle.oe_cell.specs.Exact.{gcd_within, gcd_of}

pub IsCoprime-from_gcd : (a b g : ℕ) → IsGcd a b g → g ≡ 1 → IsCoprime a b
IsCoprime-from_gcd a b g h e d p q = eq-one_of_dvd-one (subst (λ (x : ℕ). d ∣ x) e (h.2 d p q))

pub one_from_IsCoprime : (a b g : ℕ) → IsGcd a b g → IsCoprime a b → g ≡ 1
one_from_IsCoprime a b g h p = p g h.0 h.1

pub IsCoprime-swap : (a b : ℕ) → IsCoprime a b → IsCoprime b a
IsCoprime-swap a b h d p q = h d q p

-- a divisor of one of two coprime numbers is coprime to the other
pub IsCoprime-part : (a b c : ℕ) → c ∣ a → IsCoprime a b → IsCoprime c b
IsCoprime-part a b c p h d q r = h d (dvd_trans _ q p) r

pub IsCoprime-one : (a : ℕ) → IsCoprime a 1
IsCoprime-one a d p q = eq-one_of_dvd-one q

mod-scale : (a b k : ℕ) → 0 < b → 0 < k → a * k % (b * k) ≡ a % b * k
mod-scale a b k divisor positive =
    let below : a % b < b = mod-lt a divisor in
    let scaled : a % b * k < b * k = mul-lt-mul_of_pos_right below positive in
    let parts : a * k ≡ a / b * (b * k) + a % b * k = sym (ap (λ (x : ℕ). x * k) (div-add-mod' a b)) ∙ add-mul (a / b * b) (a % b) k ∙ ap (λ (x : ℕ). x + a % b * k) (mul_assoc (a / b) b k) in
    ap (λ (x : ℕ). x % (b * k)) parts ∙ mul-add-mod_self_right (a / b) (b * k) (a % b * k) ∙ mod-eq_of_lt scaled

-- what Euclid's method gives, also where both numbers are a multiple of k
IsGcd-gcd_within : (turns a b k : ℕ) → 0 < k → b ≤ turns → IsGcd (a * k) (b * k) (gcd_within turns a b * k)
unfolding gcd_within
IsGcd-gcd_within zero a b k positive h =
    let e : b ≡ 0 = omega arith in IsGcd-from_zero (a * k) (b * k) (ap (λ (x : ℕ). x * k) e ∙ zero-mul k)
IsGcd-gcd_within (suc turns) a zero k positive h = IsGcd-from_zero (a * k) (0 * k) (zero-mul k)
IsGcd-gcd_within (suc turns) a (suc b) k positive h =
    let some : 0 < suc b = omega arith in
    let below : a % suc b < suc b = mod-lt a some in
    let rest : a % suc b ≤ turns = omega arith in
    IsGcd-from_mod (a * k) (suc b * k) _
    (subst (λ (x : ℕ). IsGcd (suc b * k) x (gcd_within turns (suc b) (a % suc b) * k)) (sym (mod-scale a (suc b) k some positive))
    (IsGcd-gcd_within turns (suc b) (a % suc b) k positive rest))

pub IsGcd-gcd_of : (a b : ℕ) → IsGcd a b (gcd_of a b)
unfolding gcd_of
IsGcd-gcd_of a b = simp mul-one at (IsGcd-gcd_within b a b 1 (omega arith) (omega arith))

-- the greatest common divisor of two multiples
pub IsGcd-scale : (a b g k : ℕ) → 0 < k → IsGcd a b g → IsGcd (a * k) (b * k) (g * k)
IsGcd-scale a b g k positive h =
    let e : gcd_within b a b ≡ g = same_from_IsGcd a b (gcd_within b a b) g (simp mul-one at (IsGcd-gcd_within b a b 1 (omega arith) (omega arith))) h in
    subst (λ (x : ℕ). IsGcd (a * k) (b * k) (x * k)) e (IsGcd-gcd_within b a b k positive (omega arith))

-- coprime numbers have the greatest common divisor 1
pub IsGcd-from_IsCoprime : (a b : ℕ) → IsCoprime a b → IsGcd a b 1
IsGcd-from_IsCoprime a b h = (one-dvd a, one-dvd b, λ d p q. subst (λ (x : ℕ). x ∣ 1) (sym (h d p q)) (one-dvd 1))

pub gcd_of-scale : (a b k : ℕ) → 0 < k → IsCoprime a b → gcd_of (a * k) (b * k) ≡ k
gcd_of-scale a b k positive h =
    same_from_IsGcd (a * k) (b * k) (gcd_of (a * k) (b * k)) k (IsGcd-gcd_of (a * k) (b * k)) (simp one-mul at (IsGcd-scale a b 1 k positive (IsGcd-from_IsCoprime a b h)))

-- Euclid's lemma: what divides a product and is coprime to one factor divides the other
pub dvd_from_product : (d a c : ℕ) → IsCoprime d a → d ∣ a * c → d ∣ c
dvd_from_product d a zero h p = dvd-zero d
dvd_from_product d a (suc c) h p =
    let positive : 0 < suc c = omega arith in
    subst (λ (x : ℕ). d ∣ x) (one-mul (suc c)) ((IsGcd-scale d a 1 (suc c) positive (IsGcd-from_IsCoprime d a h)).2 d (dvd-mul_right d (suc c)) p)

pub IsCoprime-product : (a b c : ℕ) → IsCoprime a b → IsCoprime a c → IsCoprime a (b * c)
IsCoprime-product a b c h k d p q = k d p (dvd_from_product d b c (IsCoprime-part a b d p h) q)

-- what is left of two numbers after a division by their greatest common divisor
pub IsCoprime-quotients : (a b g m n : ℕ) → 0 < g → a ≡ m * g → b ≡ n * g → IsGcd a b g → IsCoprime m n
IsCoprime-quotients a b g m n positive e f h d p q =
    let left : d * g ∣ a = subst (λ (x : ℕ). d * g ∣ x) (sym e) (mul-dvd-mul_right d p g) in
    let right : d * g ∣ b = subst (λ (x : ℕ). d * g ∣ x) (sym f) (mul-dvd-mul_right d q g) in
    let both : d * g ∣ 1 * g = subst (λ (x : ℕ). d * g ∣ x) (sym (one-mul g)) (h.2 (d * g) left right) in
    eq-one_of_dvd-one (dvd_of_mul-dvd-mul_right d positive both)
