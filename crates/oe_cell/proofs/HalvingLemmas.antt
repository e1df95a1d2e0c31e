-- Halving: odd numbers, powers of 2 and the greatest common divisor.
use Rattle.std.proofs.Common.{◌≡◌, ℕ, zero, suc, ◌+◌, ◌-◌, ◌*◌, ◌/◌, ◌%◌, ◌^◌, ◌<◌, ◌≤◌, min, inl, inr, sym, ap, ◌∙◌, subst, arith}
use Rattle.std.specs.Int.{◌∣◌, IsGcd, bit_at, abs_diff}
use Rattle.std.proofs.lemmas.Bool.{cases_lt}
use Rattle.std.proofs.lemmas.Nat.{pow-add}
use Rattle.std.proofs.Math.Nat.{dvd_trans, dvd-mul_right, pow-suc, mod-eq_of_lt, mul_assoc, mul_comm, div-div-eq-div-mul}
use Rattle.std.proofs.lemmas.Nat.Gcd.{IsGcd-swap, IsGcd-from_sub, le_of_dvd, mod-eq-zero_of_dvd, dvd_refl}
use Rattle.oe_cell.specs.Fraction.{IsCoprime}
use Rattle.oe_cell.proofs.Coprime.{IsCoprime-part, IsCoprime-one, IsCoprime-product, dvd_from_product, IsGcd-scale}

-- a factor that is coprime to the other number does not count
pub IsGcd-times : (x y p g : ℕ) → IsCoprime x p → IsGcd x y g → IsGcd x (y * p) g
IsGcd-times x y p g h e =
    (e.0, dvd_trans _ e.1 (dvd-mul_right y p), λ d q r. e.2 d q (dvd_from_product d p y (IsCoprime-part x p d q h) (subst (λ (n : ℕ). d ∣ n) (mul_comm y p) r)))

-- a number whose t lowest bits are 0 is a multiple of 2 ^ t
pub halved : (t n : ℕ) → ((i : ℕ) → i < t → bit_at n i ≡ 0) → n ≡ n / 2 ^ t * 2 ^ t
halved zero n h = omega arith
halved (suc t) n h =
    let e : n ≡ n / 2 ^ t * 2 ^ t = halved t n (λ i b. h i (omega arith)) in
    let last : n / 2 ^ t % 2 ≡ 0 = h t (omega arith) in
    let even : n / 2 ^ t ≡ n / 2 ^ t / 2 * 2 = omega arith in
    let quotient : n / 2 ^ t / 2 ≡ n / 2 ^ suc t = div-div-eq-div-mul n (2 ^ t) 2 ∙ ap (λ (m : ℕ). n / m) (sym (pow-suc 2 t)) in
    e ∙ ap (λ (m : ℕ). m * 2 ^ t) even ∙ mul_assoc (n / 2 ^ t / 2) 2 (2 ^ t) ∙ ap (λ (m : ℕ). n / 2 ^ t / 2 * m) (mul_comm 2 (2 ^ t) ∙ sym (pow-suc 2 t)) ∙ ap (λ (m : ℕ). m * 2 ^ suc t) quotient

IsCoprime-two : (x : ℕ) → x % 2 ≡ 1 → IsCoprime x 2
IsCoprime-two x odd zero p q = let e : 2 % 0 ≡ 0 = mod-eq-zero_of_dvd 0 q in omega arith
IsCoprime-two x odd (suc zero) p q = omega arith
IsCoprime-two x odd (suc (suc zero)) p q = let e : x % 2 ≡ 0 = mod-eq-zero_of_dvd _ p in omega arith
IsCoprime-two x odd (suc (suc (suc d))) p q = let e : suc (suc (suc d)) ≤ 2 = le_of_dvd (omega arith) q in omega arith

IsCoprime-power : (k x : ℕ) → x % 2 ≡ 1 → IsCoprime x (2 ^ k)
IsCoprime-power zero x odd = IsCoprime-one x
IsCoprime-power (suc k) x odd =
    subst (λ (n : ℕ). IsCoprime x n) (sym (pow-suc 2 k)) (IsCoprime-product x (2 ^ k) 2 (IsCoprime-power k x odd) (IsCoprime-two x odd))

-- a difference without its factors of 2, beside an odd number
pub IsGcd-halved : (r m d k g : ℕ) → m % 2 ≡ 1 → d ≡ r * 2 ^ k → IsGcd r m g → IsGcd d m g
IsGcd-halved r m d k g odd e h =
    subst (λ (n : ℕ). IsGcd n m g) (sym e) (IsGcd-swap m (r * 2 ^ k) g (IsGcd-times m r (2 ^ k) g (IsCoprime-power k m odd) (IsGcd-swap r m g h)))

-- the lesser of two numbers and their difference
pub IsGcd-stepped : (x y m d g : ℕ) → m ≡ min x y → d ≡ abs_diff x y → IsGcd d m g → IsGcd x y g
IsGcd-stepped x y m d g e f h =
    elim (cases_lt x y) [
      | inl below ↦
          let least : m ≡ x = omega arith in
          let rest : d ≡ y - x = omega arith in
          IsGcd-swap y x g (IsGcd-from_sub y x g (omega arith) (subst (λ (n : ℕ). IsGcd n x g) rest (subst (λ (n : ℕ). IsGcd d n g) least h)))
      | inr above ↦
          let least : m ≡ y = omega arith in
          let rest : d ≡ x - y = omega arith in
          IsGcd-from_sub x y g (omega arith) (subst (λ (n : ℕ). IsGcd n y g) rest (subst (λ (n : ℕ). IsGcd d n g) least h))
    ]

pub min_odd : (x y m : ℕ) → x % 2 ≡ 1 → y % 2 ≡ 1 → m ≡ min x y → m % 2 ≡ 1
min_odd x y m p q e =
    elim (cases_lt x y) [
      | inl below ↦ let least : m ≡ x = omega arith in ap (λ (n : ℕ). n % 2) least ∙ p
      | inr above ↦ let least : m ≡ y = omega arith in ap (λ (n : ℕ). n % 2) least ∙ q
    ]

pub IsGcd-same : (x y : ℕ) → x ≡ y → IsGcd x y x
IsGcd-same x y e = (dvd_refl x, subst (λ (n : ℕ). x ∣ n) e (dvd_refl x), λ d p q. p)

-- odd parts, of which the first was halved no more often
pub IsGcd-doubled : (x y i k g : ℕ) → x % 2 ≡ 1 → 0 < 2 ^ i → IsGcd x y g → IsGcd (x * 2 ^ i) (y * 2 ^ (k + i)) (g * 2 ^ i)
IsGcd-doubled x y i k g odd some h =
    let e : y * 2 ^ k * 2 ^ i ≡ y * 2 ^ (k + i) = mul_assoc y (2 ^ k) (2 ^ i) ∙ ap (λ (n : ℕ). y * n) (sym (pow-add 2 k i)) in
    subst (λ (n : ℕ). IsGcd (x * 2 ^ i) n (g * 2 ^ i)) e (IsGcd-scale x (y * 2 ^ k) g (2 ^ i) some (IsGcd-times x y (2 ^ k) g (IsCoprime-power k x odd) h))

two_power-some : (k : ℕ) → 0 < 2 ^ k
two_power-some zero = omega arith
two_power-some (suc k) =
    let some : 0 < 2 ^ k = two_power-some k in
    let e : 2 ^ suc k ≡ 2 ^ k * 2 = pow-suc 2 k in omega arith

both_doubled : (a b x y i j m g : ℕ) → x % 2 ≡ 1 → y % 2 ≡ 1 → a ≡ x * 2 ^ i → b ≡ y * 2 ^ j → m ≡ min i j → IsGcd x y g → IsGcd a b (g * 2 ^ m)
both_doubled a b x y i j m g odd also e f least h =
    elim (cases_lt i j) [
      | inl below ↦
          let here : i ≡ m = omega arith in
          let there : j - i + i ≡ j = omega arith in
          subst (λ (n : ℕ). IsGcd a b (g * 2 ^ n)) here (subst (λ (n : ℕ). IsGcd n b (g * 2 ^ i)) (sym e) (subst (λ (n : ℕ). IsGcd (x * 2 ^ i) n (g * 2 ^ i)) (ap (λ (n : ℕ). y * 2 ^ n) there ∙ sym f) (IsGcd-doubled x y i (j - i) g odd (two_power-some i) h)))
      | inr above ↦
          let here : j ≡ m = omega arith in
          let there : i - j + j ≡ i = omega arith in
          IsGcd-swap b a (g * 2 ^ m) (subst (λ (n : ℕ). IsGcd b a (g * 2 ^ n)) here (subst (λ (n : ℕ). IsGcd n a (g * 2 ^ j)) (sym f) (subst (λ (n : ℕ). IsGcd (y * 2 ^ j) n (g * 2 ^ j)) (ap (λ (n : ℕ). x * 2 ^ n) there ∙ sym e) (IsGcd-doubled y x j (i - j) g also (two_power-some j) (IsGcd-swap x y g h)))))
    ]

-- the greatest common divisor of two numbers of a machine from that of their odd parts
pub IsGcd-from_odd : (a b x y i j m g : ℕ) → 0 < a → a < 2 ^ 64 → x % 2 ≡ 1 → y % 2 ≡ 1 → a ≡ x * 2 ^ i → b ≡ y * 2 ^ j → m ≡ min i j → IsGcd x y g → IsGcd a b (g * 2 ^ m % 2 ^ 64)
IsGcd-from_odd a b x y i j m g some small odd also e f least h =
    let whole : IsGcd a b (g * 2 ^ m) = both_doubled a b x y i j m g odd also e f least h in
    let within : g * 2 ^ m ≤ a = le_of_dvd some whole.0 in
    subst (λ (n : ℕ). IsGcd a b n) (sym (mod-eq_of_lt (omega arith))) whole
