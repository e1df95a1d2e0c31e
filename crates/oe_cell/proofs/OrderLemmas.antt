-- The order of the numbers of cells is total: reflexive, antisymmetric and transitive, and what is equal is the same.
use Rattle.std.proofs.Common.{◌≡◌, ℕ, refl, sym, ap, ◌∙◌, arith, ℤ, pos, ◌*ℤ◌, ◌<ℤ◌, Bool, true}
use Rattle.std.specs.Ordering.{is_eq, is_le}
use Rattle.std.specs.Ordering.{ordering_reverse}
use Rattle.std.specs.declared.cmp.Ordering.{Ordering}
use Rattle.std.specs.declared.cmp.Ordering.TheVariants.{Less, Equal, Greater}
use Rattle.std.specs.Cmp.{int_cmp_is}
use Rattle.std.proofs.Math.Nat.{mul_comm}
use Rattle.std.proofs.lemmas.Cmp.{int_ranked, int_cmp_total, tied_itself}
use Rattle.std.proofs.lemmas.Int.{ints}
use Rattle.std.proofs.lemmas.Bool.Decides.{same_from_decides}
use Rattle.oe_cell.specs.Fraction.{Fraction, IsNumber}
use Rattle.oe_cell.specs.Order.{compare_of}
use Rattle.oe_cell.proofs.ExactLemmas.{same_from_IsSameRational}
use Rattle.oe_cell.proofs.Scale.{scale-scale, below_scale, below_from_scale}

-- a number is equal to itself
pub compare_of_refl : (p : Fraction) → compare_of p p ≡ Equal
compare_of_refl p = tied_itself int_cmp_total (p.num *ℤ pos p.den)

-- two numbers that are equal are the same pair
pub same_from_compare_of : (p q : Fraction) → IsNumber p → IsNumber q → compare_of p q ≡ Equal → p ≡ q
same_from_compare_of p q left right e = same_from_IsSameRational p q left right (int_ranked _ _ Equal (sym e))

-- the other way round the order is reversed
pub compare_of_antisymm : (p q : Fraction) → compare_of p q ≡ ordering_reverse (compare_of q p)
compare_of_antisymm p q = int_cmp_total.antisymm (p.num *ℤ pos q.den) (q.num *ℤ pos p.den)

below_from_less : (p q : Fraction) → compare_of p q ≡ Less → (p.num *ℤ pos q.den) <ℤ (q.num *ℤ pos p.den)
below_from_less p q e = int_ranked _ _ Less (sym e)

-- two factors change places
pub scale_swap : (z : ℤ) (a b : ℕ) → z *ℤ pos a *ℤ pos b ≡ z *ℤ pos b *ℤ pos a
scale_swap z a b = scale-scale z a b ∙ ap (λ (n : ℕ). z *ℤ pos n) (mul_comm a b) ∙ sym (scale-scale z b a)

-- what is less than a lesser number is less
pub compare_of_trans : (p q r : Fraction) → IsNumber p → IsNumber q → IsNumber r → compare_of p q ≡ Less → compare_of q r ≡ Less → compare_of p r ≡ Less
compare_of_trans p q r p_number q_number r_number first second =
    let left : (p.num *ℤ pos q.den *ℤ pos r.den) <ℤ (q.num *ℤ pos p.den *ℤ pos r.den) = below_scale (p.num *ℤ pos q.den) (q.num *ℤ pos p.den) r.den r_number.den_positive (below_from_less p q first) in
    let right : (q.num *ℤ pos r.den *ℤ pos p.den) <ℤ (r.num *ℤ pos q.den *ℤ pos p.den) = below_scale (q.num *ℤ pos r.den) (r.num *ℤ pos q.den) p.den p_number.den_positive (below_from_less q r second) in
    let middle : q.num *ℤ pos p.den *ℤ pos r.den ≡ q.num *ℤ pos r.den *ℤ pos p.den = scale_swap q.num p.den r.den in
    let low : p.num *ℤ pos q.den *ℤ pos r.den ≡ p.num *ℤ pos r.den *ℤ pos q.den = scale_swap p.num q.den r.den in
    let high : r.num *ℤ pos q.den *ℤ pos p.den ≡ r.num *ℤ pos p.den *ℤ pos q.den = scale_swap r.num q.den p.den in
    let joined : (p.num *ℤ pos r.den *ℤ pos q.den) <ℤ (r.num *ℤ pos p.den *ℤ pos q.den) = omega (arith, ints, left, right, middle, low, high) in
    sym (int_cmp_is (p.num *ℤ pos r.den) (r.num *ℤ pos p.den) Less (below_from_scale (p.num *ℤ pos r.den) (r.num *ℤ pos p.den) q.den joined))

-- the same, where either pair may be equal
pub compare_of_le_trans : (p q r : Fraction) → IsNumber p → IsNumber q → IsNumber r → is_le (compare_of p q) ≡ true → is_le (compare_of q r) ≡ true → is_le (compare_of p r) ≡ true
compare_of_le_trans p q r p_number q_number r_number first second = by_first (compare_of p q) refl first
  where
    by_second : (o : Ordering) → compare_of p q ≡ Less → o ≡ compare_of q r → is_le o ≡ true → is_le (compare_of p r) ≡ true
    by_second Less less e h = ap is_le (compare_of_trans p q r p_number q_number r_number less (sym e))
    by_second Equal less e h = ap is_le (ap (λ (s : Fraction). compare_of p s) (sym (same_from_compare_of q r q_number r_number (sym e))) ∙ less)
    by_second Greater less e h = cc

    by_first : (o : Ordering) → o ≡ compare_of p q → is_le o ≡ true → is_le (compare_of p r) ≡ true
    by_first Less e h = by_second (compare_of q r) (sym e) refl second
    by_first Equal e h = ap (λ (s : Fraction). is_le (compare_of s r)) (same_from_compare_of p q p_number q_number (sym e)) ∙ second
    by_first Greater e h = cc

equal_from_is_eq : (o : Ordering) → is_eq o ≡ true → o ≡ Equal
equal_from_is_eq Less h = cc
equal_from_is_eq Equal h = refl
equal_from_is_eq Greater h = cc

-- a test of two numbers as pairs is one of them as rational numbers
pub is_eq-compare_of : (p q : Fraction) (r : Bool) → IsNumber p → IsNumber q → (r ≡ true → p ≡ q) → (p ≡ q → r ≡ true) → r ≡ is_eq (compare_of p q)
is_eq-compare_of p q r left right f g =
    same_from_decides r (is_eq (compare_of p q)) (f, g) (
      λ e. same_from_compare_of p q left right (equal_from_is_eq (compare_of p q) e),
      λ e. ap is_eq (ap (λ (s : Fraction). compare_of p s) (sym e) ∙ compare_of_refl p),
    )
