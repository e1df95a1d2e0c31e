use Rattle.std.proofs.Common.{◌≡◌, ℕ, ◌*◌, ◌<◌, ◌≤◌, ◌^◌, w64, ℤ, pos, ◌+ℤ◌, ◌*ℤ◌, FitsSigned, to_z, of_z, sym, ap, ◌∙◌, subst, rules, arith}
use Rattle.std.specs.Prelude.{unsigned_abs}
use Rattle.std.specs.Int.{w128}
use Rattle.std.proofs.Math.Nat.{mul-pos, mul_assoc}
use Rattle.std.proofs.lemmas.Nat.{mul-lt}
use Rattle.std.proofs.lemmas.Int.{to_z-of_z}
use Rattle.oe_cell.specs.Fraction.{Fraction, IsCoprime}
use Rattle.oe_cell.specs.Exact.{exact, exact_value}
use Rattle.oe_cell.specs.Rational.{sum_of}
use Rattle.oe_cell.specs.LowestTerms.{Expands}
use Rattle.oe_cell.proofs.ExactLemmas.{Expands-den_positive}
use Rattle.oe_cell.proofs.NumberLemmas.{Parts, parts_from, num_read}
use Rattle.oe_cell.proofs.SumLemmas.{exact-total, IsCoprime-total, left_some}
use Rattle.oe_cell.proofs.arith.fraction_sum.Goals as goal

den_fits : (b d left right common product : ℕ) → Expands (pos b) d (pos left) right common → left ≤ b → b < 2 ^ 63 → d < 2 ^ 63 → product ≡ left * right → product * common < 2 ^ 128
den_fits b d left right common product h small b_fits d_fits e =
    let same : product * common ≡ left * d = rw e (mul_assoc left right common ∙ ap (λ (x : ℕ). left * x) (sym h.den_is)) in
    let below : left * d < 2 ^ 63 * 2 ^ 63 = mul-lt left d (2 ^ 63) (2 ^ 63) (omega arith) d_fits in
    omega arith

total_is : (p q : Fraction) (a c total : ℤ) (b d left right : ℕ) → Parts p q a c b d → total ≡ to_z w64 (of_z w64 a) *ℤ pos right +ℤ to_z w64 (of_z w64 c) *ℤ pos left → to_z w128 (of_z w128 total) ≡ total → to_z w128 (of_z w128 total) ≡ p.num *ℤ pos right +ℤ q.num *ℤ pos left
total_is p q a c total b d left right h e same =
    same ∙ e ∙ ap (λ (z : ℤ). z *ℤ pos right +ℤ to_z w64 (of_z w64 c) *ℤ pos left) (num_read a p.num h.a_is h.p_number.num_fits) ∙ ap (λ (z : ℤ). p.num *ℤ pos right +ℤ z *ℤ pos left) (num_read c q.num h.c_is h.q_number.num_fits)

coprime_total : (p q : Fraction) (a c total : ℤ) (b d left right common product : ℕ) → Parts p q a c b d → Expands (pos b) d (pos left) right common → total ≡ p.num *ℤ pos right +ℤ q.num *ℤ pos left → product ≡ left * right → IsCoprime (unsigned_abs total) product
coprime_total p q a c total b d left right common product h shared e f =
    let left_coprime = subst (λ (x : ℕ). IsCoprime (unsigned_abs p.num) x) (sym h.b_is) h.p_number.reduced in
    let right_coprime = subst (λ (x : ℕ). IsCoprime (unsigned_abs q.num) x) (sym h.d_is) h.q_number.reduced in
    rw (e, f) (IsCoprime-total p.num q.num b d left right common shared left_coprime right_coprime)

value_from : (p q : Fraction) (a c total : ℤ) (b d left right common product : ℕ) → Parts p q a c b d → Expands (pos b) d (pos left) right common → total ≡ p.num *ℤ pos right +ℤ q.num *ℤ pos left → product ≡ left * right → exact total (product * common) ≡ exact_value (sum_of p q)
value_from p q a c total b d left right common product h shared e f =
    let some_b : 0 < b = subst (λ (x : ℕ). 0 < x) (sym h.b_is) h.p_number.den_positive in
    let some_d : 0 < d = subst (λ (x : ℕ). 0 < x) (sym h.d_is) h.q_number.den_positive in
    rw (e, f) (exact-total p.num q.num b d left right common shared some_b some_d ∙ ap (λ (x : ℕ). exact (p.num *ℤ pos x +ℤ q.num *ℤ pos b) (b * x)) h.d_is ∙ ap (λ (x : ℕ). exact (p.num *ℤ pos q.den +ℤ q.num *ℤ pos x) (x * q.den)) h.b_is)

pub reduce-requires-clause-den_fits : goal.reduce-requires-clause-den_fits
reduce-requires-clause-den_fits c =
    let b_fits : c.parts-a.result.1 < 2 ^ 63 = subst (λ (x : ℕ). x < 2 ^ 63) (sym c.parts-a.ensures.den) c.parts-a.ensures.number.den_fits in
    let d_fits : c.parts-c.result.1 < 2 ^ 63 = subst (λ (x : ℕ). x < 2 ^ 63) (sym c.parts-c.ensures.den) c.parts-c.ensures.number.den_fits in
    den_fits c.parts-a.result.1 c.parts-c.result.1 c.share-shared.result.left c.share-shared.result.right c.share-shared.result.common c.wide_product.result c.share-shared.ensures.parts c.share-shared.ensures.left b_fits d_fits c.wide_product.ensures.value

pub reduce-requires-clause-rest_some : goal.reduce-requires-clause-rest_some
reduce-requires-clause-rest_some c =
    let some_b : 0 < c.parts-a.result.1 = subst (λ (x : ℕ). 0 < x) (sym c.parts-a.ensures.den) c.parts-a.ensures.number.den_positive in
    let some_d : 0 < c.parts-c.result.1 = subst (λ (x : ℕ). 0 < x) (sym c.parts-c.ensures.den) c.parts-c.ensures.number.den_positive in
    subst (λ (x : ℕ). 0 < x) (sym c.wide_product.ensures.value) (mul-pos (left_some c.share-shared.ensures.parts some_b) (Expands-den_positive c.share-shared.ensures.parts some_d))

pub reduce-requires-clause-coprime : goal.reduce-requires-clause-coprime
reduce-requires-clause-coprime c =
    let operands : Parts c.args.p c.args.q c.parts-a.result.0 c.parts-c.result.0 c.parts-a.result.1 c.parts-c.result.1 = parts_from c.parts-a.ensures.number c.parts-a.ensures.num c.parts-a.ensures.den c.parts-c.ensures.number c.parts-c.ensures.num c.parts-c.ensures.den in
    let fits : FitsSigned w128 c.crossed_sum-total.result = search rules in
    coprime_total c.args.p c.args.q c.parts-a.result.0 c.parts-c.result.0 _ c.parts-a.result.1 c.parts-c.result.1 c.share-shared.result.left c.share-shared.result.right c.share-shared.result.common c.wide_product.result operands c.share-shared.ensures.parts
    (total_is c.args.p c.args.q c.parts-a.result.0 c.parts-c.result.0 c.crossed_sum-total.result c.parts-a.result.1 c.parts-c.result.1 c.share-shared.result.left c.share-shared.result.right operands c.crossed_sum-total.ensures (to_z-of_z w128 c.crossed_sum-total.result fits))
    c.wide_product.ensures.value

pub returns : goal.returns
returns c =
    let operands : Parts c.args.p c.args.q c.parts-a.result.0 c.parts-c.result.0 c.parts-a.result.1 c.parts-c.result.1 = parts_from c.parts-a.ensures.number c.parts-a.ensures.num c.parts-a.ensures.den c.parts-c.ensures.number c.parts-c.ensures.num c.parts-c.ensures.den in
    let fits : FitsSigned w128 c.crossed_sum-total.result = search rules in
    c.reduce.ensures ∙ value_from c.args.p c.args.q c.parts-a.result.0 c.parts-c.result.0 _ c.parts-a.result.1 c.parts-c.result.1 c.share-shared.result.left c.share-shared.result.right c.share-shared.result.common c.wide_product.result operands c.share-shared.ensures.parts
    (total_is c.args.p c.args.q c.parts-a.result.0 c.parts-c.result.0 c.crossed_sum-total.result c.parts-a.result.1 c.parts-c.result.1 c.share-shared.result.left c.share-shared.result.right operands c.crossed_sum-total.ensures (to_z-of_z w128 c.crossed_sum-total.result fits))
    c.wide_product.ensures.value
