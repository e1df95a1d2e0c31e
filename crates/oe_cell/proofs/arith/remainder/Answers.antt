use Rattle.std.proofs.Common.{◌≡◌, ℕ, ◌*◌, ◌<◌, w64, ℤ, pos, ◌-ℤ◌, ◌*ℤ◌, FitsSigned, to_z, of_z, sym, ap, ◌∙◌, subst, rules}
use Rattle.std.specs.Prelude.{unsigned_abs}
use Rattle.std.specs.Int.{w128}
use Rattle.std.proofs.Math.Nat.{mul-pos, mul-one}
use Rattle.std.proofs.lemmas.Int.{to_z-of_z}
use Rattle.oe_cell.specs.Fraction.{Fraction, IsCoprime}
use Rattle.oe_cell.specs.Exact.{exact, exact_value, IsExactValue}
use Rattle.oe_cell.specs.Rational.{remainder_of, quotient_of}
use Rattle.oe_cell.specs.LowestTerms.{Expands, floor_quotient}
use Rattle.oe_cell.specs.declared.cell.Cell.{Cell}
use Rattle.oe_cell.proofs.ExactLemmas.{IsExactValue-exact}
use Rattle.oe_cell.proofs.FloorLemmas.{IsFloor-floor_int}
use Rattle.oe_cell.proofs.NumberLemmas.{Parts, parts_from, num_read}
use Rattle.oe_cell.proofs.RemainderLemmas.{exact-rest, IsCoprime-rest}
use Rattle.oe_cell.proofs.SignLemmas.{HasSignOf-remainder_of, HasSignOf-exact}
use Rattle.oe_cell.proofs.arith.remainder.Goals as goal

-- the rest that is left of the first numerator, both over the least common denominator
rest_of : ℤ → ℤ → ℕ → ℕ → ℤ
rest_of a c left right = a *ℤ pos right -ℤ floor_quotient (a *ℤ pos right) (c *ℤ pos left) *ℤ (c *ℤ pos left)

rest_is : (p q : Fraction) (a c rest : ℤ) (b d left right : ℕ) → Parts p q a c b d → rest ≡ rest_of (to_z w64 (of_z w64 a)) (to_z w64 (of_z w64 c)) left right → to_z w128 (of_z w128 rest) ≡ rest → to_z w128 (of_z w128 rest) ≡ rest_of p.num q.num left right
rest_is p q a c rest b d left right h e same =
    same ∙ e ∙ ap (λ (z : ℤ). rest_of z (to_z w64 (of_z w64 c)) left right) (num_read a p.num h.a_is h.p_number.num_fits) ∙ ap (λ (z : ℤ). rest_of p.num z left right) (num_read c q.num h.c_is h.q_number.num_fits)

coprime_rest : (p q : Fraction) (a c rest : ℤ) (b d left right common wide : ℕ) → Parts p q a c b d → Expands (pos b) d (pos left) right common → rest ≡ rest_of p.num q.num left right → wide ≡ left → IsCoprime (unsigned_abs rest) wide
unfolding rest_of
coprime_rest p q a c rest b d left right common wide h shared e f =
    let coprime = subst (λ (x : ℕ). IsCoprime (unsigned_abs p.num) x) (sym h.b_is) h.p_number.reduced in
    subst (λ (x : ℕ). IsCoprime (unsigned_abs rest) x) (sym f)
    (IsCoprime-rest p.num q.num (floor_quotient (p.num *ℤ pos right) (q.num *ℤ pos left)) rest b d left right common shared coprime e)

value_from : (p q : Fraction) (a c rest : ℤ) (b d left right common wide : ℕ) → Parts p q a c b d → Expands (pos b) d (pos left) right common → rest ≡ rest_of p.num q.num left right → wide ≡ left → exact rest (wide * d) ≡ exact_value (remainder_of p q)
unfolding rest_of
value_from p q a c rest b d left right common wide h shared e f =
    let some_b : 0 < b = subst (λ (x : ℕ). 0 < x) (sym h.b_is) h.p_number.den_positive in
    let some_d : 0 < d = subst (λ (x : ℕ). 0 < x) (sym h.d_is) h.q_number.den_positive in
    let here : exact rest (left * d) ≡ exact_value (remainder_of (record { num = p.num; den = b }) (record { num = q.num; den = d })) = exact-rest p.num q.num rest b d left right common shared some_b some_d e in
    ap (λ (x : ℕ). exact rest (x * d)) f ∙ here ∙ ap (λ (x : ℕ). exact_value (remainder_of (record { num = p.num; den = x }) (record { num = q.num; den = d }))) h.b_is ∙ ap (λ (x : ℕ). exact_value (remainder_of p (record { num = q.num; den = x }))) h.d_is

exact_from : (p q : Fraction) (a c : ℤ) (b d : ℕ) → Parts p q a c b d → (r : Cell) → r ≡ exact_value (remainder_of p q) → IsExactValue (remainder_of p q) r
exact_from p q a c b d h r e =
    let some : 0 < p.den * (q.den * 1) = mul-pos h.p_number.den_positive (subst (λ (x : ℕ). 0 < x) (sym (mul-one q.den)) h.q_number.den_positive) in
    subst (λ (x : Cell). IsExactValue (remainder_of p q) x) (sym e) (IsExactValue-exact _ _ some)

pub reduce-requires-clause-coprime : goal.reduce-requires-clause-coprime
unfolding rest_of
reduce-requires-clause-coprime c =
    let operands : Parts c.args.p c.args.q c.parts-a.result.0 c.parts-c.result.0 c.parts-a.result.1 c.parts-c.result.1 = parts_from c.parts-a.ensures.number c.parts-a.ensures.num c.parts-a.ensures.den c.parts-c.ensures.number c.parts-c.ensures.num c.parts-c.ensures.den in
    let fits : FitsSigned w128 c.crossed_rest-rest.result = search rules in
    let rest = rest_is c.args.p c.args.q c.parts-a.result.0 c.parts-c.result.0 c.crossed_rest-rest.result c.parts-a.result.1 c.parts-c.result.1 c.share-shared.result.left c.share-shared.result.right operands c.crossed_rest-rest.ensures (to_z-of_z w128 c.crossed_rest-rest.result fits) in
    coprime_rest c.args.p c.args.q c.parts-a.result.0 c.parts-c.result.0 _ c.parts-a.result.1 c.parts-c.result.1 c.share-shared.result.left c.share-shared.result.right c.share-shared.result.common c.from.result operands c.share-shared.ensures.parts rest c.from.ensures

pub returns-clause-value : goal.returns-clause-value
unfolding rest_of
returns-clause-value c =
    let operands : Parts c.args.p c.args.q c.parts-a.result.0 c.parts-c.result.0 c.parts-a.result.1 c.parts-c.result.1 = parts_from c.parts-a.ensures.number c.parts-a.ensures.num c.parts-a.ensures.den c.parts-c.ensures.number c.parts-c.ensures.num c.parts-c.ensures.den in
    let fits : FitsSigned w128 c.crossed_rest-rest.result = search rules in
    let rest = rest_is c.args.p c.args.q c.parts-a.result.0 c.parts-c.result.0 c.crossed_rest-rest.result c.parts-a.result.1 c.parts-c.result.1 c.share-shared.result.left c.share-shared.result.right operands c.crossed_rest-rest.ensures (to_z-of_z w128 c.crossed_rest-rest.result fits) in
    c.reduce.ensures ∙ value_from c.args.p c.args.q c.parts-a.result.0 c.parts-c.result.0 _ c.parts-a.result.1 c.parts-c.result.1 c.share-shared.result.left c.share-shared.result.right c.share-shared.result.common c.from.result operands c.share-shared.ensures.parts rest c.from.ensures

pub returns-clause-exact : goal.returns-clause-exact
unfolding rest_of
returns-clause-exact c =
    let operands : Parts c.args.p c.args.q c.parts-a.result.0 c.parts-c.result.0 c.parts-a.result.1 c.parts-c.result.1 = parts_from c.parts-a.ensures.number c.parts-a.ensures.num c.parts-a.ensures.den c.parts-c.ensures.number c.parts-c.ensures.num c.parts-c.ensures.den in
    let fits : FitsSigned w128 c.crossed_rest-rest.result = search rules in
    let rest = rest_is c.args.p c.args.q c.parts-a.result.0 c.parts-c.result.0 c.crossed_rest-rest.result c.parts-a.result.1 c.parts-c.result.1 c.share-shared.result.left c.share-shared.result.right operands c.crossed_rest-rest.ensures (to_z-of_z w128 c.crossed_rest-rest.result fits) in
    exact_from c.args.p c.args.q c.parts-a.result.0 c.parts-c.result.0 c.parts-a.result.1 c.parts-c.result.1 operands c.reduce.result (c.reduce.ensures ∙ value_from c.args.p c.args.q c.parts-a.result.0 c.parts-c.result.0 _ c.parts-a.result.1 c.parts-c.result.1 c.share-shared.result.left c.share-shared.result.right c.share-shared.result.common c.from.result operands c.share-shared.ensures.parts rest c.from.ensures)

pub returns-clause-floor : goal.returns-clause-floor
returns-clause-floor c =
    IsFloor-floor_int (quotient_of c.args.p c.args.q) (mul-pos c.parts-a.ensures.number.den_positive c.requires)

pub returns-clause-sign : goal.returns-clause-sign
unfolding rest_of
returns-clause-sign c =
    let operands : Parts c.args.p c.args.q c.parts-a.result.0 c.parts-c.result.0 c.parts-a.result.1 c.parts-c.result.1 = parts_from c.parts-a.ensures.number c.parts-a.ensures.num c.parts-a.ensures.den c.parts-c.ensures.number c.parts-c.ensures.num c.parts-c.ensures.den in
    let fits : FitsSigned w128 c.crossed_rest-rest.result = search rules in
    let rest = rest_is c.args.p c.args.q c.parts-a.result.0 c.parts-c.result.0 c.crossed_rest-rest.result c.parts-a.result.1 c.parts-c.result.1 c.share-shared.result.left c.share-shared.result.right operands c.crossed_rest-rest.ensures (to_z-of_z w128 c.crossed_rest-rest.result fits) in
    HasSignOf-exact c.args.q (remainder_of c.args.p c.args.q) c.reduce.result
    (mul-pos operands.p_number.den_positive (subst (λ (x : ℕ). 0 < x) (sym (mul-one c.args.q.den)) operands.q_number.den_positive))
    (exact_from c.args.p c.args.q c.parts-a.result.0 c.parts-c.result.0 c.parts-a.result.1 c.parts-c.result.1 operands c.reduce.result (c.reduce.ensures ∙ value_from c.args.p c.args.q c.parts-a.result.0 c.parts-c.result.0 _ c.parts-a.result.1 c.parts-c.result.1 c.share-shared.result.left c.share-shared.result.right c.share-shared.result.common c.from.result operands c.share-shared.ensures.parts rest c.from.ensures))
    (HasSignOf-remainder_of c.args.p c.args.q operands.p_number.den_positive c.requires)
