use Rattle.std.proofs.Common.{◌≡◌, ℕ, ◌*◌, w64, ℤ, pos, ◌+ℤ◌, ◌*ℤ◌, to_z, of_z, refl, sym, ap, ◌∙◌}
use Rattle.oe_cell.specs.Fraction.{Fraction}
use Rattle.oe_cell.specs.Exact.{exact, exact_value}
use Rattle.oe_cell.specs.Rational.{sum_of}
use Rattle.oe_cell.proofs.ExactLemmas.{IsCell-from_exact}
use Rattle.oe_cell.proofs.NumberLemmas.{Parts, parts_from, num_read}
use Rattle.oe_cell.proofs.Scale.{*ℤ-pos_one}
use Rattle.oe_cell.proofs.SumLemmas.{sum-means, sum-zero_right, sum-zero_left}
use Rattle.oe_cell.proofs.arith.sum.Goals as goal

whole_value : (p q : Fraction) (a c : ℤ) (b d : ℕ) → Parts p q a c b d → b ≡ 1 → d ≡ 1 → exact (to_z w64 (of_z w64 a) +ℤ to_z w64 (of_z w64 c)) 1 ≡ exact_value (sum_of p q)
whole_value p q a c b d h first second =
    let left : to_z w64 (of_z w64 a) ≡ p.num *ℤ pos q.den = num_read a p.num h.a_is h.p_number.num_fits ∙ sym (*ℤ-pos_one p.num) ∙ ap (λ (x : ℕ). p.num *ℤ pos x) (sym second ∙ h.d_is) in
    let right : to_z w64 (of_z w64 c) ≡ q.num *ℤ pos p.den = num_read c q.num h.c_is h.q_number.num_fits ∙ sym (*ℤ-pos_one q.num) ∙ ap (λ (x : ℕ). q.num *ℤ pos x) (sym first ∙ h.b_is) in
    let den : 1 ≡ p.den * q.den = rw (sym h.b_is ∙ first, sym h.d_is ∙ second) refl in
    rw (left, right) (ap (λ (x : ℕ). exact (p.num *ℤ pos q.den +ℤ q.num *ℤ pos p.den) x) den)

pub returns-then-d-eq1 : goal.returns-then-d-eq1
returns-then-d-eq1 c =
    let p = c.parts-a.ensures.number in
    let q = c.parts-c.ensures.number in
    let operands : Parts c.args.p c.args.q c.parts-a.result.0 c.parts-c.result.0 c.parts-a.result.1 c.parts-c.result.1 = parts_from c.parts-a.ensures.number c.parts-a.ensures.num c.parts-a.ensures.den c.parts-c.ensures.number c.parts-c.ensures.num c.parts-c.ensures.den in
    let value : c.whole_sum.result ≡ exact_value (sum_of c.args.p c.args.q) = c.whole_sum.ensures ∙ whole_value c.args.p c.args.q c.parts-a.result.0 c.parts-c.result.0 c.parts-a.result.1 c.parts-c.result.1 operands c.if-b-eq1.true c.if-d-eq1.true in
    record {
      value = value;
      exact = sum-means c.args.p c.args.q c.whole_sum.result p q value;
      zero_right = λ none. value ∙ sum-zero_right c.args.p c.args.q p q none;
      zero_left = λ none. value ∙ sum-zero_left c.args.p c.args.q p q none;
      operands = (p, q);
      cell = IsCell-from_exact (sum_of c.args.p c.args.q) c.whole_sum.result (sum-means c.args.p c.args.q c.whole_sum.result p q value);
    }

pub returns : goal.returns
returns c =
    let p = c.parts-a.ensures.number in
    let q = c.parts-c.ensures.number in
    let value : c.fraction_sum.result ≡ exact_value (sum_of c.args.p c.args.q) = c.fraction_sum.ensures in
    record {
      value = value;
      exact = sum-means c.args.p c.args.q c.fraction_sum.result p q value;
      zero_right = λ none. value ∙ sum-zero_right c.args.p c.args.q p q none;
      zero_left = λ none. value ∙ sum-zero_left c.args.p c.args.q p q none;
      operands = (p, q);
      cell = IsCell-from_exact (sum_of c.args.p c.args.q) c.fraction_sum.result (sum-means c.args.p c.args.q c.fraction_sum.result p q value);
    }
