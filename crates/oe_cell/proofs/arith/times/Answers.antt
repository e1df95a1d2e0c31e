use Rattle.std.proofs.Common.{◌≡◌, ℕ, ◌*◌, ◌<◌, w64, ℤ, ◌*ℤ◌, FitsSigned, to_z, of_z, sym, ap, ◌∙◌, subst, rules}
use Rattle.std.specs.Prelude.{unsigned_abs}
use Rattle.std.specs.Int.{w128}
use Rattle.std.proofs.Math.Nat.{mul-pos}
use Rattle.std.proofs.lemmas.Int.{to_z-of_z}
use Rattle.oe_cell.specs.Fraction.{Fraction, IsCoprime}
use Rattle.oe_cell.specs.Exact.{exact_value, cell_of_lowest, IsExactValue}
use Rattle.oe_cell.specs.Rational.{product_of}
use Rattle.oe_cell.specs.LowestTerms.{Expands}
use Rattle.oe_cell.specs.declared.cell.Cell.{Cell}
use Rattle.oe_cell.proofs.ExactLemmas.{IsExactValue-exact, IsCell-from_exact, Expands-den_positive, exact-expanded}
use Rattle.oe_cell.proofs.NumberLemmas.{Parts, parts_from, num_read}
use Rattle.oe_cell.proofs.ProductLemmas.{Expands-product}
use Rattle.oe_cell.proofs.arith.times.Goals as goal

expands : (p q : Fraction) (a c m n : ℤ) (b d e f j k product : ℕ) → Parts p q a c b d → Expands (to_z w64 (of_z w64 a)) d m f j → Expands (to_z w64 (of_z w64 c)) b n e k → product ≡ e * f → Expands (p.num *ℤ q.num) (p.den * q.den) (m *ℤ n) product (j * k)
expands p q a c m n b d e f j k product h left right same =
    let first : Expands p.num q.den m f j = subst (λ (z : ℤ). Expands z q.den m f j) (num_read a p.num h.a_is h.p_number.num_fits) (subst (λ (x : ℕ). Expands (to_z w64 (of_z w64 a)) x m f j) h.d_is left) in
    let second : Expands q.num p.den n e k = subst (λ (z : ℤ). Expands z p.den n e k) (num_read c q.num h.c_is h.q_number.num_fits) (subst (λ (x : ℕ). Expands (to_z w64 (of_z w64 c)) x n e k) h.b_is right) in
    subst (λ (x : ℕ). Expands (p.num *ℤ q.num) (p.den * q.den) (m *ℤ n) x (j * k)) (sym same)
    (Expands-product p.num q.num m n p.den q.den e f j k h.p_number.reduced h.q_number.reduced first second)

some_from : (p q : Fraction) (a c : ℤ) (b d : ℕ) → Parts p q a c b d → 0 < p.den * q.den
some_from p q a c b d h = mul-pos h.p_number.den_positive h.q_number.den_positive

read : (m n t : ℤ) → t ≡ to_z w64 (of_z w64 m) *ℤ to_z w64 (of_z w64 n) → FitsSigned w64 m → FitsSigned w64 n → FitsSigned w128 t → to_z w128 (of_z w128 t) ≡ m *ℤ n
read m n t e m_fits n_fits fits =
    to_z-of_z w128 t fits ∙ e ∙ ap (λ (z : ℤ). z *ℤ to_z w64 (of_z w64 n)) (to_z-of_z w64 m m_fits) ∙ ap (λ (z : ℤ). m *ℤ z) (to_z-of_z w64 n n_fits)

exact_from : (p q : Fraction) (a c : ℤ) (b d : ℕ) → Parts p q a c b d → (r : Cell) → r ≡ exact_value (product_of p q) → IsExactValue (product_of p q) r
exact_from p q a c b d h r e =
    subst (λ (x : Cell). IsExactValue (product_of p q) x) (sym e) (IsExactValue-exact _ _ (some_from p q a c b d h))

pub lowest-requires-clause-some : goal.lowest-requires-clause-some
lowest-requires-clause-some c =
    let operands : Parts c.args.p c.args.q c.parts-a.result.0 c.parts-c.result.0 c.parts-a.result.1 c.parts-c.result.1 = parts_from c.parts-a.ensures.number c.parts-a.ensures.num c.parts-a.ensures.den c.parts-c.ensures.number c.parts-c.ensures.num c.parts-c.ensures.den in
    let h = expands c.args.p c.args.q c.parts-a.result.0 c.parts-c.result.0 c.cancel-first.result.num c.cancel-second.result.num c.parts-a.result.1 c.parts-c.result.1 c.cancel-second.result.den c.cancel-first.result.den c.cancel-first.result.common c.cancel-second.result.common c.wide_product.result operands c.cancel-first.ensures.parts c.cancel-second.ensures.parts c.wide_product.ensures.value in
    Expands-den_positive h (some_from c.args.p c.args.q c.parts-a.result.0 c.parts-c.result.0 c.parts-a.result.1 c.parts-c.result.1 operands)

pub lowest-requires-clause-coprime : goal.lowest-requires-clause-coprime
lowest-requires-clause-coprime c =
    let operands : Parts c.args.p c.args.q c.parts-a.result.0 c.parts-c.result.0 c.parts-a.result.1 c.parts-c.result.1 = parts_from c.parts-a.ensures.number c.parts-a.ensures.num c.parts-a.ensures.den c.parts-c.ensures.number c.parts-c.ensures.num c.parts-c.ensures.den in
    let h = expands c.args.p c.args.q c.parts-a.result.0 c.parts-c.result.0 c.cancel-first.result.num c.cancel-second.result.num c.parts-a.result.1 c.parts-c.result.1 c.cancel-second.result.den c.cancel-first.result.den c.cancel-first.result.common c.cancel-second.result.common c.wide_product.result operands c.cancel-first.ensures.parts c.cancel-second.ensures.parts c.wide_product.ensures.value in
    let m_fits : FitsSigned w64 c.cancel-first.result.num = search rules in
    let n_fits : FitsSigned w64 c.cancel-second.result.num = search rules in
    let fits : FitsSigned w128 c.product.result = search rules in
    let num = read c.cancel-first.result.num c.cancel-second.result.num c.product.result c.product.ensures.value m_fits n_fits fits in
    subst (λ (z : ℤ). IsCoprime (unsigned_abs z) c.wide_product.result) (sym num) h.lowest

pub returns-clause-value : goal.returns-clause-value
returns-clause-value c =
    let operands : Parts c.args.p c.args.q c.parts-a.result.0 c.parts-c.result.0 c.parts-a.result.1 c.parts-c.result.1 = parts_from c.parts-a.ensures.number c.parts-a.ensures.num c.parts-a.ensures.den c.parts-c.ensures.number c.parts-c.ensures.num c.parts-c.ensures.den in
    let h = expands c.args.p c.args.q c.parts-a.result.0 c.parts-c.result.0 c.cancel-first.result.num c.cancel-second.result.num c.parts-a.result.1 c.parts-c.result.1 c.cancel-second.result.den c.cancel-first.result.den c.cancel-first.result.common c.cancel-second.result.common c.wide_product.result operands c.cancel-first.ensures.parts c.cancel-second.ensures.parts c.wide_product.ensures.value in
    let m_fits : FitsSigned w64 c.cancel-first.result.num = search rules in
    let n_fits : FitsSigned w64 c.cancel-second.result.num = search rules in
    let fits : FitsSigned w128 c.product.result = search rules in
    let num = read c.cancel-first.result.num c.cancel-second.result.num c.product.result c.product.ensures.value m_fits n_fits fits in
    c.lowest.ensures ∙ ap (λ (z : ℤ). cell_of_lowest z c.wide_product.result) num ∙ sym (exact-expanded h)

pub returns-clause-exact : goal.returns-clause-exact
returns-clause-exact c =
    let operands : Parts c.args.p c.args.q c.parts-a.result.0 c.parts-c.result.0 c.parts-a.result.1 c.parts-c.result.1 = parts_from c.parts-a.ensures.number c.parts-a.ensures.num c.parts-a.ensures.den c.parts-c.ensures.number c.parts-c.ensures.num c.parts-c.ensures.den in
    let h = expands c.args.p c.args.q c.parts-a.result.0 c.parts-c.result.0 c.cancel-first.result.num c.cancel-second.result.num c.parts-a.result.1 c.parts-c.result.1 c.cancel-second.result.den c.cancel-first.result.den c.cancel-first.result.common c.cancel-second.result.common c.wide_product.result operands c.cancel-first.ensures.parts c.cancel-second.ensures.parts c.wide_product.ensures.value in
    let m_fits : FitsSigned w64 c.cancel-first.result.num = search rules in
    let n_fits : FitsSigned w64 c.cancel-second.result.num = search rules in
    let fits : FitsSigned w128 c.product.result = search rules in
    let num = read c.cancel-first.result.num c.cancel-second.result.num c.product.result c.product.ensures.value m_fits n_fits fits in
    exact_from c.args.p c.args.q c.parts-a.result.0 c.parts-c.result.0 c.parts-a.result.1 c.parts-c.result.1 operands c.lowest.result (c.lowest.ensures ∙ ap (λ (z : ℤ). cell_of_lowest z c.wide_product.result) num ∙ sym (exact-expanded h))

pub returns-clause-cell : goal.returns-clause-cell
returns-clause-cell c =
    let operands : Parts c.args.p c.args.q c.parts-a.result.0 c.parts-c.result.0 c.parts-a.result.1 c.parts-c.result.1 = parts_from c.parts-a.ensures.number c.parts-a.ensures.num c.parts-a.ensures.den c.parts-c.ensures.number c.parts-c.ensures.num c.parts-c.ensures.den in
    let h = expands c.args.p c.args.q c.parts-a.result.0 c.parts-c.result.0 c.cancel-first.result.num c.cancel-second.result.num c.parts-a.result.1 c.parts-c.result.1 c.cancel-second.result.den c.cancel-first.result.den c.cancel-first.result.common c.cancel-second.result.common c.wide_product.result operands c.cancel-first.ensures.parts c.cancel-second.ensures.parts c.wide_product.ensures.value in
    let m_fits : FitsSigned w64 c.cancel-first.result.num = search rules in
    let n_fits : FitsSigned w64 c.cancel-second.result.num = search rules in
    let fits : FitsSigned w128 c.product.result = search rules in
    let num = read c.cancel-first.result.num c.cancel-second.result.num c.product.result c.product.ensures.value m_fits n_fits fits in
    IsCell-from_exact _ c.lowest.result (exact_from c.args.p c.args.q c.parts-a.result.0 c.parts-c.result.0 c.parts-a.result.1 c.parts-c.result.1 operands c.lowest.result (c.lowest.ensures ∙ ap (λ (z : ℤ). cell_of_lowest z c.wide_product.result) num ∙ sym (exact-expanded h)))
