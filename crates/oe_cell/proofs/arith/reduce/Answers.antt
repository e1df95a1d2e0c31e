use Rattle.std.proofs.Common.{◌≡◌, ℕ, ◌*◌, ◌/◌, ◌%◌, ◌<◌, ℤ, pos, ◌*ℤ◌, FitsSigned, to_z, of_z, refl, sym, ap, ◌∙◌, subst, rules}
use Rattle.std.specs.Prelude.{unsigned_abs}
use Rattle.std.specs.Int.{w128, IsGcd}
use Rattle.std.proofs.Math.Nat.{pos_of_dvd_of_pos, mul-pos}
use Rattle.std.proofs.lemmas.Int.{to_z-of_z}
use Rattle.std.proofs.lemmas.Nat.Gcd.{IsGcd-from_mod}
use Rattle.oe_cell.specs.Fraction.{IsCoprime}
use Rattle.oe_cell.specs.Exact.{exact, cell_of_lowest}
use Rattle.oe_cell.specs.LowestTerms.{Expands}
use Rattle.oe_cell.proofs.ExactLemmas.{exact-expanded, Expands-lowest, Expands-part, Expands-den_positive}
use Rattle.oe_cell.proofs.arith.reduce.Goals as goal

pub lowest-requires-clause-coprime : goal.lowest-requires-clause-coprime
lowest-requires-clause-coprime c =
    subst (λ (z : ℤ). IsCoprime (unsigned_abs z) c.args.rest) (sym (to_z-of_z w128 c.args.num c.ranges.num)) c.requires.coprime

pub returns-then-part-eq1 : goal.returns-then-part-eq1
returns-then-part-eq1 c =
    c.lowest.ensures ∙ ap (λ (z : ℤ). cell_of_lowest z c.args.rest) (to_z-of_z w128 c.args.num c.ranges.num) ∙ sym (exact-expanded (Expands-lowest c.args.num c.args.rest c.requires.coprime)) ∙ ap (λ (k : ℕ). exact c.args.num (c.args.rest * k)) (sym c.if-part-eq1.true)

common_from : (n : ℤ) (size part p g : ℕ) → size ≡ unsigned_abs (to_z w128 (of_z w128 n)) → FitsSigned w128 n → p ≡ part → IsGcd part (size % p) g → IsGcd (unsigned_abs n) part g
common_from n size part p g e fits same h =
    let rest : size % p ≡ unsigned_abs n % part = rw (e, to_z-of_z w128 n fits, same) refl in
    IsGcd-from_mod (unsigned_abs n) part g (subst (λ (x : ℕ). IsGcd part x g) rest h)

-- what is computed is the fraction in lowest terms
expands : (n m : ℤ) (size rest part p g f : ℕ) → FitsSigned w128 n → 0 < part → IsCoprime (unsigned_abs n) rest → size ≡ unsigned_abs (to_z w128 (of_z w128 n)) → p ≡ part → IsGcd part (size % p) g → m *ℤ pos g ≡ to_z w128 (of_z w128 n) → f ≡ part / g → Expands n (rest * part) m (rest * f) g
expands n m size rest part p g f fits some coprime e same h product quotient =
    subst (λ (x : ℕ). Expands n (rest * part) m (rest * x) g) (sym quotient)
    (Expands-part n m rest part g some coprime (common_from n size part p g e fits same h) (product ∙ to_z-of_z w128 n fits))

pub wide_quotient-requires-clause-some : goal.wide_quotient-requires-clause-some
wide_quotient-requires-clause-some c =
    pos_of_dvd_of_pos c.gcd-common.ensures.gcd.0 c.requires.part_some

pub nonzero_div-part : goal.nonzero_div-part
nonzero_div-part c = pos_of_dvd_of_pos c.gcd-common.ensures.gcd.0 c.requires.part_some

pub wide_quotient-requires-clause-divides : goal.wide_quotient-requires-clause-divides
wide_quotient-requires-clause-divides c =
    rw (to_z-of_z w128 c.args.num c.ranges.num)
    (common_from c.args.num c.unsigned_abs.result c.args.part c.from.result c.gcd-common.result c.unsigned_abs.ensures.value c.ranges.num (search (rules, c.from.ensures)) c.gcd-common.ensures.gcd).0

pub lowest-requires-2-clause-some : goal.lowest-requires-2-clause-some
lowest-requires-2-clause-some c =
    let h = expands c.args.num c.wide_quotient.result c.unsigned_abs.result c.args.rest c.args.part c.from.result c.gcd-common.result c.from-2.result c.ranges.num c.requires.part_some c.requires.coprime c.unsigned_abs.ensures.value c.from.ensures c.gcd-common.ensures.gcd c.wide_quotient.ensures.value c.from-2.ensures in
    Expands-den_positive h (mul-pos c.requires.rest_some c.requires.part_some)

pub lowest-requires-2-clause-coprime : goal.lowest-requires-2-clause-coprime
lowest-requires-2-clause-coprime c =
    let fits : FitsSigned w128 c.wide_quotient.result = search rules in
    let h = expands c.args.num c.wide_quotient.result c.unsigned_abs.result c.args.rest c.args.part c.from.result c.gcd-common.result c.from-2.result c.ranges.num c.requires.part_some c.requires.coprime c.unsigned_abs.ensures.value c.from.ensures c.gcd-common.ensures.gcd c.wide_quotient.ensures.value c.from-2.ensures in
    subst (λ (z : ℤ). IsCoprime (unsigned_abs z) (c.args.rest * c.from-2.result)) (sym (to_z-of_z w128 c.wide_quotient.result fits)) h.lowest

pub returns : goal.returns
returns c =
    let fits : FitsSigned w128 c.wide_quotient.result = search rules in
    let h = expands c.args.num c.wide_quotient.result c.unsigned_abs.result c.args.rest c.args.part c.from.result c.gcd-common.result c.from-2.result c.ranges.num c.requires.part_some c.requires.coprime c.unsigned_abs.ensures.value c.from.ensures c.gcd-common.ensures.gcd c.wide_quotient.ensures.value c.from-2.ensures in
    c.lowest-2.ensures ∙ ap (λ (z : ℤ). cell_of_lowest z (c.args.rest * c.from-2.result)) (to_z-of_z w128 c.wide_quotient.result fits) ∙ sym (exact-expanded h)
