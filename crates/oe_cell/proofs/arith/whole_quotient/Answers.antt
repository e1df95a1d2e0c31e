use Rattle.std.proofs.Common.{◌≡◌, ℕ, ◌<◌, ◌≤◌, ◌^◌, ◌*ℤ◌, w64, ℤ, FitsSigned, to_z, of_z, ap, ◌∙◌, rules}
use Rattle.std.specs.Prelude.{unsigned_abs}
use Rattle.std.specs.Int.{int_signum}
use Rattle.std.proofs.lemmas.Int.{to_z-of_z}
use Rattle.oe_cell.specs.Exact.{exact}
use Rattle.oe_cell.specs.Fraction.{IsNumber}
use Rattle.oe_cell.specs.LowestTerms.{Expands}
use Rattle.oe_cell.specs.declared.cell.Cell.TheVariants.{Number}
use Rattle.oe_cell.proofs.QuotientLemmas.{whole-quotient}
use Rattle.oe_cell.proofs.arith.whole_quotient.Goals as goal

-- the same after the passes through registers
both : (a c t n : ℤ) (size d k : ℕ) → FitsSigned w64 a → FitsSigned w64 c → FitsSigned w64 t → FitsSigned w64 n → unsigned_abs a < 2 ^ 63 → unsigned_abs c < 2 ^ 63 → 0 < unsigned_abs c → t ≡ to_z w64 (of_z w64 a) *ℤ int_signum (to_z w64 (of_z w64 c)) → unsigned_abs t ≡ unsigned_abs (to_z w64 (of_z w64 a)) → size ≡ unsigned_abs (to_z w64 (of_z w64 c)) → Expands (to_z w64 (of_z w64 t)) size n d k → unsigned_abs n ≤ unsigned_abs (to_z w64 (of_z w64 t)) → d ≤ size → IsNumber (record { num = to_z w64 (of_z w64 n); den = d }) × (Number (record { num = to_z w64 (of_z w64 n); den = d }) ≡ exact (a *ℤ int_signum c) (unsigned_abs c))
both a c t n size d k a_range c_range t_range n_range a_fits c_fits some t_value t_size size_value parts num den =
    let a_is : to_z w64 (of_z w64 a) ≡ a = to_z-of_z w64 a a_range in
    let c_is : to_z w64 (of_z w64 c) ≡ c = to_z-of_z w64 c c_range in
    let t_is : to_z w64 (of_z w64 t) ≡ t = to_z-of_z w64 t t_range in
    rw (to_z-of_z w64 n n_range)
    (whole-quotient a c (to_z w64 (of_z w64 t)) n size d k a_fits c_fits some
    (t_is ∙ t_value ∙ ap (λ (z : ℤ). z *ℤ int_signum (to_z w64 (of_z w64 c))) a_is ∙ ap (λ (z : ℤ). a *ℤ int_signum z) c_is)
    (ap unsigned_abs t_is ∙ t_size ∙ ap unsigned_abs a_is)
    (size_value ∙ ap unsigned_abs c_is)
    parts num den)

pub from_parts-requires : goal.from_parts-requires
from_parts-requires c =
    (both c.args.a c.args.c c.turn.result c.cancel-parts.result.num c.unsigned_abs.result c.cancel-parts.result.den c.cancel-parts.result.common c.ranges.a c.ranges.c (search rules) (search rules) c.requires.a_fits c.requires.c_fits c.requires.some c.turn.ensures.value c.turn.ensures.size c.unsigned_abs.ensures.value c.cancel-parts.ensures.parts c.cancel-parts.ensures.num c.cancel-parts.ensures.den).0

pub returns : goal.returns
returns c =
    ap Number c.from_parts.ensures
    ∙ (both c.args.a c.args.c c.turn.result c.cancel-parts.result.num c.unsigned_abs.result c.cancel-parts.result.den c.cancel-parts.result.common c.ranges.a c.ranges.c (search rules) (search rules) c.requires.a_fits c.requires.c_fits c.requires.some c.turn.ensures.value c.turn.ensures.size c.unsigned_abs.ensures.value c.cancel-parts.ensures.parts c.cancel-parts.ensures.num c.cancel-parts.ensures.den).1
