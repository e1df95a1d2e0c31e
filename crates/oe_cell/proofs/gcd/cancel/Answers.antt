use Rattle.std.proofs.Common.{◌≡◌, w64, ℤ, pos, ◌≤ℤ◌, ◌<ℤ◌, FitsSigned, to_z, of_z, sym, ap, ◌∙◌, subst, rules}
use Rattle.std.specs.Prelude.{unsigned_abs}
use Rattle.std.proofs.lemmas.Int.{to_z-of_z}
use Rattle.oe_cell.proofs.ShareLemmas.{Expands-signed}
use Rattle.oe_cell.proofs.gcd.cancel.Goals as goal

pub returns-clause-parts : goal.returns-clause-parts
returns-clause-parts c =
    let fits : FitsSigned w64 c.with_sign.result = search rules in
    let num : to_z w64 (of_z w64 c.args.num) ≡ c.args.num = to_z-of_z w64 c.args.num c.ranges.num in
    rw (to_z-of_z w64 c.with_sign.result fits)
    (Expands-signed c.args.num c.with_sign.result c.unsigned_abs.result c.args.den c.share-shared.result.left c.share-shared.result.right c.share-shared.result.common (c.unsigned_abs.ensures.value ∙ ap unsigned_abs num) c.share-shared.ensures.parts
    (λ h. c.with_sign.ensures.up (subst (λ (z : ℤ). pos 0 ≤ℤ z) (sym num) h))
    (λ h. c.with_sign.ensures.down (subst (λ (z : ℤ). z <ℤ pos 0) (sym num) h)))
