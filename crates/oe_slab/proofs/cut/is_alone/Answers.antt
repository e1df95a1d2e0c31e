use Rattle.std.proofs.Common.{◌≡◌, true, Some, get_or, refl, subst, inl, inr, arith}
use Rattle.std.proofs.lemmas.Bool.{cases_lt, false≢true}
use Rattle.oe_dims.specs.declared.kind.Kind.TheVariants.{Time}
use Rattle.oe_check.specs.Reach.{whole_of_node}
use Rattle.oe_slab.proofs.cut.is_alone.Goals as goal

pub returns-then-not-is_same_or_cut : goal.returns-then-not-is_same_or_cut
returns-then-not-is_same_or_cut c = (
  λ t. absurd (false≢true t),
  λ all. c.if-not-is_same_or_cut.ensures.1 (all c.loop-other.other-index (omega arith)),
)

pub loop-other-preserved : goal.loop-other-preserved
loop-other-preserved c = λ i below whole.
    let k = c.loop-other.other-index in
    let here = c.if-not-is_same_or_cut.ensures.0 refl in
    elim (cases_lt i k) [
      | inl lt ↦ c.loop-other.invariant i lt whole
      | inr ge ↦ (let same : k ≡ i = omega arith in
          subst (λ m. whole_of_node c.args.checked.now (get_or c.args.steps.now m 0) Time ≡ Some true
          → get_or c.args.steps.now m 0 ≡ c.args.node) same here whole)
    ]
