use Rattle.std.proofs.Common.{◌≡◌, false, Some, get_or, ap, ◌∙◌, subst, inl, inr, arith}
use Rattle.std.proofs.lemmas.Bool.{cases_lt}
use Rattle.oe_dims.specs.declared.kind.Kind.TheVariants.{Time}
use Rattle.oe_check.specs.Reach.{whole_of_node}
use Rattle.oe_slab.proofs.cut.first_whole.Goals as goal

pub loop-node-preserved : goal.loop-node-preserved
loop-node-preserved c = λ i below.
    let k = c.loop-node.node-index in
    let here : whole_of_node c.args.checked.now (get_or c.args.steps.now k 0) Time ≡ Some false = c.whole.ensures ∙ ap Some c.if-whole.false in
    elim (cases_lt i k) [
      | inl lt ↦ c.loop-node.invariant i lt
      | inr ge ↦ (let same : k ≡ i = omega arith in
          subst (λ m. whole_of_node c.args.checked.now (get_or c.args.steps.now m 0) Time ≡ Some false) same here)
    ]
