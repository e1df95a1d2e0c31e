use Rattle.std.proofs.Common.{◌≡◌, ◌<◌, ◌||◌, eqb, true, get_or, take, sym, ap, ◌∙◌, subst, inl, inr, arith}
use Rattle.std.proofs.lemmas.Bool.{or_cases, eqb-true, false≢true}
use Rattle.std.proofs.lemmas.List.{take_more}
use Rattle.oe_order.specs.Order.{contains}
use Rattle.oe_order.proofs.Lists.{contains-at, contains-push}
use Rattle.oe_resolve.proofs.cycle.all_below.Goals as goal

pub loop-argument-preserved : goal.loop-argument-preserved
loop-argument-preserved c = λ a e.
    let xs = c.args.arguments.now in
    let k = c.loop-argument.argument-index in
    let here : get_or xs k 0 < c.args.node = omega arith in
    let has : contains (take k xs) a || eqb (get_or xs k 0) a ≡ true = sym (ap (λ ys. contains ys a) (take_more xs k 0 (omega arith)) ∙ contains-push (take k xs) (get_or xs k 0) a) ∙ e in
    elim (or_cases (contains (take k xs) a) (eqb (get_or xs k 0) a) has) [
      | inl q ↦ c.loop-argument.invariant a q
      | inr q ↦ subst (λ m. m < c.args.node) (eqb-true (get_or xs k 0) a q) here
    ]

pub returns-then-argument-node : goal.returns-then-argument-node
returns-then-argument-node c = (
  λ t. absurd (false≢true t),
  λ all.
      let xs = c.args.arguments.now in
      let k = c.loop-argument.argument-index in
      let here : get_or xs k 0 < c.args.node = all (get_or xs k 0) (contains-at xs k 0 (omega arith)) in
      absurd (omega arith),
)
