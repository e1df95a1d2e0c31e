use Rattle.std.proofs.Common.{◌≡◌, ◌<◌, ◌||◌, eqb, true, length, get_or, take, sym, ap, ◌∙◌, subst, inl, inr, arith}
use Rattle.std.proofs.lemmas.Bool.{or_cases, eqb-true, false≢true}
use Rattle.std.proofs.lemmas.List.{take_more}
use Rattle.oe_order.specs.Order.{contains}
use Rattle.oe_order.proofs.Lists.{contains-push, contains-at}
use Rattle.oe_order.proofs.ranks.all_below.Goals as goal
use Rattle.oe_order.proofs.ranks.all_below.Goals.{then-argument-ranks-via-then-argument-ranks, then-argument-ranks-via-else-argument-ranks+then-ranks-argument}

pub loop-argument-preserved : goal.loop-argument-preserved
loop-argument-preserved c = λ a e.
    let xs = c.args.arguments.now in
    let k = c.loop-argument.argument-index in
    let has : contains (take k xs) a || eqb (get_or xs k 0) a ≡ true = sym (ap (λ ys. contains ys a) (take_more xs k 0 (omega arith)) ∙ contains-push (take k xs) (get_or xs k 0) a) ∙ e in
    elim (or_cases (contains (take k xs) a) (eqb (get_or xs k 0) a) has) [
      | inl q ↦ c.loop-argument.invariant a q
      | inr q ↦ subst (λ m. (m < length c.args.ranks.now) × (get_or c.args.ranks.now m 0 < c.args.rank)) (eqb-true (get_or xs k 0) a q) (c.if-argument-ranks.false, c.if-ranks-argument.false)
    ]

pub returns-then-argument-ranks : goal.returns-then-argument-ranks
returns-then-argument-ranks c = (
  λ t. absurd (false≢true t),
  λ all.
      let xs = c.args.arguments.now in
      let k = c.loop-argument.argument-index in
      let w = all (get_or xs k 0) (contains-at xs k 0 (omega arith)) in
      elim c.then-argument-ranks.branch [
        | then-argument-ranks-via-then-argument-ranks h ↦ absurd (omega (arith, w.0, h.if-argument-ranks.true))
        | then-argument-ranks-via-else-argument-ranks+then-ranks-argument h ↦ absurd (omega (arith, w.1, h.if-ranks-argument.true))
      ],
)
