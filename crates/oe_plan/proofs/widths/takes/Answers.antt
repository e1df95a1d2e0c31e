use Rattle.std.proofs.Common.{ℕ, List, sym, ap, ◌∙◌, arith}
use Rattle.oe_order.specs.Order.{contains}
use Rattle.oe_plan.proofs.WidthLemmas.{found_at, not_found}
use Rattle.oe_plan.proofs.widths.takes.Goals as goal

pub returns-then-argument-node : goal.returns-then-argument-node
returns-then-argument-node c =
    sym (ap (λ (xs : List ℕ). contains xs c.args.node) (sym c.as_slice-arguments.ensures.value)
    ∙ found_at c.as_slice-arguments.result.now c.loop-argument.argument-index c.args.node (omega arith) c.if-argument-node.true)

pub returns : goal.returns
returns c =
    sym (ap (λ (xs : List ℕ). contains xs c.args.node) (sym c.as_slice-arguments.ensures.value)
    ∙ not_found c.as_slice-arguments.result.now c.args.node (λ k below. c.loop-argument.invariant k (omega arith)))
