use Rattle.std.proofs.Common.{◌≡◌, ◌+◌, ◌*◌, ◌∙◌, ap, length, arith}
use Rattle.oe_plan.specs.Figures.{largest_window}
use Rattle.oe_steps.specs.Buffers.{lists_of}
use Rattle.oe_steps.proofs.BufferLemmas.{sum_of_size}
use Rattle.oe_engine.proofs.bench.Bench.new.Goals as goal

pub returns-clause-cells : goal.returns-clause-cells
returns-clause-cells c =
    let len : length c.in_ok-vec-2.field-0.items ≡ c.scratch.result =
    omega (arith, c.in_ok-vec-2.ensures.len, c.in_ok-vec-2.field-0.ok.0) in
    let sum = sum_of_size (lists_of c.in_ok-buffers_of.field-0.items) c.width.result c.largest.result c.in_ok-buffers_of.ensures in
    ap (λ n. n + length c.in_ok-vec-2.field-0.items) (sum
    ∙ (ap (λ w. w * c.largest.result) c.width.ensures.value ∙ ap (λ l. c.args.plan.now.order.width * l) c.largest.ensures.value))
    ∙ ap (λ n. c.args.plan.now.order.width * largest_window c.args.plan.now.graph c.args.plan.now.size + n) (len ∙ c.scratch.ensures.value)
