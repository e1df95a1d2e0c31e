use Rattle.std.proofs.Common.{◌+◌, ◌*◌, ◌∙◌, sym, ap, length, arith}
use Rattle.std.specs.List.{sum_by}
use Rattle.std.proofs.lemmas.Grind.{common_steps}
use Rattle.oe_steps.proofs.BufferLemmas.{sum_of_size}
use Rattle.oe_engine.proofs.bench.Bench.cells.Goals as goal

pub returns : goal.returns
returns c =
    let b = c.args.self.now in
    let p = c.args.plan.now in
    let sum = sum_of_size b.buffers p.order.width _ c.requires.room.buffers in
    ap (λ n. n + c.scratch.result)
    (ap (λ w. w * c.largest.result) (c.from.ensures ∙ c.width.ensures.value) ∙ ap (λ l. p.order.width * l) c.largest.ensures.value ∙ sym sum)
    ∙ ap (λ n. sum_by (λ cells. length cells) b.buffers + n) (c.scratch.ensures.value ∙ sym c.requires.room.scratch)

pub overflow_add-result : goal.overflow_add-result
overflow_add-result c = grind (arith, common_steps) steps 2000000

pub overflow_mul-result : goal.overflow_mul-result
overflow_mul-result c = grind (arith, common_steps) steps 2000000
