use Rattle.std.proofs.Common.{◌≡◌, ap, ◌∙◌, arith}
use Rattle.oe_engine.specs.Runs.{chunk_total}
use Rattle.oe_plan.specs.Figures.{chunks_of}
use Rattle.oe_check.specs.Checked.{CheckedGraph}
use Rattle.oe_top.proofs.part.begin_part.Goals as goal

pub start-requires-clause-chunks : goal.start-requires-clause-chunks
start-requires-clause-chunks g c =
    let plan = c.in_ok-plan.plan in
    let same : chunk_total plan ≡ chunks_of c.args.checked c.args.sizes.0 =
    ap (λ (d : CheckedGraph). chunks_of d plan.size) c.in_ok-plan.ensures.graph ∙ ap (chunks_of c.args.checked) c.in_ok-plan.ensures.size in
    let some = c.requires.chunks.0 in
    let within = c.requires.chunks.1 in
    omega (arith, same, some, within)
