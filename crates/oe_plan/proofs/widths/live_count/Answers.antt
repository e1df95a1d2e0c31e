use Rattle.std.proofs.Common.{◌≡◌, ℕ, true, false, length, sym, ap, ◌∙◌, arith}
use Rattle.std.specs.List.{count_by, range_with_len}
use Rattle.oe_order.specs.Graph.{graph_of}
use Rattle.oe_order.specs.Live.{is_live}
use Rattle.oe_plan.proofs.WidthLemmas.{count_no, count_yes, live_counted}
use Rattle.oe_plan.proofs.widths.live_count.Goals as goal
use Rattle.oe_plan.proofs.widths.live_count.Goals.{then-is_live, else-is_live}

pub loop-at-preserved : goal.loop-at-preserved
loop-at-preserved c =
    let live = is_live (graph_of c.args.links.now) c.args.last c.args.steps.now c.args.step in
    let at = c.loop-at.at in
    let before = c.loop-at.invariant in
    elim c.if-is_live.branch [
      | then-is_live w ↦ (
          let holds : true ≡ live at = sym w.if-is_live.true ∙ c.is_live.ensures in
          (w.count-is ∙ count_yes live at c.loop-at.count before.0 holds, omega (arith, w.count-is, before.1)))
      | else-is_live w ↦ (
          let fails : false ≡ live at = sym w.if-is_live.false ∙ c.is_live.ensures in
          (w.count-is ∙ count_no live at c.loop-at.count before.0 fails, omega (arith, w.count-is, before.1)))
    ]

pub returns-clause-value : goal.returns-clause-value
returns-clause-value c =
    let nodes = graph_of c.args.links.now in
    let live = is_live nodes c.args.last c.args.steps.now c.args.step in
    let all : c.loop-at.at ≡ length c.args.steps.now = omega arith in
    live_counted nodes c.args.last c.args.steps.now c.args.step c.loop-at.count
    (c.loop-at.invariant.0 ∙ ap (λ (n : ℕ). count_by live (range_with_len 0 n)) all)
