use Rattle.std.proofs.Common.{◌≡◌, ◌<◌, ◌≤◌, ◌+◌, ℕ, true, false, max, List, length, sym, ap, ◌∙◌, arith}
use Rattle.std.specs.Prelude.{slice_index}
use Rattle.oe_graph.specs.Printed.{node_count}
use Rattle.oe_order.specs.Live.{width_of}
use Rattle.oe_check.specs.Links.{links_of}
use Rattle.oe_plan.specs.Figures.{steps_of}
use Rattle.oe_plan.specs.Turns.{takes_sums}
use Rattle.oe_plan.proofs.WidthLemmas.{few_steps, most_live, width_begins, width_ends, width_with_sums, width_without_sums}
use Rattle.oe_plan.proofs.widths.width_of.Goals as goal
use Rattle.oe_plan.proofs.widths.width_of.Goals.{then-takes_sums, else-takes_sums}

pub loop-step-init : goal.loop-step-init
loop-step-init c =
    let graph = c.args.checked.now in
    let most : c.args.most_live ≡ most_live graph =
    c.requires.width ∙ ap (width_of (links_of graph.nodes) graph.result) c.requires.steps.steps_are in
    let begins = width_begins graph in
    (omega (arith, most, begins), omega arith)

pub loop-step-preserved : goal.loop-step-preserved
loop-step-preserved c =
    let graph = c.args.checked.now in
    let k = c.loop-step.step in
    let are = c.requires.steps.steps_are in
    let few : length c.args.steps.now ≤ node_count graph.nodes =
    few_steps graph (links_of graph.nodes) graph.result c.args.steps.now c.requires.listing c.requires.steps in
    let count = c.nodes-count.ensures.value in
    let before = c.loop-step.invariant in
    elim c.if-takes_sums.branch [
      | then-takes_sums w ↦ (
          let sums : takes_sums graph (slice_index (steps_of graph) k) ≡ true =
          ap (λ (xs : List ℕ). takes_sums graph (slice_index xs k)) (sym are) ∙ (sym c.takes_sums.ensures ∙ w.if-takes_sums.true) in
          let most : w.max-width.result ≡ max c.loop-step.width (w.live_in_run.result + 1) = omega arith in
          let live = w.live_in_run.ensures.most in (
            w.width-is ∙ (most ∙ width_with_sums graph k c.loop-step.width w.live_in_run.result sums w.live_in_run.ensures.value before.0),
            omega (arith, w.width-is, most, live, few, count, before.1),
          ))
      | else-takes_sums w ↦ (
          let none : takes_sums graph (slice_index (steps_of graph) k) ≡ false =
          ap (λ (xs : List ℕ). takes_sums graph (slice_index xs k)) (sym are) ∙ (sym c.takes_sums.ensures ∙ w.if-takes_sums.false) in
          let below : k < length (steps_of graph) = omega (arith, ap length are) in
          (w.width-is ∙ width_without_sums graph k c.loop-step.width below none before.0, omega (arith, w.width-is, before.1)))
    ]

pub returns-clause-value : goal.returns-clause-value
returns-clause-value c =
    let all : c.loop-step.step ≡ length (steps_of c.args.checked.now) = omega (arith, ap length c.requires.steps.steps_are) in
    width_ends c.args.checked.now c.loop-step.step c.loop-step.width all c.loop-step.invariant.0

pub returns-clause-least : goal.returns-clause-least
returns-clause-least c =
    let graph = c.args.checked.now in
    let most : c.args.most_live ≡ most_live graph =
    c.requires.width ∙ ap (width_of (links_of graph.nodes) graph.result) c.requires.steps.steps_are in
    let so_far = c.loop-step.invariant.0 in
    omega (arith, most, so_far)
