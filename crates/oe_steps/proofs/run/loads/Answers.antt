use Rattle.std.proofs.Common.{◌≡◌, ◌<◌, ◌∙◌, ℕ, sym, ap, subst, arith, length, get_or, inl, inr, true}
use Rattle.std.proofs.lemmas.Bool.{cases_eq}
use Rattle.oe_graph.specs.Printed.{node_count}
use Rattle.oe_order.specs.Graph.{is_load}
use Rattle.oe_plan.specs.Schedules.{is_load_at, links_along}
use Rattle.oe_steps.proofs.ScheduleLemmas.{few_steps, node_within}
use Rattle.oe_steps.proofs.RunLemmas.{works_from}
use Rattle.oe_steps.proofs.run.loads.Goals as goal

pub counts_as_load-requires : goal.counts_as_load-requires
counts_as_load-requires c =
    let graph = c.args.checked.now in
    let schedule = c.args.schedule.now in
    let items = c.steps-node-items.ensures in
    let long = ap length items in
    let at = c.loop-node.invariant.count_is in
    let within : c.loop-node.count < length schedule.order.steps = omega (arith, at, long, c.loop-node-test.true) in
    let here = ap (λ xs. get_or xs c.loop-node.node-index 0) items ∙ ap (λ i. get_or schedule.order.steps i 0) (sym at) in
    subst (λ (n : ℕ). n < node_count graph.nodes) (sym here) (node_within graph schedule c.requires c.loop-node.count within)

pub overflow_add-count : goal.overflow_add-count
overflow_add-count c =
    omega (
      arith,
      few_steps c.args.checked.now c.args.schedule.now c.requires,
      ap length c.steps-node-items.ensures,
      c.loop-node-test.true,
      c.loop-node.invariant.count_is,
    )

pub returns-else-counts_as_load-clause-work : goal.returns-else-counts_as_load-clause-work
returns-else-counts_as_load-clause-work c =
    let graph = c.args.checked.now in
    let schedule = c.args.schedule.now in
    let items = c.steps-node-items.ensures in
    let at = c.loop-node.invariant.count_is in
    let here = ap (λ xs. get_or xs c.loop-node.node-index 0) items ∙ ap (λ i. get_or schedule.order.steps i 0) (sym at) in
    works_from graph schedule c.requires c.loop-node.count
    (ap (is_load (links_along graph schedule)) (sym here) ∙ sym c.counts_as_load.ensures ∙ c.if-counts_as_load.false)

pub loop-node-preserved : goal.loop-node-preserved
loop-node-preserved c =
    let graph = c.args.checked.now in
    let schedule = c.args.schedule.now in
    let items = c.steps-node-items.ensures in
    let at = c.loop-node.invariant.count_is in
    let here = ap (λ xs. get_or xs c.loop-node.node-index 0) items ∙ ap (λ i. get_or schedule.order.steps i 0) (sym at) in
    let loads : is_load_at graph schedule c.loop-node.count ≡ true =
    ap (is_load (links_along graph schedule)) (sym here) ∙ sym c.counts_as_load.ensures ∙ c.if-counts_as_load.true in
    record {
      count_is = omega (arith, at);
      load = λ i lt. elim (cases_eq i c.loop-node.count) [
        | inl same ↦ ap (is_load_at graph schedule) same ∙ loads
        | inr other ↦ c.loop-node.invariant.load i (omega arith)
      ];
    }
