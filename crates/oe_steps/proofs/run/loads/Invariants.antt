use Rattle.std.proofs.Common.{◌≡◌, ◌<◌, ℕ, true}
use Rattle.oe_plan.specs.Schedules.{is_load_at}
use Rattle.oe_steps.proofs.run.loads.Given as goal

abbrev pub invariant-loop-node : goal.invariant-loop-node
invariant-loop-node l = record {
  count_is : l.count ≡ l.node-index;
  load : (step : ℕ) → step < l.count → is_load_at l.checked l.schedule step ≡ true;
}
