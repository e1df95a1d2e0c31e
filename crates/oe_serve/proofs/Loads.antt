-- Where a run begins, by its plan.
use Rattle.std.proofs.Common.{◌≡◌, ℕ, [], None, refl}
use Rattle.oe_engine.specs.Runs.{RunOf}
use Rattle.oe_plan.specs.Plans.{IsPlan, PlanOf}
use Rattle.oe_check.specs.Checked.{CheckedGraph}
use Rattle.oe_window.specs.declared.grid.ChunkSize.{ChunkSize}
use Rattle.oe_serve.specs.Evaluations.{IsBegun}

-- a run at its first chunk
pub begun_by : (c : CheckedGraph) (size : ChunkSize) (workers base : ℕ) (p : PlanOf) → p.graph ≡ c → IsPlan p → p.size ≡ size
    → p.workers ≡ workers → (r : RunOf)
    → r ≡ record { plan = p; base = base; done = 0; evaluations = 0; over = None } → IsBegun c size workers base r
begun_by c size workers base p graph_is is size_is workers_are r r_is = rw r_is (record {
  plan = record { graph_is = graph_is; planned = is; size_is = size_is; workers_are = workers_are };
  base_is = refl;
  first = record { none_done = refl; none_over = refl };
})
