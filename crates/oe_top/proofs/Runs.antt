-- How a run ends, by how the evaluation of its graph does.
use Rattle.std.proofs.Common.{◌≡◌, ℕ, ◌+◌, ◌<◌, ◌≤◌, Result, Ok, Err, subst}
use Rattle.oe_engine.specs.Evaluations.{IsPlanOf}
use Rattle.oe_graph.specs.Form.{most_input}
use Rattle.oe_outside.specs.Faults.{NeverFalls}
use Rattle.oe_outside.specs.Input.{TakesAtMost}
use Rattle.oe_plan.specs.Figures.{bound_of, most_held_cells}
use Rattle.oe_plan.specs.Plans.{PlanOf}
use Rattle.oe_check.specs.Checked.{CheckedGraph}
use Rattle.oe_window.specs.declared.grid.ChunkSize.{ChunkSize}
use Rattle.oe_top.specs.Judged.{IsInput}
use Rattle.oe_top.specs.Objects.{IsUntouched, Objects}
use Rattle.oe_top.specs.RunAnswer.{Evaluates, IsEvaluated, RunAnswers}
use Rattle.oe_top.specs.declared.evaluation.EvaluationFail.{EvaluationFail}
use Rattle.oe_top.specs.declared.run.RunRefusal.TheVariants.{TooLarge, Stopped}

-- a graph that is planned holds no more cells than are allowed
pub plan_fits : (graph : CheckedGraph) (size : ChunkSize) (workers : ℕ) (p : PlanOf) → IsPlanOf graph size workers p
    → bound_of graph size workers ≤ most_held_cells
plan_fits graph size workers p plan =
    subst (λ (n : ℕ). bound_of graph size n ≤ most_held_cells) plan.workers_are
    (subst (λ (s : ChunkSize). bound_of graph s p.workers ≤ most_held_cells) plan.size_is
    (subst (λ (c : CheckedGraph). bound_of c p.size p.workers ≤ most_held_cells) plan.graph_is plan.planned.bounded))

module _ (size : ChunkSize) (workers : ℕ) (before after : Objects) (graph : CheckedGraph)
    (input : IsInput before after graph) where
  module _ (p : PlanOf) (plan : IsPlanOf graph size workers p) where
    is_evaluated : (ended : Result (Unit {0}) EvaluationFail) → Evaluates p.graph p.size before after ended
        → IsEvaluated size workers before after ended
    is_evaluated ended e = record {
      graph = graph;
      input = input;
      fits = plan_fits graph size workers p plan;
      evaluates = subst (λ (s : ChunkSize). Evaluates graph s before after ended) plan.size_is
          (subst (λ (c : CheckedGraph). Evaluates c p.size before after ended) plan.graph_is e);
    }

    -- the evaluation finished
    pub run_finished : Evaluates p.graph p.size before after (Ok tt) → TakesAtMost before.input (most_input + 1) after.input
        → NeverFalls before.input_faults after.input_faults → RunAnswers size workers before after (Ok tt)
    run_finished e taken count = record {
      ends = is_evaluated (Ok tt) e;
      input_taken = taken;
      input_count = count;
      out_count = e.out_count;
      spool_count = e.spool_count;
    }

    -- or stopped
    pub run_stopped : (fail : EvaluationFail) → Evaluates p.graph p.size before after (Err fail)
        → TakesAtMost before.input (most_input + 1) after.input → NeverFalls before.input_faults after.input_faults
        → RunAnswers size workers before after (Err (Stopped fail))
    run_stopped fail e taken count = record {
      ends = is_evaluated (Err fail) e;
      input_taken = taken;
      input_count = count;
      out_count = e.out_count;
      spool_count = e.spool_count;
    }

  -- a bound that is too large
  pub run_too_large : (cells : ℕ) → (cells ≡ bound_of graph size workers) × (most_held_cells < cells) → IsUntouched before after
      → TakesAtMost before.input (most_input + 1) after.input → NeverFalls before.input_faults after.input_faults
      → NeverFalls before.out_faults after.out_faults → NeverFalls before.spool_faults after.spool_faults
      → RunAnswers size workers before after (Err (TooLarge cells))
  run_too_large cells large untouched taken count out_count spool_count = record {
    ends = record { graph = graph; input = input; cells_are = large.0; over = large.1; untouched = untouched };
    input_taken = taken;
    input_count = count;
    out_count = out_count;
    spool_count = spool_count;
  }
