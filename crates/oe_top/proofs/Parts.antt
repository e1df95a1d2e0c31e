-- How `part` ends, by how the evaluation of its chunks does.
use Rattle.std.proofs.Common.{◌≡◌, ℕ, ◌+◌, ◌<◌, List, Result, Ok, Err, subst}
use Rattle.oe_engine.specs.Evaluations.{IsPlanOf}
use Rattle.oe_graph.specs.Form.{most_input}
use Rattle.oe_outside.specs.Faults.{NeverFalls}
use Rattle.oe_outside.specs.Input.{TakesAtMost}
use Rattle.oe_parts.specs.Head.{IsPartHead}
use Rattle.oe_plan.specs.Figures.{bound_of, most_held_cells}
use Rattle.oe_plan.specs.Plans.{PlanOf}
use Rattle.oe_check.specs.Checked.{CheckedGraph}
use Rattle.oe_window.specs.declared.grid.ChunkSize.{ChunkSize}
use Rattle.oe_top.proofs.Runs.{plan_fits}
use Rattle.oe_top.specs.Judged.{IsInputText}
use Rattle.oe_top.specs.Objects.{IsUntouched, Objects}
use Rattle.oe_top.specs.PartAnswer.{AreChunksOf, EvaluatesChunks, IsPartEvaluated, PartAnswers, head_for}
use Rattle.oe_top.specs.declared.evaluation.EvaluationFail.{EvaluationFail}
use Rattle.oe_top.specs.declared.part.PartRefusal.TheVariants.{ChunkRange, Stopped, TooLarge}

-- the same chunks of the same text
pub of_same_part : (text other : List ℕ) (c : CheckedGraph) (size : ChunkSize) (first second end last : ℕ) (before after : Objects)
    (ending : Result (Unit {0}) EvaluationFail) → other ≡ text → second ≡ first → last ≡ end
    → EvaluatesChunks other c size second last before after ending → EvaluatesChunks text c size first end before after ending
of_same_part text other c size first second end last before after ending same_text same_first same_end e =
    subst (λ (t : List ℕ). EvaluatesChunks t c size first end before after ending) same_text
    (subst (λ (n : ℕ). EvaluatesChunks other c size n end before after ending) same_first
    (subst (λ (n : ℕ). EvaluatesChunks other c size second n before after ending) same_end e))

module _ (size : ChunkSize) (workers first end : ℕ) (before after : Objects) (text : List ℕ) (graph : CheckedGraph)
    (input : IsInputText before after text graph) (taken : TakesAtMost before.input (most_input + 1) after.input)
    (count : NeverFalls before.input_faults after.input_faults) where
  module _ (chunks : AreChunksOf graph size first end) (head : IsPartHead (head_for text graph size first end)) (p : PlanOf)
      (plan : IsPlanOf graph size workers p) where
    is_evaluated : (ended : Result (Unit {0}) EvaluationFail) → EvaluatesChunks text p.graph p.size first end before after ended
        → IsPartEvaluated size workers first end before after ended
    is_evaluated ended e = record {
      text = text;
      graph = graph;
      input = input;
      chunks = chunks;
      head = head;
      fits = plan_fits graph size workers p plan;
      evaluates = subst (λ (s : ChunkSize). EvaluatesChunks text graph s first end before after ended) plan.size_is
          (subst (λ (c : CheckedGraph). EvaluatesChunks text c p.size first end before after ended) plan.graph_is e);
    }

    -- the evaluation finished
    pub chunks_finished : EvaluatesChunks text p.graph p.size first end before after (Ok tt)
        → PartAnswers size workers first end before after (Ok tt)
    chunks_finished e = record {
      ends = is_evaluated (Ok tt) e;
      input_taken = taken;
      input_count = count;
      out_count = e.out_count;
      spool_count = e.spool_count;
    }

    -- or stopped
    pub chunks_stopped : (fail : EvaluationFail) → EvaluatesChunks text p.graph p.size first end before after (Err fail)
        → PartAnswers size workers first end before after (Err (Stopped fail))
    chunks_stopped fail e = record {
      ends = is_evaluated (Err fail) e;
      input_taken = taken;
      input_count = count;
      out_count = e.out_count;
      spool_count = e.spool_count;
    }

  module _ (untouched : IsUntouched before after) (out_count : NeverFalls before.out_faults after.out_faults)
      (spool_count : NeverFalls before.spool_faults after.spool_faults) where
    -- there are no such chunks
    pub part_lacks_chunks : ¬ AreChunksOf graph size first end → PartAnswers size workers first end before after (Err ChunkRange)
    part_lacks_chunks none = record {
      ends = record { text = text; graph = graph; input = input; none = none; untouched = untouched };
      input_taken = taken;
      input_count = count;
      out_count = out_count;
      spool_count = spool_count;
    }

    -- a bound that is too large
    pub part_too_large : AreChunksOf graph size first end → (cells : ℕ) → (cells ≡ bound_of graph size workers) × (most_held_cells < cells)
        → PartAnswers size workers first end before after (Err (TooLarge cells))
    part_too_large chunks cells large = record {
      ends = record {
        text = text;
        graph = graph;
        input = input;
        chunks = chunks;
        cells_are = large.0;
        over = large.1;
        untouched = untouched;
      };
      input_taken = taken;
      input_count = count;
      out_count = out_count;
      spool_count = spool_count;
    }
