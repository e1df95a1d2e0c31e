-- How a run ends that is folded slab by slab, by how the evaluation of its graph does.
use Rattle.std.proofs.Common.{ℕ, ◌+◌, ◌≤◌, Result, Ok, Err, subst}
use Rattle.oe_graph.specs.Form.{most_input}
use Rattle.oe_outside.specs.Faults.{NeverFalls}
use Rattle.oe_outside.specs.Input.{TakesAtMost}
use Rattle.oe_plan.specs.Figures.{most_held_cells}
use Rattle.oe_check.specs.Checked.{CheckedGraph}
use Rattle.oe_slab.specs.Cuts.{HasNoTimeCut, IsTimeCut}
use Rattle.oe_slab.specs.Figures.{slab_bound}
use Rattle.oe_slab.specs.Plans as plan
use Rattle.oe_window.specs.declared.grid.ChunkSize.{ChunkSize}
use Rattle.oe_top.specs.Judged.{IsInput}
use Rattle.oe_top.specs.Objects.{IsUntouched, Objects}
use Rattle.oe_top.specs.SlabAnswer.{FoldsSlabs, IsFolded, SlabAnswers}
use Rattle.oe_top.specs.SlabEvaluated.{IsSlabPlanOf}
use Rattle.oe_top.specs.declared.evaluation.EvaluationFail.{EvaluationFail}
use Rattle.oe_top.specs.declared.slab.SlabRefusal.TheVariants.{NoTimeFold, TooLarge, Stopped}

module _ (size : ChunkSize) (before after : Objects) (graph : CheckedGraph) (input : IsInput before after graph) where
  module _ (p : plan.SlabPlanOf) (is : IsSlabPlanOf graph size p) where
    cut : IsTimeCut graph p.fold
    cut = subst (λ (c : CheckedGraph). IsTimeCut c p.fold) is.graph_is is.planned.cut

    fits : slab_bound graph size p.fold ≤ most_held_cells
    fits =
        subst (λ (s : ChunkSize). slab_bound graph s p.fold ≤ most_held_cells) is.size_is
        (subst (λ (c : CheckedGraph). slab_bound c p.size p.fold ≤ most_held_cells) is.graph_is is.planned.bounded)

    is_folded : (ended : Result (Unit {0}) EvaluationFail) → FoldsSlabs p.graph p.size p.fold before after ended
        → IsFolded size before after ended
    is_folded ended e = record {
      graph = graph;
      input = input;
      fold = p.fold;
      cut = cut;
      fits = fits;
      folds = subst (λ (s : ChunkSize). FoldsSlabs graph s p.fold before after ended) is.size_is
          (subst (λ (c : CheckedGraph). FoldsSlabs c p.size p.fold before after ended) is.graph_is e);
    }

    -- the evaluation finished
    pub slab_finished : FoldsSlabs p.graph p.size p.fold before after (Ok tt) → TakesAtMost before.input (most_input + 1) after.input
        → NeverFalls before.input_faults after.input_faults → SlabAnswers size before after (Ok tt)
    slab_finished e taken count = record {
      ends = is_folded (Ok tt) e;
      input_taken = taken;
      input_count = count;
      out_count = e.out_count;
      spool_count = e.spool_count;
    }

    -- or stopped
    pub slab_stopped : (fail : EvaluationFail) → FoldsSlabs p.graph p.size p.fold before after (Err fail)
        → TakesAtMost before.input (most_input + 1) after.input → NeverFalls before.input_faults after.input_faults
        → SlabAnswers size before after (Err (Stopped fail))
    slab_stopped fail e taken count = record {
      ends = is_folded (Err fail) e;
      input_taken = taken;
      input_count = count;
      out_count = e.out_count;
      spool_count = e.spool_count;
    }

  module _ (untouched : IsUntouched before after) (taken : TakesAtMost before.input (most_input + 1) after.input)
      (count : NeverFalls before.input_faults after.input_faults) (out_count : NeverFalls before.out_faults after.out_faults)
      (spool_count : NeverFalls before.spool_faults after.spool_faults) where
    -- a bound that is too large
    pub slab_too_large : (cells : ℕ) → plan.IsTooLarge graph size cells → SlabAnswers size before after (Err (TooLarge cells))
    slab_too_large cells large = record {
      ends = record { graph = graph; input = input; large = large; untouched = untouched };
      input_taken = taken;
      input_count = count;
      out_count = out_count;
      spool_count = spool_count;
    }

    -- no time cut
    pub slab_lacks_cut : HasNoTimeCut graph → SlabAnswers size before after (Err NoTimeFold)
    slab_lacks_cut lacks = record {
      ends = record { graph = graph; input = input; lacks = lacks; untouched = untouched };
      input_taken = taken;
      input_count = count;
      out_count = out_count;
      spool_count = spool_count;
    }
