-- How the command `slab` ends: by the table of `run`, over the same meaning, where slabs of dates are folded one after
-- the other.
use Rattle.std.specs.Prelude.{◌≤◌, ℕ, ◌+◌, Result, Ok, Err}
use Rattle.oe_graph.specs.Form.{most_input}
use Rattle.oe_outside.specs.Faults.{NeverFalls}
use Rattle.oe_outside.specs.Input.{TakesAtMost}
use Rattle.oe_plan.specs.Figures.{most_held_cells}
use Rattle.oe_check.specs.Checked.{CheckedGraph}
use Rattle.oe_slab.specs.Cuts.{HasNoTimeCut, IsTimeCut}
use Rattle.oe_slab.specs.Figures.{slab_bound}
use Rattle.oe_slab.specs.Plans as plan
use Rattle.oe_window.specs.declared.grid.ChunkSize.{ChunkSize}
use Rattle.oe_top.specs.Judged.{IsInput, IsRefused}
use Rattle.oe_top.specs.Objects.{IsUntouched, Objects}
use Rattle.oe_top.specs.RunAnswer.{EvaluationEnds}
use Rattle.oe_top.specs.SlabEvaluated.{ReadsForSlabs}
use Rattle.oe_top.specs.declared.evaluation.EvaluationFail.{EvaluationFail}
use Rattle.oe_top.specs.declared.slab.SlabRefusal.{SlabRefusal}
use Rattle.oe_top.specs.declared.slab.SlabRefusal.TheVariants.{Input, NoTimeFold, TooLarge, OutOfMemory, Stopped}

-- the evaluation of a graph ends as that of a run does; in chunks and slabs of a size it reads no more than such a run
-- may, and no fault counter falls
pub record FoldsSlabs (c : CheckedGraph) (size : ChunkSize) (fold : ℕ) (before after : Objects)
    (ending : Result (Unit {0}) EvaluationFail) : Type 0 where
  pub ends : EvaluationEnds c before after ending
  pub reads : ReadsForSlabs c size fold before.collections after.collections
  pub out_count : NeverFalls before.out_faults after.out_faults
  pub spool_count : NeverFalls before.spool_faults after.spool_faults

module _ (size : ChunkSize) (before after : Objects) where
  -- the input is a graph without a fault that has a time cut, such a run of it holds no more cells than are allowed,
  -- and it was evaluated
  pub record IsFolded (ending : Result (Unit {0}) EvaluationFail) : Type 0 where
    pub graph : CheckedGraph
    pub input : IsInput before after graph
    pub fold : ℕ
    pub cut : IsTimeCut graph fold
    pub fits : slab_bound graph size fold ≤ most_held_cells
    pub folds : FoldsSlabs graph size fold before after ending

  -- 3: it is one with a time cut whose run would hold more, so many
  pub record IsTooLarge (cells : ℕ) : Type 0 where
    pub graph : CheckedGraph
    pub input : IsInput before after graph
    pub large : plan.IsTooLarge graph size cells
    pub untouched : IsUntouched before after

  -- 2: it is one without a fault, and its run has no time cut
  pub record LacksCut : Type 0 where
    pub graph : CheckedGraph
    pub input : IsInput before after graph
    pub lacks : HasNoTimeCut graph
    pub untouched : IsUntouched before after

  -- what each ending says; out of memory has no cause, and comes only before anything is read but the input
  abbrev pub SlabEnds : Result (Unit {0}) SlabRefusal → Type 0
  SlabEnds (Ok x) = IsFolded (Ok x)
  SlabEnds (Err (Input refusal)) = IsRefused before after refusal × IsUntouched before after
  SlabEnds (Err NoTimeFold) = LacksCut
  SlabEnds (Err (TooLarge cells)) = IsTooLarge cells
  SlabEnds (Err OutOfMemory) = IsUntouched before after
  SlabEnds (Err (Stopped fail)) = IsFolded (Err fail)

  -- So where the input, the collections that it loads and the spool are visible, the input holds a graph without a fault
  -- that has a time cut and whose run is not too large, no load keeps a damaged position, no cell of the result is Over
  -- and no fault counter rose, it ends by the whole text, or out of memory: the one that `run` writes.
  pub record SlabAnswers (ending : Result (Unit {0}) SlabRefusal) : Type 0 where
    pub ends : SlabEnds ending
    -- the input is read only up to one byte past the limit
    pub input_taken : TakesAtMost before.input (most_input + 1) after.input
    -- no fault counter falls
    pub input_count : NeverFalls before.input_faults after.input_faults
    pub out_count : NeverFalls before.out_faults after.out_faults
    pub spool_count : NeverFalls before.spool_faults after.spool_faults
