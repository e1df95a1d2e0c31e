-- How the command `slabplan` ends.
use Rattle.std.specs.Prelude.{◌≡◌, ℕ, ◌+◌, List, Result, Ok, Err}
use Rattle.oe_outside.specs.Faults.{NeverFalls}
use Rattle.oe_outside.specs.Input.{TakesAtMost}
use Rattle.oe_outside.specs.Visible.{Appends}
use Rattle.oe_check.specs.Checked.{CheckedGraph}
use Rattle.oe_slab.specs.Cuts.{HasNoTimeCut}
use Rattle.oe_slab.specs.Figures.{AreSlabFigures}
use Rattle.oe_window.specs.declared.grid.ChunkSize.{ChunkSize}
use Rattle.oe_graph.specs.Form.{most_input}
use Rattle.oe_top.specs.Judged.{IsInput, IsRefused}
use Rattle.oe_top.specs.Objects.{Objects, UsesStreamsAlone}
use Rattle.oe_top.specs.PlanAnswer.{figures_text}
use Rattle.oe_top.specs.Written.{IsUnwritten, StopsWriting}
use Rattle.oe_top.specs.declared.slab_plan.SlabPlanRefusal.{SlabPlanRefusal}
use Rattle.oe_top.specs.declared.slab_plan.SlabPlanRefusal.TheVariants.{Input, NoTimeFold, WriteFault, OutOfMemory}

-- the line of a graph that has a time cut, for slabs of a size
pub record IsSlabLine (c : CheckedGraph) (size : ChunkSize) (line : List ℕ) : Type 0 where
  pub bound : ℕ
  pub chunks : ℕ
  pub figures : AreSlabFigures c size bound chunks
  pub line_is : line ≡ figures_text bound chunks

module _ (size : ChunkSize) where
  -- the whole input was read, it is a graph without a fault that has a time cut, and its line follows what the output
  -- held
  pub record WritesSlabPlan (before after : Objects) : Type 0 where
    pub graph : CheckedGraph
    pub input : IsInput before after graph
    pub line : List ℕ
    pub is_line : IsSlabLine graph size line
    pub text : Appends before.out line after.out

  -- the same of a prefix, and the fault counter of the output rose
  pub record StopsSlabPlan (before after : Objects) : Type 0 where
    pub graph : CheckedGraph
    pub input : IsInput before after graph
    pub line : List ℕ
    pub is_line : IsSlabLine graph size line
    pub stops : StopsWriting line before after

  -- no fault stands in the input, and its run has no time cut
  pub record LacksTimeFold (before after : Objects) : Type 0 where
    pub graph : CheckedGraph
    pub input : IsInput before after graph
    pub lacks : HasNoTimeCut graph
    pub unwritten : IsUnwritten before after

  -- what each ending says; out of memory has no cause
  abbrev pub SlabPlanEnds : Objects → Objects → Result (Unit {0}) SlabPlanRefusal → Type 0
  SlabPlanEnds before after (Ok x) = WritesSlabPlan before after
  SlabPlanEnds before after (Err (Input refusal)) = IsRefused before after refusal × IsUnwritten before after
  SlabPlanEnds before after (Err NoTimeFold) = LacksTimeFold before after
  SlabPlanEnds before after (Err WriteFault) = StopsSlabPlan before after
  SlabPlanEnds before after (Err OutOfMemory) = IsUnwritten before after

  -- No collection is read, and a run that holds too many cells to be made is written too.
  pub record SlabPlanAnswers (before after : Objects) (ending : Result (Unit {0}) SlabPlanRefusal) : Type 0 where
    pub ends : SlabPlanEnds before after ending
    pub others_kept : UsesStreamsAlone before after
    -- the input is read only up to one byte past the limit
    pub input_taken : TakesAtMost before.input (most_input + 1) after.input
    -- no fault counter falls
    pub input_count : NeverFalls before.input_faults after.input_faults
    pub out_count : NeverFalls before.out_faults after.out_faults
