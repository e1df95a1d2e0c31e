-- How the command `plan` ends.
use Rattle.std.specs.Prelude.{ℕ, ◌+◌, ◌++◌, List, Result, Ok, Err, codes, decimal}
use Rattle.oe_outside.specs.Faults.{NeverFalls}
use Rattle.oe_outside.specs.Input.{TakesAtMost}
use Rattle.oe_outside.specs.Visible.{Appends}
use Rattle.oe_plan.specs.Figures.{bound_of, chunks_of}
use Rattle.oe_check.specs.Checked.{CheckedGraph}
use Rattle.oe_window.specs.declared.grid.ChunkSize.{ChunkSize}
use Rattle.oe_graph.specs.Form.{most_input}
use Rattle.oe_top.specs.Judged.{IsInput, IsRefused}
use Rattle.oe_top.specs.Objects.{Objects, UsesStreamsAlone}
use Rattle.oe_top.specs.Written.{IsUnwritten, StopsWriting}
use Rattle.oe_top.specs.declared.check.CheckRefusal.{CheckRefusal}
use Rattle.oe_top.specs.declared.check.CheckRefusal.TheVariants.{Input, WriteFault, OutOfMemory}

-- the line of two figures: how many cells a run holds at most, and in how many chunks it goes
abbrev pub figures_text : ℕ → ℕ → List ℕ
figures_text bound chunks = codes "bound " ++ decimal bound ++ codes " chunks " ++ decimal chunks ++ codes "\n"

-- the line of a graph, for chunks of a size and so many workers
abbrev pub plan_text : CheckedGraph → ChunkSize → ℕ → List ℕ
plan_text c size workers = figures_text (bound_of c size workers) (chunks_of c size)

module _ (size : ChunkSize) (workers : ℕ) where
  -- the whole input was read, it is a graph without a fault, and its line follows what the output held
  pub record WritesPlan (before after : Objects) : Type 0 where
    pub graph : CheckedGraph
    pub input : IsInput before after graph
    pub text : Appends before.out (plan_text graph size workers) after.out

  -- the same of a prefix, and the fault counter of the output rose
  pub record StopsPlan (before after : Objects) : Type 0 where
    pub graph : CheckedGraph
    pub input : IsInput before after graph
    pub stops : StopsWriting (plan_text graph size workers) before after

  -- what each ending says; out of memory has no cause
  abbrev pub PlanEnds : Objects → Objects → Result (Unit {0}) CheckRefusal → Type 0
  PlanEnds before after (Ok x) = WritesPlan before after
  PlanEnds before after (Err (Input refusal)) = IsRefused before after refusal × IsUnwritten before after
  PlanEnds before after (Err WriteFault) = StopsPlan before after
  PlanEnds before after (Err OutOfMemory) = IsUnwritten before after

  -- No collection is read, and a plan that holds too many cells to be run is written too.
  pub record PlanAnswers (before after : Objects) (ending : Result (Unit {0}) CheckRefusal) : Type 0 where
    pub ends : PlanEnds before after ending
    pub others_kept : UsesStreamsAlone before after
    -- the input is read only up to one byte past the limit
    pub input_taken : TakesAtMost before.input (most_input + 1) after.input
    -- no fault counter falls
    pub input_count : NeverFalls before.input_faults after.input_faults
    pub out_count : NeverFalls before.out_faults after.out_faults
