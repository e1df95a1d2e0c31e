-- How the command `run` ends: the table of its statuses, one case a row.
use Rattle.std.specs.Prelude.{◌≡◌, ◌<◌, ◌≤◌, ◌⊎◌, ℕ, ◌+◌, List, None, Some, Result, Ok, Err}
use Rattle.oe_engine.specs.Results.{IsOverFirst, IsVisible, IsWithoutOver, OfMeaning}
use Rattle.oe_engine.specs.Evaluations.{ReadsForRun}
use Rattle.oe_dims.specs.Dimensions.{cell_count}
use Rattle.oe_steps.specs.Collections.{LoadRose}
use Rattle.oe_steps.specs.Refusals.{KeepsDamage}
use Rattle.oe_graph.specs.Form.{most_input}
use Rattle.oe_outside.specs.Faults.{NeverFalls, Rose}
use Rattle.oe_outside.specs.Input.{TakesAtMost}
use Rattle.oe_outside.specs.Visible.{Appends, AppendsPrefix}
use Rattle.oe_plan.specs.Figures.{bound_of, most_held_cells, shape_of_node}
use Rattle.oe_render.specs.Text.{cube_text}
use Rattle.oe_check.specs.Checked.{CheckedGraph, collection_of_node}
use Rattle.oe_window.specs.declared.grid.ChunkSize.{ChunkSize}
use Rattle.oe_top.specs.Judged.{IsInput, IsRefused}
use Rattle.oe_top.specs.Objects.{Objects, IsUntouched}
use Rattle.oe_top.specs.Written.{IsUnwritten, OfSomeCube}
use Rattle.oe_top.specs.declared.evaluation.EvaluationFail.{EvaluationFail}
use Rattle.oe_top.specs.declared.evaluation.EvaluationFail.TheVariants.{Overflow, ReadFault, Damaged, SpoolFault, WriteFault, SpoolDamaged}
use Rattle.oe_top.specs.declared.run.RunRefusal.{RunRefusal}
use Rattle.oe_top.specs.declared.run.RunRefusal.TheVariants.{Input, TooLarge, OutOfMemory, Stopped}

-- ---- how the evaluation of a graph ends

module _ (c : CheckedGraph) (before after : Objects) where
  -- 0: no cell of the result is Over, and the text of what the graph means follows what the output held. Whatever is
  -- visible, it is the text of some cube of the shape of the result, no cell of which is Over.
  pub record WritesText : Type 0 where
    pub numbers : OfMeaning before.collections c IsWithoutOver
    pub text : IsVisible before.spool → OfMeaning before.collections c
        (λ cube. Appends before.out (cube_text cube) after.out)
    pub stored : OfSomeCube (shape_of_node c c.result) (λ cube. Appends before.out (cube_text cube) after.out)

  -- no cell of the result is Over, and a prefix of that text follows what the output held; whatever is visible, it is one
  -- of the text of such a cube
  pub record BeginsText : Type 0 where
    pub numbers : OfMeaning before.collections c IsWithoutOver
    pub prefix : IsVisible before.spool → OfMeaning before.collections c
        (λ cube. AppendsPrefix before.out (cube_text cube) after.out)
    pub stored : OfSomeCube (shape_of_node c c.result) (λ cube. AppendsPrefix before.out (cube_text cube) after.out)

  -- 7: the spool failed, before the text, and nothing was written, or in it
  abbrev pub StopsAtSpool : Type 0
  StopsAtSpool = Rose before.spool_faults after.spool_faults × (IsUnwritten before after ⊎ BeginsText)

  -- 8: the output failed in the text
  abbrev pub StopsAtText : Type 0
  StopsAtText = Rose before.out_faults after.out_faults × BeginsText

  -- 4: this is the least number of a cell of the result that is Over
  pub record Overflows (number : ℕ) : Type 0 where
    pub least : OfMeaning before.collections c (IsOverFirst number)
    pub unwritten : IsUnwritten before after

  -- 6: a node of the run keeps the labels of this damaged position of the collection of this id
  pub record MeetsDamage (id : List ℕ) (number : ℕ) : Type 0 where
    pub node : ℕ
    pub loads : collection_of_node c node ≡ Some id
    pub keeps : KeepsDamage c before.collections node number
    pub unwritten : IsUnwritten before after

  -- 15: in the text, what was read back from the spool for this cell of the result is no record, or that of Over, which
  -- never comes of a spool whose bytes are visible
  pub record MeetsSpoolDamage (number : ℕ) : Type 0 where
    pub within : number < cell_count (shape_of_node c c.result)
    pub begins : BeginsText
    pub hidden : before.spool ≡ None

  abbrev pub EvaluationEnds : Result (Unit {0}) EvaluationFail → Type 0
  EvaluationEnds (Ok x) = WritesText
  EvaluationEnds (Err (Overflow number)) = Overflows number
  EvaluationEnds (Err ReadFault) = LoadRose c before.collections after.collections × IsUnwritten before after
  EvaluationEnds (Err (Damaged id number)) = MeetsDamage id number
  EvaluationEnds (Err SpoolFault) = StopsAtSpool
  EvaluationEnds (Err WriteFault) = StopsAtText
  EvaluationEnds (Err (SpoolDamaged number)) = MeetsSpoolDamage number

-- in chunks of a size it reads no more than a run may, and no fault counter falls
pub record Evaluates (c : CheckedGraph) (size : ChunkSize) (before after : Objects)
    (ending : Result (Unit {0}) EvaluationFail) : Type 0 where
  pub ends : EvaluationEnds c before after ending
  pub reads : ReadsForRun c size before.collections after.collections
  pub out_count : NeverFalls before.out_faults after.out_faults
  pub spool_count : NeverFalls before.spool_faults after.spool_faults

-- ---- how the command ends

module _ (size : ChunkSize) (workers : ℕ) (before after : Objects) where
  -- the input is a graph without a fault whose run holds no more cells than are allowed, and it was evaluated
  pub record IsEvaluated (ending : Result (Unit {0}) EvaluationFail) : Type 0 where
    pub graph : CheckedGraph
    pub input : IsInput before after graph
    pub fits : bound_of graph size workers ≤ most_held_cells
    pub evaluates : Evaluates graph size before after ending

  -- 3: it is one whose run would hold more, so many
  pub record IsTooLarge (cells : ℕ) : Type 0 where
    pub graph : CheckedGraph
    pub input : IsInput before after graph
    pub cells_are : cells ≡ bound_of graph size workers
    pub over : most_held_cells < cells
    pub untouched : IsUntouched before after

  -- what each ending says; out of memory has no cause, and comes only before anything is read but the input
  abbrev pub RunEnds : Result (Unit {0}) RunRefusal → Type 0
  RunEnds (Ok x) = IsEvaluated (Ok x)
  RunEnds (Err (Input refusal)) = IsRefused before after refusal × IsUntouched before after
  RunEnds (Err (TooLarge cells)) = IsTooLarge cells
  RunEnds (Err OutOfMemory) = IsUntouched before after
  RunEnds (Err (Stopped fail)) = IsEvaluated (Err fail)

  -- So where the input, the collections that it loads and the spool are visible, the input holds a graph without a fault
  -- whose run is not too large, no load keeps a damaged position, no cell of the result is Over and no fault counter
  -- rose, it ends by the whole text, or out of memory.
  pub record RunAnswers (ending : Result (Unit {0}) RunRefusal) : Type 0 where
    pub ends : RunEnds ending
    -- the input is read only up to one byte past the limit
    pub input_taken : TakesAtMost before.input (most_input + 1) after.input
    -- no fault counter falls
    pub input_count : NeverFalls before.input_faults after.input_faults
    pub out_count : NeverFalls before.out_faults after.out_faults
    pub spool_count : NeverFalls before.spool_faults after.spool_faults
