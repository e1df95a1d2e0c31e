-- How the command `demo` ends: the table of its statuses, one case a row.
use Rattle.std.specs.Prelude.{◌≡◌, ◌<◌, ◌≤◌, ℕ, List, None, Result, Ok, Err}
use Rattle.oe_engine.specs.Results.{IsOverFirst, IsVisible, IsWithoutOver, result_of}
use Rattle.oe_dims.specs.Dimensions.{cell_count}
use Rattle.oe_outside.specs.Faults.{NeverFalls, Rose}
use Rattle.oe_outside.specs.Visible.{Appends, AppendsPrefix}
use Rattle.oe_plan.specs.Figures.{bound_of, most_held_cells, shape_of_node}
use Rattle.oe_check.specs.Checked.{CheckedGraph}
use Rattle.oe_sources.specs.Catalogue.{Row, demonstration}
use Rattle.oe_sources.specs.CatalogueDims.{dims_of}
use Rattle.oe_window.specs.declared.grid.ChunkSize.{ChunkSize}
use Rattle.oe_top.specs.Demonstration.{demo_graph, demo_text}
use Rattle.oe_top.specs.Judged.{IsCheckedText}
use Rattle.oe_top.specs.Objects.{IsUntouched, Objects}
use Rattle.oe_top.specs.Written.{IsUnwritten}
use Rattle.oe_top.specs.declared.demo.DemoRefusal.{DemoRefusal}
use Rattle.oe_top.specs.declared.demo.DemoRefusal.TheVariants.{TooLarge, OutOfMemory, Stopped}
use Rattle.oe_top.specs.declared.evaluation.EvaluationFail.{EvaluationFail}
use Rattle.oe_top.specs.declared.evaluation.EvaluationFail.TheVariants.{Overflow, ReadFault, Damaged, SpoolFault, WriteFault, SpoolDamaged}

-- these are the rows of the generated collection of some seed and side
pub record IsDemonstration (rows : List Row) : Type 0 where
  pub seed : ℕ
  pub side : ℕ
  pub most : side ≤ 1024
  pub rows_are : rows ≡ demonstration seed side

-- ---- how the evaluation of a graph over a generated collection ends

module _ (rows : List Row) (c : CheckedGraph) (before after : Objects) where
  -- 0: no cell of the result is Over, and its figures follow what the output held
  pub record WritesFigures : Type 0 where
    pub numbers : IsWithoutOver (result_of rows c)
    pub text : IsVisible before.spool → Appends before.out (demo_text (result_of rows c)) after.out

  -- 4: this is the least number of a cell of the result that is Over
  pub record OverflowsFirst (number : ℕ) : Type 0 where
    pub least : IsOverFirst number (result_of rows c)
    pub unwritten : IsUnwritten before after

  -- 7: the fault counter of the spool rose
  pub record StopsSpooling : Type 0 where
    pub rose : Rose before.spool_faults after.spool_faults
    pub unwritten : IsUnwritten before after

  -- 8: the fault counter of the output rose, and a prefix of the figures follows what it held
  pub record StopsFigures : Type 0 where
    pub rose : Rose before.out_faults after.out_faults
    pub prefix : IsVisible before.spool → AppendsPrefix before.out (demo_text (result_of rows c)) after.out

  -- 15: what was read back from the spool for this cell of the result is no record, or that of Over, which never comes
  -- of a spool whose bytes are visible
  pub record MeetsNoRecord (number : ℕ) : Type 0 where
    pub within : number < cell_count (shape_of_node c c.result)
    pub hidden : before.spool ≡ None
    pub unwritten : IsUnwritten before after

  -- no read of a generated collection fails, and no position of it is damaged
  abbrev pub FiguresEnd : Result (Unit {0}) EvaluationFail → Type 0
  FiguresEnd (Ok x) = WritesFigures
  FiguresEnd (Err (Overflow number)) = OverflowsFirst number
  FiguresEnd (Err ReadFault) = ⊥
  FiguresEnd (Err (Damaged id number)) = ⊥
  FiguresEnd (Err SpoolFault) = StopsSpooling
  FiguresEnd (Err WriteFault) = StopsFigures
  FiguresEnd (Err (SpoolDamaged number)) = MeetsNoRecord number

  -- and no fault counter falls
  pub record Demonstrates (ending : Result (Unit {0}) EvaluationFail) : Type 0 where
    pub ends : FiguresEnd ending
    pub out_count : NeverFalls before.out_faults after.out_faults
    pub spool_count : NeverFalls before.spool_faults after.spool_faults

-- ---- how the command ends

module _ (seed side : ℕ) (size : ChunkSize) (workers : ℕ) where
  -- this is the graph of the demonstration, over the generated collection of the seed and the side
  abbrev pub IsDemoGraph : CheckedGraph → Type 0
  IsDemoGraph c = IsCheckedText (dims_of (demonstration seed side)) demo_graph c

  module _ (before after : Objects) where
    -- its run holds no more cells than are allowed, it was evaluated, and ended so
    pub record IsDemonstrated (ending : Result (Unit {0}) EvaluationFail) : Type 0 where
      pub graph : CheckedGraph
      pub text : IsDemoGraph graph
      pub fits : bound_of graph size workers ≤ most_held_cells
      pub ends : FiguresEnd (demonstration seed side) graph before after ending

    -- 3: the run would hold more cells than are allowed, so many
    pub record IsTooLarge (cells : ℕ) : Type 0 where
      pub graph : CheckedGraph
      pub text : IsDemoGraph graph
      pub cells_are : cells ≡ bound_of graph size workers
      pub over : most_held_cells < cells
      pub untouched : IsUntouched before after

    -- what each ending says; out of memory has no cause, and comes only before the spool is touched
    abbrev pub DemoEnds : Result (Unit {0}) DemoRefusal → Type 0
    DemoEnds (Ok x) = IsDemonstrated (Ok x)
    DemoEnds (Err (TooLarge cells)) = IsTooLarge cells
    DemoEnds (Err OutOfMemory) = IsUntouched before after
    DemoEnds (Err (Stopped fail)) = IsDemonstrated (Err fail)

    -- Neither the input nor a mounted collection is touched.
    pub record DemoAnswers (ending : Result (Unit {0}) DemoRefusal) : Type 0 where
      pub ends : DemoEnds ending
      pub input_kept : (after.input ≡ before.input) × (after.input_faults ≡ before.input_faults)
      pub collections_kept : after.collections ≡ before.collections
      -- no fault counter falls
      pub out_count : NeverFalls before.out_faults after.out_faults
      pub spool_count : NeverFalls before.spool_faults after.spool_faults
