-- How the command `part` ends: the table of its statuses, one case a row.
use Rattle.std.specs.Prelude.{◌≡◌, ◌<◌, ◌≤◌, ℕ, ◌+◌, ◌-◌, ◌*◌, List, None, Result, Ok, Err}
use Rattle.oe_engine.specs.Results.{IsVisible, OfMeaning}
use Rattle.oe_engine.specs.Runs.{PartRunOf}
use Rattle.oe_engine.specs.Evaluations.{loads_of}
use Rattle.oe_dims.specs.Positions.{Position, number_of}
use Rattle.oe_dims.specs.declared.kind.CellKind.{CellKind}
use Rattle.oe_graph.specs.Form.{most_input}
use Rattle.oe_outside.specs.Faults.{NeverFalls, Rose}
use Rattle.oe_outside.specs.Input.{TakesAtMost}
use Rattle.oe_outside.specs.Visible.{Appends, AppendsPrefix}
use Rattle.oe_parts.specs.Head.{IsPartHead, PartHead}
use Rattle.oe_parts.specs.PartFile as part
use Rattle.oe_parts.specs.PartFile.{IsPartOf, part_bytes}
use Rattle.oe_parts.specs.Sent.{AppendsRecords}
use Rattle.oe_plan.specs.Figures.{bound_of, chunks_of, largest_window, most_held_cells, shape_of_node}
use Rattle.oe_check.specs.Checked.{CheckedGraph, outline_of_node}
use Rattle.oe_sources.specs.Catalogue.{cells_asked}
use Rattle.oe_spool.specs.Spooled.{IsInSome}
use Rattle.oe_steps.specs.Collections.{AreRead, LoadRose}
use Rattle.oe_window.specs.declared.grid.ChunkSize.{ChunkSize}
use Rattle.oe_top.specs.Judged.{IsInputText, IsRefused}
use Rattle.oe_top.specs.Objects.{Objects, IsUntouched}
use Rattle.oe_top.specs.RunAnswer.{MeetsDamage}
use Rattle.oe_top.specs.Written.{IsUnwritten}
use Rattle.oe_top.specs.declared.evaluation.EvaluationFail.{EvaluationFail}
use Rattle.oe_top.specs.declared.evaluation.EvaluationFail.TheVariants.{Overflow, ReadFault, Damaged, SpoolFault, WriteFault, SpoolDamaged}
use Rattle.oe_top.specs.declared.part.PartRefusal.{PartRefusal}
use Rattle.oe_top.specs.declared.part.PartRefusal.TheVariants.{Input, ChunkRange, TooLarge, OutOfMemory, Stopped}

-- the kind of the cells of the result
abbrev pub kind_of_result : CheckedGraph → CellKind
kind_of_result c = (outline_of_node c c.result).kind

-- the head of the part of some chunks of a graph's run, whose text this is
abbrev pub head_for : List ℕ → CheckedGraph → ChunkSize → ℕ → ℕ → PartHead
head_for text c size first end = record {
  graph = text;
  sides = size;
  first = first;
  end = end;
  kind = kind_of_result c;
  shape = shape_of_node c c.result;
}

-- that of a part of a run
abbrev pub head_of_part : List ℕ → PartRunOf → PartHead
head_of_part text r = head_for text r.plan.graph r.plan.size r.first (r.first + r.count)

-- these are some chunks of those that the run has
abbrev pub AreChunksOf : CheckedGraph → ChunkSize → ℕ → ℕ → Type 0
AreChunksOf c size first end = (first < end) × (end ≤ chunks_of c size)

-- ---- how the evaluation of the chunks ends

module _ (text : List ℕ) (c : CheckedGraph) (size : ChunkSize) (first end : ℕ) (before after : Objects) where
  -- 0: the front of the part and the records of as many valid cells as it has follow what the output held. Where
  -- collections and spool are visible they are the part of what the graph means, a cell of which may be Over.
  pub record WritesPartFile : Type 0 where
    pub records : AppendsRecords before.out (head_for text c size first end) after.out
    pub of_meaning : IsVisible before.spool → OfMeaning before.collections c
        (λ cube. (bytes : List ℕ) × IsPartOf bytes (head_for text c size first end) cube × Appends before.out bytes after.out)

  -- a prefix of that part does
  abbrev pub WritesPartPrefix : Type 0
  WritesPartPrefix = IsVisible before.spool → OfMeaning before.collections c
      (λ cube. AppendsPrefix before.out (part_bytes (head_for text c size first end) cube) after.out)

  -- 15: what was read back from the spool for this cell of the part is no record, which never comes of a spool whose
  -- bytes are visible
  pub record PartMeetsSpoolDamage (number : ℕ) : Type 0 where
    pub position : Position
    pub inside : IsInSome (part.chunks_of (head_for text c size first end)) position
    pub number_is : number_of (shape_of_node c c.result) position ≡ number
    pub hidden : before.spool ≡ None

  -- a part never ends by a number out of range: only all parts tell which one is the first
  abbrev pub ChunksEnd : Result (Unit {0}) EvaluationFail → Type 0
  ChunksEnd (Ok x) = WritesPartFile
  ChunksEnd (Err (Overflow number)) = ⊥
  ChunksEnd (Err ReadFault) = LoadRose c before.collections after.collections × IsUnwritten before after
  ChunksEnd (Err (Damaged id number)) = MeetsDamage c before after id number
  ChunksEnd (Err SpoolFault) = Rose before.spool_faults after.spool_faults × WritesPartPrefix
  ChunksEnd (Err WriteFault) = Rose before.out_faults after.out_faults × WritesPartPrefix
  ChunksEnd (Err (SpoolDamaged number)) = PartMeetsSpoolDamage number

  -- of each chunk each node that loads a collection asks for one window at most, and no fault counter falls
  pub record EvaluatesChunks (ending : Result (Unit {0}) EvaluationFail) : Type 0 where
    pub ends : ChunksEnd ending
    pub read : AreRead before.collections after.collections
    pub asked : cells_asked after.collections
        ≤ cells_asked before.collections + (end - first) * (loads_of c * largest_window c size)
    pub out_count : NeverFalls before.out_faults after.out_faults
    pub spool_count : NeverFalls before.spool_faults after.spool_faults

-- the same of a part of a run
abbrev pub EvaluatesPart : List ℕ → PartRunOf → Objects → Objects → Result (Unit {0}) EvaluationFail → Type 0
EvaluatesPart text r before after ending =
    EvaluatesChunks text r.plan.graph r.plan.size r.first (r.first + r.count) before after ending

-- ---- how the command ends

module _ (size : ChunkSize) (workers first end : ℕ) (before after : Objects) where
  pub record IsPartEvaluated (ending : Result (Unit {0}) EvaluationFail) : Type 0 where
    pub text : List ℕ
    pub graph : CheckedGraph
    pub input : IsInputText before after text graph
    pub chunks : AreChunksOf graph size first end
    -- so that what is written is a part file with this head and with no other
    pub head : IsPartHead (head_for text graph size first end)
    pub fits : bound_of graph size workers ≤ most_held_cells
    pub evaluates : EvaluatesChunks text graph size first end before after ending

  -- 2: it is a graph without a fault whose run has not these chunks
  pub record HasNoSuchChunks : Type 0 where
    pub text : List ℕ
    pub graph : CheckedGraph
    pub input : IsInputText before after text graph
    pub none : ¬ AreChunksOf graph size first end
    pub untouched : IsUntouched before after

  -- 3: it is one whose run would hold more cells than are allowed, so many
  pub record IsPartTooLarge (cells : ℕ) : Type 0 where
    pub text : List ℕ
    pub graph : CheckedGraph
    pub input : IsInputText before after text graph
    pub chunks : AreChunksOf graph size first end
    pub cells_are : cells ≡ bound_of graph size workers
    pub over : most_held_cells < cells
    pub untouched : IsUntouched before after

  abbrev pub PartEnds : Result (Unit {0}) PartRefusal → Type 0
  PartEnds (Ok x) = IsPartEvaluated (Ok x)
  PartEnds (Err (Input refusal)) = IsRefused before after refusal × IsUntouched before after
  PartEnds (Err ChunkRange) = HasNoSuchChunks
  PartEnds (Err (TooLarge cells)) = IsPartTooLarge cells
  PartEnds (Err OutOfMemory) = IsUntouched before after
  PartEnds (Err (Stopped fail)) = IsPartEvaluated (Err fail)

  -- So where the input, the collections that it loads and the spool are visible, the input holds a graph without a fault
  -- that has these chunks and is not too large, no load keeps a damaged position and no fault counter rose, it ends by
  -- the whole part file, or out of memory.
  pub record PartAnswers (ending : Result (Unit {0}) PartRefusal) : Type 0 where
    pub ends : PartEnds ending
    pub input_taken : TakesAtMost before.input (most_input + 1) after.input
    pub input_count : NeverFalls before.input_faults after.input_faults
    pub out_count : NeverFalls before.out_faults after.out_faults
    pub spool_count : NeverFalls before.spool_faults after.spool_faults

-- the same by the words of the command: sides and workers, a first chunk and an end
abbrev pub PartAnswersBy : ChunkSize × ℕ → ℕ × ℕ → Objects → Objects → Result (Unit {0}) PartRefusal → Type 0
PartAnswersBy sizes chunks before after ending = PartAnswers sizes.0 sizes.1 chunks.0 chunks.1 before after ending
