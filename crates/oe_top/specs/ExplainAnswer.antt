-- How the command `explain` ends.
use Rattle.std.specs.Prelude.{ℕ, ◌+◌, ⊤, List, Option, Some, None, Result, Ok, Err}
use Rattle.oe_dims.specs.declared.dims.DimsRow.{DimsRow}
use Rattle.oe_explain.specs.Explanation.{Explains}
use Rattle.oe_graph.specs.Form.{most_input}
use Rattle.oe_graph.specs.declared.fault.Fault.{Fault}
use Rattle.oe_outside.specs.Faults.{NeverFalls, Rose}
use Rattle.oe_outside.specs.Input.{TakesAtMost}
use Rattle.oe_outside.specs.Visible.{Appends}
use Rattle.oe_check.specs.Checked.{CheckedGraph}
use Rattle.oe_sources.specs.CatalogueDims.{dims_of}
use Rattle.oe_top.specs.CheckAnswer.{IsValidInput, valid_text}
use Rattle.oe_top.specs.Judged.{IsCheckedInput, IsFaultOfInput}
use Rattle.oe_top.specs.Objects.{Objects, UsesStreamsAlone}
use Rattle.oe_top.specs.Written.{IsUnwritten, StopsWriting}
use Rattle.oe_top.specs.declared.check.CheckRefusal.{CheckRefusal}
use Rattle.oe_top.specs.declared.check.CheckRefusal.TheVariants.{Input, WriteFault, OutOfMemory}
use Rattle.oe_top.specs.declared.judge.InputRefusal.{InputRefusal}
use Rattle.oe_top.specs.declared.judge.InputRefusal.TheVariants as input

-- ---- what is said

-- the text explains the least fault of the input, which is the one that `check` reports
pub record ExplainsFault (rows : List DimsRow) (before after : Option (List ℕ)) (fault : Fault) (text : List ℕ)
    : Type 0 where
  pub faulty : IsFaultOfInput rows before after fault
  pub explains : Explains faulty.bytes fault text

-- What looking for a fault in an input answers, where `bytes` gives those of a text: none where none stands in it, else
-- the least one with the text that explains it.
abbrev pub FindsFault : {T : Type 0} → (T → List ℕ) → List DimsRow → Option (List ℕ) → ℕ → Option (List ℕ) → ℕ
    → Result (Option (Fault × T)) InputRefusal → Type 0
FindsFault bytes rows before before_faults after after_faults (Ok None) =
    (c : CheckedGraph) × IsCheckedInput rows before after c
FindsFault bytes rows before before_faults after after_faults (Ok (Some found)) =
    ExplainsFault rows before after found.0 (bytes found.1)
FindsFault bytes rows before before_faults after after_faults (Err (input.Graph fault)) = ⊥
FindsFault bytes rows before before_faults after after_faults (Err input.ReadFault) = Rose before_faults after_faults
FindsFault bytes rows before before_faults after after_faults (Err input.OutOfMemory) = ⊤

-- ---- the command

-- the text explains the fault over the collections of a call
abbrev pub IsExplained : Objects → Objects → Fault → List ℕ → Type 0
IsExplained before after fault text = ExplainsFault (dims_of before.collections) before.input after.input fault text

-- 2: the text that explains the fault follows what the output held
pub record WritesExplanation (before after : Objects) (fault : Fault) : Type 0 where
  pub text : List ℕ
  pub explained : IsExplained before after fault text
  pub written : Appends before.out text after.out

-- 8: `valid`, or the text that explains the fault, was not written whole
pub data StopsExplaining (before after : Objects) : Type 0 where
  at_valid : IsValidInput before after → StopsWriting valid_text before after → StopsExplaining before after
  at_fault : {fault : Fault} {text : List ℕ}
      → IsExplained before after fault text → StopsWriting text before after → StopsExplaining before after

-- what each ending says; out of memory has no cause
abbrev pub ExplainEnds : Objects → Objects → Result (Unit {0}) CheckRefusal → Type 0
ExplainEnds before after (Ok x) = IsValidInput before after × Appends before.out valid_text after.out
ExplainEnds before after (Err (Input (input.Graph fault))) = WritesExplanation before after fault
ExplainEnds before after (Err (Input input.ReadFault)) =
    Rose before.input_faults after.input_faults × IsUnwritten before after
ExplainEnds before after (Err (Input input.OutOfMemory)) = IsUnwritten before after
ExplainEnds before after (Err WriteFault) = StopsExplaining before after
ExplainEnds before after (Err OutOfMemory) = IsUnwritten before after

-- So where the input is visible and no counter rose, it ends as `check`, or out of memory. No collection is read.
pub record ExplainAnswers (before after : Objects) (ending : Result (Unit {0}) CheckRefusal) : Type 0 where
  pub ends : ExplainEnds before after ending
  pub others_kept : UsesStreamsAlone before after
  -- the input is read only up to one byte past the limit
  pub input_taken : TakesAtMost before.input (most_input + 1) after.input
  -- no fault counter falls
  pub input_count : NeverFalls before.input_faults after.input_faults
  pub out_count : NeverFalls before.out_faults after.out_faults
