-- Faults of an input that are explained.
use Rattle.std.proofs.Common.{◌≡◌, ℕ, List, Option, Ok, Err, subst}
use Rattle.oe_dims.specs.declared.dims.DimsRow.{DimsRow}
use Rattle.oe_explain.specs.Explanation.{Explains}
use Rattle.oe_graph.specs.Faults.{IsLeast}
use Rattle.oe_graph.specs.Form.{most_input}
use Rattle.oe_graph.specs.declared.fault.Fault.{Fault}
use Rattle.oe_outside.specs.Faults.{Rose}
use Rattle.oe_outside.specs.Input.{ReadsUpTo}
use Rattle.oe_outside.specs.Visible.{Appends, AppendsPrefix}
use Rattle.oe_check.specs.Checked.{CheckedGraph}
use Rattle.oe_top.proofs.Checks.{fault_of_all, judges}
use Rattle.oe_sources.specs.CatalogueDims.{dims_of}
use Rattle.oe_top.specs.CheckAnswer.{IsValidInput, valid_text}
use Rattle.oe_top.specs.ExplainAnswer.{ExplainEnds, ExplainsFault, FindsFault, IsExplained, at_fault, at_valid}
use Rattle.oe_top.specs.Faults.{StandsOver}
use Rattle.oe_top.specs.Judged.{IsCheckedInput, IsCheckedText}
use Rattle.oe_top.specs.Objects.{Objects}
use Rattle.oe_top.specs.Written.{IsUnwritten}
use Rattle.oe_top.specs.declared.check.CheckRefusal.TheVariants.{Input, WriteFault}
use Rattle.oe_top.specs.declared.judge.InputRefusal.{InputRefusal}
use Rattle.oe_top.specs.declared.judge.InputRefusal.TheVariants as input

module _ (rows : List DimsRow) (before : Option (List ℕ)) (before_faults : ℕ) (bytes : List ℕ) (after : Option (List ℕ))
    (after_faults : ℕ) (read : ReadsUpTo most_input before bytes after) where
  -- no fault stands in the input
  pub none_found : (c : CheckedGraph) → IsCheckedText rows bytes c → (c : CheckedGraph) × IsCheckedInput rows before after c
  none_found c text = (c, judges rows before before_faults bytes after after_faults (Ok c) read text)

  -- the least fault of the bytes that were read is that of the input
  pub one_found : (fault : Fault) (text : List ℕ) → IsLeast (StandsOver rows bytes) fault → Explains bytes fault text
      → ExplainsFault rows before after fault text
  one_found fault text least explains = record {
    faulty =
        record { bytes = bytes; was_read = read; least = least; of_all = fault_of_all rows before bytes after fault read least };
    explains = explains;
  }

-- ---- how the command ends

module _ (before after : Objects) where
  module _ (fault : Fault) (text written : List ℕ) (explained : IsExplained before after fault text) (same : written ≡ text) where
    pub fault_written : Appends before.out written after.out → ExplainEnds before after (Err (Input (input.Graph fault)))
    fault_written appended = record {
      text = text;
      explained = explained;
      written = subst (λ t. Appends before.out t after.out) same appended;
    }

    pub fault_stopped : Rose before.out_faults after.out_faults → AppendsPrefix before.out written after.out
        → ExplainEnds before after (Err WriteFault)
    fault_stopped rose prefix =
        at_fault explained (record { rose = rose; prefix = subst (λ t. AppendsPrefix before.out t after.out) same prefix })

  pub valid_stopped : IsValidInput before after → Rose before.out_faults after.out_faults
      → AppendsPrefix before.out valid_text after.out → ExplainEnds before after (Err WriteFault)
  valid_stopped valid rose prefix = at_valid valid (record { rose = rose; prefix = prefix })

  -- nothing is written of an input that could not be read
  pub explain_refused : {T : Type 0} (bytes : T → List ℕ) (refusal : InputRefusal)
      → FindsFault bytes (dims_of before.collections) before.input before.input_faults after.input after.input_faults (Err refusal)
      → IsUnwritten before after → ExplainEnds before after (Err (Input refusal))
  explain_refused bytes (input.Graph fault) never unwritten = absurd never
  explain_refused bytes input.ReadFault rose unwritten = (rose, unwritten)
  explain_refused bytes input.OutOfMemory free unwritten = unwritten
