-- How the command `check` ends.
use Rattle.std.specs.Prelude.{ℕ, ◌+◌, List, Result, Ok, Err, codes}
use Rattle.oe_graph.specs.Form.{most_input}
use Rattle.oe_outside.specs.Faults.{NeverFalls}
use Rattle.oe_outside.specs.Input.{TakesAtMost}
use Rattle.oe_outside.specs.Visible.{Appends}
use Rattle.oe_check.specs.Checked.{CheckedGraph}
use Rattle.oe_top.specs.Judged.{IsInput, IsRefused}
use Rattle.oe_top.specs.Objects.{Objects, UsesStreamsAlone}
use Rattle.oe_top.specs.Written.{IsUnwritten, StopsWriting}
use Rattle.oe_top.specs.declared.check.CheckRefusal.{CheckRefusal}
use Rattle.oe_top.specs.declared.check.CheckRefusal.TheVariants.{Input, WriteFault, OutOfMemory}

-- what is written where no fault stands
abbrev pub valid_text : List ℕ
valid_text = codes "valid\n"

-- the whole input was read, and no fault stands in it
abbrev pub IsValidInput : Objects → Objects → Type 0
IsValidInput before after = (c : CheckedGraph) × IsInput before after c

-- what each ending says; out of memory has no cause
abbrev pub CheckEnds : Objects → Objects → Result (Unit {0}) CheckRefusal → Type 0
CheckEnds before after (Ok x) = IsValidInput before after × Appends before.out valid_text after.out
CheckEnds before after (Err (Input refusal)) = IsRefused before after refusal × IsUnwritten before after
CheckEnds before after (Err WriteFault) = IsValidInput before after × StopsWriting valid_text before after
CheckEnds before after (Err OutOfMemory) = IsUnwritten before after

-- So where the input is visible and no counter rose, it ends by the least fault exactly where one stands, and else by
-- `valid`, or out of memory. No collection is read.
pub record CheckAnswers (before after : Objects) (ending : Result (Unit {0}) CheckRefusal) : Type 0 where
  pub ends : CheckEnds before after ending
  pub others_kept : UsesStreamsAlone before after
  -- the input is read only up to one byte past the limit
  pub input_taken : TakesAtMost before.input (most_input + 1) after.input
  -- no fault counter falls
  pub input_count : NeverFalls before.input_faults after.input_faults
  pub out_count : NeverFalls before.out_faults after.out_faults
