-- What the top call answers, and what it leaves.
use Rattle.std.specs.Prelude.{◌≡◌, ℕ, ◌↔◌, List, Option, Result, Err}
use Rattle.oe_outside.specs.Stream.{ErrorOutput, error_output}
use Rattle.oe_sources.specs.Catalogue.{Row}
use Rattle.oe_top.specs.CheckAnswer.{CheckAnswers}
use Rattle.oe_top.specs.DemoAnswer.{DemoAnswers}
use Rattle.oe_top.specs.DescribeAnswer.{DescribeAnswers, ListingAnswers}
use Rattle.oe_top.specs.Endings.{ending_of, of_check, of_demo, of_describe, of_join, of_listing, of_pack, of_part, of_repack, of_run, of_slab, of_slab_plan}
use Rattle.oe_top.specs.ExplainAnswer.{ExplainAnswers}
use Rattle.oe_parts.specs.Parts.{PartState}
use Rattle.oe_top.specs.JoinAnswer.{JoinAnswers}
use Rattle.oe_top.specs.Lines.{SaysEnding, status_of}
use Rattle.oe_top.specs.Objects.{Objects, lends}
use Rattle.oe_top.specs.PackAnswer.{PackAnswers}
use Rattle.oe_top.specs.PartAnswer.{PartAnswers}
use Rattle.oe_top.specs.PlanAnswer.{PlanAnswers}
use Rattle.oe_top.specs.RepackAnswer.{RepackAnswers}
use Rattle.oe_top.specs.RunAnswer.{RunAnswers}
use Rattle.oe_top.specs.SlabAnswer.{SlabAnswers}
use Rattle.oe_top.specs.SlabPlanAnswer.{SlabPlanAnswers}
use Rattle.oe_top.specs.Words.{SpellsCommand, Spells, id_in}
use Rattle.oe_top.specs.declared.refusal.Refusal.{Refusal}
use Rattle.oe_top.specs.declared.refusal.Refusal.TheVariants.{Usage}
use Rattle.oe_top.specs.declared.words.Command.{Command}
use Rattle.oe_top.specs.declared.words.Command.TheVariants.{Run, Part, Join, Plan, Slab, SlabPlan, Demo, Check, Explain, Pack, Repack, DescribeAll, Describe}

-- the call ends as the command did, in a way that the table of the command has
abbrev pub EndsAs : {E : Type 0} → (E → Refusal) → (Result (Unit {0}) E → Type 0) → Result (Unit {0}) Refusal → Type 0
EndsAs {E} of Ended ending = (ended : Result (Unit {0}) E) × (ending ≡ ending_of of ended) × Ended ended

-- what the ending says of a command
abbrev pub CommandEnds : List (List ℕ) → Command → List PartState → List PartState → Objects → Objects
    → Result (Unit {0}) Refusal → Type 0
CommandEnds words (Run size workers) parts parts_after before after ending =
    EndsAs of_run (RunAnswers size workers before after) ending
CommandEnds words (Part size workers first end) parts parts_after before after ending =
    EndsAs of_part (PartAnswers size workers first end before after) ending
CommandEnds words Join parts parts_after before after ending =
    EndsAs of_join (JoinAnswers parts parts_after before after) ending
CommandEnds words (Plan size workers) parts parts_after before after ending =
    EndsAs of_check (PlanAnswers size workers before after) ending
CommandEnds words (Slab size) parts parts_after before after ending = EndsAs of_slab (SlabAnswers size before after) ending
CommandEnds words (SlabPlan size) parts parts_after before after ending =
    EndsAs of_slab_plan (SlabPlanAnswers size before after) ending
CommandEnds words (Demo seed side size workers) parts parts_after before after ending =
    EndsAs of_demo (DemoAnswers seed side size workers before after) ending
CommandEnds words Check parts parts_after before after ending = EndsAs of_check (CheckAnswers before after) ending
CommandEnds words Explain parts parts_after before after ending = EndsAs of_check (ExplainAnswers before after) ending
CommandEnds words Pack parts parts_after before after ending = EndsAs of_pack (PackAnswers (id_in words) before after) ending
CommandEnds words Repack parts parts_after before after ending = EndsAs of_repack (RepackAnswers (id_in words) before after) ending
CommandEnds words DescribeAll parts parts_after before after ending = EndsAs of_listing (ListingAnswers before after) ending
CommandEnds words Describe parts parts_after before after ending =
    EndsAs of_describe (DescribeAnswers (id_in words) before after) ending

-- How a call ends: by the table of the command that the words spell. `Usage` comes exactly where they spell none,
-- before anything is read or allocated, and leaves all as it was. Parts are read by `join` alone.
pub record Ends (words : List (List ℕ)) (parts parts_after : List PartState) (before after : Objects)
    (ending : Result (Unit {0}) Refusal) : Type 0 where
  pub usage : (ending ≡ Err Usage) ↔ ¬ SpellsCommand words
  pub usage_keeps : ending ≡ Err Usage → after ≡ before
  pub answers : (command : Command) → Spells words command → CommandEnds words command parts parts_after before after ending
  pub parts_stay : ¬ Spells words Join → parts_after ≡ parts

-- the status and the line on the error output are those of the ending
pub record Answers (words : List (List ℕ)) (parts parts_after : List PartState) (before after : Objects) (err : ErrorOutput)
    (status : ℕ) : Type 0 where
  pub ending : Result (Unit {0}) Refusal
  pub status_is : status ≡ status_of ending
  pub line : SaysEnding ending err
  pub ends : Ends words parts parts_after before after ending

-- of an input of type I, an output of type O, a spool of type P and an error output of type E
module _ {I O P E : Type 0} (left : I → Option (List ℕ)) (input_faults : I → ℕ) (written : O → Option (List ℕ))
    (out_faults : O → ℕ) (bytes : P → Option (List ℕ)) (spool_faults : P → ℕ) (said : E → Option (List ℕ))
    (err_faults : E → ℕ) where
  -- the same of what a call is lent, before it and after it
  abbrev pub AnswersOver : List (List ℕ) → List PartState → I → O → P → List Row → E → List PartState → I → O → P
      → List Row → E → ℕ → Type 0
  AnswersOver words parts input out spool rows err parts_after input_after out_after spool_after rows_after err_after n =
      Answers words parts parts_after
      (lends left input_faults written out_faults bytes spool_faults input out spool rows)
      (lends left input_faults written out_faults bytes spool_faults input_after out_after spool_after rows_after)
      (error_output said err_faults err err_after) n
