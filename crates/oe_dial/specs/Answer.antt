-- The status of a call and what is said of it.
use Rattle.std.specs.Prelude.{◌≡◌, ℕ, Result}
use Rattle.oe_outside.specs.Stream.{ErrorOutput}
use Rattle.oe_dial.specs.Ends.{Input, Lent, Views}
use Rattle.oe_dial.specs.Lists.{Makes}
use Rattle.oe_dial.specs.Lines.{SaysEnding, exit_status}
use Rattle.oe_dial.specs.Words.{PlainCall}
use Rattle.oe_dial.specs.declared.refusal.CallRefusal.{CallRefusal}

-- the call, or the calls for a list, have an ending, which has this exit status, and what is said of it stands on the error output
pub record Answers {C : Type 0} (views : Views C) (call : PlainCall) (input : Input) (before after : Lent C)
    (err : ErrorOutput) (status : ℕ) : Type 0 where
  pub ending : Result (Unit {0}) CallRefusal
  pub status_is : status ≡ exit_status ending
  pub said : SaysEnding ending err
  pub makes : Makes views call call.verb.argument input before after ending
