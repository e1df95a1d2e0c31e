-- The line of an ending.
use Rattle.std.proofs.Common.{ℕ, List, Result, Ok, Err, OnOk, OnErr, refl, inl, inr}
use Rattle.oe_outside.specs.Faults.{HasCause}
use Rattle.oe_outside.specs.Visible.{Appends, AppendsPrefix}
use Rattle.oe_outside.specs.Stream.{ErrorOutput}
use Rattle.oe_top.specs.Lines.{Says}

-- a line was written, or failed with its cause
pub says : {T E : Type 0} {line : List ℕ} (err : ErrorOutput) (result : Result T E) → OnOk result (Appends err.before line err.after) → OnErr result (AppendsPrefix err.before line err.after) → HasCause err.before_faults err.after_faults result → Says line err
says err (Ok x) appended prefix cause = record { said = inl appended; count = cause.count }
says err (Err e) appended prefix cause = record { said = inr (cause.failed refl, prefix); count = cause.count }
