-- The status and the line on the error output that each ending of a call has.
use Rattle.std.specs.Prelude.{◌≡◌, ℕ, List, ◌++◌, ◌⊎◌, Result, Ok, Err, codes, decimal}
use Rattle.oe_outside.specs.Faults.{NeverFalls, Rose}
use Rattle.oe_outside.specs.Visible.{Appends, AppendsPrefix}
use Rattle.oe_outside.specs.Stream.{ErrorOutput}
use Rattle.oe_dial.specs.declared.refusal.CallRefusal.{CallRefusal}
use Rattle.oe_dial.specs.declared.refusal.CallRefusal.TheVariants.{ReadFault, InputTooLong, WriteFault, OutOfMemory, LinkFault, PeerInvalid, Refused}

-- the status of a refusal
abbrev pub status_of : CallRefusal → ℕ
status_of ReadFault = 5
status_of InputTooLong = 2
status_of WriteFault = 8
status_of OutOfMemory = 9
status_of LinkFault = 11
status_of PeerInvalid = 12
status_of (Refused status body) = 13

-- what is said of a refusal by the peer: a line with the status, and the body on the next
abbrev pub refused_lines : ℕ → List ℕ → List ℕ
refused_lines status body =
    (codes "openeo: Refused " ++ decimal status) ++ ((codes "\n" ++ body) ++ codes "\n")

-- what is said of a refusal
abbrev pub line_of : CallRefusal → List ℕ
line_of ReadFault = codes "openeo: ReadFault\n"
line_of InputTooLong = codes "openeo: InputTooLong\n"
line_of WriteFault = codes "openeo: WriteFault\n"
line_of OutOfMemory = codes "openeo: OutOfMemory\n"
line_of LinkFault = codes "openeo: LinkFault\n"
line_of PeerInvalid = codes "openeo: PeerInvalid\n"
line_of (Refused status body) = refused_lines status body.items

-- the exit status of an ending
abbrev pub exit_status : Result (Unit {0}) CallRefusal → ℕ
exit_status (Ok done) = 0
exit_status (Err refusal) = status_of refusal

-- the text follows what the error output held, or a prefix of it where its fault counter rose
pub record Says (text : List ℕ) (err : ErrorOutput) : Type 0 where
  pub said : Appends err.before text err.after
      ⊎ (Rose err.before_faults err.after_faults × AppendsPrefix err.before text err.after)
  pub count : NeverFalls err.before_faults err.after_faults

-- what is said of an ending: nothing of a call that succeeded
abbrev pub SaysEnding : Result (Unit {0}) CallRefusal → ErrorOutput → Type 0
SaysEnding (Ok done) err = (err.after ≡ err.before) × (err.after_faults ≡ err.before_faults)
SaysEnding (Err refusal) err = Says (line_of refusal) err
