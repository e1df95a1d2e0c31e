-- How a call ends: what becomes of the input, the output and the door.
use Rattle.std.specs.Prelude.{◌≡◌, ℕ, ◌+◌, ◌<◌, ◌≤◌, ◌⊎◌, Bool, true, false, List, [], length, Option, IfSome, IsErrOf, Result, Ok, Err}
use Rattle.oe_client.specs.Calls.{Calls, ends}
use Rattle.oe_client.specs.Commands.{plain_command, request_of}
use Rattle.oe_client.specs.declared.call.ClientFail.{ClientFail}
use Rattle.oe_client.specs.declared.call.ClientFail.TheVariants as fail
use Rattle.oe_client.specs.declared.command.ClientCommand.{ClientCommand}
use Rattle.oe_http.specs.Again.{IsWritable}
use Rattle.oe_http.specs.Front.{most_head}
use Rattle.oe_http.specs.Plain.{PlainRequest}
use Rattle.oe_http.specs.Requests.{most_body}
use Rattle.oe_http.specs.Responses.{most_response_body}
use Rattle.oe_http.specs.Written.{request_bytes}
use Rattle.oe_outside.specs.Doors.{CountsLink, ShowsDialled, ShowsDone, VisibleDoor}
use Rattle.oe_outside.specs.Faults.{NeverFalls, Rose}
use Rattle.oe_outside.specs.Input.{TakesAtMost}
use Rattle.oe_outside.specs.Visible.{Appends, AppendsPrefix}
use Rattle.oe_outside.specs.declared.failed.Failed.{Failed}
use Rattle.oe_dial.specs.Words.{PlainCall, host_text}
use Rattle.oe_dial.specs.declared.refusal.CallRefusal.{CallRefusal}
use Rattle.oe_dial.specs.declared.refusal.CallRefusal.TheVariants.{ReadFault, InputTooLong, WriteFault, OutOfMemory, LinkFault, PeerInvalid, Refused}

-- what a connection of type C shows: what it has left, what was written to it, and its fault counter
pub record Views (C : Type 0) : Type 0 where
  pub left : C → Option (List ℕ)
  pub written : C → Option (List ℕ)
  pub faults : C → ℕ

abbrev pub views_of : {C : Type 0} → (C → Option (List ℕ)) → (C → Option (List ℕ)) → (C → ℕ) → Views C
views_of left written faults = record { left = left; written = written; faults = faults }

-- the input of a call: what it has left and its fault counter, before the call and after it
pub record Input : Type 0 where
  pub before : Option (List ℕ)
  pub before_faults : ℕ
  pub after : Option (List ℕ)
  pub after_faults : ℕ

abbrev pub input_from : Option (List ℕ) → ℕ → Option (List ℕ) → ℕ → Input
input_from before before_faults after after_faults = record {
  before = before;
  before_faults = before_faults;
  after = after;
  after_faults = after_faults;
}

-- of a source of type I
abbrev pub input_of : {I : Type 0} → (I → Option (List ℕ)) → (I → ℕ) → I → I → Input
input_of left faults before after = input_from (left before) (faults before) (left after) (faults after)

-- the input was left alone
abbrev pub IsInputSame : Input → Type 0
IsInputSame input = (input.after ≡ input.before) × (input.after_faults ≡ input.before_faults)

-- the whole input, these bytes, was read where it is sent, and else it was left alone
abbrev pub TakesInput : Bool → Input → List ℕ → Type 0
TakesInput true input bytes =
    IfSome input.before (λ held. held ≡ bytes) × IfSome input.after (λ rest. rest ≡ []) × (length bytes ≤ most_body)
TakesInput false input bytes = IsInputSame input × (bytes ≡ [])

-- why nothing was dialled: a read of the input failed, or it is too long; out of memory has no cause, but leaves an input
-- alone that is not sent
abbrev pub IsInputRefused : Bool → Input → CallRefusal → Type 0
IsInputRefused sends input ReadFault = (sends ≡ true) × Rose input.before_faults input.after_faults
IsInputRefused sends input InputTooLong = (sends ≡ true) × IfSome input.before (λ held. most_body < length held)
IsInputRefused sends input WriteFault = ⊥
IsInputRefused sends input OutOfMemory = sends ≡ false → IsInputSame input
IsInputRefused sends input LinkFault = ⊥
IsInputRefused sends input PeerInvalid = ⊥
IsInputRefused sends input (Refused status body) = ⊥

-- the output and the door that a call is lent, which counts its calls of `next`, the dials and the connections that failed
pub record Lent (C : Type 0) : Type 0 where
  pub out : Option (List ℕ)
  pub out_faults : ℕ
  pub door : Option (VisibleDoor C)
  pub next_faults : ℕ
  pub dial_faults : ℕ
  pub link_faults : ℕ

abbrev pub lent : {C : Type 0} → Option (List ℕ) → ℕ → Option (VisibleDoor C) → ℕ → ℕ → ℕ → Lent C
lent out out_faults door next_faults dial_faults link_faults = record {
  out = out;
  out_faults = out_faults;
  door = door;
  next_faults = next_faults;
  dial_faults = dial_faults;
  link_faults = link_faults;
}

-- an output of type O and a door of type D, by what is seen of them
abbrev pub lends : {O D C : Type 0} → (O → Option (List ℕ)) → (O → ℕ) → (D → Option (VisibleDoor C)) → (D → ℕ) → (D → ℕ)
    → (D → ℕ) → O → D → Lent C
lends written out_faults visible next_faults dial_faults link_faults out door =
    lent (written out) (out_faults out) (visible door) (next_faults door) (dial_faults door) (link_faults door)

-- the request of a call, and the host and the port that it is written to, which reading gives back
pub record IsCommandFor (call : PlainCall) (request : PlainRequest) (command : ClientCommand) : Type 0 where
  pub request_is : (plain_command command).request ≡ request
  pub host_is : command.host ≡ host_text call.host call.port
  pub writable : IsWritable (plain_command command).request command.host

-- the bytes that are sent for it
abbrev pub command_bytes : ClientCommand → List ℕ
command_bytes command = request_bytes (plain_command command).request command.host

module _ {C : Type 0} (views : Views C) (before after : Lent C) where
  -- neither the output nor the door was used
  pub record IsUnused : Type 0 where
    pub out : after.out ≡ before.out
    pub out_faults : after.out_faults ≡ before.out_faults
    pub door : after.door ≡ before.door
    pub dial_faults : after.dial_faults ≡ before.dial_faults
    pub link_faults : after.link_faults ≡ before.link_faults

  -- this port of the host was dialled once, and no connection came
  pub record IsNotReached (host : List ℕ) (port : ℕ) : Type 0 where
    pub failed : Failed
    pub dialled : ShowsDialled before.door host port (Err failed) after.door
    pub rose : Rose before.dial_faults after.dial_faults
    pub link_faults : after.link_faults ≡ before.link_faults
    pub out : after.out ≡ before.out
    pub out_faults : after.out_faults ≡ before.out_faults

  -- a request was sent over a connection and answered so, and the connection was given back to the door as it then was
  pub record IsMadeOver (conn : C) (door : Option (VisibleDoor C)) (request : List ℕ)
      (result : Result (Unit {0}) ClientFail) : Type 0 where
    pub back : C
    pub given_back : ShowsDone door back after.door
    pub sent : ¬ IsErrOf result fail.LinkFailed → Appends (views.written conn) request (views.written back)
    pub prefix : IsErrOf result fail.LinkFailed → AppendsPrefix (views.written conn) request (views.written back)
    pub calls : Calls (ends (views.left conn) (views.faults conn) before.out before.out_faults)
        (ends (views.left back) (views.faults back) after.out after.out_faults) result
    -- of what the peer sent no more bytes were read than the longest head and the longest body have together
    pub taken : TakesAtMost (views.left conn) (most_head + most_response_body) (views.left back)
    pub counts : CountsLink (views.faults back) before.link_faults after.link_faults

  -- this port of the host was dialled once, and the request was sent over the connection that came and answered so
  pub record IsAnswered (host : List ℕ) (port : ℕ) (request : List ℕ) (result : Result (Unit {0}) ClientFail)
      : Type 0 where
    pub conn : C
    pub between : Option (VisibleDoor C)
    pub dialled : ShowsDialled before.door host port (Ok conn) between
    pub fresh : views.faults conn ≡ 0
    pub made : IsMadeOver conn between request result

  -- what each ending says of a call that dialled
  abbrev pub DialEnds : List ℕ → ℕ → List ℕ → Result (Unit {0}) CallRefusal → Type 0
  DialEnds host port request (Ok done) = IsAnswered host port request (Ok done)
  DialEnds host port request (Err ReadFault) = ⊥
  DialEnds host port request (Err InputTooLong) = ⊥
  DialEnds host port request (Err WriteFault) =
      Rose before.out_faults after.out_faults × IsAnswered host port request (Err fail.SinkFailed)
  DialEnds host port request (Err OutOfMemory) = IsAnswered host port request (Err fail.OutOfMemory)
  DialEnds host port request (Err LinkFault) =
      IsNotReached host port
      ⊎ (Rose before.link_faults after.link_faults × IsAnswered host port request (Err fail.LinkFailed))
  DialEnds host port request (Err PeerInvalid) = IsAnswered host port request (Err fail.PeerInvalid)
  DialEnds host port request (Err (Refused status body)) =
      IsAnswered host port request (Err (fail.Refused status body))

  -- no counter of the output or the door falls, and that of `next` stays
  pub record CountsUp : Type 0 where
    pub next : after.next_faults ≡ before.next_faults
    pub out : NeverFalls before.out_faults after.out_faults
    pub dials : NeverFalls before.dial_faults after.dial_faults
    pub links : NeverFalls before.link_faults after.link_faults

module _ {C : Type 0} (views : Views C) (call : PlainCall) (input : Input) (before after : Lent C) where
  -- the request for these bytes of the input
  abbrev pub request_for : List ℕ → PlainRequest
  request_for bytes = request_of call.verb call.argument call.token bytes

  -- the input was taken, and the host and the port of the call were dialled for a request that is read again as it is
  -- written
  abbrev pub HasDialled : Result (Unit {0}) CallRefusal → Type 0
  HasDialled result = (bytes : List ℕ) × TakesInput call.verb.sends_input input bytes
      × IsWritable (request_for bytes) (host_text call.host call.port)
      × DialEnds views before after call.host call.port
      (request_bytes (request_for bytes) (host_text call.host call.port)) result

  -- the input was not taken, or memory was refused, and nothing was dialled
  abbrev pub HasNotDialled : Result (Unit {0}) CallRefusal → Type 0
  HasNotDialled (Ok done) = ⊥
  HasNotDialled (Err refusal) = IsInputRefused call.verb.sends_input input refusal × IsUnused views before after

  pub record CallAnswers (result : Result (Unit {0}) CallRefusal) : Type 0 where
    pub answer : HasNotDialled result ⊎ HasDialled result
    -- the input is read only up to one byte past the limit
    pub input_taken : TakesAtMost input.before (most_body + 1) input.after
    pub input_count : NeverFalls input.before_faults input.after_faults
    pub counts : CountsUp views before after

-- the ending of the command by that of the call over its connection
abbrev pub ending_of : Result (Unit {0}) ClientFail → Result (Unit {0}) CallRefusal
ending_of (Ok done) = Ok done
ending_of (Err fail.LinkFailed) = Err LinkFault
ending_of (Err fail.PeerInvalid) = Err PeerInvalid
ending_of (Err (fail.Refused status body)) = Err (Refused status body)
ending_of (Err fail.SinkFailed) = Err WriteFault
ending_of (Err fail.OutOfMemory) = Err OutOfMemory
