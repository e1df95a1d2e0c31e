-- The ending of the command by that of the call over its connection.
use Rattle.std.proofs.Common.{◌≡◌, ◌≢◌, ℕ, inl, inr, List, Result, Ok, Err, Bool, true, false, true≢false, subst, arith}
use Rattle.oe_client.specs.declared.call.ClientFail.{ClientFail}
use Rattle.oe_client.specs.declared.call.ClientFail.TheVariants.{LinkFailed, PeerInvalid, Refused, SinkFailed, OutOfMemory}
use Rattle.oe_outside.specs.Faults.{NeverFalls, Rose}
use Rattle.oe_client.specs.Commands.{request_of}
use Rattle.oe_http.specs.Again.{IsWritable}
use Rattle.oe_http.specs.Plain.{PlainRequest}
use Rattle.oe_http.specs.Written.{request_bytes}
use Rattle.oe_dial.specs.Ends.{DialEnds, HasDialled, Input, IsAnswered, IsInputSame, Lent, TakesInput, Views, ending_of}
use Rattle.oe_dial.specs.Words.{PlainCall, host_text}
use Rattle.oe_dial.specs.declared.refusal.CallRefusal.{CallRefusal}

-- a counter that rose from 0 is not 0
risen : (before after : ℕ) → before ≡ 0 → Rose before after → after ≢ 0
risen before after none (inl more) = λ zero. absurd (omega (arith, none, more, zero))
risen before after none (inr last) = λ zero. absurd (omega (arith, last, zero))

module _ {C : Type 0} (views : Views C) (before after : Lent C) where
  pub dialled_ends : (host : List ℕ) (port : ℕ) (request : List ℕ) (result : Result (Unit {0}) ClientFail)
      → IsAnswered views before after host port request result → DialEnds views before after host port request (ending_of result)
  dialled_ends host port request (Ok done) is = is
  dialled_ends host port request (Err LinkFailed) is =
      inr (is.made.counts.faulty (risen (views.faults is.conn) (views.faults is.made.back) is.fresh is.made.calls.answer.0), is)
  dialled_ends host port request (Err PeerInvalid) is = is
  dialled_ends host port request (Err (Refused status body)) is = is
  dialled_ends host port request (Err SinkFailed) is = (is.made.calls.answer.rose, is)
  dialled_ends host port request (Err OutOfMemory) is = is

-- a call that dialled: the request over the connection is that of the words and of the input that was taken
pub answered : {C : Type 0} (views : Views C) (call : PlainCall) (input : Input) (before after : Lent C)
    (bytes : List ℕ) (request : PlainRequest) (host : List ℕ) (result : Result (Unit {0}) CallRefusal)
    → TakesInput call.verb.sends_input input bytes
    → request ≡ request_of call.verb call.argument call.token bytes → host ≡ host_text call.host call.port
    → IsWritable request host
    → DialEnds views before after call.host call.port (request_bytes request host) result
    → HasDialled views call input before after result
answered views call input before after bytes request host result taken is host_is writable dials =
    let made : PlainRequest = request_of call.verb call.argument call.token bytes in
    let P : PlainRequest → Type 0 = λ r.
    DialEnds views before after call.host call.port (request_bytes r host) result in
    let Q : List ℕ → Type 0 = λ h. DialEnds views before after call.host call.port (request_bytes made h) result in
    let W : PlainRequest → Type 0 = λ r. IsWritable r host in
    let V : List ℕ → Type 0 = λ h. IsWritable made h in
    (bytes, taken, subst V host_is (subst W is writable), subst Q host_is (subst P is dials))

-- where memory was refused behind it, an input that is not sent was left alone
pub taken_same : (sends : Bool) (input : Input) (bytes : List ℕ) → TakesInput sends input bytes → sends ≡ false
    → IsInputSame input
taken_same true input bytes taken unsent = absurd (true≢false unsent)
taken_same false input bytes taken unsent = taken.0

-- a counter that stands still
pub stays : (n : ℕ) → NeverFalls n n
stays n = record { later = omega arith; bounded = λ most. most }
