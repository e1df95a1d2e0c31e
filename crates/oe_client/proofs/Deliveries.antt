-- What becomes of a response that was read, as what becomes of the call.
use Rattle.std.proofs.Common.{◌≡◌, ℕ, List, Option, Some, None, IfSome, Result, Ok, Err, length, ap, refl, subst, sym, ◌∙◌}
use Rattle.std.specs.Option.{option_map}
use Rattle.std.specs.Prelude.{◌++◌}
use Rattle.std.proofs.Math.Seq.{take-length}
use Rattle.oe_client.specs.Calls.{CallEnds, Calls, DeliversResponse, Ends, IsOutSame, MeetsResponse, fail_of}
use Rattle.oe_client.specs.declared.call.ClientFail.{ClientFail}
use Rattle.oe_client.specs.declared.call.ClientFail.TheVariants.{LinkFailed, PeerInvalid, Refused, SinkFailed, OutOfMemory}
use Rattle.oe_http.specs.Replies.{PlainResponse}
use Rattle.oe_http.specs.ReplyParts.{IsOfReplyBytes}
use Rattle.oe_http.specs.Responses.{HasResponseForm, IsResponseOf, RefusesResponse}
use Rattle.oe_http.proofs.Exclusive.{not_reply_refused, same_response}
use Rattle.oe_http.specs.declared.reply.ResponseRefusal.{ResponseRefusal}
use Rattle.oe_http.specs.declared.reply.ResponseRefusal.TheVariants as reply
use Rattle.oe_outside.proofs.Causes.{NeverFalls-refl}
use Rattle.oe_outside.specs.Faults.{NeverFalls, Rose}
use Rattle.oe_outside.specs.Visible.{Appends, AppendsPrefix}

module _ (before after : Ends) where
  pub answered : (response : PlainResponse) (result : Result (Unit {0}) ClientFail) → HasResponseForm response
      → IfSome before.left (λ bytes. IsResponseOf bytes response)
      → DeliversResponse response before.out before.out_faults after.out after.out_faults result
      → CallEnds before after result
  answered response (Ok done) form from_peer d =
      record { response = response; form = form; from_peer = from_peer; success = d.0; delivered = d.1 }
  answered response (Err LinkFailed) form from_peer d = absurd d
  answered response (Err PeerInvalid) form from_peer d = absurd d
  answered response (Err (Refused status body)) form from_peer d = record {
    response = response;
    form = form;
    from_peer = from_peer;
    status_is = d.0;
    body_is = d.1;
    failure = d.2;
    same = record { out = d.3; out_faults = d.4 };
  }
  answered response (Err SinkFailed) form from_peer d =
      record { response = response; form = form; from_peer = from_peer; success = d.0; rose = d.1; prefix = d.2 }
  answered response (Err OutOfMemory) form from_peer d = absurd d

-- what an answer says of the response at the front of visible bytes: there is one such, and where it stands no refusal does
met_by : (bytes : List ℕ) (found other : PlainResponse) (result : Result (Unit {0}) ClientFail)
    → IsResponseOf bytes found → IsResponseOf bytes other → MeetsResponse found result → MeetsResponse other result
met_by bytes found other result is also met =
    let P : PlainResponse → Type 0 = λ r. MeetsResponse r result in
    subst P (same_response bytes found other is also) met

abbrev IsMet : Option (List ℕ) → Result (Unit {0}) ClientFail → Type 0
IsMet left result =
    IfSome left (λ bytes. (response : PlainResponse) → IsResponseOf bytes response → MeetsResponse response result)

-- where this response stands at the front, and meets the answer
met_where : (left : Option (List ℕ)) (found : PlainResponse) (result : Result (Unit {0}) ClientFail)
    → IfSome left (λ bytes. IsResponseOf bytes found) → MeetsResponse found result → IsMet left result
met_where None found result is met = is
met_where (Some bytes) found result is met = λ other also. met_by bytes found other result is also met

-- answers that say nothing of it
met_freely : (left : Option (List ℕ)) (result : Result (Unit {0}) ClientFail)
    → ((response : PlainResponse) → MeetsResponse response result) → IsMet left result
met_freely None result met = tt
met_freely (Some bytes) result met = λ other also. met other

-- where a refusal stands, no response does
met_nowhere : (left : Option (List ℕ)) (result : Result (Unit {0}) ClientFail)
    → IfSome left (λ bytes. (refusal : ResponseRefusal) × RefusesResponse bytes refusal) → IsMet left result
met_nowhere None result why = why
met_nowhere (Some bytes) result why = λ other also. absurd (not_reply_refused bytes other why.0 also why.1)

pub exactly : (before after : Ends) (result : Result (Unit {0}) ClientFail) → CallEnds before after result
    → IsMet before.left result
exactly before after (Ok done) d = met_where before.left d.response (Ok done) d.from_peer d.success
exactly before after (Err LinkFailed) d = met_freely before.left (Err LinkFailed) (λ r. tt)
exactly before after (Err PeerInvalid) d = met_nowhere before.left (Err PeerInvalid) d.refusal
exactly before after (Err (Refused status body)) d =
    met_where before.left d.response (Err (Refused status body)) d.from_peer (d.status_is, d.body_is, d.failure)
exactly before after (Err SinkFailed) d = met_where before.left d.response (Err SinkFailed) d.from_peer d.success
exactly before after (Err OutOfMemory) d = met_freely before.left (Err OutOfMemory) (λ r. tt)

-- a refusal that stands is one of some
some_refusal : (left : Option (List ℕ)) (refusal : ResponseRefusal) → IfSome left (λ bytes. RefusesResponse bytes refusal)
    → IfSome left (λ bytes. (other : ResponseRefusal) × RefusesResponse bytes other)
some_refusal None refusal why = tt
some_refusal (Some bytes) refusal why = (refusal, why)

module _ (before after : Ends) where
  refused_ends : (refusal : ResponseRefusal)
      → (IsOfReplyBytes refusal → IfSome before.left (λ bytes. RefusesResponse bytes refusal))
      → (refusal ≡ reply.LinkFailed → Rose before.link_faults after.link_faults) → IsOutSame before after
      → CallEnds before after (Err (fail_of refusal))
  refused_ends reply.Malformed why rose same =
      record { refusal = some_refusal before.left reply.Malformed (why tt); same = same }
  refused_ends reply.TooLong why rose same =
      record { refusal = some_refusal before.left reply.TooLong (why tt); same = same }
  refused_ends reply.Truncated why rose same =
      record { refusal = some_refusal before.left reply.Truncated (why tt); same = same }
  refused_ends reply.LinkFailed why rose same = (rose refl, same)
  refused_ends reply.OutOfMemory why rose same = same

  -- where no response was read, and the output was left alone
  pub unread : (refusal : ResponseRefusal) (fail : ClientFail) → fail ≡ fail_of refusal
      → (IsOfReplyBytes refusal → IfSome before.left (λ bytes. RefusesResponse bytes refusal))
      → NeverFalls before.link_faults after.link_faults
      → (refusal ≡ reply.LinkFailed → Rose before.link_faults after.link_faults) → IsOutSame before after
      → Calls before after (Err fail)
  unread refusal fail is why count rose same =
      let answer = refused_ends refusal why rose same in
      let P : ClientFail → Type 0 = λ f. Calls before after (Err f) in
      subst P (sym is) (record {
        answer = answer;
        exact = exactly before after (Err (fail_of refusal)) answer;
        link_count = count;
        out_count = subst (NeverFalls before.out_faults) (sym same.out_faults) (NeverFalls-refl before.out_faults);
      })

-- what follows whole follows as a prefix of itself
pub whole_is_prefix : (before : Option (List ℕ)) (piece : List ℕ) (after : Option (List ℕ)) → Appends before piece after
    → AppendsPrefix before piece after
whole_is_prefix before piece after appended =
    (length piece, appended ∙ ap (λ (p : List ℕ). option_map (λ (held : List ℕ). held ++ p) before) (sym (take-length piece)))
