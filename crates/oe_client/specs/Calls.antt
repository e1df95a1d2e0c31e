-- What becomes of a call.
use Rattle.std.specs.Prelude.{◌≡◌, ℕ, ◌&&◌, nat_le, Bool, true, false, List, Option, IfSome, Result, Ok, Err, ⊤}
use Rattle.oe_client.specs.declared.call.ClientFail.{ClientFail}
use Rattle.oe_client.specs.declared.call.ClientFail.TheVariants.{LinkFailed, PeerInvalid, Refused, SinkFailed, OutOfMemory}
use Rattle.oe_http.specs.Replies.{PlainResponse}
use Rattle.oe_http.specs.Responses.{HasResponseForm, IsResponseOf, RefusesResponse}
use Rattle.oe_http.specs.declared.reply.ResponseRefusal.{ResponseRefusal}
use Rattle.oe_http.specs.declared.reply.ResponseRefusal.TheVariants as reply
use Rattle.oe_outside.specs.Faults.{NeverFalls, Rose}
use Rattle.oe_outside.specs.Visible.{Appends, AppendsPrefix}

-- a status from 200 to 299: the request succeeded (RFC 9110, section 15)
abbrev pub is_success : ℕ → Bool
is_success status = nat_le 200 status && nat_le status 299

-- why no response was read, as an answer of a call
abbrev pub fail_of : ResponseRefusal → ClientFail
fail_of reply.Malformed = PeerInvalid
fail_of reply.TooLong = PeerInvalid
fail_of reply.Truncated = PeerInvalid
fail_of reply.LinkFailed = LinkFailed
fail_of reply.OutOfMemory = OutOfMemory

-- what becomes of a response at an output: its body follows what that held, or a prefix of it where the output broke; one
-- that did not succeed is handed back, with the output left alone
abbrev pub DeliversResponse : PlainResponse → Option (List ℕ) → ℕ → Option (List ℕ) → ℕ → Result (Unit {0}) ClientFail
    → Type 0
DeliversResponse r out faults after faults_after (Ok done) = (is_success r.status ≡ true) × Appends out r.body after
DeliversResponse r out faults after faults_after (Err LinkFailed) = ⊥
DeliversResponse r out faults after faults_after (Err PeerInvalid) = ⊥
DeliversResponse r out faults after faults_after (Err (Refused status body)) =
    (r.status ≡ status) × (r.body ≡ body.items) × (is_success status ≡ false) × (after ≡ out) × (faults_after ≡ faults)
DeliversResponse r out faults after faults_after (Err SinkFailed) =
    (is_success r.status ≡ true) × Rose faults faults_after × AppendsPrefix out r.body after
DeliversResponse r out faults after faults_after (Err OutOfMemory) = ⊥

-- what an answer says of the response that stands at the front of the peer's bytes: each answer that is not for want of
-- memory or by a fault of the link is exactly that of its status
abbrev pub MeetsResponse : PlainResponse → Result (Unit {0}) ClientFail → Type 0
MeetsResponse r (Ok done) = is_success r.status ≡ true
MeetsResponse r (Err LinkFailed) = ⊤
MeetsResponse r (Err PeerInvalid) = ⊥
MeetsResponse r (Err (Refused status body)) =
    (r.status ≡ status) × (r.body ≡ body.items) × (is_success status ≡ false)
MeetsResponse r (Err SinkFailed) = is_success r.status ≡ true
MeetsResponse r (Err OutOfMemory) = ⊤

-- a link and an output: what the peer's bytes are, where they are visible, what was written, and the fault counters
pub record Ends : Type 0 where
  pub left : Option (List ℕ)
  pub link_faults : ℕ
  pub out : Option (List ℕ)
  pub out_faults : ℕ

abbrev pub ends : Option (List ℕ) → ℕ → Option (List ℕ) → ℕ → Ends
ends left link_faults out out_faults = record {
  left = left;
  link_faults = link_faults;
  out = out;
  out_faults = out_faults;
}

-- those of a link of type L and an output of type O, by what is seen of them
abbrev pub ends_of : {L O : Type 0} → (L → Option (List ℕ)) → (L → ℕ) → (O → Option (List ℕ)) → (O → ℕ) → L → O → Ends
ends_of left link_faults written out_faults link out =
    ends (left link) (link_faults link) (written out) (out_faults out)

module _ (before after : Ends) where
  -- the response that stands at the front of the peer's bytes, where they are visible
  abbrev pub IsFromPeer : PlainResponse → Type 0
  IsFromPeer response = IfSome before.left (λ bytes. IsResponseOf bytes response)

  -- the output was left alone
  pub record IsOutSame : Type 0 where
    pub out : after.out ≡ before.out
    pub out_faults : after.out_faults ≡ before.out_faults

  -- the peer's response succeeded, and its body follows what the output held
  pub record Delivers : Type 0 where
    pub response : PlainResponse
    pub form : HasResponseForm response
    pub from_peer : IsFromPeer response
    pub success : is_success response.status ≡ true
    pub delivered : Appends before.out response.body after.out

  -- the peer's response succeeded, and the output broke while its body was written
  pub record Breaks : Type 0 where
    pub response : PlainResponse
    pub form : HasResponseForm response
    pub from_peer : IsFromPeer response
    pub success : is_success response.status ≡ true
    pub rose : Rose before.out_faults after.out_faults
    pub prefix : AppendsPrefix before.out response.body after.out

  -- the peer's response has this status, which is none of success, and this body
  pub record Refuses (status : ℕ) (body : List ℕ) : Type 0 where
    pub response : PlainResponse
    pub form : HasResponseForm response
    pub from_peer : IsFromPeer response
    pub status_is : response.status ≡ status
    pub body_is : response.body ≡ body
    pub failure : is_success status ≡ false
    pub same : IsOutSame

  -- no response stands at the front of the peer's bytes
  pub record IsNoResponse : Type 0 where
    pub refusal : IfSome before.left (λ bytes. (refusal : ResponseRefusal) × RefusesResponse bytes refusal)
    pub same : IsOutSame

  -- what each answer says; out of memory has no cause
  abbrev pub CallEnds : Result (Unit {0}) ClientFail → Type 0
  CallEnds (Ok done) = Delivers
  CallEnds (Err LinkFailed) = Rose before.link_faults after.link_faults × IsOutSame
  CallEnds (Err PeerInvalid) = IsNoResponse
  CallEnds (Err (Refused status body)) = Refuses status body.items
  CallEnds (Err SinkFailed) = Breaks
  CallEnds (Err OutOfMemory) = IsOutSame

  pub record Calls (result : Result (Unit {0}) ClientFail) : Type 0 where
    pub answer : CallEnds result
    pub exact : IfSome before.left
        (λ bytes. (response : PlainResponse) → IsResponseOf bytes response → MeetsResponse response result)
    pub link_count : NeverFalls before.link_faults after.link_faults
    pub out_count : NeverFalls before.out_faults after.out_faults
