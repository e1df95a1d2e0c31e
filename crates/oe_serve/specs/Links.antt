-- What a call sees of a connection, what comes over it, and how a reply goes out.
use Rattle.std.specs.Prelude.{◌≡◌, ◌⊎◌, ℕ, List, [], Option, IfSome, MatchOption}
use Rattle.oe_outside.specs.Faults.{NeverFalls, Rose}
use Rattle.oe_outside.specs.Visible.{Appends, AppendsPrefix}
use Rattle.oe_http.specs.Plain.{PlainRequest}
use Rattle.oe_http.specs.Requests.{IsOfBytes, IsRequestOf, Refuses}
use Rattle.oe_http.specs.declared.request.RequestRefusal.{RequestRefusal}
use Rattle.oe_http.specs.Replies.{reply_bytes}
use Rattle.oe_replies.specs.Answers.{refused_reply}
use Rattle.oe_replies.specs.Codes.{status_of}
use Rattle.oe_replies.specs.declared.code.ReplyCode.{ReplyCode}
use Rattle.oe_replies.specs.declared.code.ReplyCode.TheVariants as codes
use Rattle.oe_routes.specs.Codes.{code_of_refusal}
use Rattle.oe_serve.specs.declared.served.Served.{Served}
use Rattle.oe_serve.specs.declared.served.Served.TheVariants.{Answered, Cut, LinkFailed}

-- ---- a connection

-- the bytes that are left to be read and those that were written, where they are visible, and the fault counter
pub record LinkOf : Type 0 where
  pub left : Option (List ℕ)
  pub written : Option (List ℕ)
  pub faults : ℕ

-- of a connection of type L
abbrev pub link_of : {L : Type 0} → (L → Option (List ℕ)) → (L → Option (List ℕ)) → (L → ℕ) → L → LinkOf
link_of left written faults link = record { left = left link; written = written link; faults = faults link }

-- ---- what comes over it

pub data Came : Type 0 where
  request : PlainRequest → Came
  -- bytes that are no request, or an allocation was refused
  unread : RequestRefusal → Came
  -- the connection failed before a request was read
  broken : Came

-- this is what stands at the front of the bytes that are left, where they are visible
abbrev pub IsCame : Option (List ℕ) → Came → Type 0
IsCame left (request r) = IfSome left (λ bytes. IsRequestOf bytes r)
IsCame left (unread refusal) = IsOfBytes refusal → IfSome left (λ bytes. Refuses bytes refusal)
IsCame left broken = Unit {0}

-- ---- what goes out

-- a reply of a status goes out: whole, or a prefix of it, where the connection failed
abbrev pub Sends : ℕ → List ℕ → LinkOf → LinkOf → Served → Type 0
Sends status bytes before after (Answered answered) = (answered ≡ status) × Appends before.written bytes after.written
Sends status bytes before after Cut = ⊥
Sends status bytes before after LinkFailed =
    Rose before.faults after.faults × AppendsPrefix before.written bytes after.written

-- the same, and nothing is read
pub record SendsReply (status : ℕ) (bytes : List ℕ) (before after : LinkOf) (result : Served) : Type 0 where
  pub sends : Sends status bytes before after result
  pub same : after.left ≡ before.left
  pub count : NeverFalls before.faults after.faults

-- the reply to a refused request goes out, or that of out of memory
abbrev pub SendsCode : ReplyCode → List ℕ → LinkOf → LinkOf → Served → Type 0
SendsCode code detail before after result =
    SendsReply (status_of code) (reply_bytes (refused_reply code detail)) before after result
    ⊎ SendsReply 503 (reply_bytes (refused_reply codes.OutOfMemory [])) before after result

-- the reply to bytes that are no request goes out; over a connection that failed nothing does
abbrev pub AnswersRefusal : RequestRefusal → LinkOf → LinkOf → Served → Type 0
AnswersRefusal refusal before after result =
    MatchOption (code_of_refusal refusal) ((result ≡ LinkFailed) × (after ≡ before))
    (λ code. SendsCode code [] before after result)

-- nothing goes out over a connection that failed before
pub record IsSilent (before after : LinkOf) (result : Served) : Type 0 where
  pub result_is : result ≡ LinkFailed
  pub rose : Rose before.faults after.faults
  pub written : after.written ≡ before.written
