-- A head of a response is that of its bytes alone, so what holds of the one that was found holds of each.
use Rattle.std.proofs.Common.{◌≡◌, ℕ, ◌<◌, ◌≤◌, List, [], sym, ◌∙◌, ap, arith, subst, inr}
use Rattle.httparse.specs.Grammar.{ResponseHead, status_code}
use Rattle.httparse.specs.declared.spans.HeaderSpan.{HeaderSpan}
use Rattle.httparse.proofs.GrammarLemmas.{response_unique}
use Rattle.oe_http.specs.Fields.{FieldText, values_of, content_length, said_length}
use Rattle.oe_http.specs.Front.{line_ends, most_line_ends}
use Rattle.oe_http.specs.Parts.{texts_of}
use Rattle.oe_http.specs.ReplyParts.{HasReplySpans, HasReplyParts, IsMalformedReply, RefusesReplyFields, RefusesReplyHead, SaysLongReply}
use Rattle.oe_http.specs.Responses.{IsWholeReply, IsValidReply, SaysOneLength, reply_fields, most_response_body}
use Rattle.oe_http.specs.declared.reply.ReplyParts.{ReplyParts}
use Rattle.oe_http.specs.declared.reply.ResponseRefusal.{ResponseRefusal}
use Rattle.oe_http.specs.declared.reply.ResponseRefusal.TheVariants.{Malformed, TooLong, Truncated, LinkFailed, OutOfMemory}

-- no head is whole, so none is valid
pub malformed_whole_reply : {head : List ℕ} → ((h : ResponseHead) → ¬ (IsWholeReply head h)) → IsMalformedReply head
malformed_whole_reply none h valid = none h valid.whole

-- each whole head is the one that was found
same_head : {head : List ℕ} {code : ℕ} {spans : List HeaderSpan} (s : HasReplySpans head code spans) (h : ResponseHead) → IsWholeReply head h → h ≡ s.parts
same_head {head} s h whole = (response_unique head h s.parts [] [] whole.reads s.whole.reads).0

-- what the values of the length say of the one that was found
says_found : {head : List ℕ} {code : ℕ} {spans : List HeaderSpan} (s : HasReplySpans head code spans) → SaysOneLength code (values_of content_length (texts_of head spans)) → SaysOneLength (status_code s.parts) (values_of content_length (reply_fields s.parts))
says_found {head} {code} {spans} s one =
    let P : ℕ → Type 0 = λ n. SaysOneLength n (values_of content_length (texts_of head spans)) in
    let Q : List FieldText → Type 0 = λ fs. SaysOneLength (status_code s.parts) (values_of content_length fs) in
    subst Q s.fields (subst P s.status one)

says_spans : {head : List ℕ} {code : ℕ} {spans : List HeaderSpan} (s : HasReplySpans head code spans) → SaysOneLength (status_code s.parts) (values_of content_length (reply_fields s.parts)) → SaysOneLength code (values_of content_length (texts_of head spans))
says_spans {head} {code} {spans} s one =
    let P : ℕ → Type 0 = λ n. SaysOneLength n (values_of content_length (texts_of head spans)) in
    let Q : List FieldText → Type 0 = λ fs. SaysOneLength (status_code s.parts) (values_of content_length fs) in
    subst P (sym s.status) (subst Q (sym s.fields) one)

-- no valid length
pub malformed_reply_length : {head : List ℕ} {code : ℕ} {spans : List HeaderSpan} → HasReplySpans head code spans → ¬ (SaysOneLength code (values_of content_length (texts_of head spans))) → IsMalformedReply head
malformed_reply_length s none h valid =
    let P : ResponseHead → Type 0 = λ k. SaysOneLength (status_code k) (values_of content_length (reply_fields k)) in
    none (says_spans s (subst P (same_head s h valid.whole) valid.one_length))

-- a status below 100
pub malformed_reply_status : {head : List ℕ} {code : ℕ} {spans : List HeaderSpan} → HasReplySpans head code spans → code < 100 → IsMalformedReply head
malformed_reply_status {code = code} s low h valid =
    let P : ResponseHead → Type 0 = λ k. 100 ≤ status_code k in
    let high : 100 ≤ status_code s.parts = subst P (same_head s h valid.whole) valid.status in
    let Q : ℕ → Type 0 = λ n. 100 ≤ n in
    let wrong : 100 ≤ code = subst Q (sym s.status) high in
    absurd (omega (arith, wrong, low))

-- the head that was found is valid
pub valid_reply_head : {head : List ℕ} {code : ℕ} {spans : List HeaderSpan} (s : HasReplySpans head code spans) → SaysOneLength code (values_of content_length (texts_of head spans)) → 100 ≤ code → IsValidReply head s.parts
valid_reply_head s one high =
    let Q : ℕ → Type 0 = λ n. 100 ≤ n in
    record { whole = s.whole; status = subst Q s.status high; one_length = says_found s one }

pub long_reply : {head : List ℕ} {code : ℕ} {spans : List HeaderSpan} (s : HasReplySpans head code spans) (number : ℕ) → SaysOneLength code (values_of content_length (texts_of head spans)) → 100 ≤ code → number ≡ said_length (texts_of head spans) → most_response_body < number → SaysLongReply head
long_reply s number one high is many =
    let P : ℕ → Type 0 = λ n. most_response_body < n in
    record { parts = s.parts; valid = valid_reply_head s one high; many = subst P (is ∙ ap said_length s.fields) many }

pub found_reply : {head : List ℕ} {code : ℕ} {spans : List HeaderSpan} (s : HasReplySpans head code spans) (number : ℕ) (found : ReplyParts) → SaysOneLength code (values_of content_length (texts_of head spans)) → 100 ≤ code → code < 1000 → number ≡ said_length (texts_of head spans) → number ≤ most_response_body → found.status ≡ code → found.length ≡ number → HasReplyParts head found
found_reply {code = code} s number found one high low is few same_status same_length =
    let P : ℕ → Type 0 = λ n. n ≤ most_response_body in
    let Q : ℕ → Type 0 = λ n. n ≤ 999 in
    let below : code ≤ 999 = omega (arith, low) in
    record {
      parts = s.parts;
      valid = valid_reply_head s one high;
      status = same_status ∙ s.status;
      three_digits = subst Q (sym same_status) below;
      length = same_length ∙ is ∙ ap said_length s.fields;
      most = subst P (sym same_length) few;
    }

-- a refusal by the fields of a head with few line ends
pub refuses_reply : (head : List ℕ) (refusal : ResponseRefusal) → line_ends head ≤ most_line_ends → RefusesReplyFields head refusal → RefusesReplyHead head refusal
refuses_reply head Malformed few why = (few, why)
refuses_reply head TooLong few why = inr (few, why)
refuses_reply head Truncated few why = absurd why
refuses_reply head LinkFailed few why = absurd why
refuses_reply head OutOfMemory few why = absurd why
