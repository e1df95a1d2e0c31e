-- Of some bytes at most one answer stands: one request, or one refusal; and one response.
use Rattle.std.proofs.Common.{◌≡◌, ℕ, ◌<◌, ◌≤◌, true, false, List, [], length, take, inl, inr, sym, ◌∙◌, ap, arith, subst, IsUtf8}
use Rattle.httparse.specs.Grammar.{RequestHead, ResponseHead}
use Rattle.httparse.proofs.GrammarLemmas.{request_unique, response_unique}
use Rattle.oe_http.specs.Bodies.{body_of}
use Rattle.oe_http.specs.Replies.{PlainResponse}
use Rattle.oe_http.specs.Responses.{IsResponseOf, IsValidReply, IsWholeReply, RefusesResponse, reply_fields, response_of}
use Rattle.oe_http.specs.declared.reply.ResponseRefusal.{ResponseRefusal}
use Rattle.oe_http.specs.declared.reply.ResponseRefusal.TheVariants as reply
use Rattle.oe_http.specs.Fields.{said_length, is_coded}
use Rattle.oe_http.specs.Front.{IsHeadEnd, IsHeadOf, IsHeadless, front, line_ends}
use Rattle.oe_http.specs.Heads.{IsWhole, IsValidHead, fields_of}
use Rattle.oe_http.specs.Plain.{PlainRequest}
use Rattle.oe_http.specs.Requests.{IsRequestOf, Refuses, HasHead, request_of}
use Rattle.oe_http.specs.declared.request.RequestRefusal.{RequestRefusal}
use Rattle.oe_http.specs.declared.request.RequestRefusal.TheVariants.{Malformed, HeadTooLong, BodyTooLong, CodingUnsupported, Truncated, LinkFailed, OutOfMemory}

no_less : (n m : ℕ) → ¬ (n < m) → m ≤ n
no_less n m never = grind arith

-- the first end is one
pub head_end_unique : (bytes : List ℕ) (n m : ℕ) → IsHeadEnd bytes n → IsHeadEnd bytes m → n ≡ m
head_end_unique bytes n m a b =
    let up : m ≤ n = no_less n m (λ lt. b.first n lt a.ends) in
    let down : n ≤ m = no_less m n (λ lt. a.first m lt b.ends) in
    omega arith

pub head_unique : (bytes a b : List ℕ) → IsHeadOf bytes a → IsHeadOf bytes b → a ≡ b
head_unique bytes a b x y =
    x.is ∙ ap (λ n. take n (front bytes)) (head_end_unique (front bytes) x.end y.end x.ends y.ends) ∙ sym y.is

not_headless : (bytes head : List ℕ) → IsHeadOf bytes head → ¬ (IsHeadless bytes)
not_headless bytes head x none = none x.end x.ends.ends

-- and so are its parts
same_parts : (bytes a b : List ℕ) (h k : RequestHead) → HasHead bytes a → HasHead bytes b → IsWhole a h → IsWhole b k → h ≡ k
same_parts bytes a b h k x y p q =
    let same : a ≡ b = head_unique bytes a b x.head_of y.head_of in
    let P : List ℕ → Type 0 = λ head. IsWhole head h in
    (request_unique b h k [] [] (subst P same p).reads q.reads).0

same_length : (h k : RequestHead) → h ≡ k → said_length (fields_of h) ≡ said_length (fields_of k)
same_length h k same = ap (λ x. said_length (fields_of x)) same

-- what stands is no refusal
pub not_refused : (bytes : List ℕ) (r : PlainRequest) (refusal : RequestRefusal) → IsRequestOf bytes r → ¬ (Refuses bytes refusal)
not_refused bytes r HeadTooLong q (inl none) = not_headless bytes q.head q.has_head.head_of none.0
not_refused bytes r HeadTooLong q (inr long) =
    let same : line_ends long.head ≡ line_ends q.head = ap line_ends (head_unique bytes long.head q.head long.head_of q.has_head.head_of) in
    absurd (omega (arith, same, long.many, q.has_head.few))
not_refused bytes r Malformed q bad =
    let same : q.head ≡ bad.head = head_unique bytes q.head bad.head q.has_head.head_of bad.has_head.head_of in
    let P : List ℕ → Type 0 = λ head. IsValidHead head q.parts in
    bad.malformed q.parts (subst P same q.plain.valid)
not_refused bytes r CodingUnsupported q coded =
    let same : q.parts ≡ coded.parts = same_parts bytes q.head coded.head q.parts coded.parts q.has_head coded.has_head q.plain.valid.whole coded.valid.whole in
    let both : false ≡ true = sym q.plain.not_coded ∙ ap (λ x. is_coded (fields_of x)) same ∙ coded.coded in
    absurd (cc both)
not_refused bytes r BodyTooLong q long =
    let same : said_length (fields_of q.parts) ≡ said_length (fields_of long.parts) = same_length q.parts long.parts (same_parts bytes q.head long.head q.parts long.parts q.has_head long.has_head q.plain.valid.whole long.plain.valid.whole) in
    absurd (omega (arith, same, q.within, long.many))
not_refused bytes r Truncated q (inl none) = not_headless bytes q.head q.has_head.head_of none.0
not_refused bytes r Truncated q (inr part) =
    let same : said_length (fields_of q.parts) ≡ said_length (fields_of part.parts) = same_length q.parts part.parts (same_parts bytes q.head part.head q.parts part.parts q.has_head part.has_head q.plain.valid.whole part.plain.valid.whole) in
    let size : length q.head ≡ length part.head = ap length (head_unique bytes q.head part.head q.has_head.head_of part.has_head.head_of) in
    absurd (omega (arith, same, size, q.whole, part.part))
not_refused bytes r LinkFailed q none = absurd none
not_refused bytes r OutOfMemory q none = absurd none

-- one request stands at the front of some bytes
pub same_request : (bytes : List ℕ) (a b : PlainRequest) → IsRequestOf bytes a → IsRequestOf bytes b → a ≡ b
same_request bytes a b x y =
    let head : x.head ≡ y.head = head_unique bytes x.head y.head x.has_head.head_of y.has_head.head_of in
    let parts : x.parts ≡ y.parts = same_parts bytes x.head y.head x.parts y.parts x.has_head y.has_head x.plain.valid.whole y.plain.valid.whole in
    x.is
    ∙ ap (λ h. request_of x.parts (body_of bytes h (said_length (fields_of x.parts)))) head
    ∙ ap (λ p. request_of p (body_of bytes y.head (said_length (fields_of p)))) parts
    ∙ sym y.is

-- and one response
same_reply_parts : (bytes a b : List ℕ) (h k : ResponseHead) → HasHead bytes a → HasHead bytes b → IsWholeReply a h → IsWholeReply b k → h ≡ k
same_reply_parts bytes a b h k x y p q =
    let same : a ≡ b = head_unique bytes a b x.head_of y.head_of in
    let P : List ℕ → Type 0 = λ head. IsWholeReply head h in
    (response_unique b h k [] [] (subst P same p).reads q.reads).0

pub same_response : (bytes : List ℕ) (a b : PlainResponse) → IsResponseOf bytes a → IsResponseOf bytes b → a ≡ b
same_response bytes a b x y =
    let head : x.head ≡ y.head = head_unique bytes x.head y.head x.has_head.head_of y.has_head.head_of in
    let parts : x.parts ≡ y.parts = same_reply_parts bytes x.head y.head x.parts y.parts x.has_head y.has_head x.valid.whole y.valid.whole in
    x.is
    ∙ ap (λ h. response_of x.parts (body_of bytes h (said_length (reply_fields x.parts)))) head
    ∙ ap (λ p. response_of p (body_of bytes y.head (said_length (reply_fields p)))) parts
    ∙ sym y.is

same_reply_length : (h k : ResponseHead) → h ≡ k → said_length (reply_fields h) ≡ said_length (reply_fields k)
same_reply_length h k same = ap (λ x. said_length (reply_fields x)) same

-- and what stands is no refusal
pub not_reply_refused : (bytes : List ℕ) (r : PlainResponse) (refusal : ResponseRefusal) → IsResponseOf bytes r → ¬ (RefusesResponse bytes refusal)
not_reply_refused bytes r reply.TooLong q (inl none) = not_headless bytes q.head q.has_head.head_of none.0
not_reply_refused bytes r reply.TooLong q (inr (inl long)) =
    let same : line_ends long.head ≡ line_ends q.head = ap line_ends (head_unique bytes long.head q.head long.head_of q.has_head.head_of) in
    absurd (omega (arith, same, long.many, q.has_head.few))
not_reply_refused bytes r reply.TooLong q (inr (inr long)) =
    let same : said_length (reply_fields q.parts) ≡ said_length (reply_fields long.parts) = same_reply_length q.parts long.parts (same_reply_parts bytes q.head long.head q.parts long.parts q.has_head long.has_head q.valid.whole long.valid.whole) in
    absurd (omega (arith, same, q.within, long.many))
not_reply_refused bytes r reply.Malformed q (inl bad) =
    let same : q.head ≡ bad.head = head_unique bytes q.head bad.head q.has_head.head_of bad.has_head.head_of in
    let P : List ℕ → Type 0 = λ head. IsValidReply head q.parts in
    bad.malformed q.parts (subst P same q.valid)
not_reply_refused bytes r reply.Malformed q (inr binary) =
    let head : q.head ≡ binary.head = head_unique bytes q.head binary.head q.has_head.head_of binary.has_head.head_of in
    let same : said_length (reply_fields q.parts) ≡ said_length (reply_fields binary.parts) = same_reply_length q.parts binary.parts (same_reply_parts bytes q.head binary.head q.parts binary.parts q.has_head binary.has_head q.valid.whole binary.valid.whole) in
    let body : body_of bytes q.head (said_length (reply_fields q.parts)) ≡ body_of bytes binary.head (said_length (reply_fields binary.parts)) =
    ap (λ h. body_of bytes h (said_length (reply_fields q.parts))) head ∙ ap (body_of bytes binary.head) same in
    binary.binary (subst IsUtf8 body q.text)
not_reply_refused bytes r reply.Truncated q (inl none) = not_headless bytes q.head q.has_head.head_of none.0
not_reply_refused bytes r reply.Truncated q (inr part) =
    let same : said_length (reply_fields q.parts) ≡ said_length (reply_fields part.parts) = same_reply_length q.parts part.parts (same_reply_parts bytes q.head part.head q.parts part.parts q.has_head part.has_head q.valid.whole part.valid.whole) in
    let size : length q.head ≡ length part.head = ap length (head_unique bytes q.head part.head q.has_head.head_of part.has_head.head_of) in
    absurd (omega (arith, same, size, q.whole, part.part))
not_reply_refused bytes r reply.LinkFailed q none = absurd none
not_reply_refused bytes r reply.OutOfMemory q none = absurd none
