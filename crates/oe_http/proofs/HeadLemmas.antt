-- A head is that of its bytes alone, so what holds of the one that was found holds of each.
use Rattle.std.proofs.Common.{◌≡◌, ℕ, ◌≤◌, true, false, List, [], sym, ◌∙◌, ap, subst, IsUtf8}
use Rattle.std.specs.Prelude.{slice_index}
use Rattle.httparse.specs.Grammar.{RequestHead}
use Rattle.httparse.specs.Spans.{span_bytes}
use Rattle.httparse.specs.declared.spans.Span.{Span}
use Rattle.httparse.specs.declared.spans.HeaderSpan.{HeaderSpan}
use Rattle.httparse.proofs.GrammarLemmas.{request_unique}
use Rattle.oe_http.specs.Fields.{FieldText, values_of, AtMostOne, IsLengthText, content_length, authorization, is_coded}
use Rattle.oe_http.specs.Front.{line_ends, most_line_ends}
use Rattle.oe_http.specs.Heads.{IsWhole, IsValidHead, IsMalformed, IsPlainHead, fields_of, slash}
use Rattle.oe_http.specs.Parts.{HasSpans, IsCodedHead, RefusesFields, RefusesHead, texts_of}
use Rattle.oe_http.specs.declared.request.RequestRefusal.{RequestRefusal}
use Rattle.oe_http.specs.declared.request.RequestRefusal.TheVariants.{Malformed, HeadTooLong, BodyTooLong, CodingUnsupported, Truncated, LinkFailed, OutOfMemory}

-- no head is whole, so none is valid
pub malformed_whole : {head : List ℕ} → ((h : RequestHead) → ¬ (IsWhole head h)) → IsMalformed head
malformed_whole none h valid = none h valid.whole

-- the fields of each whole head are those that were found
same_fields : {head : List ℕ} {method target : Span} {fields : List HeaderSpan} → HasSpans head method target fields → (h : RequestHead) → IsWhole head h → fields_of h ≡ texts_of head fields
same_fields {head} s h whole = ap fields_of (request_unique head h s.parts [] [] whole.reads s.whole.reads).0 ∙ sym s.fields

same_target : {head : List ℕ} {method target : Span} {fields : List HeaderSpan} → HasSpans head method target fields → (h : RequestHead) → IsWhole head h → h.target ≡ span_bytes head target
same_target {head} s h whole = ap (λ k. k.target) (request_unique head h s.parts [] [] whole.reads s.whole.reads).0 ∙ sym s.target

-- no valid length
pub malformed_length : {head : List ℕ} {method target : Span} {fields : List HeaderSpan} → HasSpans head method target fields → ¬ (AtMostOne (values_of content_length (texts_of head fields)) IsLengthText) → IsMalformed head
malformed_length s none h valid =
    let P : List FieldText → Type 0 = λ fs. AtMostOne (values_of content_length fs) IsLengthText in
    none (subst P (same_fields s h valid.whole) valid.one_length)

-- no valid authorization
pub malformed_authorization : {head : List ℕ} {method target : Span} {fields : List HeaderSpan} → HasSpans head method target fields → ¬ (AtMostOne (values_of authorization (texts_of head fields)) IsUtf8) → IsMalformed head
malformed_authorization s none h valid =
    let P : List FieldText → Type 0 = λ fs. AtMostOne (values_of authorization fs) IsUtf8 in
    none (subst P (same_fields s h valid.whole) valid.one_authorization)

-- no valid target
pub malformed_target : {head : List ℕ} {method target : Span} {fields : List HeaderSpan} → HasSpans head method target fields → ¬ (slice_index (span_bytes head target) 0 ≡ slash) → IsMalformed head
malformed_target s none h valid =
    let P : List ℕ → Type 0 = λ t. slice_index t 0 ≡ slash in
    none (subst P (same_target s h valid.whole) valid.target)

-- the head that was found is valid
pub valid_head : {head : List ℕ} {method target : Span} {fields : List HeaderSpan} (s : HasSpans head method target fields) → AtMostOne (values_of content_length (texts_of head fields)) IsLengthText → AtMostOne (values_of authorization (texts_of head fields)) IsUtf8 → slice_index (span_bytes head target) 0 ≡ slash → IsValidHead head s.parts
valid_head s one_length one_authorization begins =
    let L : List FieldText → Type 0 = λ fs. AtMostOne (values_of content_length fs) IsLengthText in
    let A : List FieldText → Type 0 = λ fs. AtMostOne (values_of authorization fs) IsUtf8 in
    let T : List ℕ → Type 0 = λ t. slice_index t 0 ≡ slash in
    record {
      whole = s.whole;
      target = subst T s.target begins;
      one_length = subst L s.fields one_length;
      one_authorization = subst A s.fields one_authorization;
    }

pub coded_head : {head : List ℕ} {method target : Span} {fields : List HeaderSpan} (s : HasSpans head method target fields) → IsValidHead head s.parts → is_coded (texts_of head fields) ≡ true → IsCodedHead head
coded_head s valid coded = record { parts = s.parts; valid = valid; coded = ap is_coded (sym s.fields) ∙ coded }

pub plain_head : {head : List ℕ} {method target : Span} {fields : List HeaderSpan} (s : HasSpans head method target fields) → IsValidHead head s.parts → is_coded (texts_of head fields) ≡ false → IsPlainHead head s.parts
plain_head s valid coded = record { valid = valid; not_coded = ap is_coded (sym s.fields) ∙ coded }

-- a refusal by the fields of a head with few line ends
pub refuses_head : (head : List ℕ) (refusal : RequestRefusal) → line_ends head ≤ most_line_ends → RefusesFields head refusal → RefusesHead head refusal
refuses_head head Malformed few why = (few, why)
refuses_head head CodingUnsupported few why = (few, why)
refuses_head head BodyTooLong few why = (few, why)
refuses_head head HeadTooLong few why = absurd why
refuses_head head Truncated few why = absurd why
refuses_head head LinkFailed few why = absurd why
refuses_head head OutOfMemory few why = absurd why
