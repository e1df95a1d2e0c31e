-- What is found in the bytes of a head.
use Rattle.std.specs.Prelude.{◌≡◌, true, ℕ, ◌<◌, ◌≤◌, List, map, length, IfSome}
use Rattle.httparse.specs.Grammar.{RequestHead}
use Rattle.httparse.specs.Spans.{span_bytes, header_bytes, IsWithin}
use Rattle.httparse.specs.declared.spans.Span.{Span}
use Rattle.httparse.specs.declared.spans.HeaderSpan.{HeaderSpan}
use Rattle.oe_http.specs.Fields.{FieldText, values_of, authorization, said_length, is_coded}
use Rattle.oe_http.specs.Found.{found_values}
use Rattle.oe_http.specs.Front.{line_ends, most_line_ends}
use Rattle.oe_http.specs.Heads.{IsWhole, IsValidHead, IsMalformed, IsPlainHead, fields_of}
use Rattle.oe_http.specs.Requests.{most_body}
use Rattle.oe_http.specs.declared.head.HeadParts.{HeadParts}
use Rattle.oe_http.specs.declared.request.RequestRefusal.{RequestRefusal}
use Rattle.oe_http.specs.declared.request.RequestRefusal.TheVariants.{Malformed, HeadTooLong, BodyTooLong, CodingUnsupported, Truncated, LinkFailed, OutOfMemory}

-- the names and values that the spans cover
abbrev pub texts_of : List ℕ → List HeaderSpan → List FieldText
texts_of head fields = map (header_bytes head) fields

-- the head is whole, and these spans cover its method, target and fields
pub record HasSpans (head : List ℕ) (method_span target_span : Span) (spans : List HeaderSpan) : Type 0 where
  pub parts : RequestHead
  pub whole : IsWhole head parts
  pub method : span_bytes head method_span ≡ parts.method
  pub target : span_bytes head target_span ≡ parts.target
  pub fields : texts_of head spans ≡ fields_of parts

-- the head is plain, says a body within the limit, and these are its parts
pub record HasParts (head : List ℕ) (found : HeadParts) : Type 0 where
  pub parts : RequestHead
  pub plain : IsPlainHead head parts
  pub method_within : IsWithin (length head) found.method
  pub target_within : IsWithin (length head) found.target
  pub authorization_within : IfSome found.authorization (IsWithin (length head))
  pub method : span_bytes head found.method ≡ parts.method
  pub target : span_bytes head found.target ≡ parts.target
  pub authorization : values_of authorization (fields_of parts) ≡ found_values head found.authorization
  pub length : found.length ≡ said_length (fields_of parts)
  pub most : found.length ≤ most_body

-- a valid head whose body is coded
pub record IsCodedHead (head : List ℕ) : Type 0 where
  pub parts : RequestHead
  pub valid : IsValidHead head parts
  pub coded : is_coded (fields_of parts) ≡ true

-- a plain head that says too long a body
pub record SaysLongBody (head : List ℕ) : Type 0 where
  pub parts : RequestHead
  pub plain : IsPlainHead head parts
  pub many : most_body < said_length (fields_of parts)

-- the refusals of a head of at most 66 line ends
abbrev pub RefusesFields : List ℕ → RequestRefusal → Type 0
RefusesFields head Malformed = IsMalformed head
RefusesFields head CodingUnsupported = IsCodedHead head
RefusesFields head BodyTooLong = SaysLongBody head
RefusesFields head HeadTooLong = ⊥
RefusesFields head Truncated = ⊥
RefusesFields head LinkFailed = ⊥
RefusesFields head OutOfMemory = ⊥

-- the refusals by the head alone
abbrev pub RefusesHead : List ℕ → RequestRefusal → Type 0
RefusesHead head HeadTooLong = most_line_ends < line_ends head
RefusesHead head Malformed = (line_ends head ≤ most_line_ends) × IsMalformed head
RefusesHead head CodingUnsupported = (line_ends head ≤ most_line_ends) × IsCodedHead head
RefusesHead head BodyTooLong = (line_ends head ≤ most_line_ends) × SaysLongBody head
RefusesHead head Truncated = ⊥
RefusesHead head LinkFailed = ⊥
RefusesHead head OutOfMemory = ⊥
