-- The head of a request (RFC 9112, sections 2 to 6), in the grammar of HTTP/1.0 and 1.1.
use Rattle.std.specs.Prelude.{◌≡◌, false, ℕ, ◌≤◌, List, [], length, map, slice_index, IsUtf8}
use Rattle.httparse.specs.Grammar.{RequestHead, ReadsRequest}
use Rattle.httparse.specs.Spans.{name_and_value}
use Rattle.oe_http.specs.Fields.{FieldText, values_of, AtMostOne, IsLengthText, content_length, authorization, is_coded}

-- the most fields that a head has
abbrev pub most_fields : ℕ
most_fields = 64

abbrev pub slash : ℕ
slash = 47

-- the bytes are as a whole a request head with at most 64 fields
pub record IsWhole (head : List ℕ) (h : RequestHead) : Type 0 where
  pub reads : ReadsRequest head h []
  pub few : length h.fields ≤ most_fields

-- the fields of a head
abbrev pub fields_of : RequestHead → List FieldText
fields_of h = map name_and_value h.fields

-- a valid head: whole, with a target that begins with a slash, at most one length, which is 1 to 19 digits, and at most
-- one authorization, which is UTF-8
pub record IsValidHead (head : List ℕ) (h : RequestHead) : Type 0 where
  pub whole : IsWhole head h
  pub target : slice_index h.target 0 ≡ slash
  pub one_length : AtMostOne (values_of content_length (fields_of h)) IsLengthText
  pub one_authorization : AtMostOne (values_of authorization (fields_of h)) IsUtf8

-- no head is valid
abbrev pub IsMalformed : List ℕ → Type 0
IsMalformed head = (h : RequestHead) → ¬ (IsValidHead head h)

-- a valid head whose body is not coded
pub record IsPlainHead (head : List ℕ) (h : RequestHead) : Type 0 where
  pub valid : IsValidHead head h
  pub not_coded : is_coded (fields_of h) ≡ false
