-- The bytes of a reply (RFC 9112, section 6; the fields and their order are this profile's own).
use Rattle.std.specs.Prelude.{ℕ, ◌==◌, Bool, ◌&&◌, ◌||◌, not, List, [], ◌++◌, length, codes, decimal, if◌then◌else◌, Option, Some, None, unwrap_or}
use Rattle.http.specs.StatusCode.{reason_phrase}
use Rattle.oe_http.specs.declared.response.Response.{Response}

abbrev pub line_end : List ℕ
line_end = codes "\r\n"

-- a text where it applies
abbrev pub text_if : Bool → List ℕ → List ℕ
text_if applies text = if applies then text else []

-- a line with this name, a colon and a blank, where there is a value
abbrev pub field_line : List ℕ → Option (List ℕ) → List ℕ
field_line name None = []
field_line name (Some value) = name ++ (value ++ line_end)

-- what contracts compare of a reply
pub record PlainResponse : Type 0 where
  pub status : ℕ
  pub location : Option (List ℕ)
  pub identifier : Option (List ℕ)
  pub json : Bool
  pub body : List ℕ

abbrev pub plain_response : Response → PlainResponse
plain_response r = record {
  status = r.status;
  location = r.location;
  identifier = r.identifier;
  json = r.json;
  body = r.body.items;
}

-- replies of these statuses have no body; one of status 204 has no length either
abbrev pub has_body : ℕ → Bool
has_body status = not (status == 201 || status == 202 || status == 204)

abbrev pub has_length : ℕ → Bool
has_length status = not (status == 204)

-- the first line of a reply, of the digits of its status and its phrase
abbrev pub code_line : List ℕ → List ℕ → List ℕ
code_line digits phrase = (codes "HTTP/1.1 " ++ digits) ++ (codes " " ++ (phrase ++ line_end))

abbrev pub status_line : ℕ → List ℕ
status_line status = code_line (decimal status) (unwrap_or (reason_phrase status) [])

-- the lines of the fields that a reply may have
abbrev pub type_line : Bool → List ℕ
type_line applies = text_if applies (codes "Content-Type: application/json\r\n")

abbrev pub name_lines : Option (List ℕ) → Option (List ℕ) → List ℕ
name_lines location identifier =
    field_line (codes "Location: ") location ++ field_line (codes "OpenEO-Identifier: ") identifier

abbrev pub length_line : Bool → ℕ → List ℕ
length_line applies number = text_if applies (codes "Content-Length: " ++ (decimal number ++ line_end))

-- the last lines of the head of a reply, which end it
abbrev pub end_lines : ℕ → ℕ → List ℕ
end_lines status number = length_line (has_length status) number ++ codes "Connection: close\r\n\r\n"

-- the lines behind the type's
abbrev pub further_lines : ℕ → Option (List ℕ) → Option (List ℕ) → ℕ → List ℕ
further_lines status location identifier number = name_lines location identifier ++ end_lines status number

-- the lines behind the first
abbrev pub field_lines : ℕ → Option (List ℕ) → Option (List ℕ) → Bool → ℕ → List ℕ
field_lines status location identifier json number =
    type_line (json && has_body status) ++ further_lines status location identifier number

-- the head of a reply with so many bytes of body
abbrev pub reply_head : ℕ → Option (List ℕ) → Option (List ℕ) → Bool → ℕ → List ℕ
reply_head status location identifier json number =
    status_line status ++ field_lines status location identifier json number

-- the body that a reply sends
abbrev pub sent_body : PlainResponse → List ℕ
sent_body r = text_if (has_body r.status) r.body

-- the bytes of a reply
abbrev pub reply_bytes : PlainResponse → List ℕ
reply_bytes r =
    reply_head r.status r.location r.identifier r.json (length (sent_body r)) ++ sent_body r
