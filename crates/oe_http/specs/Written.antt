-- The bytes of a written request (RFC 9112, section 3; the fields and their order are this profile's own).
use Rattle.std.specs.Prelude.{ℕ, ◌==◌, List, [], ◌++◌, length, codes, decimal, if◌then◌else◌}
use Rattle.oe_http.specs.Plain.{PlainRequest}
use Rattle.oe_http.specs.Replies.{field_line, line_end}

-- what stands between a path and a query: a question mark, where the query is not empty
abbrev pub mark_before : List ℕ → List ℕ
mark_before query = if length query == 0 then [] else codes "?"

-- what follows the path in the first line of a written request
abbrev pub query_part : List ℕ → List ℕ
query_part query = mark_before query ++ (query ++ codes " HTTP/1.1\r\n")

-- the first line of a written request
abbrev pub target_line : List ℕ → List ℕ → List ℕ → List ℕ
target_line method path query = (method ++ (codes " " ++ path)) ++ query_part query

abbrev pub request_line : PlainRequest → List ℕ
request_line r = target_line r.method r.path r.query

-- the line of the host that a request is written to
abbrev pub host_line : List ℕ → List ℕ
host_line host = codes "Host: " ++ (host ++ line_end)

-- the last lines of the head, which end it, where the body has so many bytes
abbrev pub last_lines : ℕ → List ℕ
last_lines number = codes "Content-Length: " ++ (decimal number ++ codes "\r\nConnection: close\r\n\r\n")

-- the lines behind the host's
abbrev pub lines_behind : PlainRequest → List ℕ
lines_behind r = field_line (codes "Authorization: ") r.authorization ++ last_lines (length r.body)

-- the head of a written request to a host
abbrev pub request_head : PlainRequest → List ℕ → List ℕ
request_head r host = request_line r ++ (host_line host ++ lines_behind r)

-- the bytes of a written request to a host
abbrev pub request_bytes : PlainRequest → List ℕ → List ℕ
request_bytes r host = request_head r host ++ r.body
