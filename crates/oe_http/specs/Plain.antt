-- What contracts compare of a request: its bytes, and no capacity or allocator.
use Rattle.std.specs.Prelude.{ℕ, List, Option}
use Rattle.oe_http.specs.declared.request.Request.{Request}

pub record PlainRequest : Type 0 where
  pub method : List ℕ
  pub path : List ℕ
  pub query : List ℕ
  pub authorization : Option (List ℕ)
  pub body : List ℕ

-- the bytes of a request
abbrev pub plain_request : Request → PlainRequest
plain_request r = record {
  method = r.method;
  path = r.path;
  query = r.query;
  authorization = r.authorization;
  body = r.body.items;
}
