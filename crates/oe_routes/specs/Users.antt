-- The user of a request, by the token that it brings (openEO API, authentication by a bearer token).
use Rattle.std.specs.Prelude.{ℕ, List, length, take, drop, nat_lt, if◌then◌else◌, Bool, true, false, bytes_eq, codes, find, Option, Some, None, Ok, Err, Result}
use Rattle.oe_replies.specs.declared.code.ReplyCode.{ReplyCode}
use Rattle.oe_replies.specs.declared.code.ReplyCode.TheVariants.{AuthenticationRequired, TokenInvalid}
use Rattle.oe_routes.specs.Tokens.{Entry, has_token}

-- the scheme, and behind it the token
abbrev pub token_in : List ℕ → Option (List ℕ)
token_in value =
    if nat_lt (length value) 14 then None else (
    if bytes_eq (take 14 value) (codes "Bearer basic//") then Some (drop 14 value) else None)

abbrev pub user_or_refused : Option Entry → Result (Option (List ℕ)) ReplyCode
user_or_refused None = Err TokenInvalid
user_or_refused (Some entry) = Ok (Some entry.0)

-- the user of a token, which is compared byte by byte
abbrev pub user_with : List Entry → List ℕ → Result (Option (List ℕ)) ReplyCode
user_with entries token = user_or_refused (find (has_token token) entries)

abbrev pub user_by : List Entry → Option (List ℕ) → Result (Option (List ℕ)) ReplyCode
user_by entries None = Err TokenInvalid
user_by entries (Some token) = user_with entries token

-- the user of a request; none where none is needed, and then the field is not looked at
abbrev pub user_of : List Entry → Bool → Option (List ℕ) → Result (Option (List ℕ)) ReplyCode
user_of entries false value = Ok None
user_of entries true None = Err AuthenticationRequired
user_of entries true (Some value) = user_by entries (token_in value)
