-- Numbers that are no status have no phrase, and phrases may stand in a head.
use Rattle.std.proofs.Common.{◌≡◌, ℕ, ◌<◌, ◌≤◌, ◌==◌, Bool, true, false, if◌then◌else◌, List, [], codes, Option, Some, None, IsSome, unwrap_or, refl, arith, subst, sym, ◌∙◌}
use Rattle.std.proofs.lemmas.List.Sums.{AllPass-from_list_all}
use Rattle.std.specs.List.{list_all}
use Rattle.httparse.specs.Grammar.{AllPass, is_value_byte}
use Rattle.http.specs.StatusCode.{IsStatusCode, reason_phrase}

-- a test for a status fails
skip : {A : Type 0} (n k : ℕ) (x y : A) → ¬ (IsStatusCode n) → IsStatusCode k → (if n == k then x else y) ≡ y
skip n k x y not_one one =
    let other : ¬ (n ≡ k) = λ same. not_one (subst IsStatusCode (sym same) one) in
    grind arith

pub no_phrase : (n : ℕ) → ¬ (IsStatusCode n) → reason_phrase n ≡ None
no_phrase n not_one =
    skip n 100 _ _ not_one (omega arith, omega arith) ∙
    skip n 101 _ _ not_one (omega arith, omega arith) ∙
    skip n 102 _ _ not_one (omega arith, omega arith) ∙
    skip n 103 _ _ not_one (omega arith, omega arith) ∙
    skip n 200 _ _ not_one (omega arith, omega arith) ∙
    skip n 201 _ _ not_one (omega arith, omega arith) ∙
    skip n 202 _ _ not_one (omega arith, omega arith) ∙
    skip n 203 _ _ not_one (omega arith, omega arith) ∙
    skip n 204 _ _ not_one (omega arith, omega arith) ∙
    skip n 205 _ _ not_one (omega arith, omega arith) ∙
    skip n 206 _ _ not_one (omega arith, omega arith) ∙
    skip n 207 _ _ not_one (omega arith, omega arith) ∙
    skip n 208 _ _ not_one (omega arith, omega arith) ∙
    skip n 226 _ _ not_one (omega arith, omega arith) ∙
    skip n 300 _ _ not_one (omega arith, omega arith) ∙
    skip n 301 _ _ not_one (omega arith, omega arith) ∙
    skip n 302 _ _ not_one (omega arith, omega arith) ∙
    skip n 303 _ _ not_one (omega arith, omega arith) ∙
    skip n 304 _ _ not_one (omega arith, omega arith) ∙
    skip n 305 _ _ not_one (omega arith, omega arith) ∙
    skip n 307 _ _ not_one (omega arith, omega arith) ∙
    skip n 308 _ _ not_one (omega arith, omega arith) ∙
    skip n 400 _ _ not_one (omega arith, omega arith) ∙
    skip n 401 _ _ not_one (omega arith, omega arith) ∙
    skip n 402 _ _ not_one (omega arith, omega arith) ∙
    skip n 403 _ _ not_one (omega arith, omega arith) ∙
    skip n 404 _ _ not_one (omega arith, omega arith) ∙
    skip n 405 _ _ not_one (omega arith, omega arith) ∙
    skip n 406 _ _ not_one (omega arith, omega arith) ∙
    skip n 407 _ _ not_one (omega arith, omega arith) ∙
    skip n 408 _ _ not_one (omega arith, omega arith) ∙
    skip n 409 _ _ not_one (omega arith, omega arith) ∙
    skip n 410 _ _ not_one (omega arith, omega arith) ∙
    skip n 411 _ _ not_one (omega arith, omega arith) ∙
    skip n 412 _ _ not_one (omega arith, omega arith) ∙
    skip n 413 _ _ not_one (omega arith, omega arith) ∙
    skip n 414 _ _ not_one (omega arith, omega arith) ∙
    skip n 415 _ _ not_one (omega arith, omega arith) ∙
    skip n 416 _ _ not_one (omega arith, omega arith) ∙
    skip n 417 _ _ not_one (omega arith, omega arith) ∙
    skip n 418 _ _ not_one (omega arith, omega arith) ∙
    skip n 421 _ _ not_one (omega arith, omega arith) ∙
    skip n 422 _ _ not_one (omega arith, omega arith) ∙
    skip n 423 _ _ not_one (omega arith, omega arith) ∙
    skip n 424 _ _ not_one (omega arith, omega arith) ∙
    skip n 425 _ _ not_one (omega arith, omega arith) ∙
    skip n 426 _ _ not_one (omega arith, omega arith) ∙
    skip n 428 _ _ not_one (omega arith, omega arith) ∙
    skip n 429 _ _ not_one (omega arith, omega arith) ∙
    skip n 431 _ _ not_one (omega arith, omega arith) ∙
    skip n 451 _ _ not_one (omega arith, omega arith) ∙
    skip n 500 _ _ not_one (omega arith, omega arith) ∙
    skip n 501 _ _ not_one (omega arith, omega arith) ∙
    skip n 502 _ _ not_one (omega arith, omega arith) ∙
    skip n 503 _ _ not_one (omega arith, omega arith) ∙
    skip n 504 _ _ not_one (omega arith, omega arith) ∙
    skip n 505 _ _ not_one (omega arith, omega arith) ∙
    skip n 506 _ _ not_one (omega arith, omega arith) ∙
    skip n 507 _ _ not_one (omega arith, omega arith) ∙
    skip n 508 _ _ not_one (omega arith, omega arith) ∙
    skip n 510 _ _ not_one (omega arith, omega arith) ∙
    skip n 511 _ _ not_one (omega arith, omega arith)

-- a status with a phrase is a number from 100 to 999
pub phrase_status : (n : ℕ) → IsSome (reason_phrase n) → (100 ≤ n) × (n < 1000)
phrase_status n some =
    let P : Option (List ℕ) → Type 0 = IsSome in
    let wrong : ¬ (IsStatusCode n) → ⊥ = λ not_one. let none : P None = subst P (no_phrase n not_one) some in absurd (cc none) in
    grind (arith, wrong)

-- each phrase is of bytes that a head may have
pub record IsPhrase (phrase : Option (List ℕ)) : Type 0 where
  pub bytes : AllPass is_value_byte (unwrap_or phrase [])

either : (is : Bool) (text : List ℕ) (rest : Option (List ℕ)) → list_all is_value_byte text ≡ true → IsPhrase rest → IsPhrase (if is then Some text else rest)
either true text rest all other = record { bytes = AllPass-from_list_all is_value_byte text all }
either false text rest all other = other

none_is_phrase : IsPhrase None
none_is_phrase = record { bytes = AllPass-from_list_all is_value_byte [] refl }

pub is_phrase : (n : ℕ) → IsPhrase (reason_phrase n)
is_phrase n =
    either (n == 100) (codes "Continue") _ refl (
    either (n == 101) (codes "Switching Protocols") _ refl (
    either (n == 102) (codes "Processing") _ refl (
    either (n == 103) (codes "Early Hints") _ refl (
    either (n == 200) (codes "OK") _ refl (
    either (n == 201) (codes "Created") _ refl (
    either (n == 202) (codes "Accepted") _ refl (
    either (n == 203) (codes "Non Authoritative Information") _ refl (
    either (n == 204) (codes "No Content") _ refl (
    either (n == 205) (codes "Reset Content") _ refl (
    either (n == 206) (codes "Partial Content") _ refl (
    either (n == 207) (codes "Multi-Status") _ refl (
    either (n == 208) (codes "Already Reported") _ refl (
    either (n == 226) (codes "IM Used") _ refl (
    either (n == 300) (codes "Multiple Choices") _ refl (
    either (n == 301) (codes "Moved Permanently") _ refl (
    either (n == 302) (codes "Found") _ refl (
    either (n == 303) (codes "See Other") _ refl (
    either (n == 304) (codes "Not Modified") _ refl (
    either (n == 305) (codes "Use Proxy") _ refl (
    either (n == 307) (codes "Temporary Redirect") _ refl (
    either (n == 308) (codes "Permanent Redirect") _ refl (
    either (n == 400) (codes "Bad Request") _ refl (
    either (n == 401) (codes "Unauthorized") _ refl (
    either (n == 402) (codes "Payment Required") _ refl (
    either (n == 403) (codes "Forbidden") _ refl (
    either (n == 404) (codes "Not Found") _ refl (
    either (n == 405) (codes "Method Not Allowed") _ refl (
    either (n == 406) (codes "Not Acceptable") _ refl (
    either (n == 407) (codes "Proxy Authentication Required") _ refl (
    either (n == 408) (codes "Request Timeout") _ refl (
    either (n == 409) (codes "Conflict") _ refl (
    either (n == 410) (codes "Gone") _ refl (
    either (n == 411) (codes "Length Required") _ refl (
    either (n == 412) (codes "Precondition Failed") _ refl (
    either (n == 413) (codes "Payload Too Large") _ refl (
    either (n == 414) (codes "URI Too Long") _ refl (
    either (n == 415) (codes "Unsupported Media Type") _ refl (
    either (n == 416) (codes "Range Not Satisfiable") _ refl (
    either (n == 417) (codes "Expectation Failed") _ refl (
    either (n == 418) (codes "I'm a teapot") _ refl (
    either (n == 421) (codes "Misdirected Request") _ refl (
    either (n == 422) (codes "Unprocessable Entity") _ refl (
    either (n == 423) (codes "Locked") _ refl (
    either (n == 424) (codes "Failed Dependency") _ refl (
    either (n == 425) (codes "Too Early") _ refl (
    either (n == 426) (codes "Upgrade Required") _ refl (
    either (n == 428) (codes "Precondition Required") _ refl (
    either (n == 429) (codes "Too Many Requests") _ refl (
    either (n == 431) (codes "Request Header Fields Too Large") _ refl (
    either (n == 451) (codes "Unavailable For Legal Reasons") _ refl (
    either (n == 500) (codes "Internal Server Error") _ refl (
    either (n == 501) (codes "Not Implemented") _ refl (
    either (n == 502) (codes "Bad Gateway") _ refl (
    either (n == 503) (codes "Service Unavailable") _ refl (
    either (n == 504) (codes "Gateway Timeout") _ refl (
    either (n == 505) (codes "HTTP Version Not Supported") _ refl (
    either (n == 506) (codes "Variant Also Negotiates") _ refl (
    either (n == 507) (codes "Insufficient Storage") _ refl (
    either (n == 508) (codes "Loop Detected") _ refl (
    either (n == 510) (codes "Not Extended") _ refl (
    either (n == 511) (codes "Network Authentication Required") _ refl (
    none_is_phrase))))))))))))))))))))))))))))))))))))))))))))))))))))))))))))))
