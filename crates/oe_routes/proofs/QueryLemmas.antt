-- Steps on a query that are refused with its code, and lists that it asks for.
use Rattle.std.proofs.Common.{◌≡◌, ℕ, List, Result, Ok, refl, sym}
use Rattle.serde_json.specs.Data.{Data}
use Rattle.oe_http.specs.Laws.{json_reply}
use Rattle.oe_http.specs.Plain.{PlainRequest}
use Rattle.oe_pages.specs.Pages.{paged_text}
use Rattle.oe_pages.specs.Queries as pages
use Rattle.oe_pages.specs.declared.query.QueryFail.{QueryFail}
use Rattle.oe_pages.specs.declared.query.QueryFail.TheVariants as fail
use Rattle.oe_routes.specs.Actions.{answer}
use Rattle.oe_routes.specs.Answers.{listed}
use Rattle.oe_routes.specs.Queries.{coded}
use Rattle.oe_routes.specs.Rejections.{Rejects, refusal_of, rejection_of}
use Rattle.oe_routes.specs.Scenes.{PlainScene}
use Rattle.oe_routes.specs.Steps.{Fails}

pub fails_coded : {Y : Type 0} (e : QueryFail) (step : Result Y QueryFail) → pages.Fails e step → Fails (refusal_of e) (coded step)
fails_coded fail.OutOfMemory step h = tt
fails_coded fail.Invalid step h = rw h refl

pub listed_refused : (s : PlainScene) (r : PlainRequest) (base path query : List ℕ) (body : Data) (e : QueryFail)
    → base ≡ s.base → path ≡ r.path → query ≡ r.query → pages.Fails e (paged_text base path query body)
    → Rejects (rejection_of (refusal_of e)) (listed s r body)
listed_refused s r base path query body fail.OutOfMemory b p q h = tt
listed_refused s r base path query body fail.Invalid b p q h = rw (sym b, sym p, sym q, h) refl

pub listed_as : (s : PlainScene) (r : PlainRequest) (base path query : List ℕ) (body : Data) (text : List ℕ)
    → base ≡ s.base → path ≡ r.path → query ≡ r.query → paged_text base path query body ≡ Ok text
    → listed s r body ≡ Ok (answer (json_reply 200 text))
listed_as s r base path query body text b p q h = rw (sym b, sym p, sym q, h) refl
