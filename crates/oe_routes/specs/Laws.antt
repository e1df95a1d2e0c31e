-- What holds of every request.
use Rattle.std.specs.Prelude.{◌≡◌, false, List, [], Some, None, Ok, Err}
use Rattle.serde_json.specs.Data.{Data}
use Rattle.oe_dims.specs.declared.dims.DimsRow.{DimsRow}
use Rattle.oe_http.specs.Plain.{PlainRequest}
use Rattle.oe_pages.specs.Pages.{list_name, page_of}
use Rattle.oe_pages.specs.Queries.{page_asked}
use Rattle.oe_pages.specs.declared.query.PageAsked.{PageAsked}
use Rattle.oe_pages.specs.declared.query.QueryFail.TheVariants.{Invalid}
use Rattle.oe_replies.specs.declared.code.ReplyCode.TheVariants.{QueryInvalid}
use Rattle.oe_routes.specs.Answers.{answer_of, listed, shown}
use Rattle.oe_routes.specs.Asks.{asks_for_rows}
use Rattle.oe_routes.specs.Found.{Found}
use Rattle.oe_routes.specs.Rejections.{reject}
use Rattle.oe_routes.specs.Scenes.{PlainScene}

-- where a request does not ask for the rows of the collections, its answer is the same whatever they are
abbrev pub AnswersWithoutRows : Type 0
AnswersWithoutRows =
    (s : PlainScene) (f : Found) (r : PlainRequest) (a b : List DimsRow) → asks_for_rows r ≡ false
    → answer_of (record s { rows = a }) f r ≡ answer_of (record s { rows = b }) f r

-- how a list is answered that this body has: whole to a request without a query, or whose query says no limit, else with
-- the page of the whole list, and refused where the query is invalid
pub record IsListed (s : PlainScene) (r : PlainRequest) (body : Data) : Type 0 where
  pub without_query : listed s (record r { query = [] }) body ≡ Ok (shown body)
  pub whole : page_asked r.query ≡ Ok None → listed s r body ≡ Ok (shown body)
  pub page : (asked : PageAsked) → page_asked r.query ≡ Ok (Some asked)
      → listed s r body ≡ Ok (shown (page_of (list_name r.path) s.base r.path asked body))
  pub invalid : page_asked r.query ≡ Err Invalid → listed s r body ≡ reject QueryInvalid

abbrev pub ListsByPages : Type 0
ListsByPages = (s : PlainScene) (r : PlainRequest) (body : Data) → IsListed s r body
