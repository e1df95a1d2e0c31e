-- What a request is about, beside itself.
use Rattle.std.specs.Prelude.{ℕ, ℤ, List}
use Rattle.oe_dims.specs.Plain.{plain_rows}
use Rattle.oe_dims.specs.declared.dims.Dims.{Dims}
use Rattle.oe_dims.specs.declared.dims.DimsRow.{DimsRow}
use Rattle.oe_jobs.specs.Plain.{PlainBook, plain_book}
use Rattle.oe_jobs.specs.declared.book.Book.{Book}
use Rattle.oe_routes.specs.Tokens.{Entry}
use Rattle.oe_routes.specs.declared.action.Scene.{Scene}
use Rattle.oe_routes.specs.declared.site.Site.{Site}

-- the base of the service's addresses, its users with their tokens, the mounted collections, the job book, and the
-- moment, in seconds since 1970-01-01T00:00:00Z
pub record PlainScene : Type 0 where
  pub base : List ℕ
  pub tokens : List Entry
  pub rows : List DimsRow
  pub book : PlainBook
  pub moment : ℤ

abbrev pub scene_of : Site → Dims → Book → ℤ → PlainScene
scene_of site dims book moment = record {
  base = site.base;
  tokens = site.tokens;
  rows = plain_rows dims;
  book = plain_book book;
  moment = moment;
}

abbrev pub plain_scene : Scene → PlainScene
plain_scene s = scene_of s.site.now s.dims.now s.book.now s.moment
