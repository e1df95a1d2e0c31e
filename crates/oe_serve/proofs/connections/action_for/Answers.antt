use Rattle.std.proofs.Common.{refl, w64}
use Rattle.std.proofs.lemmas.Int.{to_z-of_z}
use Rattle.std.proofs.lemmas.Result.{IfOk-weaker}
use Rattle.oe_dims.specs.Plain.{plain_rows}
use Rattle.oe_http.specs.Plain.{plain_request}
use Rattle.oe_jobs.specs.Plain.{plain_book}
use Rattle.oe_routes.specs.Actions.{plain_action}
use Rattle.oe_routes.specs.Scenes.{PlainScene}
use Rattle.oe_sources.specs.CatalogueDims.{dims_of}
use Rattle.oe_sources.specs.CatalogueRows.{rows_of}
use Rattle.oe_serve.proofs.Asked.{asks_by, may_act}
use Rattle.oe_serve.proofs.connections.action_for.Goals as goal

pub returns-clause-asks : goal.returns-clause-asks
returns-clause-asks g c =
    let s : PlainScene =
    record {
      base = c.args.setup.now.site.now.base;
      tokens = c.args.setup.now.site.now.tokens;
      rows = dims_of (rows_of (λ z. (goal.SharedSource-dyn g z).CubeSource.seen z.1) c.args.catalogue.now);
      book = plain_book c.args.service.now.book;
      moment = c.args.now;
    } in
    let answer = rw (to_z-of_z w64 c.args.now c.ranges.now, c.book.ensures) at c.route.ensures.answer in
    IfOk-weaker c.route.result _ _
    (λ action h. asks_by s (plain_request c.args.request.now) (plain_rows c.in_ok-rows.rows) c.in_ok-rows.ensures.rows c.answers_without_rows.ensures (plain_action (plain_book c.args.service.now.book) action) h)
    answer

pub returns-clause-may : goal.returns-clause-may
returns-clause-may g c =
    let rows = rows_of (λ z. (goal.SharedSource-dyn g z).CubeSource.seen z.1) c.args.catalogue.now in
    let s : PlainScene =
    record {
      base = c.args.setup.now.site.now.base;
      tokens = c.args.setup.now.site.now.tokens;
      rows = dims_of rows;
      book = plain_book c.args.service.now.book;
      moment = c.args.now;
    } in
    let valid = rw (to_z-of_z w64 c.args.now c.ranges.now, c.book.ensures) at c.route.ensures.valid in
    IfOk-weaker c.route.result _ _
    (λ action h. may_act s (plain_request c.args.request.now) (plain_rows c.in_ok-rows.rows) c.in_ok-rows.ensures.rows rows action refl c.in_ok-rows.ensures.found c.in_ok-rows.ensures.given h)
    valid
