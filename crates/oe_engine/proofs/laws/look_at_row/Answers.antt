use Rattle.std.proofs.Common.{◌≡◌, ◌∙◌, ap}
use Rattle.oe_sources.specs.Catalogue.{row_of}
use Rattle.oe_sources.specs.CatalogueRows.{rows_of}
use Rattle.oe_engine.proofs.CatalogueLemmas.{valid_at, valid_nowhere}
use Rattle.oe_engine.proofs.laws.look_at_row.Goals as goal

pub returns-in-Some : goal.returns-in-Some
returns-in-Some g c =
    let rows = rows_of (λ z. (goal.SharedSource-dyn g z).CubeSource.seen z.1) c.args.catalogue.now in
    record {
      shape = c.count-count.ensures.valid;
      collection = valid_at rows c.in-Some.place c.args.row.now.id (c.in-Some.ensures.found ∙ ap (row_of rows) c.as_str.ensures)
          c.shape-shape.ensures.sound;
    }
