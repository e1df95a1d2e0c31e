use Rattle.std.proofs.Common.{◌<◌, ◌∙◌, ap, length, subst, sym}
use Rattle.oe_sources.specs.CatalogueRows.{rows_of}
use Rattle.oe_top.proofs.Descriptions.{index_within, text_is}
use Rattle.oe_top.proofs.describe.text_of_mounted.Goals as goal

pub index-requires : goal.index-requires
index-requires g c =
    let rows = rows_of (λ z. (goal.SharedSource-dyn g z).CubeSource.seen z.1) c.args.catalogue.now in
    let within = index_within rows c.in_ok-dims.dims.rows.items c.args.id.now c.in_ok-dims.ensures.found c.requires c.index_of-index.result
    (rw (c.deref.ensures.value, c.as_str.ensures) at c.index_of-index.ensures) in
    subst (λ n. c.index_of-index.result < n) (ap length (sym c.deref.ensures.value) ∙ c.deref.ensures.len) within

pub returns : goal.returns
returns g c =
    let rows = rows_of (λ z. (goal.SharedSource-dyn g z).CubeSource.seen z.1) c.args.catalogue.now in
    text_is rows c.in_ok-dims.dims.rows.items c.args.id.now c.in_ok-dims.ensures.found c.requires c.index_of-index.result
    (rw (c.deref.ensures.value, c.as_str.ensures) at c.index_of-index.ensures) (λ text. text.items) c.index.result.now
    c.in_ok-collection_body.field-0.items c.end_line.result c.index.ensures c.in_ok-collection_body.ensures c.end_line.ensures
