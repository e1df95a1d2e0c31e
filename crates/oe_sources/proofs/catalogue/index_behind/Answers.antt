use Rattle.std.proofs.Common.{◌≡◌, ◌++◌, take, true, sym, ap, ◌∙◌, arith}
use Rattle.oe_dims.specs.Names.{is_name_before}
use Rattle.oe_dims.specs.declared.dims.DimsRow.{DimsRow}
use Rattle.oe_sources.proofs.CatalogueDimsLemmas.{put_at}
use Rattle.oe_sources.proofs.catalogue.index_behind.Goals as goal

pub returns-then-is_name_before-clause-put : goal.returns-then-is_name_before-clause-put
returns-then-is_name_before-clause-put c = λ row same.
    let before : is_name_before row.id c.index-rows-index.result.id ≡ true =
    ap (λ id. is_name_before id c.index-rows-index.result.id) same ∙ ap (λ (r : DimsRow). is_name_before c.args.id.now r.id) c.index-rows-index.is
    ∙ (ap (is_name_before c.args.id.now) (sym c.as_str-in-loop-index.ensures)
    ∙ (ap (λ id. is_name_before id c.as_str-in-loop-index.result.now) (sym c.as_str.ensures) ∙ (sym c.is_name_before.ensures ∙ c.if-is_name_before.true))) in
    c.loop-index.invariant row same
    ∙ ap (λ rest. take c.loop-index.index c.args.rows.now ++ rest) (put_at row c.args.rows.now c.loop-index.index c.index-rows-index.result (omega arith) (sym c.index-rows-index.is) before)
