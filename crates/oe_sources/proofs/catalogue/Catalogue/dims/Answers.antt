use Rattle.std.proofs.Common.{arith}
use Rattle.oe_sources.proofs.CatalogueDimsLemmas.{dims_found_in, dims_rise_in, put_rows_step}
use Rattle.oe_sources.proofs.catalogue.Catalogue.dims.Goals as goal

pub loop-row-preserved : goal.loop-row-preserved
loop-row-preserved g c =
    put_rows_step _ _ c.loop-row.rows.items c.insert_by_id.new.rows.items _ c.deref-row-items.result.now c.loop-row.row-index c.row-item.result (omega (arith, c.loop-row-test.true)) c.row-item.is
    (rw c.in_ok-dims_row_of.ensures at c.in_ok-insert_by_id.ensures) c.loop-row.invariant

pub returns-clause-rising : goal.returns-clause-rising
returns-clause-rising g c =
    dims_rise_in _ _ c.loop-row.rows.items c.deref-row-items.result.now c.args.self.now.rows.items c.loop-row.row-index (omega (arith, c.loop-row-test.false)) c.deref-row-items.ensures.value c.args.self.now.different c.loop-row.invariant

pub returns-clause-found : goal.returns-clause-found
returns-clause-found g c =
    dims_found_in _ _ c.loop-row.rows.items c.deref-row-items.result.now c.args.self.now.rows.items c.loop-row.row-index (omega (arith, c.loop-row-test.false)) c.deref-row-items.ensures.value c.args.self.now.different c.loop-row.invariant
