use Rattle.std.proofs.Common.{◌≡◌, true, false, ◌∙◌, arith, subst, sym}
use Rattle.oe_dims.specs.Names.{same_name}
use Rattle.oe_dims.specs.declared.dims.DimsRow.{DimsRow}
use Rattle.oe_top.proofs.Descriptions.{row_here, row_over, row_past}
use Rattle.oe_top.proofs.describe.index_of.Goals as goal

pub returns-then-has_id : goal.returns-then-has_id
returns-then-has_id c =
    row_here c.args.rows.now c.args.id.now c.loop-index.index c.index-rows-index.result c.loop-index-test.true
    (subst (λ (row : DimsRow). same_name row.id c.args.id.now ≡ true) c.index-rows-index.is (sym c.has_id.ensures ∙ c.if-has_id.true))
    c.loop-index.invariant

pub loop-index-preserved : goal.loop-index-preserved
loop-index-preserved c =
    row_over c.args.rows.now c.args.id.now c.loop-index.index c.index-rows-index.result c.loop-index-test.true
    (subst (λ (row : DimsRow). same_name row.id c.args.id.now ≡ false) c.index-rows-index.is (sym c.has_id.ensures ∙ c.if-has_id.false))
    c.loop-index.invariant

pub returns : goal.returns
returns c = row_past c.args.rows.now c.args.id.now c.loop-index.index (omega arith) c.loop-index.invariant
