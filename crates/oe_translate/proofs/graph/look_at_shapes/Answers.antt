use Rattle.std.proofs.Common.{subst, arith}
use Rattle.std.specs.Prelude.{All}
use Rattle.oe_dims.specs.Dimensions.{IsShape}
use Rattle.oe_dims.specs.declared.dims.DimsRow.{DimsRow}
use Rattle.oe_translate.proofs.graph.look_at_shapes.Goals as goal

pub returns : goal.returns
returns c =
    subst (All (λ (row : DimsRow). IsShape row.shape)) c.deref-row-items.ensures.value
    (λ k d h. c.loop-row.invariant k d (omega (arith, c.loop-row-test.false)))
