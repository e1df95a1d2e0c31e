use Rattle.std.proofs.Common.{ap, ◌∙◌, arith}
use Rattle.oe_sources.specs.Generated.{rest_cell}
use Rattle.oe_sources.proofs.GeneratedLemmas.{more_made, next_rest}
use Rattle.oe_sources.proofs.generated_cube.make_rests.Goals as goal

pub loop-k-preserved : goal.loop-k-preserved
loop-k-preserved c =
    let kept = c.loop-k.auto.into in
    record {
      rest = next_rest c.args.first c.loop-k.k c.loop-k.rest c.loop-k.invariant.rest;
      made = more_made c.args.first c.loop-k.k c.loop-k.into c.cell_of.result (omega (arith, c.loop-k-test.true, kept)) (c.cell_of.ensures ∙ ap rest_cell c.loop-k.invariant.rest) c.loop-k.invariant.made;
    }
