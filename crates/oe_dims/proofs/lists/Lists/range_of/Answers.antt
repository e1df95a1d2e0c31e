use Rattle.std.proofs.Common.{sym, ◌∙◌, arith, FitsSigned, w64}
use Rattle.std.proofs.lemmas.Int.{to_z-of_z}
use Rattle.oe_dims.specs.Dimensions.{number_labels}
use Rattle.oe_dims.specs.Lists.{dimensions_of}
use Rattle.oe_dims.proofs.IndexLemmas.{count_before_rising}
use Rattle.oe_dims.proofs.ShapeLemmas.{y_falls, numbers_rise, numbers_within}
use Rattle.oe_dims.proofs.lists.Lists.range_of.Goals as goal

pub run_in_falling-requires : goal.run_in_falling-requires
run_in_falling-requires c = rw (c.numbers-labels.ensures, c.in-Y.is) (y_falls _ c.requires)

pub run_in_rising-requires : goal.run_in_rising-requires
run_in_rising-requires c = rw c.numbers-labels.ensures (numbers_rise _ _ c.requires c.in_default.not-Y)

pub returns-in-Y-clause-most : goal.returns-in-Y-clause-most
returns-in-Y-clause-most c =
    let within = numbers_within (dimensions_of c.args.self.now) c.args.kind c.requires in
    let end = rw c.numbers-labels.ensures at c.run_in_falling.ensures.run.within in
    omega (arith, end)

pub returns-in_default : goal.returns-in_default
returns-in_default c =
    let d = dimensions_of c.args.self.now in
    let fits : FitsSigned w64 c.args.from = c.ranges.from in
    let fits_to : FitsSigned w64 c.args.to = c.ranges.to in
    let first = simp (to_z-of_z, c.numbers-labels.ensures) at c.run_in_rising.ensures.first in
    let run = simp (to_z-of_z, c.numbers-labels.ensures) at c.run_in_rising.ensures.run in
    let kept = simp (to_z-of_z, c.numbers-labels.ensures) at c.run_in_rising.ensures.kept in
    let within = numbers_within d c.args.kind c.requires in
    record {
      first = first ∙ sym (count_before_rising c.args.kind c.args.from c.args.to (number_labels d c.args.kind) c.in_default.not-Y);
      run = run;
      kept = kept;
      most = omega (arith, run.within);
    }
