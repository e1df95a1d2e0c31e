use Rattle.std.proofs.Common.{◌∙◌, arith, FitsSigned, sym, w64}
use Rattle.std.proofs.lemmas.Int.{to_z-of_z}
use Rattle.oe_ops.proofs.AggregateLemmas.{labelled_here, labelled_over, labelled_past}
use Rattle.oe_ops.proofs.aggregate.first_interval_of.Goals as goal

pub returns-then-has_label : goal.returns-then-has_label
returns-then-has_label c =
    let fits : FitsSigned w64 c.args.label = c.ranges.label in
    let before = simp to_z-of_z at c.loop-number.invariant in
    let test = simp to_z-of_z at (sym c.has_label.ensures ∙ c.if-has_label.true) in
    labelled_here c.args.intervals.now c.args.label c.loop-number.number _ c.loop-number-test.true test before

pub loop-number-preserved : goal.loop-number-preserved
loop-number-preserved c =
    let fits : FitsSigned w64 c.args.label = c.ranges.label in
    let before = simp to_z-of_z at c.loop-number.invariant in
    let test = simp to_z-of_z at (sym c.has_label.ensures ∙ c.if-has_label.false) in
    simp to_z-of_z (labelled_over c.args.intervals.now c.args.label c.loop-number.number _ c.loop-number-test.true test before)

pub returns : goal.returns
returns c =
    let fits : FitsSigned w64 c.args.label = c.ranges.label in
    let before = simp to_z-of_z at c.loop-number.invariant in
    labelled_past c.args.intervals.now c.args.label c.loop-number.number (omega arith) before
