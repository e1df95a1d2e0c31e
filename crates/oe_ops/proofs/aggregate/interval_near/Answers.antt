use Rattle.std.proofs.Common.{◌∙◌, FitsSigned, sym, w64}
use Rattle.std.proofs.lemmas.Int.{to_z-of_z}
use Rattle.oe_ops.proofs.IntervalLemmas.{labelled_first}
use Rattle.oe_ops.proofs.aggregate.interval_near.Goals as goal

pub returns-then-has_label_at : goal.returns-then-has_label_at
returns-then-has_label_at c =
    let fits : FitsSigned w64 c.args.label = c.ranges.label in
    let test = simp to_z-of_z at (sym c.has_label_at.ensures ∙ c.if-has_label_at.true) in
    labelled_first c.args.intervals.now c.args.label c.args.near c.requires.differ test

pub returns-else-has_label_at : goal.returns-else-has_label_at
returns-else-has_label_at c =
    let fits : FitsSigned w64 c.args.label = c.ranges.label in
    simp to_z-of_z at c.first_interval_of.ensures
