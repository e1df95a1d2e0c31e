use Rattle.std.proofs.Common.{arith, ◌∙◌, ◌<◌}
use Rattle.std.proofs.lemmas.List.{get_or-replicate}
use Rattle.oe_fold.specs.Progress.{no_cells}
use Rattle.oe_fold.proofs.columns.fold_block.Goals as goal

pub scan_rows-requires-clause-none : goal.scan_rows-requires-clause-none
scan_rows-requires-clause-none c = λ k h.
    let within : k < 64 = omega arith in
    get_or-replicate 64 k c.start-tallies.result no_cells within ∙ c.start-tallies.ensures
