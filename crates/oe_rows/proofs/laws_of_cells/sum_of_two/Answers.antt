use Rattle.std.proofs.Common.{false, [], ◌∷◌}
use Rattle.oe_fold.specs.declared.reducer.Reducer.{Reducer}
use Rattle.oe_rows.proofs.laws_of_cells.sum_of_two.Goals as goal

pub returns : goal.returns
returns c =
    c.value.ensures.reduced Reducer.Sum false (c.args.first ∷ c.args.second ∷ [])
    (c.push-2.ensures.seen Reducer.Sum false (c.args.first ∷ [])
    (c.push.ensures.seen Reducer.Sum false [] c.start-pass.ensures.seen))
