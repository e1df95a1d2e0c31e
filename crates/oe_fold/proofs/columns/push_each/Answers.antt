use Rattle.std.proofs.Common.{◌≡◌, ◌≢◌, ℕ, ◌<◌, length, take, sym, ap, ◌∙◌, subst, arith, get_or, get_or-set_other, get_or-set_same, below_more, List}
use Rattle.std.specs.List.{All}
use Rattle.std.proofs.Math.Seq.{take-length}
use Rattle.std.proofs.lemmas.List.{get_or_read}
use Rattle.std.proofs.lemmas.List.Elements.{All-more}
use Rattle.oe_cell.specs.Cells.{IsCell}
use Rattle.oe_cell.specs.declared.cell.Cell.{Cell}
use Rattle.oe_cell.specs.declared.cell.Cell.TheVariants.{Empty}
use Rattle.oe_fold.specs.Progress.{step_of, no_cells}
use Rattle.oe_fold.specs.declared.tally.Tally.{Tally}
use Rattle.oe_fold.proofs.columns.push_each.Goals as goal

pub loop-k-preserved : goal.loop-k-preserved
loop-k-preserved c =
    let k : ℕ = c.loop-k.k in
    let in_row : k < length c.args.row.now = c.loop-k-test.true in
    let in_tallies : k < length c.loop-k.tallies = omega arith in
    let tally = get_or_read c.loop-k.tallies k c.index-tallies-k.result in_tallies c.index-tallies-k.is no_cells ∙ c.loop-k.invariant.rest k (omega arith) in
    let cell = get_or_read c.args.row.now k c.index-row-k.result in_row c.index-row-k.is Empty in
    record {
      stepped = below_more _ _
          (λ j h. let other : j ≢ k = omega arith in get_or-set_other c.loop-k.tallies k j c.step.new.tally no_cells other ∙ c.loop-k.invariant.stepped j h)
          (get_or-set_same c.loop-k.tallies k c.step.new.tally no_cells in_tallies ∙ c.step.ensures.value ∙ ap (λ (t : Tally). step_of c.args.reducer c.args.skips t c.index-row-k.result) (sym c.index-tallies-k.is ∙ tally) ∙ ap (λ (x : Cell). step_of c.args.reducer c.args.skips (get_or c.args.tallies.now k no_cells) x) cell);
      rest = λ j h. let other : j ≢ k = omega arith in get_or-set_other c.loop-k.tallies k j c.step.new.tally no_cells other ∙ c.loop-k.invariant.rest j (omega arith);
      known = All-more IsCell c.args.row.now k Empty in_row c.loop-k.invariant.known (subst (λ (x : Cell). IsCell x) cell c.step.ensures.cell);
    }

pub returns-clause-known : goal.returns-clause-known
returns-clause-known c =
    let end : c.loop-k.k ≡ length c.args.row.now = omega arith in
    subst (λ (ys : List Cell). All IsCell ys) (ap (λ (n : ℕ). take n c.args.row.now) end ∙ take-length c.args.row.now) c.loop-k.invariant.known
