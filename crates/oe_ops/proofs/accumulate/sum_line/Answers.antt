use Rattle.std.proofs.Common.{◌≡◌, ◌≢◌, ◌-◌, ◌<◌, ◌≤◌, ℕ, inl, inr, length, refl, sym, ap, arith, ◌∙◌}
use Rattle.std.specs.List.{slice_index_or}
use Rattle.std.proofs.lemmas.Bool.{cases_lt}
use Rattle.std.proofs.lemmas.Grind.{common_steps}
use Rattle.oe_cell.specs.declared.cell.Cell.TheVariants.{Empty}
use Rattle.oe_dims.specs.Positions.{Position}
use Rattle.oe_dims.specs.declared.kind.Kind.TheVariants.{Time}
use Rattle.oe_window.specs.Windows.{number_in, position_count}
use Rattle.oe_ops.specs.Lists.{list_from}
use Rattle.oe_ops.specs.Slices.{along_x, at_indices}
use Rattle.oe_ops.proofs.AccumulateLemmas.{on_row, row_held, row_inside, sum_written, summed_more}
use Rattle.oe_ops.proofs.NumberLemmas.{are_some}
use Rattle.oe_ops.proofs.accumulate.sum_line.Goals as goal

pub row_of-cells-requires-clause-some : goal.row_of-cells-requires-clause-some
row_of-cells-requires-clause-some c =
    let more : 0 < position_count c.args.window.now = omega (arith, c.requires.some, c.requires.length) in
    let some = are_some c.args.window.now more in
    omega (arith, some.x, c.indices-width.ensures)

pub row_of-cells-requires-clause-inside : goal.row_of-cells-requires-clause-inside
row_of-cells-requires-clause-inside c = λ k lt.
    let more : 0 < position_count c.args.window.now = omega (arith, c.requires.some, c.requires.length) in
    row_held c.args.window.now c.args.slice.now c.loop-t.t c.args.band c.args.y k c.requires.dates more c.requires.band c.requires.y (omega (arith, lt, c.indices-width.ensures)) (omega arith)

pub write_row-requires-clause-inside : goal.write_row-requires-clause-inside
write_row-requires-clause-inside c = λ from k lt.
    row_inside c.args.window.now c.loop-t.t c.args.band c.args.y k c.requires.band c.requires.y (omega (arith, lt, c.row_of-cells.ensures.length, c.indices-width.ensures)) from (omega arith)

pub loop-t-init : goal.loop-t-init
loop-t-init c = record {
  summed = λ k lt. c.begin_sums.ensures k (omega (arith, lt, c.begin_sums.auto.sums, c.split_at_mut-sums.ensures.front_len)) c.args.ignore;
  sums = λ p h band y lt. absurd (omega (arith, lt));
  others = λ p h other. refl;
}

pub loop-t-preserved : goal.loop-t-preserved
loop-t-preserved c =
    let w = c.args.window.now in
    let slice = c.args.slice.now in
    let t : ℕ = c.loop-t.t in
    record {
      summed = λ k lt.
          let p = along_x (at_indices 0 c.args.band c.args.y w.x.from) k in
          let read : k < length c.row_of-cells.result.now = omega (arith, lt, c.row_of-cells.ensures.length) in
          summed_more c.args.ignore slice p t _ _ _ (c.row_of-cells.ensures.value k lt) (c.add_cells.ensures k read (list_from slice Time 0 t p) (c.loop-t.invariant.summed k lt));
      sums = λ p h band y lt. elim (cases_lt p.t t) [
        | inl before ↦ let other : p.t ≢ t = omega arith in
            c.write_row.ensures.others p h (inl other) ∙ c.loop-t.invariant.sums p h band y before
        | inr ge ↦ let at : p.t ≡ t = omega arith in
            let from : w.t.from ≤ t = omega (arith, h.t.begun) in
            let begun : w.x.from ≤ p.x = h.x.begun in
            let k = p.x - w.x.from in
            let short : k < c.indices-width.result = omega (arith, h.x.before, c.indices-width.ensures) in
            let read : k < length c.row_of-cells.result.now = omega (arith, short, c.row_of-cells.ensures.length) in
            let place = on_row p t c.args.band c.args.y w.x.from at band y begun in
            let before = list_from slice Time 0 t (along_x (at_indices 0 c.args.band c.args.y w.x.from) k) in
            let has = c.add_cells.ensures k read before (c.loop-t.invariant.summed k short) in
            ap (λ (q : Position). slice_index_or c.write_row.new.out (number_in w q) Empty) (sym place)
            ∙ sum_written c.args.ignore slice t c.args.band c.args.y w.x.from k _ _ p (c.write_row.ensures.written from k read c.args.ignore before has) (c.row_of-cells.ensures.value k short) place
      ];
      others = λ p h other. c.write_row.ensures.others p h (inr other) ∙ c.loop-t.invariant.others p h other;
    }

pub returns-clause-sums : goal.returns-clause-sums
returns-clause-sums c = λ p h band y. let before = h.t.before in c.loop-t.invariant.sums p h band y (omega arith)

pub returns-clause-others : goal.returns-clause-others
returns-clause-others c = λ p h other. c.loop-t.invariant.others p h other

pub write_row-requires-clause-row : goal.write_row-requires-clause-row
write_row-requires-clause-row c = grind (arith, common_steps) steps 2000000
