use Rattle.std.proofs.Common.{sym, arith}
use Rattle.oe_window.specs.Layouts.{run_count, all_runs, runs_from}
use Rattle.oe_window.proofs.NumberLemmas.{numbers_of_empty, runs_within, runs_length}
use Rattle.oe_window.proofs.WindowLemmas.{count_of_empty}
use Rattle.oe_window.proofs.RunLemmas.{filled-runs_from, apart-runs_from, rising-laid}
use Rattle.oe_window.proofs.run_list.runs.Goals as goal

pub returns-then-is_empty-clause-numbers : goal.returns-then-is_empty-clause-numbers
returns-then-is_empty-clause-numbers c =
    sym (numbers_of_empty c.args.shape.now c.args.window.now (c.is_empty.ensures.0 c.if-is_empty.true))

pub returns-then-is_empty-clause-rising : goal.returns-then-is_empty-clause-rising
returns-then-is_empty-clause-rising c =
    rw (numbers_of_empty c.args.shape.now c.args.window.now (c.is_empty.ensures.0 c.if-is_empty.true)) tt

pub returns-clause-filled : goal.returns-clause-filled
returns-clause-filled c = filled-runs_from c.layout_of-layout.result c.layout_of-layout.ensures.fits 0 c.count.result

pub returns-clause-apart : goal.returns-clause-apart
returns-clause-apart c =
    apart-runs_from c.layout_of-layout.result c.layout_of-layout.ensures.fits c.layout_of-layout.ensures.spread 0 c.count.result (omega (arith, c.count.ensures))

pub returns-clause-rising : goal.returns-clause-rising
returns-clause-rising c =
    let l = c.layout_of-layout.result in
    let fits = c.layout_of-layout.ensures.fits in
    rw (← c.layout_of-layout.ensures.numbers) (rising-laid (all_runs l) (filled-runs_from l fits 0 (run_count l)) (apart-runs_from l fits c.layout_of-layout.ensures.spread 0 (run_count l) (omega arith)))

pub returns-then-is_empty-clause-lengths : goal.returns-then-is_empty-clause-lengths
returns-then-is_empty-clause-lengths c = sym (count_of_empty c.args.window.now (c.is_empty.ensures.0 c.if-is_empty.true))

pub returns-clause-within : goal.returns-clause-within
returns-clause-within c =
    let l = c.layout_of-layout.result in
    runs_within c.args.shape.now c.args.window.now (runs_from l 0 c.count.result) c.requires (filled-runs_from l c.layout_of-layout.ensures.fits 0 c.count.result) (rw c.count.ensures c.layout_of-layout.ensures.numbers)

pub returns-clause-lengths : goal.returns-clause-lengths
returns-clause-lengths c =
    runs_length c.args.shape.now c.args.window.now (runs_from c.layout_of-layout.result 0 c.count.result) (rw c.count.ensures c.layout_of-layout.ensures.numbers)
