use Rattle.std.proofs.Common.{◌<◌, sym, ap, ◌∙◌, subst}
use Rattle.oe_spool.proofs.RunRecords.{length-numbers}
use Rattle.oe_window.specs.Runs.{window_numbers}
use Rattle.oe_window.specs.Windows.{position_count}
use Rattle.oe_window.specs.declared.window.Window.{Window}
use Rattle.oe_parts.specs.Rows.{HasNumbersFrom}
use Rattle.oe_parts.proofs.RowLemmas.{first_run, run_some}
use Rattle.oe_parts.proofs.ShownLemmas.{row_end}
use Rattle.oe_parts.proofs.rows.row_at.Goals as goal

pub runs-requires : goal.runs-requires
runs-requires c = λ p inside. c.requires.within p (c.row-row.ensures.part.inside p inside)

pub returns-in-Some-clause-numbers : goal.returns-in-Some-clause-numbers
returns-in-Some-clause-numbers c =
    let d = c.args.shape.now in
    let w = c.args.window.now in
    let n = c.args.number in
    let run = c.in-Some.begun in
    let is = c.row-row.ensures.value in
    subst (λ (v : Window). HasNumbersFrom d v run.0) (sym is)
    (first_run d w n c.runs.result c.next.new.self run.0 run.1 (c.runs.ensures.numbers ∙ ap (window_numbers d) is) c.runs.ensures.filled c.in-Some.ensures.steps)

pub returns-in-Some-clause-end : goal.returns-in-Some-clause-end
returns-in-Some-clause-end c =
    let d = c.args.shape.now in
    let w = c.args.window.now in
    let n = c.args.number in
    let row = c.row-row.result in
    let run = c.in-Some.begun in
    let is = c.row-row.ensures.value in
    let numbers : HasNumbersFrom d row run.0 = subst (λ (v : Window). HasNumbersFrom d v run.0) (sym is)
    (first_run d w n c.runs.result c.next.new.self run.0 run.1 (c.runs.ensures.numbers ∙ ap (window_numbers d) is) c.runs.ensures.filled c.in-Some.ensures.steps) in
    let some : 0 < position_count row = run_some (window_numbers d row) c.runs.result c.next.new.self run.0 run.1 (position_count row) c.runs.ensures.numbers c.runs.ensures.filled c.in-Some.ensures.steps (length-numbers d row) in
    row_end d row run.0 (λ p inside. c.requires.within p (c.row-row.ensures.part.inside p inside)) numbers some
