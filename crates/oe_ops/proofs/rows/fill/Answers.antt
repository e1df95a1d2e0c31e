use Rattle.std.proofs.Common.{rules, ◌≡◌, length, arith}
use Rattle.oe_window.specs.Windows.{positions}
use Rattle.oe_window.proofs.WindowLemmas.{length-positions}
use Rattle.oe_ops.proofs.ListLemmas.{nothing_on}
use Rattle.oe_ops.proofs.rows.fill.Goals as goal

pub returns-then-is_empty : goal.returns-then-is_empty
returns-then-is_empty g c =
    let none : length c.args.out.now ≡ 0 = search rules in
    let long = length-positions c.args.window.now in
    nothing_on c.args.out.now (positions c.args.window.now) (g.R.Rows.cell c.args.rows.now) none (omega (arith, c.requires.counted))
