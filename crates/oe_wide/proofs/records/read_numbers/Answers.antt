use Rattle.std.proofs.Common.{◌≡◌, ◌<◌, length, None, Some, arith}
use Rattle.oe_cell.proofs.ListLemmas.{others-more}
use Rattle.oe_wide.proofs.RowLemmas.{have_more, have_up_to, numeric_more, numeric_up_to, short_part}
use Rattle.oe_wide.specs.declared.width.Width.TheVariants.{Nine}
use Rattle.oe_wide.proofs.records.read_numbers.Goals as goal

pub loop-k-preserved : goal.loop-k-preserved
loop-k-preserved c =
    let within : c.loop-k.k < length c.loop-k.into = omega (arith, c.loop-k-test.true, c.min-count.ensures, c.loop-k.auto.into) in
    record {
      read = have_more Nine c.args.bytes.now c.loop-k.into c.loop-k.k c.in-Some.cell within c.loop-k.invariant.read c.in-Some.ensures.found;
      numeric = numeric_more c.loop-k.into c.loop-k.k c.in-Some.cell within c.loop-k.invariant.numeric c.in-Some.ensures.numeric;
      others = others-more c.loop-k.into c.args.into.now c.loop-k.k c.in-Some.cell c.loop-k.invariant.others;
    }

pub returns-in-None-clause-stop : goal.returns-in-None-clause-stop
returns-in-None-clause-stop c below cell is numeric =
    let none : None ≡ Some cell = c.in-None.ensures.complete cell is numeric in cc

pub returns-clause-read : goal.returns-clause-read
returns-clause-read c =
    have_up_to Nine c.args.bytes.now c.loop-k.into c.loop-k.k c.min-count.result (omega (arith, c.loop-k-test.false, c.loop-k.auto.k-end)) c.loop-k.invariant.read

pub returns-clause-numeric : goal.returns-clause-numeric
returns-clause-numeric c =
    numeric_up_to c.loop-k.into c.loop-k.k c.min-count.result (omega (arith, c.loop-k-test.false, c.loop-k.auto.k-end)) c.loop-k.invariant.numeric

pub returns-clause-stop : goal.returns-clause-stop
returns-clause-stop c below cell is numeric =
    short_part Nine c.args.bytes.now c.min-count.result (omega (arith, c.min-count.ensures, below)) cell is
