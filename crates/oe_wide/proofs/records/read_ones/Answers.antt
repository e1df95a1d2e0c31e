use Rattle.std.proofs.Common.{◌≡◌, ◌<◌, ◌≤◌, length, ℕ, List, arith, sym, subst}
use Rattle.oe_cell.proofs.ListLemmas.{others-more}
use Rattle.oe_wide.proofs.RowLemmas.{have_more, have_up_to, short_part, one_part}
use Rattle.oe_wide.specs.Wide.{IsRecordIn}
use Rattle.oe_wide.specs.declared.width.Width.TheVariants.{One}
use Rattle.oe_wide.proofs.records.read_ones.Goals as goal

pub loop-k-preserved : goal.loop-k-preserved
loop-k-preserved c =
    let within : c.loop-k.k < length c.loop-k.into = omega (arith, c.loop-k-test.true, c.min-count.ensures, c.loop-k.auto.into) in
    let there : c.loop-k.k < length c.args.bytes.now = omega (arith, c.loop-k-test.true, c.min-count.ensures) in
    record {
      read = have_more One c.args.bytes.now c.loop-k.into c.loop-k.k c.in-Some.cell within c.loop-k.invariant.read (subst (λ (bs : List ℕ). IsRecordIn One bs c.in-Some.cell) (sym (one_part c.args.bytes.now c.loop-k.k there)) c.in-Some.ensures.found);
      others = others-more c.loop-k.into c.args.into.now c.loop-k.k c.in-Some.cell c.loop-k.invariant.others;
    }

pub returns-clause-read : goal.returns-clause-read
returns-clause-read c =
    have_up_to One c.args.bytes.now c.loop-k.into c.loop-k.k c.min-count.result (omega (arith, c.loop-k-test.false, c.loop-k.auto.k-end)) c.loop-k.invariant.read

pub returns-clause-stop : goal.returns-clause-stop
returns-clause-stop c below =
    short_part One c.args.bytes.now c.min-count.result (omega (arith, c.min-count.ensures, below))
