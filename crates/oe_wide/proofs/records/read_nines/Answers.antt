use Rattle.std.proofs.Common.{◌≡◌, ℕ, ◌*◌, ◌/◌, ◌<◌, ◌≤◌, min, length, arith}
use Rattle.oe_cell.proofs.ListLemmas.{others-more}
use Rattle.oe_wide.proofs.RowLemmas.{have_more, have_up_to, others_up_to, short_part}
use Rattle.oe_wide.specs.declared.width.Width.TheVariants.{Nine}
use Rattle.oe_wide.proofs.records.read_nines.Goals as goal

pub loop-k-init : goal.loop-k-init
loop-k-init c = record { read = c.read_numbers-first.ensures.read; others = c.read_numbers-first.ensures.others }

pub loop-k-preserved : goal.loop-k-preserved
loop-k-preserved c =
    let within : c.loop-k.k < length c.loop-k.into = omega (arith, c.loop-k-test.true, c.min-count.ensures, c.loop-k.auto.into, c.read_numbers-first.auto.into) in
    record {
      read = have_more Nine c.args.bytes.now c.loop-k.into c.loop-k.k c.in-Some.cell within c.loop-k.invariant.read c.in-Some.ensures.found;
      others = others-more c.loop-k.into c.args.into.now c.loop-k.k c.in-Some.cell c.loop-k.invariant.others;
    }

-- a loop from an index among the whole records on ends behind the last of them
all_read : (first count k bytes room : ℕ) → count ≡ min (bytes / 9) room → first ≤ room → 9 * first ≤ bytes → (first ≤ count → k ≤ count) → count ≤ k → count ≡ k
all_read first count k bytes room count_is in_room in_bytes end past =
    let enough : first ≤ count = omega (arith, count_is, in_room, in_bytes) in
    let last : k ≤ count = end enough in
    omega (arith, last, past)

pub returns-clause-read : goal.returns-clause-read
returns-clause-read c =
    have_up_to Nine c.args.bytes.now c.loop-k.into c.loop-k.k c.min-count.result (all_read c.read_numbers-first.result c.min-count.result c.loop-k.k (length c.args.bytes.now) (length c.args.into.now) c.min-count.ensures c.read_numbers-first.ensures.room c.read_numbers-first.ensures.within c.loop-k.auto.k-end c.loop-k-test.false) c.loop-k.invariant.read

pub returns-clause-others : goal.returns-clause-others
returns-clause-others c =
    others_up_to c.loop-k.into c.args.into.now c.loop-k.k c.min-count.result (all_read c.read_numbers-first.result c.min-count.result c.loop-k.k (length c.args.bytes.now) (length c.args.into.now) c.min-count.ensures c.read_numbers-first.ensures.room c.read_numbers-first.ensures.within c.loop-k.auto.k-end c.loop-k-test.false) c.loop-k.invariant.others

pub returns-clause-stop : goal.returns-clause-stop
returns-clause-stop c below =
    short_part Nine c.args.bytes.now c.min-count.result (omega (arith, c.min-count.ensures, below))
