use Rattle.std.proofs.Common.{◌≡◌, ◌≤◌, ◌<◌, ◌/◌, min, length, take, arith}
use Rattle.oe_cell.proofs.ListLemmas.{read-more, cells-more, others-more, stop-at_end, reading-complete}
use Rattle.oe_cell.proofs.records.read_records.Goals as goal

pub loop-k-preserved : goal.loop-k-preserved
loop-k-preserved c =
    let within : c.loop-k.k < length c.loop-k.into = omega (arith, c.loop-k-test.true, c.min-count.ensures, c.loop-k.auto.into) in
    record {
      read = read-more c.args.bytes.now c.loop-k.into c.loop-k.k c.in-Some.cell within c.loop-k.invariant.read c.in-Some.ensures.«record».1;
      cells = cells-more c.loop-k.into c.loop-k.k c.in-Some.cell within c.loop-k.invariant.cells c.in-Some.ensures.«record».0;
      others = others-more c.loop-k.into c.args.into.now c.loop-k.k c.in-Some.cell c.loop-k.invariant.others;
    }

pub returns-in-None-clause-round_trip : goal.returns-in-None-clause-round_trip
returns-in-None-clause-round_trip c cells all room given =
    let within : c.loop-k.k ≤ length c.loop-k.into = omega (arith, c.loop-k-test.true, c.min-count.ensures, c.loop-k.auto.into) in
    let same : length c.loop-k.into ≡ length c.args.into.now = c.loop-k.auto.into in
    reading-complete c.args.bytes.now c.loop-k.into cells c.loop-k.k within c.loop-k.invariant.read c.loop-k.invariant.cells (λ below. c.in-None.ensures.none) all (omega (arith, room, same)) given

pub returns-clause-stop : goal.returns-clause-stop
returns-clause-stop c below = stop-at_end c.args.bytes.now (length c.args.into.now) c.min-count.result c.min-count.ensures below

pub returns-clause-round_trip : goal.returns-clause-round_trip
returns-clause-round_trip c cells all room given =
    let within : c.loop-k.k ≤ length c.loop-k.into = omega (arith, c.loop-k.auto.k-end, c.min-count.ensures, c.loop-k.auto.into) in
    let same : length c.loop-k.into ≡ length c.args.into.now = c.loop-k.auto.into in
    let count : c.loop-k.k ≡ min (length c.args.bytes.now / 17) (length c.args.into.now) = omega (arith, c.min-count.ensures, c.loop-k-test.false, c.loop-k.auto.k-end) in
    let both : (length cells ≤ c.loop-k.k) × (take (length cells) c.loop-k.into ≡ cells) = reading-complete c.args.bytes.now c.loop-k.into cells c.loop-k.k within c.loop-k.invariant.read c.loop-k.invariant.cells (λ below. stop-at_end c.args.bytes.now (length c.args.into.now) c.loop-k.k count (omega (arith, below, same))) all (omega (arith, room, same)) given in
    (omega (arith, both.0, c.loop-k.auto.k-end), both.1)
