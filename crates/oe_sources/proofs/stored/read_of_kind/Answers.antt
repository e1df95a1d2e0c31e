use Rattle.std.proofs.Common.{◌≤◌, length, arith}
use Rattle.std.proofs.lemmas.List.{length-take-le}
use Rattle.oe_sources.proofs.StoredLemmas.{row_stored, row_stop}
use Rattle.oe_sources.proofs.stored.read_of_kind.Goals as goal

room : (c : goal.After-count_of_kind) → c.read_row-count.result ≤ length c.read_row-count.new.into
room c = omega (arith, c.read_row-count.ensures.room, c.read_row-count.auto.into)

within : (c : goal.After-count_of_kind) → c.count_of_kind.result ≤ c.read_row-count.result
within c =
    omega (arith, c.count_of_kind.ensures.within, length-take-le c.read_row-count.result c.read_row-count.new.into (room c))

pub returns-clause-read : goal.returns-clause-read
returns-clause-read c =
    row_stored c.args.kind c.args.width c.args.bytes.now c.read_row-count.new.into c.read_row-count.result c.count_of_kind.result (room c) (within c) c.read_row-count.ensures.read c.count_of_kind.ensures.before

pub returns-clause-stop : goal.returns-clause-stop
returns-clause-stop c below =
    row_stop c.args.kind c.args.width c.args.bytes.now c.read_row-count.new.into c.read_row-count.result c.count_of_kind.result (room c) (within c) c.read_row-count.ensures.read c.count_of_kind.ensures.first
    (λ h. c.read_row-count.ensures.stop (omega (arith, h, c.read_row-count.auto.into))) (omega (arith, below, c.read_row-count.auto.into))
