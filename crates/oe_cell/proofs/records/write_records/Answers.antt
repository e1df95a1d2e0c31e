use Rattle.std.proofs.Common.{◌≡◌, ℕ, List, ap, ◌∙◌, take, drop, ◌*◌, length, rules}
use Rattle.oe_cell.specs.Record.{records_of}
use Rattle.oe_cell.proofs.ListLemmas.{records_of-at, written-all}
use Rattle.oe_cell.proofs.records.write_records.Goals as goal

pub returns-clause-each : goal.returns-clause-each
returns-clause-each c k h =
    let long : length c.loop-k.into ≡ 17 * length c.args.cells.now = search rules in
    let all : c.loop-k.into ≡ records_of c.args.cells.now = written-all c.loop-k.into c.args.cells.now c.loop-k.k long c.loop-k-test.false c.loop-k.invariant in
    ap (λ (bs : List ℕ). take 17 (drop (17 * k) bs)) all ∙ records_of-at c.args.cells.now k h
