use Rattle.std.proofs.Common.{◌≡◌, ◌*◌, ◌≤◌, ℕ, Some, length, take, subst, arith}
use Rattle.std.proofs.lemmas.Nat.{div-add-mod'}
use Rattle.oe_cell.proofs.ListLemmas.{stop-at_end}
use Rattle.oe_parts.specs.Rows.{AreRecords}
use Rattle.oe_parts.proofs.JudgeLemmas.{judged_behind}
use Rattle.oe_parts.proofs.read.judge_rest.Goals as goal

pub loop-index-init : goal.loop-index-init
loop-index-init c = c.requires.cells

pub loop-index-preserved : goal.loop-index-preserved
loop-index-preserved c =
    judged_behind c.args.bytes.now c.loop-index.index c.args.over c.in-Some._cell c.loop-index.invariant c.in-Some.ensures.cell.0 c.in-Some.ensures.cell.1

pub returns-then-whole-count-clause-none : goal.returns-then-whole-count-clause-none
returns-then-whole-count-clause-none c =
    let below = c.if-whole-count.true in
    (below, stop-at_end c.args.bytes.now c.args.count c.min-whole.result c.min-whole.ensures below)

pub returns-else-whole-count-clause-cells : goal.returns-else-whole-count-clause-cells
returns-else-whole-count-clause-cells c =
    let bytes = c.args.bytes.now in
    let begun = div-add-mod' (length bytes) 17 in
    let all : c.loop-index.index ≡ c.args.count = omega (arith, c.if-whole-count.false, c.loop-index-test.false, c.loop-index.auto.index, c.loop-index.auto.index-end, c.min-whole.ensures, c.requires.room, c.requires.within, begun) in
    let room : 17 * c.args.count ≤ length bytes = omega (arith, c.if-whole-count.false, c.min-whole.ensures, begun) in
    (room, subst (λ (n : ℕ). AreRecords n (take (17 * n) bytes) (Some c.args.over)) all c.loop-index.invariant)
