use Rattle.std.proofs.Common.{◌≡◌, ◌*◌, ◌≤◌, ℕ, None, length, take, sym, ◌∙◌, subst, arith}
use Rattle.std.proofs.lemmas.Nat.{div-add-mod'}
use Rattle.oe_cell.proofs.ListLemmas.{stop-at_end}
use Rattle.oe_parts.specs.Rows.{AreRecords}
use Rattle.oe_parts.proofs.JudgeLemmas.{judged_none, judged_over, judged_plain}
use Rattle.oe_parts.proofs.read.judge.Goals as goal

pub loop-index-init : goal.loop-index-init
loop-index-init c = judged_none c.args.bytes.now

pub judge_rest-requires-clause-room : goal.judge_rest-requires-clause-room
judge_rest-requires-clause-room c =
    omega (arith, c.loop-index-test.true, c.min-whole.ensures, div-add-mod' (length c.args.bytes.now) 17)

pub judge_rest-requires-clause-within : goal.judge_rest-requires-clause-within
judge_rest-requires-clause-within c = omega (arith, c.loop-index-test.true, c.min-whole.ensures)

pub judge_rest-requires-clause-cells : goal.judge_rest-requires-clause-cells
judge_rest-requires-clause-cells c =
    judged_over c.args.bytes.now c.loop-index.index c.in-Some.cell c.loop-index.invariant c.in-Some.ensures.cell.0 c.in-Some.ensures.cell.1 (sym c.is_over.ensures ∙ c.if-is_over.true)

pub loop-index-preserved : goal.loop-index-preserved
loop-index-preserved c =
    judged_plain c.args.bytes.now c.loop-index.index c.in-Some.cell c.loop-index.invariant c.in-Some.ensures.cell.0 c.in-Some.ensures.cell.1 (sym c.is_over.ensures ∙ c.if-is_over.false)

pub returns-then-whole-count-clause-none : goal.returns-then-whole-count-clause-none
returns-then-whole-count-clause-none c =
    let below = c.if-whole-count.true in
    (below, stop-at_end c.args.bytes.now c.args.count c.min-whole.result c.min-whole.ensures below)

pub returns-else-whole-count-clause-cells : goal.returns-else-whole-count-clause-cells
returns-else-whole-count-clause-cells c =
    let bytes = c.args.bytes.now in
    let all : c.loop-index.index ≡ c.args.count = omega (arith, c.if-whole-count.false, c.loop-index-test.false, c.loop-index.auto.index-end, c.min-whole.ensures) in
    let room : 17 * c.args.count ≤ length bytes = omega (arith, c.if-whole-count.false, c.min-whole.ensures, div-add-mod' (length bytes) 17) in
    (room, subst (λ (n : ℕ). AreRecords n (take (17 * n) bytes) None) all c.loop-index.invariant)
