use Rattle.std.proofs.Common.{◌≤◌, ◌++◌, length, pos, slice_index_or, arith, subst, sym, ap, ◌∙◌}
use Rattle.std.specs.Prelude.{All}
use Rattle.oe_translate.specs.Written.{IsWritable, intervals_from}
use Rattle.oe_translate.proofs.IntervalLemmas.{all_intervals, growing_is, growing_writable, one_interval_more}
use Rattle.oe_translate.proofs.written.growing_intervals.Goals as goal

pub loop-index-init : goal.loop-index-init
loop-index-init c =
    ap (λ xs. xs ++ intervals_from (slice_index_or c.args.labels.now 0 (pos 0)) c.args.labels.now) c.in_ok-intervals.ensures.items
    ∙ growing_is c.args.labels.now

pub loop-index-preserved : goal.loop-index-preserved
loop-index-preserved c =
    one_interval_more c.args.labels.now c.loop-index.index c.loop-index.intervals.items _ c.interval_up_to.result c.loop-index-test.true
    c.in_ok-push.ensures.items c.interval_up_to.ensures c.loop-index.invariant

pub returns-clause-value : goal.returns-clause-value
returns-clause-value c =
    let past : length c.args.labels.now ≤ c.loop-index.index = omega (arith, c.loop-index-test.false) in
    all_intervals c.args.labels.now c.loop-index.index c.loop-index.intervals.items past c.loop-index.invariant

pub returns-clause-writable : goal.returns-clause-writable
returns-clause-writable c =
    let past : length c.args.labels.now ≤ c.loop-index.index = omega (arith, c.loop-index-test.false) in
    subst (All IsWritable) (sym (all_intervals c.args.labels.now c.loop-index.index c.loop-index.intervals.items past c.loop-index.invariant))
    (growing_writable c.args.labels.now c.requires)
