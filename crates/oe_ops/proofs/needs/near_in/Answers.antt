use Rattle.std.proofs.Common.{◌≡◌, ◌+◌, ◌-◌, Bool, false, arith, subst, sym}
use Rattle.std.specs.Prelude.{min}
use Rattle.oe_window.specs.Windows.{span_below}
use Rattle.oe_ops.specs.Spans.{IsReached, IsSpanOf}
use Rattle.oe_ops.proofs.SpanLemmas.{span_near, span_whole}
use Rattle.oe_ops.proofs.needs.near_in.Goals as goal

pub returns-then-whole : goal.returns-then-whole
returns-then-whole c =
    subst (λ (b : Bool). IsSpanOf (IsReached b c.args.reach c.args.side) c.args.span (span_below c.args.side)) (sym c.if-whole.true)
    (span_whole c.args.reach c.args.side c.args.span c.requires.some c.requires.within)

pub returns-else-whole : goal.returns-else-whole
returns-else-whole c =
    let from_is : c.saturating_sub.result ≡ c.args.span.from - c.args.reach = omega arith in
    let to_is : c.min.result ≡ min c.args.side (c.args.span.to + c.args.reach) = omega arith in
    let found : IsSpanOf (IsReached false c.args.reach c.args.side) c.args.span (record { from = c.saturating_sub.result; to = c.min.result }) = rw (from_is, to_is) (span_near c.args.reach c.args.side c.args.span c.requires.some c.requires.within) in
    subst (λ (b : Bool). IsSpanOf (IsReached b c.args.reach c.args.side) c.args.span (record { from = c.saturating_sub.result; to = c.min.result })) (sym c.if-whole.false) found
