use Rattle.std.proofs.Common.{ap, ◌<◌, arith}
use Rattle.oe_parts.specs.Head.{PartHead}
use Rattle.oe_parts.proofs.WholeLemmas.{meets}
use Rattle.oe_parts.proofs.whole.meet.Goals as goal

pub returns-then-a-b : goal.returns-then-a-b
returns-then-a-b c =
    let a = c.args.a.now in
    let b = c.args.b.now in
    let first_a = ap (λ (h : PartHead). h.first) c.a.view_is in
    let end_a = ap (λ (h : PartHead). h.end) c.a.view_is in
    let first_b = ap (λ (h : PartHead). h.first) c.b.view_is in
    let end_b = ap (λ (h : PartHead). h.end) c.b.view_is in
    let before : a.first < b.end = omega (arith, c.if-a-b.true, first_a, end_b) in
    meets a b c.a.inside.end c.b.inside.first end_a first_b c.requires.first c.requires.second before
