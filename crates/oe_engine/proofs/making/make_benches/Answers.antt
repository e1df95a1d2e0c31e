use Rattle.std.proofs.Common.{◌≡◌, ◌<◌, ◌∙◌, length, sym, ap, subst, arith}
use Rattle.std.specs.List.{All}
use Rattle.oe_steps.proofs.BufferLemmas.{with_items_is}
use Rattle.oe_engine.specs.Workspaces.{IsPlaceFor}
use Rattle.oe_engine.proofs.making.make_benches.Goals as goal

pub returns-clause-many : goal.returns-clause-many
returns-clause-many g c =
    let made = c.make_all.new.places in
    let before = c.resize_with.new.self in
    let long : length made ≡ length before.items = c.make_all.ensures.many ∙ ap length c.deref_mut.ensures.value in
    let many : length before.items ≡ c.args.count = omega (arith, c.in_ok-resize_with.ensures.len, before.ok.0) in
    ap length (with_items_is before made long) ∙ (long ∙ many)

pub returns-clause-made : goal.returns-clause-made
returns-clause-made g c =
    let made = c.make_all.new.places in
    let before = c.resize_with.new.self in
    let long : length made ≡ length before.items = c.make_all.ensures.many ∙ ap length c.deref_mut.ensures.value in
    let many = c.make_all.ensures.many in
    subst (All (IsPlaceFor c.args.plan.now)) (sym (with_items_is before made long))
    (λ k d lt. c.make_all.ensures.made k d (omega (arith, many, lt)))
