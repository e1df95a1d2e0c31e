use Rattle.std.proofs.Common.{◌≡◌, ◌+◌, List, length, map, replicate, ap, ◌∙◌, sym, rules, arith}
use Rattle.std.proofs.lemmas.List.{length-map}
use Rattle.oe_graph.specs.Plain.{plain_stored}
use Rattle.oe_calls.specs.NodeCounts.{size_by}
use Rattle.oe_calls.proofs.CountLemmas.{first_sizes, next_sizes}
use Rattle.oe_calls.proofs.count.counts.Goals as goal

pub loop-round-init : goal.loop-round-init
loop-round-init c =
    let stored = map plain_stored c.args.stored.now in
    let is : c.in_ok-counts.counts.items ≡ replicate (length c.args.stored.now) 1 = c.in_ok-counts.ensures.items_if_clones_equal (λ y h. search rules) in
    let same : length stored ≡ length c.args.stored.now = length-map c.args.stored.now plain_stored in
    let many : length c.args.stored.now ≡ length stored = omega arith in
    (omega (arith, c.in_ok-counts.ensures.len), first_sizes stored c.in_ok-counts.counts.items (length c.args.stored.now) many is)

pub loop-round-preserved : goal.loop-round-preserved
loop-round-preserved c =
    let stored = map plain_stored c.args.stored.now in
    let size = size_by stored c.loop-round._round in (
      c.in_ok-counts-2.ensures.len,
      c.in_ok-counts-2.ensures.sizes size (c.as_slice.ensures.value ∙ c.loop-round.invariant.1) ∙ next_sizes stored c.loop-round._round,
    )
