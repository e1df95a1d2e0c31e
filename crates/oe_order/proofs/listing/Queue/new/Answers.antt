use Rattle.std.proofs.Common.{arith, rules}
use Rattle.oe_order.proofs.Queues.{IsQueue-none}
use Rattle.oe_order.proofs.listing.Queue.new.Goals as goal

pub returns-clause-queue : goal.returns-clause-queue
returns-clause-queue c = λ nodes e.
    IsQueue-none nodes c.args.members.items c.in_ok-vec.field-0.items c.in_ok-with_capacity.field-0.items c.in_ok-vec-2.field-0.items c.in_ok-vec-3.field-0.items c.in_ok-vec-4.field-0.items _ (c.len-count.result)
    (omega (arith, e, c.len-count.ensures, c.args.members.ok.0)) (omega (arith, c.len-count.ensures, c.args.members.ok.0)) (c.in_ok-vec.ensures.items_if_clones_equal (λ y h. search rules)) c.in_ok-with_capacity.ensures.items (c.in_ok-vec-2.ensures.items_if_clones_equal (λ y h. search rules)) (omega (arith, c.in_ok-vec-3.ensures.len, c.in_ok-vec-3.field-0.ok.0)) (c.in_ok-vec-4.ensures.items_if_clones_equal (λ y h. search rules)) c.in_ok-with_capacity-2.ensures.items c.in_ok-with_capacity-2.ensures.heap_order
