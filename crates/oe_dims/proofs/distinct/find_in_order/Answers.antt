use Rattle.std.proofs.Common.{[], rules}
use Rattle.std.specs.List.{slice_index_or}
use Rattle.std.specs.Cmp.Lexicographic.{slice_cmp}
use Rattle.std.specs.Ordering.{nat_cmp}
use Rattle.std.proofs.lemmas.Fn.{always_returns_same}
use Rattle.oe_dims.proofs.BlockLemmas.{order_found, order_none}
use Rattle.oe_dims.proofs.distinct.find_in_order.Goals as goal

pub returns-in-Ok : goal.returns-in-Ok
returns-in-Ok c =
    let found = c.in-Ok.ensures.position (λ p. slice_cmp nat_cmp (slice_index_or c.args.names.now p []) c.args.name.now) (always_returns_same _ _ _ (λ a r f h. search rules)) in
    order_found c.args.name.now c.args.names.now c.args.order.now c.in-Ok.found c.requires.differ c.requires.order c.in-Ok.ensures.bound found

pub returns-in-Err : goal.returns-in-Err
returns-in-Err c =
    let parted = c.in-Err.ensures.position (λ p. slice_cmp nat_cmp (slice_index_or c.args.names.now p []) c.args.name.now) (always_returns_same _ _ _ (λ a r f h. search rules)) in
    order_none c.args.name.now c.args.names.now c.args.order.now c.in-Err.field-0 c.requires.order c.in-Err.ensures.bound parted
