use Rattle.std.proofs.Common.{◌<◌, true, false, length, sym, ◌∙◌, arith}
use Rattle.std.proofs.lemmas.List.{get_or-set_other, get_or-set_same}
use Rattle.oe_order.specs.Graph.{graph_of}
use Rattle.oe_order.proofs.Pools.{marked_within}
use Rattle.oe_order.proofs.Queues.{IsQueue-append}
use Rattle.oe_order.proofs.listing.Queue.append.Goals as goal

pub release-requires-clause-releasing : goal.release-requires-clause-releasing
release-requires-clause-releasing c =
    let x = c.args.node in
    let next = c.requires.next in
    let queue = c.args.self.now in
    let member : x < length queue.members.items = marked_within queue.members.items x next.member in
    record {
      stands = get_or-set_same queue.standing.items x true false (omega (arith, member, next.others.members_len, next.others.standing_len));
      wanted = IsQueue-append (graph_of c.args.nodes.now) _ _ _ _ _ _ _ x _ next.others next.member next.comes next.arguments_stand
          (omega (arith, member, next.others.members_len)) c.in_ok-push.ensures.items;
      released = λ a ne e. next.released a (sym (get_or-set_other queue.standing.items x a true false ne) ∙ e);
    }
