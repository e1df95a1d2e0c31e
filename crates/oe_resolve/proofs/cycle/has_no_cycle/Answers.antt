use Rattle.std.proofs.Common.{◌≡◌, ◌<◌, ℕ, List, true, refl, arith}
use Rattle.oe_order.specs.Graph.{Node, Reaches, arguments, onwards, refers}
use Rattle.oe_order.specs.Order.{contains}
use Rattle.oe_order.proofs.Lists.{contains-from}
use Rattle.oe_resolve.proofs.cycle.has_no_cycle.Goals as goal

-- what a node reaches has a lesser index
falls : {nodes : List Node} {a b : ℕ} → ((n m : ℕ) → contains (arguments nodes n) m ≡ true → m < n) → Reaches nodes a b → b < a
falls {nodes} {a} {b} down (refers h) = down a b (contains-from (arguments nodes a) b h)
falls {nodes} {a} {b = c} down (onwards {b = m} h r) =
    let one : m < a = down a m (contains-from (arguments nodes a) m h) in
    let two : c < m = falls down r in
    omega arith

pub returns-then-lead_down : goal.returns-then-lead_down
returns-then-lead_down c = (
  λ t n r. (let less : n < n = falls (c.lead_down.ensures.0 c.if-lead_down.true) r in omega arith),
  λ acyclic. refl,
)
