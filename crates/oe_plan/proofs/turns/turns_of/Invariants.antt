use Rattle.std.proofs.Common.{◌≡◌, map}
use Rattle.oe_plan.specs.Turns.{in_order_of, turn_name}
use Rattle.oe_plan.proofs.turns.turns_of.Given as goal

-- the nodes so far, and their names
abbrev pub invariant-loop-node : goal.invariant-loop-node
invariant-loop-node l =
    (l.turns.items ≡ in_order_of (turn_name l.checked) l.node) × (l.names.items ≡ map (turn_name l.checked) l.turns.items)
