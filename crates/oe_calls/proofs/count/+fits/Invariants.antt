use Rattle.std.proofs.Common.{◌≡◌, ℕ, map, drop}
use Rattle.oe_graph.specs.Plain.{plain_args, plain_named, plain_nodes, plain_stored}
use Rattle.oe_graph.specs.Tree.{PlainStored}
use Rattle.oe_calls.specs.NodeCounts.{fit_each, fit_named, fit_nodes}
use Rattle.oe_calls.proofs.count.+fits.Given as goal

abbrev pub invariant-fit_nodes-loop-node : goal.invariant-fit_nodes-loop-node
invariant-fit_nodes-loop-node l =
    (size : PlainStored → ℕ) → l.counts ≡ map size (map plain_stored l.stored)
    → fit_nodes (map plain_stored l.stored) size (plain_nodes l.node-items)
    ≡ fit_nodes (map plain_stored l.stored) size (plain_nodes (drop l.node-index l.node-items))

abbrev pub invariant-fit_named-loop-member : goal.invariant-fit_named-loop-member
invariant-fit_named-loop-member l =
    (size : PlainStored → ℕ) → l.counts ≡ map size (map plain_stored l.stored)
    → fit_named (map plain_stored l.stored) size (plain_named l.member-items)
    ≡ fit_named (map plain_stored l.stored) size (plain_named (drop l.member-index l.member-items))

abbrev pub invariant-fit_args-loop-item : goal.invariant-fit_args-loop-item
invariant-fit_args-loop-item l =
    (size : PlainStored → ℕ) → l.counts ≡ map size (map plain_stored l.stored)
    → fit_each (map plain_stored l.stored) size (plain_args l.item-items)
    ≡ fit_each (map plain_stored l.stored) size (plain_args (drop l.item-index l.item-items))
