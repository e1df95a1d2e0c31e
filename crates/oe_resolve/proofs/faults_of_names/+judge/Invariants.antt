use Rattle.std.proofs.Common.{map, take}
use Rattle.oe_graph.proofs.LeastLemmas.{OneOf}
use Rattle.oe_graph.specs.Plain.{plain_arg, plain_args, plain_named, plain_node, plain_nodes, plain_stored}
use Rattle.oe_graph.specs.References.{callbacks_each, callbacks_named}
use Rattle.oe_resolve.specs.NameFaults.{IdsRise, IdsRiseIn, OfArgument, OfNode}
use Rattle.oe_graph.specs.Faults.{IsLeastFault}
use Rattle.oe_calls.specs.PlainValues.{names_behind}
use Rattle.oe_resolve.proofs.faults_of_names.+judge.Given as goal

abbrev pub invariant-object_fault-loop-index : goal.invariant-object_fault-loop-index
invariant-object_fault-loop-index l =
    IdsRise (plain_nodes l.nodes.items) →
    IsLeastFault (OneOf (λ n. OfNode (map plain_stored l.judge.stored.now) l.judge.last l.name (names_behind l.scope)
    (plain_nodes l.nodes.items) (plain_node n)) (take l.index l.nodes.items)) l.fault

abbrev pub invariant-named_fault-loop-argument : goal.invariant-named_fault-loop-argument
invariant-named_fault-loop-argument l =
    IdsRiseIn (callbacks_named (plain_named l.argument-items)) →
    IsLeastFault (OneOf (λ m. OfArgument (map plain_stored l.judge.stored.now) l.judge.last l.node_name m.0 (names_behind l.scope)
    (plain_arg m.1)) (take l.argument-index l.argument-items)) l.fault

abbrev pub invariant-items_fault-loop-item : goal.invariant-items_fault-loop-item
invariant-items_fault-loop-item l =
    IdsRiseIn (callbacks_each (plain_args l.item-items)) →
    IsLeastFault (OneOf (λ a. OfArgument (map plain_stored l.judge.stored.now) l.judge.last l.node_name l.argument
    (names_behind l.scope) (plain_arg a)) (take l.item-index l.item-items)) l.fault

abbrev pub invariant-members_fault-loop-member : goal.invariant-members_fault-loop-member
invariant-members_fault-loop-member l =
    IdsRiseIn (callbacks_named (plain_named l.member-items)) →
    IsLeastFault (OneOf (λ m. OfArgument (map plain_stored l.judge.stored.now) l.judge.last l.node_name l.argument
    (names_behind l.scope) (plain_arg m.1)) (take l.member-index l.member-items)) l.fault
