use Rattle.std.proofs.Common.{◌≡◌, drop}
use Rattle.oe_graph.specs.Plain.{plain_args, plain_named}
use Rattle.oe_resolve.specs.NameFaults.{see_each, see_named}
use Rattle.oe_calls.specs.PlainValues.{names_behind}
use Rattle.oe_resolve.proofs.faults_of_names.+sees.Given as goal

abbrev pub invariant-sees_named-loop-member : goal.invariant-sees_named-loop-member
invariant-sees_named-loop-member l =
    see_named (names_behind l.scope) (plain_named l.member-items)
    ≡ see_named (names_behind l.scope) (plain_named (drop l.member-index l.member-items))

abbrev pub invariant-sees_args-loop-item : goal.invariant-sees_args-loop-item
invariant-sees_args-loop-item l =
    see_each (names_behind l.scope) (plain_args l.item-items)
    ≡ see_each (names_behind l.scope) (plain_args (drop l.item-index l.item-items))
