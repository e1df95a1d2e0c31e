use Rattle.std.proofs.Common.{◌≡◌, map, take}
use Rattle.oe_graph.specs.Plain.{plain_arg, plain_pair}
use Rattle.oe_calls.specs.Renamed.{dangling, renamed}
use Rattle.oe_calls.proofs.Each.{member_by}
use Rattle.oe_calls.proofs.values.+dangling.Given as goal

abbrev pub invariant-dangling_args-loop-item : goal.invariant-dangling_args-loop-item
invariant-dangling_args-loop-item l =
    map plain_arg l.copy.items ≡ map (λ a. renamed dangling (plain_arg a)) (take l.item-index l.item-items)

abbrev pub invariant-dangling_named-loop-member : goal.invariant-dangling_named-loop-member
invariant-dangling_named-loop-member l =
    map plain_pair l.copy.items ≡ map (member_by (renamed dangling)) (take l.member-index l.member-items)
