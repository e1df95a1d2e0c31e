use Rattle.std.proofs.Common.{◌≡◌, List, ◌++◌, take, map}
use Rattle.serde_json.specs.View.{view}
use Rattle.serde_json.proofs.Views.{Entry}
use Rattle.oe_graph.specs.Plain.{plain_arg, plain_pair}
use Rattle.oe_graph.specs.Built.{value_of}
use Rattle.oe_graph.proofs.Views.{entry_pair}
use Rattle.oe_graph.proofs.build.+values.Given as goal

abbrev pub invariant-build_items-loop-item : goal.invariant-build_items-loop-item
invariant-build_items-loop-item l =
    map plain_arg l.built.items ≡ map (λ v. value_of l.plain (view v)) (take l.item-index l.item-items)

abbrev pub invariant-build_members-loop-key : goal.invariant-build_members-loop-key
invariant-build_members-loop-key l =
    (done : List Entry) × (l.members.entries ≡ done ++ l.key-iterator)
    × (map plain_pair l.built.items ≡ map (entry_pair (λ v. value_of l.plain (view v))) done)
