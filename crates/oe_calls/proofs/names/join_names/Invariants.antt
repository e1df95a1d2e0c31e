use Rattle.std.proofs.Common.{◌≡◌, ◌++◌, take}
use Rattle.oe_calls.proofs.names.join_names.Given as goal

abbrev pub invariant-loop-name : goal.invariant-loop-name
invariant-loop-name l = l.both.items ≡ take l.name-index l.names

abbrev pub invariant-loop-name-2 : goal.invariant-loop-name-2
invariant-loop-name-2 l = l.both.items ≡ l.names ++ take l.name-index l.others
