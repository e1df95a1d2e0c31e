use Rattle.std.proofs.Common.{◌≡◌, map, take}
use Rattle.oe_graph.specs.Plain.{plain_pair}
use Rattle.oe_translate.proofs.rewrite.copy_arguments.Given as goal

abbrev pub invariant-loop-argument : goal.invariant-loop-argument
invariant-loop-argument l = map plain_pair l.copy.items ≡ map plain_pair (take l.argument-index l.argument-items)
