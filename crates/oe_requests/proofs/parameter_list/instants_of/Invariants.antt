use Rattle.std.proofs.Common.{◌≡◌}
use Rattle.oe_graph.specs.Plain.{plain_args}
use Rattle.oe_requests.specs.Parameters as spec
use Rattle.oe_requests.proofs.ReadingLemmas.{each_from}
use Rattle.oe_requests.proofs.parameter_list.instants_of.Given as goal

abbrev pub invariant-loop-arg : goal.invariant-loop-arg
invariant-loop-arg l =
    spec.each_in spec.instant_in (plain_args l.arg-items) ≡ each_from spec.instant_in l.instants.items l.arg-items l.arg-index
