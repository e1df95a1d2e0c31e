use Rattle.std.proofs.Common.{◌≡◌, map, drop}
use Rattle.oe_graph.specs.Plain.{plain_named, plain_parameter}
use Rattle.oe_resolve.specs.Defaults.{put_defaults}
use Rattle.oe_resolve.proofs.defaults.put_defaults.Given as goal

abbrev pub invariant-loop-parameter : goal.invariant-loop-parameter
invariant-loop-parameter l =
    put_defaults (map plain_parameter l.parameters.items) (plain_named l.fn.arguments.items)
    ≡ put_defaults (map plain_parameter (drop l.parameter-index l.parameter-items)) (plain_named l.arguments.items)
