use Rattle.std.proofs.Common.{◌≡◌, map, take}
use Rattle.serde_json.specs.View.{view}
use Rattle.oe_replies.specs.Bodies.{endpoint_data, plain_endpoint}
use Rattle.oe_replies.proofs.root.endpoint_values.Given as goal

abbrev pub invariant-loop-endpoint : goal.invariant-loop-endpoint
invariant-loop-endpoint l =
    map view l.values.items ≡ map endpoint_data (map plain_endpoint (take l.endpoint-index l.endpoints))
