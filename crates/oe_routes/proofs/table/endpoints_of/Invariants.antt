use Rattle.std.proofs.Common.{◌≡◌, map, take}
use Rattle.oe_replies.specs.Bodies.{plain_endpoint}
use Rattle.oe_routes.specs.Table.{endpoint_of, route_of}
use Rattle.oe_routes.proofs.table.endpoints_of.Given as goal

abbrev pub invariant-loop-route : goal.invariant-loop-route
invariant-loop-route l =
    map plain_endpoint l.endpoints.items ≡ map endpoint_of (map route_of (take l.route-index l.routes))
