use Rattle.std.proofs.Common.{◌≡◌, [], drop, take, true, map}
use Rattle.oe_routes.specs.Table.{go_in, numbered, route_of}
use Rattle.oe_routes.proofs.table.router_of.Given as goal

abbrev pub invariant-loop-entry : goal.invariant-loop-entry
invariant-loop-entry l = record {
  number : l.number ≡ l.entry-index;
  router : l.router ≡ numbered 0 (map route_of (take l.entry-index l.entries)) [];
  fits : go_in l.number (map route_of (drop l.entry-index l.entries)) l.router ≡ true;
}
