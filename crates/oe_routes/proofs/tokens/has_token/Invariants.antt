use Rattle.std.proofs.Common.{◌≡◌, drop}
use Rattle.std.specs.List.{list_any}
use Rattle.oe_routes.specs.Tokens.{has_token}
use Rattle.oe_routes.proofs.tokens.has_token.Given as goal

abbrev pub invariant-loop-entry : goal.invariant-loop-entry
invariant-loop-entry l = list_any (has_token l.token) l.entries ≡ list_any (has_token l.token) (drop l.entry-index l.entries)
