use Rattle.std.proofs.Common.{◌≡◌, drop}
use Rattle.std.specs.Prelude.{find}
use Rattle.oe_routes.specs.Tokens.{has_token}
use Rattle.oe_routes.proofs.user.user_with.Given as goal

abbrev pub invariant-loop-entry : goal.invariant-loop-entry
invariant-loop-entry l = find (has_token l.token) l.entries ≡ find (has_token l.token) (drop l.entry-index l.entries)
