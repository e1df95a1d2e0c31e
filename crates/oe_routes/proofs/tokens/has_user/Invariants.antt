use Rattle.std.proofs.Common.{◌≡◌, drop}
use Rattle.std.specs.List.{list_any}
use Rattle.oe_routes.specs.Tokens.{has_user}
use Rattle.oe_routes.proofs.tokens.has_user.Given as goal

abbrev pub invariant-loop-entry : goal.invariant-loop-entry
invariant-loop-entry l = list_any (has_user l.user) l.entries ≡ list_any (has_user l.user) (drop l.entry-index l.entries)
