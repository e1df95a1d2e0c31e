use Rattle.std.proofs.Common.{◌≡◌, map, take}
use Rattle.oe_database.specs.Each.{plain_statement}
use Rattle.oe_database.specs.Statements.{puts_entry}
use Rattle.oe_database.proofs.tables.put_entries.Given as goal

abbrev pub invariant-loop-entry : goal.invariant-loop-entry
invariant-loop-entry l = map plain_statement l.statements.items ≡ map (λ e. puts_entry e.0 e.1) (take l.entry-index l.entries)
