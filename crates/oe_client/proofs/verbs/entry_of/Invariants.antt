use Rattle.std.proofs.Common.{◌≡◌, map, drop}
use Rattle.oe_client.specs.Verbs.{first_named, verb_of}
use Rattle.oe_client.proofs.verbs.entry_of.Given as goal

abbrev pub invariant-loop-entry : goal.invariant-loop-entry
invariant-loop-entry l =
    first_named l.word (map verb_of l.entries) ≡ first_named l.word (map verb_of (drop l.entry-index l.entries))
