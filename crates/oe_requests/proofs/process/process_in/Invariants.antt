use Rattle.std.proofs.Common.{◌≡◌, map, drop}
use Rattle.oe_requests.specs.Requests.{process_among}
use Rattle.oe_requests.proofs.process.process_in.Given as goal

abbrev pub invariant-loop-entry : goal.invariant-loop-entry
invariant-loop-entry l =
    process_among l.id (map (λ e. (e.0.now, e.1)) l.entries)
    ≡ process_among l.id (map (λ e. (e.0.now, e.1)) (drop l.entry-index l.entries))
