use Rattle.oe_engine.proofs.WorkspaceLemmas.{AreSome}
use Rattle.oe_engine.proofs.workspace.Workspace.from_places.Given as goal

abbrev pub invariant-loop : goal.invariant-loop
invariant-loop l = AreSome l.plan l.benches.items l.places.items l.counter l.cells
