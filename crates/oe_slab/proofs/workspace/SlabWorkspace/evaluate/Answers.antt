use Rattle.oe_slab.proofs.workspace.SlabWorkspace.evaluate.Goals as goal

pub evaluate_behind-requires-clause-plane : goal.evaluate_behind-requires-clause-plane
evaluate_behind-requires-clause-plane g c = (c.args.chunk.now, c.in_ok-plane.ensures.plane)

pub evaluate_behind-requires-clause-kind : goal.evaluate_behind-requires-clause-kind
evaluate_behind-requires-clause-kind g c = c.in_ok-plane.ensures.folded.kind

pub returns-clause-result : goal.returns-clause-result
returns-clause-result g c = c.evaluate_behind.ensures.result c.args.chunk.now c.in_ok-plane.ensures.plane.windows_are

pub returns-clause-value : goal.returns-clause-value
returns-clause-value g c = λ collections of shows.
    c.evaluate_behind.ensures.value collections of (c.in_ok-plane.ensures.folded.seen collections of shows) c.args.chunk.now
    c.in_ok-plane.ensures.plane.windows_are
