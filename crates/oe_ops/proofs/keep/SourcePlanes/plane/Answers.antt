use Rattle.oe_ops.proofs.keep.SourcePlanes.plane.Goals as goal

pub plane_indices-requires-clause-inside : goal.plane_indices-requires-clause-inside
plane_indices-requires-clause-inside c = λ p h. (c.requires.serves p h).2

pub fill-requires-clause-serves : goal.fill-requires-clause-serves
fill-requires-clause-serves c = λ p h.
    let all = c.requires.serves p h in
    let found = c.plane_indices.ensures in
    (all.0, found.valid, all.1, all.2, found.value p h, all.3)
