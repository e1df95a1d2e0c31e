use Rattle.oe_ops.proofs.merge.MergedPlanesPlanes.plane.Goals as goal

pub plane_indices-requires-clause-inside : goal.plane_indices-requires-clause-inside
plane_indices-requires-clause-inside c = λ p h. (c.requires.serves p h).7

pub plane_indices-requires-2-clause-inside : goal.plane_indices-requires-2-clause-inside
plane_indices-requires-2-clause-inside c = λ p h. (c.requires.serves p h).7

pub fill-requires-clause-serves : goal.fill-requires-clause-serves
fill-requires-clause-serves c = λ p h.
    let all = c.requires.serves p h in
    let found = c.plane_indices.ensures in
    let other = c.plane_indices-2.ensures in
    (all.0, all.1, found.valid, all.2, all.3, all.4, all.5, all.6, all.7, found.value p h, other.value p h, all.8, all.9)
