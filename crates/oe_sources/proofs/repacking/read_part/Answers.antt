use Rattle.oe_sources.proofs.RepackLemmas.{damage_told}
use Rattle.oe_sources.proofs.repacking.read_part.Goals as goal

pub returns-in-Err-Damaged-clause-damage : goal.returns-in-Err-Damaged-clause-damage
returns-in-Err-Damaged-clause-damage g c =
    damage_told _ c.args.window.now c.in-Err-Damaged.number c.requires.inside (rw c.in-Err-Damaged.field-0-is at c.in-Err-Damaged.ensures.read.read.damage)
