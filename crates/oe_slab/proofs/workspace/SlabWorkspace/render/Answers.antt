use Rattle.std.proofs.Common.{arith}
use Rattle.std.proofs.lemmas.Grind.{common_steps}
use Rattle.oe_slab.proofs.workspace.SlabWorkspace.render.Goals as goal

pub returns-clause-rendered : goal.returns-clause-rendered
returns-clause-rendered g c = record {
  text = rw c.shape.ensures at c.render.ensures.text;
  prefix = rw c.shape.ensures at c.render.ensures.prefix;
  counted = rw c.shape.ensures at c.render.ensures.counted;
  counted_prefix = rw c.shape.ensures at c.render.ensures.counted_prefix;
}

pub returns-clause-room : goal.returns-clause-room
returns-clause-room g c = grind (arith, common_steps) steps 2000000
