use Rattle.std.proofs.Common.{ap, ◌∙◌}
use Rattle.oe_jobs.specs.declared.keeper.KeeperFail.TheVariants as fail
use Rattle.oe_keeper.specs.Scripts.{after_call}
use Rattle.oe_keeper.proofs.Memories.{IsMemory-after, refused-cause}
use Rattle.oe_keeper.proofs.memory.MemoryKeeperKeeper.load.Goals as goal

pub invariant_of-self : goal.invariant_of-self
invariant_of-self c = rw c.count_call.ensures (IsMemory-after _ _ _ _ c.self.invariant)

pub returns-then-fails-clause-cause : goal.returns-then-fails-clause-cause
returns-then-fails-clause-cause c =
    rw (← c.self.view_is) (refused-cause fail.Failed c.self.inside.script c.count_call.new.self c.self.invariant.faults
    (c.count_call.ensures ∙ ap (after_call c.self.inside.script) c.if-fails.true))
