use Rattle.std.proofs.Common.{◌≤◌, subst}
use Rattle.oe_outside.specs.Faults.{last_count}
use Rattle.oe_keeper.specs.Memory.{Memory}
use Rattle.oe_keeper.proofs.Memories.{refused-cause}
use Rattle.oe_keeper.proofs.memory.MemoryKeeperKeeper.commit.Goals as goal

pub returns-then-fails_next-clause-cause : goal.returns-then-fails_next-clause-cause
returns-then-fails_next-clause-cause c =
    let fits : c.args.self.now.script.faults ≤ last_count =
    subst (λ (m : Memory). m.script.faults ≤ last_count) c.self.view_is c.self.invariant.faults in
    refused-cause c.fail.result c.args.self.now.script c.fail.new.self.script fits c.fail.ensures.script
