use Rattle.std.proofs.Common.{sym, subst}
use Rattle.oe_jobs.specs.Changes.{changed}
use Rattle.oe_jobs.specs.Plain.{plain_book, plain_change}
use Rattle.oe_jobs.specs.Valid.{IsBook}
use Rattle.oe_keeper.specs.Memory.{Memory}
use Rattle.oe_keeper.proofs.Memories.{IsMemory-after, IsMemory-second}
use Rattle.oe_keeper.proofs.memory.MemoryKeeper.fail.Goals as goal
use Rattle.oe_keeper.proofs.memory.MemoryKeeper.fail.Goals.{in-Some+in-Some-1, in-Some+in-None-1, in-None}

pub invariant_of-self : goal.invariant_of-self
invariant_of-self c =
    let change = plain_change c.args.change.now in
    let valid : IsBook (changed (plain_book c.self.inside.book) change) =
    subst (λ (m : Memory). IsBook (changed (plain_book m.book) change)) (sym c.self.view_is) c.requires.valid in
    rw c.count_call.ensures (
    elim c.match-left.branch [
      | in-Some+in-Some-1 w ↦
          rw w.self-inside-is (IsMemory-second c.self.inside.book w.in-Some.left c.in-Ok.left c.self.inside.stopped c.self.inside.script
          c.keeps_next.result _ valid w.in-Some.is c.in-Ok.ensures.second c.keeps_next.ensures c.self.invariant)
      | in-Some+in-None-1 w ↦
          rw w.self-inside-is (IsMemory-second c.self.inside.book w.in-Some.left c.in-Ok.left c.self.inside.stopped c.self.inside.script
          c.keeps_next.result _ valid w.in-Some.is c.in-Ok.ensures.second c.keeps_next.ensures c.self.invariant)
      | in-None w ↦ rw w.self-inside-is (IsMemory-after _ _ _ _ c.self.invariant)
    ])

pub invariant_of-self-in-Err : goal.invariant_of-self-in-Err
invariant_of-self-in-Err c =
    rw c.count_call-in-Err.ensures (IsMemory-after _ _ _ _ c.self.invariant)
