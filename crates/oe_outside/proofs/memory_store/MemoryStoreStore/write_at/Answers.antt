use Rattle.std.proofs.Common.{◌≤◌, length, arith}
use Rattle.oe_outside.proofs.Stores.{IsSameOutside-put}
use Rattle.oe_outside.proofs.memory_store.MemoryStoreStore.write_at.Goals as goal
use Rattle.oe_outside.proofs.memory_store.MemoryStoreStore.write_at.Goals.{then-listed, else-listed}

pub returns-then-listed-2-clause-outside : goal.returns-then-listed-2-clause-outside
returns-then-listed-2-clause-outside c =
    let fits : c.min-count.result ≤ length c.args.piece.now =
    elim c.if-listed.branch [ then-listed w ↦ grind arith | else-listed w ↦ omega arith ] in
    rw (← c.self.view_is) (IsSameOutside-put _ _ c.args.at (length c.args.piece.now) c.min-count.result c.args.piece.now fits c.put.ensures.items)
