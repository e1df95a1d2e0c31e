use Prim.Native.Nat.{◌+◌, ◌-◌, ◌*◌}
use Rattle.oe_engine.proofs.loading.+halves.Given as goal

abbrev pub decreases-load_pieces : goal.decreases-load_pieces
decreases-load_pieces g l = 4 * l.pieces

abbrev pub decreases-load_both : goal.decreases-load_both
decreases-load_both g l = 4 * l.pieces - 1

abbrev pub decreases-load_both-front : goal.decreases-load_both-front
decreases-load_both-front g l = 4 * l.low + 1

abbrev pub decreases-load_both-back : goal.decreases-load_both-back
decreases-load_both-back g l = 4 * l.high + 1
