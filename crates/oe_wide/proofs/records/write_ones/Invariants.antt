use Rattle.std.proofs.Common.{◌≡◌, ◌*◌, take}
use Rattle.oe_wide.specs.Wide.{byte_count, records_in}
use Rattle.oe_wide.specs.declared.width.Width.TheVariants.{One}
use Rattle.oe_wide.proofs.records.write_ones.Given as goal

abbrev pub invariant-loop-k : goal.invariant-loop-k
invariant-loop-k l = take (byte_count One * l.k) l.into ≡ records_in One (take l.k l.fn.cells)
