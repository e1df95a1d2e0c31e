use Rattle.std.proofs.Common.{◌≡◌, ◌*◌, take}
use Rattle.oe_wide.specs.Wide.{byte_count, records_in}
use Rattle.oe_wide.specs.declared.width.Width.TheVariants.{Nine}
use Rattle.oe_wide.proofs.records.write_nines.Given as goal

abbrev pub invariant-loop-k : goal.invariant-loop-k
invariant-loop-k l = take (byte_count Nine * l.k) l.into ≡ records_in Nine (take l.k l.fn.cells)
