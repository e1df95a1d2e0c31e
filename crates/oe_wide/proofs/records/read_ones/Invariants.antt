use Rattle.std.proofs.Common.{◌≡◌, take, drop}
use Rattle.oe_wide.specs.Wide.{HaveRecords}
use Rattle.oe_wide.specs.declared.width.Width.TheVariants.{One}
use Rattle.oe_wide.proofs.records.read_ones.Given as goal

abbrev pub invariant-loop-k : goal.invariant-loop-k
invariant-loop-k l = record {
  read : HaveRecords One l.fn.bytes (take l.k l.into);
  others : drop l.k l.into ≡ drop l.k l.fn.into;
}
