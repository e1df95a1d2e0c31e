use Rattle.std.proofs.Common.{◌≡◌, take, drop}
use Rattle.std.specs.List.{All}
use Rattle.oe_cell.specs.Kinds.{IsNumeric}
use Rattle.oe_wide.specs.Wide.{HaveRecords}
use Rattle.oe_wide.specs.declared.width.Width.TheVariants.{Nine}
use Rattle.oe_wide.proofs.records.read_numbers.Given as goal

abbrev pub invariant-loop-k : goal.invariant-loop-k
invariant-loop-k l = record {
  read : HaveRecords Nine l.fn.bytes (take l.k l.into);
  numeric : All IsNumeric (take l.k l.into);
  others : drop l.k l.into ≡ drop l.k l.fn.into;
}
