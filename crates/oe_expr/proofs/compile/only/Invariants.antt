use Rattle.std.proofs.Common.{◌≡◌, ◌<◌, length, slice_index_or, true, false}
use Rattle.oe_expr.proofs.compile.only.Given as goal

abbrev pub invariant-loop-k : goal.invariant-loop-k
invariant-loop-k l = record {
  long : length l.needed.items ≡ l.k;
  there : l.index < l.k → slice_index_or l.needed.items l.index false ≡ true;
}
