use Rattle.std.proofs.Common.{◌≡◌, ◌+◌, ◌≤◌, drop}
use Rattle.oe_http.specs.Front.{line_ends, line_ends_behind}
use Rattle.oe_http.proofs.front.line_ends.Given as goal

abbrev pub invariant-loop-byte : goal.invariant-loop-byte
invariant-loop-byte l = record {
  counted : line_ends l.bytes ≡ l.count + line_ends_behind l.behind (drop l.byte-index l.bytes);
  few : l.count ≤ l.byte-index;
}
