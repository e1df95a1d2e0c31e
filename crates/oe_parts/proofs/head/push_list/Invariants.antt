use Rattle.std.proofs.Common.{◌≡◌, ◌++◌, map, take, decimal}
use Rattle.oe_render.specs.Text.{listed_text}
use Rattle.oe_parts.proofs.head.push_list.Given as goal

abbrev pub invariant-loop-index : goal.invariant-loop-index
invariant-loop-index l = l.bytes.items ≡ l.fn.bytes.items ++ listed_text (take l.index (map decimal l.numbers))
