use Rattle.std.proofs.Common.{◌≡◌, ◌++◌, map, take, decimal}
use Rattle.oe_render.specs.Text.{listed_text}
use Rattle.oe_wide.specs.Wide.{byte_count}
use Rattle.oe_sources.proofs.head.push_width_list.Given as goal

abbrev pub invariant-loop-index : goal.invariant-loop-index
invariant-loop-index l =
    l.bytes.items ≡ l.fn.bytes.items ++ listed_text (take l.index (map (λ w. decimal (byte_count w)) l.widths))
