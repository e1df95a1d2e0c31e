use Rattle.std.proofs.Common.{refl}
use Rattle.oe_sources.specs.Head.{header_text}
use Rattle.oe_sources.proofs.head.header_bytes.Goals as goal

pub returns : goal.returns
unfolding header_text
returns c =
    rw (
      c.in_ok-extend_from_slice-2.ensures.items,
      c.in_ok-bytes.ensures,
      c.in_ok-extend_from_slice.ensures.items,
      c.in_ok-push_widths.ensures,
      c.in_ok-push_names.ensures,
      c.new-bytes.ensures.items,
    ) refl
