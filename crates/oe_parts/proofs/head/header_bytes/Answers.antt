use Rattle.std.proofs.Common.{refl, ap}
use Rattle.oe_parts.specs.Head.{PartHead, header_text}
use Rattle.oe_parts.proofs.head.header_bytes.Goals as goal

pub returns : goal.returns
unfolding header_text
returns c =
    rw (
      c.in_ok-extend_from_slice-5.ensures.items,
      c.in_ok-push_sides.ensures,
      c.in_ok-extend_from_slice-4.ensures.items,
      c.in_ok-push_dimensions.ensures,
      c.in_ok-extend_from_slice-3.ensures.items,
      c.in_ok-extend_from_slice-2.ensures.items,
      c.in_ok-extend_from_slice.ensures.items,
      c.in_ok-push_range.ensures,
      c.in_ok-push_graph.ensures,
      c.new-bytes.ensures.items,
      c.as_str.ensures,
      c.as_bytes.ensures.value,
      c.kind_word.ensures,
      ap (λ (h : PartHead). h.graph) c.head.view_is,
      ap (λ (h : PartHead). h.sides) c.head.view_is,
      ap (λ (h : PartHead). h.kind) c.head.view_is,
      ap (λ (h : PartHead). h.shape) c.head.view_is,
    ) refl
