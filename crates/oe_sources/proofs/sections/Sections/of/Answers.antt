use Rattle.std.proofs.Common.{◌*◌, Some, sym, ap, ◌∙◌}
use Rattle.std.specs.Option.{option_map}
use Rattle.oe_dims.specs.Dimensions.{extent}
use Rattle.oe_dims.specs.Lists.{items_of}
use Rattle.oe_sources.specs.Head.{Head}
use Rattle.oe_sources.proofs.SizeLemmas.{sections_few_in}
use Rattle.oe_sources.proofs.sections.Sections.of.Goals as goal

pub new-requires-in-Some : goal.new-requires-in-Some
new-requires-in-Some c =
    sections_few_in c.args.head.now c.deref.result.now c.section_size.result c.requires
    (sym (ap (λ (h : Head). h.widths) c.head.view_is) ∙ ap (option_map items_of) c.in-Some.is ∙ ap Some (sym c.deref.ensures.value))
    (c.section_size.ensures ∙ ap (λ (h : Head). extent h.shape.bands * extent h.shape.y * extent h.shape.x) c.head.view_is)
