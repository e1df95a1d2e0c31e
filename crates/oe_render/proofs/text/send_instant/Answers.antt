use Rattle.std.proofs.Common.{◌≡◌, pos, FitsSigned, w64, to_z, of_z, rules, get_or}
use Rattle.std.proofs.lemmas.Int.{to_z-of_z}
use Rattle.std.proofs.lemmas.Option.{get_or_from_slice_get}
use Rattle.oe_dims.specs.Dimensions.{number_labels}
use Rattle.oe_dims.specs.declared.kind.Kind.TheVariants.{Time}
use Rattle.oe_render.proofs.Texts.{instant_in_range}
use Rattle.oe_render.proofs.text.send_instant.Goals as goal

-- what is passed on is the label
pub print_instant-text-requires-clause-first : goal.print_instant-text-requires-clause-first
print_instant-text-requires-clause-first g c =
    let fits : FitsSigned w64 c.label_at.result = search rules in
    let label : get_or (number_labels c.args.shape.now Time) c.args.index (pos 0) ≡ c.label_at.result = get_or_from_slice_get (number_labels c.args.shape.now Time) c.args.index c.label_at.result (pos 0) c.label_at.ensures.value in
    rw to_z-of_z (rw label at (instant_in_range c.args.shape.now c.args.index (pos 0) c.requires.valid c.requires.there).0)

pub print_instant-text-requires-clause-last : goal.print_instant-text-requires-clause-last
print_instant-text-requires-clause-last g c =
    let fits : FitsSigned w64 c.label_at.result = search rules in
    let label : get_or (number_labels c.args.shape.now Time) c.args.index (pos 0) ≡ c.label_at.result = get_or_from_slice_get (number_labels c.args.shape.now Time) c.args.index c.label_at.result (pos 0) c.label_at.ensures.value in
    rw to_z-of_z (rw label at (instant_in_range c.args.shape.now c.args.index (pos 0) c.requires.valid c.requires.there).1)

pub returns : goal.returns
returns g c =
    let fits : FitsSigned w64 c.label_at.result = search rules in
    let label : get_or (number_labels c.args.shape.now Time) c.args.index (pos 0) ≡ c.label_at.result = get_or_from_slice_get (number_labels c.args.shape.now Time) c.args.index c.label_at.result (pos 0) c.label_at.ensures.value in
    let same : to_z w64 (of_z w64 c.label_at.result) ≡ c.label_at.result = to_z-of_z w64 _ fits in
    rw label (rw (c.print_instant-text.ensures.text, same) at c.send_quoted.ensures)
