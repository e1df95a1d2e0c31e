use Rattle.std.proofs.Common.{arith}
use Rattle.oe_sources.proofs.PieceLemmas.{front_few, offset_few}
use Rattle.oe_sources.proofs.SizeLemmas.{section_within}
use Rattle.oe_sources.proofs.file_source.spot_of.Goals as goal

pub overflow_add-result : goal.overflow_add-result
overflow_add-result c =
    omega (arith, c.requires.opened.base_is, c.place_of-spot.ensures.offset, front_few c.args.file.now.head c.requires.opened.valid, offset_few c.args.file.now.head c.args.number c.requires.opened.valid c.requires.number)

pub returns : goal.returns
returns c = record {
  kind_is = c.place_of-spot.ensures.kind;
  width_is = c.place_of-spot.ensures.width;
  offset_is = omega (arith, c.requires.opened.base_is, c.place_of-spot.ensures.offset);
  some = (section_within c.args.file.now.head c.args.number c.requires.opened.valid c.requires.number).0;
  left_is = c.place_of-spot.ensures.left;
}
