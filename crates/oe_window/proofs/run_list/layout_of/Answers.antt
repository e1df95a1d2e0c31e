use Rattle.std.proofs.Common.{◌∙◌, sym}
use Rattle.oe_window.proofs.NumberLemmas.{lies_in, window-box, box_of}
use Rattle.oe_window.proofs.run_list.layout_of.Goals as goal

pub of-requires : goal.of-requires
of-requires c =
    let d = c.args.shape.now in
    let w = c.args.window.now in
    rw (c.first_number.ensures, c.sides_of.ensures, c.cube_of-cube.ensures.sides) (box_of d w c.cube_of-cube.ensures.valid (lies_in d w c.requires.within c.requires.filled))

pub returns-clause-numbers : goal.returns-clause-numbers
returns-clause-numbers c =
    let d = c.args.shape.now in
    let w = c.args.window.now in
    c.of.ensures.laid ∙ rw (c.first_number.ensures, c.sides_of.ensures, c.cube_of-cube.ensures.sides) (sym (window-box d w))
