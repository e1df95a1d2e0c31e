use Rattle.oe_sources.proofs.GeneratedLemmas.{no_fault_found, shape_made, shape_with}
use Rattle.oe_sources.proofs.generated_cube.GeneratedCube.new.Goals as goal

pub unreachable-requires : goal.unreachable-requires
unreachable-requires c =
    let t = c.in_ok-t.t.items in
    let bands = c.in_ok-bands.bands.items in
    let y = c.in_ok-y.y.items in
    let x = c.in_ok-x.x.items in
    no_fault_found c.args.side (shape_with t bands y x) c.in-Err.field-0 c.requires.most (shape_made c.args.side t bands y x c.in_ok-t.ensures c.in_ok-bands.ensures c.in_ok-y.ensures c.in_ok-x.ensures) c.in-Err.ensures.fault
