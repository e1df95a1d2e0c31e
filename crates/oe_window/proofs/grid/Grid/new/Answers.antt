use Rattle.std.proofs.Common.{arith}
use Rattle.oe_window.specs.Chunks.{IsTiling, tiling_of}
use Rattle.oe_window.proofs.TilingLemmas.{part_numbers}
use Rattle.oe_window.proofs.grid.Grid.new.Goals as goal

pub returns-clause-numbers : goal.returns-clause-numbers
returns-clause-numbers c =
    let t = c.extent_of.ensures in
    let bands = c.extent_of-2.ensures in
    let y = c.extent_of-3.ensures in
    let x = c.extent_of-4.ensures in
    let tiling : IsTiling (tiling_of c.args.shape.now c.args.size) = record {
      t = omega (arith, t.value, t.most);
      bands = omega (arith, bands.value, bands.most);
      y = omega (arith, y.value, y.most);
      x = omega (arith, x.value, x.most);
      side_t = c.requires.t;
      side_y = c.requires.y;
      side_x = c.requires.x;
    } in
    rw (t.value, bands.value, y.value, x.value) (part_numbers c.args.shape.now c.args.size tiling)
