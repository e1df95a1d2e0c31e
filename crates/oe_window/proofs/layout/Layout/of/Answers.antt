use Rattle.std.proofs.Common.{◌≡◌, arith}
use Rattle.std.proofs.lemmas.Grind.{common_steps}
use Rattle.oe_window.proofs.RunLemmas.{covers_rows, covers_planes, covers_volumes, covers_one}
use Rattle.oe_window.proofs.layout.Layout.of.Goals as goal

pub returns-then-sides-cube : goal.returns-then-sides-cube
returns-then-sides-cube c = covers_rows c.args.first c.args.sides c.args.cube c.requires c.if-sides-cube.true

pub returns-then-sides-cube-2 : goal.returns-then-sides-cube-2
returns-then-sides-cube-2 c =
    let whole_x : c.args.sides.x ≡ c.args.cube.x = omega (arith, c.requires.x.1, c.if-sides-cube.false) in
    covers_planes c.args.first c.args.sides c.args.cube c.requires whole_x c.if-sides-cube-2.true

pub returns-then-sides-cube-3 : goal.returns-then-sides-cube-3
returns-then-sides-cube-3 c =
    let whole_x : c.args.sides.x ≡ c.args.cube.x = omega (arith, c.requires.x.1, c.if-sides-cube.false) in
    let whole_y : c.args.sides.y ≡ c.args.cube.y = omega (arith, c.requires.y.1, c.if-sides-cube-2.false) in
    covers_volumes c.args.first c.args.sides c.args.cube c.requires whole_x whole_y c.if-sides-cube-3.true

pub returns-else-sides-cube-3 : goal.returns-else-sides-cube-3
returns-else-sides-cube-3 c =
    let whole_x : c.args.sides.x ≡ c.args.cube.x = omega (arith, c.requires.x.1, c.if-sides-cube.false) in
    let whole_y : c.args.sides.y ≡ c.args.cube.y = omega (arith, c.requires.y.1, c.if-sides-cube-2.false) in
    let whole_bands : c.args.sides.bands ≡ c.args.cube.bands = omega (arith, c.requires.bands.1, c.if-sides-cube-3.false) in
    covers_one c.args.first c.args.sides c.args.cube c.requires whole_x whole_y whole_bands

pub overflow_mul-plane : goal.overflow_mul-plane
overflow_mul-plane c = grind (arith, common_steps) steps 2000000

pub overflow_mul-result : goal.overflow_mul-result
overflow_mul-result c = grind (arith, common_steps) steps 2000000

pub overflow_mul-result-then-sides-cube-3 : goal.overflow_mul-result-then-sides-cube-3
overflow_mul-result-then-sides-cube-3 c = grind (arith, common_steps) steps 2000000

pub overflow_mul-volume : goal.overflow_mul-volume
overflow_mul-volume c = grind (arith, common_steps) steps 2000000
