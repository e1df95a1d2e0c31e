use Rattle.std.proofs.Common.{ℕ, refl, ap}
use Rattle.std.proofs.lemmas.Bool.{and_parts}
use Rattle.oe_dims.specs.Cube.{Cube}
use Rattle.oe_rows.proofs.laws.are_cubes.Goals as goal

pub returns : goal.returns
returns c = λ both agree.
    let each = and_parts c.is_cube.result c.is_cube-2.result both in
    ap (λ (cube : Cube ℕ). cube.cells)
    (c.is_cube.ensures.cubes.same_cube (record { shape = c.args.shape.now; cells = c.args.a.now })
    (record { shape = c.args.shape.now; cells = c.args.b.now }) refl refl
    (c.is_cube.ensures.value.0 each.0) (c.is_cube-2.ensures.value.0 each.1) agree)
