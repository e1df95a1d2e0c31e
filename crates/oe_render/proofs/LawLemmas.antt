-- The laws of the texts of cubes.
use Rattle.std.proofs.Common.{◌≤◌, ◌^◌, length, ◌∙◌, arith}
use Rattle.oe_dims.proofs.CubeLemmas.{length-tuples}
use Rattle.oe_dims.proofs.ShapeLemmas.{cell_count_within}
use Rattle.oe_render.specs.Laws.{CountsAreExact, TextsAreShort, TextsAreUtf8}
use Rattle.oe_render.proofs.Lengths.{text_short}
use Rattle.oe_render.proofs.OneCube.{fit_from}
use Rattle.oe_render.proofs.WrittenCube.{text_utf8}

pub utf8 : TextsAreUtf8
utf8 cube has = text_utf8 cube.shape cube.cells has.valid (fit_from cube.cells has.fit has.numbered)

pub short : TextsAreShort
short cube has =
    let few : length cube.cells ≤ 2 ^ 40 = omega (arith, has.whole_cube ∙ length-tuples cube.shape, cell_count_within cube.shape has.valid) in
    text_short cube.shape cube.cells has.valid (fit_from cube.cells has.fit has.numbered) few

pub exact : CountsAreExact
exact cube count has within adds = omega (arith, short cube has, within, adds)
