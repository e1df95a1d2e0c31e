use Rattle.std.proofs.Common.{sym, ◌∙◌, arith}
use Rattle.std.proofs.lemmas.Grind.{common_steps}
use Rattle.oe_mosaic.proofs.PlaceLemmas.{apart_lies, span_fits_b, span_fits_t, span_fits_x, span_fits_y}
use Rattle.oe_mosaic.proofs.place.place_of.Goals as goal

pub returns-then-has_apart : goal.returns-then-has_apart
returns-then-has_apart c =
    apart_lies c.args.shape.now c.args.part.now c.args.window.now c.sides_of-sides.result c.sides_of-sides.ensures (sym c.has_apart.ensures ∙ c.if-has_apart.true)

pub span_in_part-requires : goal.span_in_part-requires
span_in_part-requires c =
    span_fits_t c.args.shape.now c.args.part.now c.args.window.now c.sides_of-sides.result c.sides_of-sides.ensures (sym c.has_apart.ensures ∙ c.if-has_apart.false) (sym c.has_across.ensures ∙ c.if-has_across.false) c.epsg-epsg.ensures.valid

pub span_in_part-requires-2 : goal.span_in_part-requires-2
span_in_part-requires-2 c =
    span_fits_b c.args.shape.now c.args.part.now c.args.window.now c.sides_of-sides.result c.sides_of-sides.ensures (sym c.has_apart.ensures ∙ c.if-has_apart.false) (sym c.has_across.ensures ∙ c.if-has_across.false) c.epsg-epsg.ensures.valid

pub span_in_part-requires-3 : goal.span_in_part-requires-3
span_in_part-requires-3 c =
    span_fits_y c.args.shape.now c.args.part.now c.args.window.now c.sides_of-sides.result c.sides_of-sides.ensures (sym c.has_apart.ensures ∙ c.if-has_apart.false) (sym c.has_across.ensures ∙ c.if-has_across.false) c.epsg-epsg.ensures.valid

pub span_in_part-requires-4 : goal.span_in_part-requires-4
span_in_part-requires-4 c =
    span_fits_x c.args.shape.now c.args.part.now c.args.window.now c.sides_of-sides.result c.sides_of-sides.ensures (sym c.has_apart.ensures ∙ c.if-has_apart.false) (sym c.has_across.ensures ∙ c.if-has_across.false) c.epsg-epsg.ensures.valid

pub returns : goal.returns
returns c = grind (arith, common_steps) steps 2000000

pub returns-then-has_across : goal.returns-then-has_across
returns-then-has_across c = grind (arith, common_steps) steps 2000000

pub returns-then-is_beside : goal.returns-then-is_beside
returns-then-is_beside c = grind (arith, common_steps) steps 2000000
