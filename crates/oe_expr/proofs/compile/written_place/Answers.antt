use Rattle.std.proofs.Common.{◌<◌, map, length, sym, ap, ◌∙◌, arith}
use Rattle.oe_expr.specs.PlainRequests.{plain_scalars}
use Rattle.oe_expr.specs.Places.{operand_of, written_place}
use Rattle.oe_expr.proofs.PlaceLemmas.{written_at}
use Rattle.oe_expr.proofs.compile.written_place.Goals as goal

pub returns-in-Some : goal.returns-in-Some
returns-in-Some c =
    let within : c.in-Some.index < length c.args.scalars.now.items = omega arith in
    c.operand.ensures
    ∙ written_at (operand_of c.args.context.now c.args.nodes.now.items c.args.places.now.items) c.args.scalars.now.items c.in-Some.index c.index.result.now within c.index.ensures
    ∙ ap (written_place (map (operand_of c.args.context.now c.args.nodes.now.items c.args.places.now.items) (plain_scalars c.args.scalars.now.items))) (sym c.in-Some.is)
