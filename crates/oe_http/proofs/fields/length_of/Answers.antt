use Rattle.std.proofs.Common.{◌<◌, ◌≤◌, get_or, arith}
use Rattle.std.proofs.lemmas.Grind.{common_steps}
use Rattle.oe_http.proofs.FieldLemmas.{room_mul, room_add}
use Rattle.oe_http.proofs.fields.length_of.Goals as goal

pub overflow_mul-length : goal.overflow_mul-length
overflow_mul-length c =
    let few = c.if-value-gt-MOST_DIGITS.false in
    let at = c.loop-digit-test.true in
    let below : c.loop-digit.digit-index ≤ 18 = omega (arith, few, at) in
    let room = room_mul c.loop-digit.length c.loop-digit.digit-index c.loop-digit.invariant.small below in
    omega (arith, room)

pub overflow_add-length : goal.overflow_add-length
overflow_add-length c =
    let few = c.if-value-gt-MOST_DIGITS.false in
    let at = c.loop-digit-test.true in
    let below : c.loop-digit.digit-index ≤ 18 = omega (arith, few, at) in
    let byte : get_or c.args.value.now c.loop-digit.digit-index 0 < 256 = let fits = c.type_inv.value c.loop-digit.digit-index in omega (arith, fits) in
    let is = c.from.ensures in
    let small : c.from.result < 256 = omega (arith, byte, is) in
    let room = room_add c.loop-digit.length c.loop-digit.digit-index c.from.result c.loop-digit.invariant.small below small in
    omega (arith, room)

pub loop-digit-preserved : goal.loop-digit-preserved
loop-digit-preserved c = grind (arith, common_steps) steps 2000000

pub returns-clause-some : goal.returns-clause-some
returns-clause-some c = grind (arith, common_steps) steps 2000000
