use Rattle.std.proofs.Common.{◌<◌, ◌≤◌, ◌+◌, ◌-◌, ◌*◌, drop, get_or, sym, ap, ◌∙◌, arith}
use Rattle.oe_requests.specs.Parameters.{where_it, is_epsg}
use Rattle.oe_requests.proofs.EpsgLemmas.{value_behind, next_value, value_grows, too_large}
use Rattle.oe_requests.proofs.parameter_box.digits_value.Goals as goal

pub returns-then-value-gt-LARGEST_EPSG : goal.returns-then-value-gt-LARGEST_EPSG
returns-then-value-gt-LARGEST_EPSG c =
    let digits = c.args.digits.now in
    let i = c.loop-digit.digit-index in
    let value = c.loop-digit.value * 10 + (get_or digits i 0 - 48) in
    let rest = drop (i + 1) digits in
    let large : 999999 < value = omega (arith, c.if-value-gt-LARGEST_EPSG.true, c.from.ensures) in
    let grows : value ≤ value_behind value rest = value_grows rest value in
    sym (ap (where_it is_epsg) (c.loop-digit.invariant.same ∙ next_value digits i c.loop-digit.value c.loop-digit-test.true)
    ∙ too_large (value_behind value rest) (omega (arith, large, grows)))
