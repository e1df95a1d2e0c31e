use Rattle.std.proofs.Common.{◌≤◌, arith}
use Rattle.std.proofs.lemmas.Nat.{mul-le}
use Rattle.oe_window.proofs.cells.area.Goals as goal

pub overflow_mul-result : goal.overflow_mul-result
overflow_mul-result c =
    let y : c.count.result ≤ 4294967295 = omega (arith, c.count.type_inv) in
    let x : c.count-2.result ≤ 4294967295 = omega (arith, c.count-2.type_inv) in
    let most = mul-le c.count.result c.count-2.result 4294967295 4294967295 y x in
    rw (c.from.ensures, c.from-2.ensures) (omega (arith, most))
