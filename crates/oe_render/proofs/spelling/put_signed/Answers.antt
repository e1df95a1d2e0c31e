use Rattle.std.proofs.Common.{arith, rules}
use Rattle.std.proofs.lemmas.Fmt.{length-decimal-le}
use Rattle.oe_render.proofs.spelling.put_signed.Goals as goal

pub write_digits-start-requires : goal.write_digits-start-requires
write_digits-start-requires c = (omega (arith, length-decimal-le 19 c.unsigned_abs.result (omega arith) (omega arith) (omega arith)), search rules)

pub put_text-requires-clause-room : goal.put_text-requires-clause-room
put_text-requires-clause-room c = omega (arith, length-decimal-le 19 c.unsigned_abs.result (omega arith) (omega arith) (omega arith))

pub returns-then-number-ge0-clause-short : goal.returns-then-number-ge0-clause-short
returns-then-number-ge0-clause-short c = omega (arith, length-decimal-le 19 c.unsigned_abs.result (omega arith) (omega arith) (omega arith))

pub returns-else-number-ge0-clause-short : goal.returns-else-number-ge0-clause-short
returns-else-number-ge0-clause-short c =
    let reaches = c.put_text.ensures.reaches in
    omega (arith, reaches, length-decimal-le 19 c.unsigned_abs.result (omega arith) (omega arith) (omega arith))
