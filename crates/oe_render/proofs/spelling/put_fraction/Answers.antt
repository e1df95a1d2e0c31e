use Rattle.std.proofs.Common.{arith}
use Rattle.std.proofs.lemmas.Fmt.{length-decimal-le}
use Rattle.oe_cell.specs.Fraction.{IsNumber}
use Rattle.oe_render.proofs.spelling.put_fraction.Goals as goal

pub write_digits-start-requires : goal.write_digits-start-requires
write_digits-start-requires c =
    let is : IsNumber c.args.number = c.den.ensures.number in
    let fits = is.den_fits in
    let reaches = c.put_text-start.ensures.reaches in
    let long = length-decimal-le 19 c.den.result (omega arith) (omega arith) (omega (arith, fits)) in
    (omega (arith, long, reaches), omega (arith, reaches))

pub put_text-start-requires-2-clause-room : goal.put_text-start-requires-2-clause-room
put_text-start-requires-2-clause-room c =
    let is : IsNumber c.args.number = c.den.ensures.number in
    let fits = is.den_fits in
    let reaches = c.put_text-start.ensures.reaches in
    omega (arith, reaches, length-decimal-le 19 c.den.result (omega arith) (omega arith) (omega (arith, fits)))

pub put_signed-start-requires-clause-room : goal.put_signed-start-requires-clause-room
put_signed-start-requires-clause-room c =
    let is : IsNumber c.args.number = c.den.ensures.number in
    let fits = is.den_fits in
    let reaches = c.put_text-start.ensures.reaches in
    let slash = c.put_text-start-2.ensures.reaches in
    omega (arith, reaches, slash, length-decimal-le 19 c.den.result (omega arith) (omega arith) (omega (arith, fits)))

pub put_text-requires-clause-room : goal.put_text-requires-clause-room
put_text-requires-clause-room c =
    let is : IsNumber c.args.number = c.den.ensures.number in
    let fits = is.den_fits in
    let reaches = c.put_text-start.ensures.reaches in
    let slash = c.put_text-start-2.ensures.reaches in
    let short = c.put_signed-start.ensures.short in
    omega (arith, reaches, slash, short, length-decimal-le 19 c.den.result (omega arith) (omega arith) (omega (arith, fits)))

pub returns-clause-short : goal.returns-clause-short
returns-clause-short c =
    let is : IsNumber c.args.number = c.den.ensures.number in
    let fits = is.den_fits in
    let reaches = c.put_text-start.ensures.reaches in
    let slash = c.put_text-start-2.ensures.reaches in
    let short = c.put_signed-start.ensures.short in
    let last = c.put_text.ensures.reaches in
    omega (arith, reaches, slash, short, last, length-decimal-le 19 c.den.result (omega arith) (omega arith) (omega (arith, fits)))
