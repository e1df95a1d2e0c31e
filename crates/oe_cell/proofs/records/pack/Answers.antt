use Rattle.std.proofs.Common.{w64, refl}
use Rattle.std.proofs.lemmas.Int.{to_z-of_z}
use Rattle.oe_cell.specs.Record.{bytes_of}
use Rattle.oe_cell.proofs.records.pack.Goals as goal

pub returns : goal.returns
unfolding bytes_of
returns c =
    let num = c.copy_from_slice.ensures.after in
    let den = c.copy_from_slice-2.ensures.after in
    rw (den, num, c.to_be_bytes-2.ensures, c.to_be_bytes.ensures, to_z-of_z w64 c.args.num c.ranges.num) refl
