use Rattle.std.proofs.Common.{w64, refl}
use Rattle.std.proofs.lemmas.Int.{to_z-of_z}
use Rattle.oe_wide.specs.Wide.{nine_bytes}
use Rattle.oe_wide.proofs.narrow.pack.Goals as goal

pub returns : goal.returns
unfolding nine_bytes
returns c =
    let num = c.copy_from_slice.ensures.after in
    rw (num, c.to_be_bytes.ensures, to_z-of_z w64 c.args.num c.ranges.num) refl
