use Rattle.std.proofs.Common.{◌+◌, length}
use Rattle.std.specs.List.{slice_range}
use Rattle.std.proofs.lemmas.Slice.Eq.{bytes_eq-Decides, slice_eq-Decides}
use Rattle.oe_mosaic.proofs.place.names_stand_from.Goals as goal

pub returns-then-names-own : goal.returns-then-names-own
returns-then-names-own c = λ is.
    (slice_eq-Decides bytes_eq-Decides (slice_range c.args.own.now c.args.first (c.args.first + length c.args.names.now)) c.args.names.now c.eq.result c.eq.ensures).0 is
