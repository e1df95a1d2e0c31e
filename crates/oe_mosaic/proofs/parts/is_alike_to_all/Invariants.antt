use Rattle.std.proofs.Common.{◌≡◌, drop}
use Rattle.std.specs.List.{list_all}
use Rattle.oe_mosaic.specs.Mosaics.{part_of, parts_of}
use Rattle.oe_mosaic.specs.Parts.{is_alike}
use Rattle.oe_mosaic.proofs.parts.is_alike_to_all.Given as goal

abbrev pub invariant-loop-index : goal.invariant-loop-index
invariant-loop-index g l =
    list_all (is_alike (part_of (g.S.CubeSource.seen l.part))) (parts_of g.S.CubeSource.seen l.others)
    ≡ list_all (is_alike (part_of (g.S.CubeSource.seen l.part))) (parts_of g.S.CubeSource.seen (drop l.index l.others))
