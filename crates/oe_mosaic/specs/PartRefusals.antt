-- What contracts see of a part that was refused.
use Rattle.std.specs.Prelude.{Option, Some, None}
use Rattle.oe_mosaic.specs.Parts.{PartRefusal}
use Rattle.oe_mosaic.specs.Parts.PartRefusal.{kind_differs, dimensions_differ, is_full}
use Rattle.oe_mosaic.specs.declared.parts.PartFail.{PartFail}
use Rattle.oe_mosaic.specs.declared.parts.PartFail.TheVariants.{KindDiffers, DimensionsDiffer, Full, OutOfMemory}

-- the reason of a refusal, none where it is out of memory
abbrev pub refusal_of : {S : Type 0} → PartFail S → Option PartRefusal
refusal_of (KindDiffers part) = Some kind_differs
refusal_of (DimensionsDiffer part) = Some dimensions_differ
refusal_of (Full part) = Some is_full
refusal_of (OutOfMemory part) = None

-- the part that it hands back
abbrev pub part_handed : {S : Type 0} → PartFail S → S
part_handed (KindDiffers part) = part
part_handed (DimensionsDiffer part) = part
part_handed (Full part) = part
part_handed (OutOfMemory part) = part
