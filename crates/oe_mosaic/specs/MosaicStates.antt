-- What contracts see of a mosaic that was made, and of the refusals of making one.
use Rattle.std.specs.Prelude.{◌≡◌, ◌⊎◌, ⊤, ℕ, List, []}
use Rattle.oe_dims.specs.Dimensions.{Dimensions}
use Rattle.oe_dims.specs.Rules.{KeepsRule}
use Rattle.oe_dims.specs.declared.kind.Kind.{Kind}
use Rattle.oe_dims.specs.declared.shape.ShapeFault.TheVariants.{TooMany, TooManyCells}
use Rattle.oe_mosaic.specs.Mosaics.{mosaic_shape, mosaic_source, parts_of}
use Rattle.oe_mosaic.specs.declared.mosaic.MosaicFail.{MosaicFail}
use Rattle.oe_mosaic.specs.declared.mosaic.MosaicFail.TheVariants.{NoParts, TooLarge, OutOfMemory}
use Rattle.oe_sources.specs.Source.{Source}

-- the parts in order of priority, and how many cells were asked of the mosaic
pub record MosaicState (S : Type 0) : Type 0 where
  pub parts : List S
  pub asked : ℕ

-- the source that a mosaic is; `seen` is what contracts see of a part
abbrev pub source_of : {S : Type 0} → (S → Source) → MosaicState S → Source
source_of seen m = mosaic_source seen m.parts m.asked

-- dimensions pass a limit of shapes: they have too many labels along one, or too many cells
abbrev pub PassesLimit : Dimensions → Type 0
PassesLimit d = ((kind : Kind) × ¬ KeepsRule d (TooMany kind)) ⊎ ¬ KeepsRule d TooManyCells

-- why parts are no mosaic
abbrev pub TellsWhy : {S : Type 0} → (S → Source) → List S → MosaicFail S → Type 0
TellsWhy seen parts (NoParts handed) = parts ≡ []
TellsWhy seen parts (TooLarge handed) = PassesLimit (mosaic_shape (parts_of seen parts))
TellsWhy seen parts (OutOfMemory handed) = ⊤

-- the parts that a refusal hands back
abbrev pub parts_handed : {S : Type 0} → MosaicFail S → List S
parts_handed (NoParts handed) = handed
parts_handed (TooLarge handed) = handed
parts_handed (OutOfMemory handed) = handed
