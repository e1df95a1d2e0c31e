-- What a file of the folder `collections` was opened as.
use Rattle.std.specs.Prelude.{◌≡◌, ℕ, List, ◌∷◌, length, Ok}
use Rattle.oe_mosaic.specs.MosaicStates.{MosaicState}
use Rattle.oe_mosaic.specs.MosaicText.{names_in}
use Rattle.oe_sources.specs.FileState.{FileState}
use Rattle.oe_adapters.specs.declared.cube_or_mosaic.CubeOrMosaic.{CubeOrMosaic}
use Rattle.oe_adapters.specs.declared.cube_or_mosaic.CubeOrMosaic.TheVariants.{Cube, Mosaic}

-- the mosaic goes by the id that the text of a mosaic gives, and has a part for each file that this text names
pub record IsMosaicBy {S : Type 0} (id : List ℕ) (mosaic : MosaicState S) : Type 0 where
  pub text : List ℕ
  pub files : List (List ℕ)
  pub names_are : names_in text ≡ Ok (id ∷ files)
  pub each_part : length mosaic.parts ≡ length files

-- a cube goes by the id of its own file, and a mosaic by that of a text of a mosaic: which one it was read from is hidden
abbrev pub GoesBy : List ℕ → CubeOrMosaic FileState → Type 0
GoesBy id (Cube cube) = id ≡ cube.id
GoesBy id (Mosaic mosaic) = IsMosaicBy id mosaic

-- ---- for private functions

-- the names of a mosaic stand in some text
abbrev pub AreNamesOfText : List (List ℕ) → Type 0
AreNamesOfText names = (text : List ℕ) × (names_in text ≡ Ok names)
