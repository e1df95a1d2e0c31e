-- What is said where the program cannot begin: the status and the line of a fault of its own.
use Rattle.std.specs.Prelude.{◌≡◌, ℕ, ◌/◌, ◌%◌, ◌==◌, ◌&&◌, nat_le, if◌then◌else◌, List, [], ◌∷◌, ◌++◌, ◌⊎◌, codes}
use Rattle.std.specs.List.{flat_map}
use Rattle.std.specs.Char.{digit_char}
use Rattle.oe_mosaic.specs.declared.mosaic.MosaicFail.{MosaicFail}
use Rattle.oe_mosaic.specs.declared.mosaic.MosaicFail.TheVariants as mosaics
use Rattle.oe_mosaic.specs.declared.parts.PartFail.{PartFail}
use Rattle.oe_mosaic.specs.declared.parts.PartFail.TheVariants as parts
use Rattle.oe_mosaic.specs.declared.text.MosaicTextFail.{MosaicTextFail}
use Rattle.oe_mosaic.specs.declared.text.MosaicTextFail.TheVariants as texts
use Rattle.oe_sources.specs.declared.catalogue.MountFail.{MountFail}
use Rattle.oe_sources.specs.declared.catalogue.MountFail.TheVariants as mount
use Rattle.oe_sources.specs.declared.file_source.OpenFail.{OpenFail}
use Rattle.oe_sources.specs.declared.file_source.OpenFail.TheVariants as fails
use Rattle.oe_adapters.specs.declared.fault.Fault.{Fault}
use Rattle.oe_adapters.specs.declared.fault.Fault.TheVariants.{Setup, Write, OutOfMemory}

-- the exit status of a fault of the program's own
abbrev pub fault_status : Fault → ℕ
fault_status (Setup line) = 14
fault_status Write = 8
fault_status OutOfMemory = 9

-- and its line on standard error
abbrev pub program_fault_line : Fault → List ℕ
program_fault_line (Setup line) = line.items
program_fault_line Write = codes "openeo: WriteFault\n"
program_fault_line OutOfMemory = codes "openeo: OutOfMemory\n"

-- a byte of a file's name in a line: printable ASCII as it is, but a backslash twice, and any other byte as `\x` with
-- two hexadecimal digits
abbrev pub spelled_byte : ℕ → List ℕ
spelled_byte byte =
    if byte == 92 then codes "\\\\"
    else if nat_le 32 byte && nat_le byte 126 then byte ∷ []
    else codes "\\x" ++ digit_char (byte / 16) ∷ digit_char (byte % 16) ∷ []

-- a file's name in a line
abbrev pub spelled_name : List ℕ → List ℕ
spelled_name name = flat_map spelled_byte name

-- the line that names a file which could not be set up
abbrev pub setup_line : List ℕ → List ℕ
setup_line name = codes "openeo: Setup " ++ spelled_name name ++ codes "\n"

-- the fault says that the file of this name could not be set up
abbrev pub IsSetupOf : List ℕ → Fault → Type 0
IsSetupOf name fault = (fault_status fault ≡ 14) × (program_fault_line fault ≡ setup_line name)

-- it says that, or that memory was refused
abbrev pub IsSetupFault : List ℕ → Fault → Type 0
IsSetupFault name fault = IsSetupOf name fault ⊎ (fault ≡ OutOfMemory)

-- what is said of a file that was not opened as a collection: its name, but where memory was refused that alone
abbrev pub HasOpenFault : {S : Type 0} → List ℕ → OpenFail S → Fault → Type 0
HasOpenFault name (fails.OutOfMemory store) fault = fault ≡ OutOfMemory
HasOpenFault name (fails.Failed store) fault = IsSetupFault name fault
HasOpenFault name (fails.Invalid store) fault = IsSetupFault name fault

-- the same of a file whose collection was not mounted
abbrev pub HasMountFault : {Source : Type 0} {IsOf : Source → Type 0}
    → List ℕ → MountFail Source IsOf → Fault → Type 0
HasMountFault name (mount.OutOfMemory cube) fault = fault ≡ OutOfMemory
HasMountFault name (mount.IdInvalid cube) fault = IsSetupFault name fault
HasMountFault name (mount.IdTaken cube) fault = IsSetupFault name fault
HasMountFault name (mount.Full cube) fault = IsSetupFault name fault

-- ---- for private functions

-- the same of a mosaic's file that is not valid
abbrev pub HasTextFault : List ℕ → MosaicTextFail → Fault → Type 0
HasTextFault name (texts.Invalid line) fault = IsSetupFault name fault
HasTextFault name texts.OutOfMemory fault = fault ≡ OutOfMemory

-- of one that names a file which is no part beside those before it
abbrev pub HasPartFault : {S : Type 0} → List ℕ → PartFail S → Fault → Type 0
HasPartFault name (parts.KindDiffers part) fault = IsSetupFault name fault
HasPartFault name (parts.DimensionsDiffer part) fault = IsSetupFault name fault
HasPartFault name (parts.Full part) fault = IsSetupFault name fault
HasPartFault name (parts.OutOfMemory part) fault = fault ≡ OutOfMemory

-- and of one whose files are no mosaic; one file at least is named, so that there is a part
abbrev pub HasMosaicFault : {S : Type 0} → List ℕ → MosaicFail S → Fault → Type 0
HasMosaicFault name (mosaics.NoParts handed) fault = IsSetupFault name fault
HasMosaicFault name (mosaics.TooLarge handed) fault = IsSetupFault name fault
HasMosaicFault name (mosaics.OutOfMemory handed) fault = fault ≡ OutOfMemory
