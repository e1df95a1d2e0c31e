-- The status and the line on the error output that each ending has.
use Rattle.std.specs.Prelude.{◌≡◌, ℕ, List, [], ◌⊎◌, ◌++◌, Result, Ok, Err, codes, decimal}
use Rattle.oe_graph.specs.Codes.{name_of}
use Rattle.oe_judge.specs.Texts.{behind_blank}
use Rattle.oe_outside.specs.Faults.{NeverFalls, Rose}
use Rattle.oe_outside.specs.Visible.{Appends, AppendsPrefix}
use Rattle.oe_outside.specs.Stream.{ErrorOutput}
use Rattle.oe_top.specs.declared.refusal.Refusal.{Refusal}
use Rattle.oe_top.specs.declared.refusal.Refusal.TheVariants.{Usage, Graph, NoCubeText, NotMounted, NoTimeFold, ChunkRange, PartGraph, PartShape, PartSides, PartOverlap, ChunkMissing, TooLarge, Overflow, ReadFault, Damaged, PartDamaged, SpoolFault, WriteFault, OutOfMemory, SpoolDamaged}

-- ---- a refusal

-- the exit status of a refusal, and its code
abbrev pub status_and_code : Refusal → ℕ × List ℕ
status_and_code Usage = (1, codes "Usage")
status_and_code (Graph fault) = (2, name_of fault.code)
status_and_code NoCubeText = (2, codes "CubeTextInvalid")
status_and_code NotMounted = (2, codes "CollectionNotFound")
status_and_code NoTimeFold = (2, codes "NoTimeFold")
status_and_code ChunkRange = (2, codes "ChunkRange")
status_and_code (PartGraph name) = (2, codes "PartGraphDiffers")
status_and_code (PartShape name) = (2, codes "PartShapeDiffers")
status_and_code (PartSides name) = (2, codes "PartSidesDiffer")
status_and_code (PartOverlap name) = (2, codes "PartOverlaps")
status_and_code (ChunkMissing chunk) = (2, codes "ChunkMissing")
status_and_code (TooLarge cells) = (3, codes "PlanTooLarge")
status_and_code (Overflow number) = (4, codes "NumberOverflow")
status_and_code ReadFault = (5, codes "ReadFault")
status_and_code (Damaged id number) = (6, codes "SourceDamaged")
status_and_code (PartDamaged name number) = (6, codes "PartDamaged")
status_and_code SpoolFault = (7, codes "SpoolFault")
status_and_code WriteFault = (8, codes "WriteFault")
status_and_code OutOfMemory = (9, codes "OutOfMemory")
status_and_code (SpoolDamaged number) = (15, codes "SpoolDamaged")

-- a number behind a blank
abbrev pub number_said : ℕ → List ℕ
number_said number = codes " " ++ decimal number

-- what a line says behind the code: the node of a fault, a part, a number of a chunk or of cells, a position, one of a
-- collection or of a part
abbrev pub detail_of : Refusal → List ℕ
detail_of Usage = []
detail_of (Graph fault) = behind_blank fault.node
detail_of NoCubeText = []
detail_of NotMounted = []
detail_of NoTimeFold = []
detail_of ChunkRange = []
detail_of (PartGraph name) = codes " " ++ name
detail_of (PartShape name) = codes " " ++ name
detail_of (PartSides name) = codes " " ++ name
detail_of (PartOverlap name) = codes " " ++ name
detail_of (ChunkMissing chunk) = number_said chunk
detail_of (TooLarge cells) = number_said cells
detail_of (Overflow number) = number_said number
detail_of ReadFault = []
detail_of (Damaged id number) = codes " " ++ id ++ number_said number
detail_of (PartDamaged name number) = codes " " ++ name ++ number_said number
detail_of SpoolFault = []
detail_of WriteFault = []
detail_of OutOfMemory = []
detail_of (SpoolDamaged number) = number_said number

-- the line of a refusal
abbrev pub line_of : Refusal → List ℕ
line_of refusal = codes "openeo: " ++ (status_and_code refusal).1 ++ detail_of refusal ++ codes "\n"

-- ---- the error output

-- the line follows what the error output held, or a prefix of it where its fault counter rose
pub record Says (line : List ℕ) (err : ErrorOutput) : Type 0 where
  pub said : Appends err.before line err.after ⊎ (Rose err.before_faults err.after_faults ×
      AppendsPrefix err.before line err.after)
  pub count : NeverFalls err.before_faults err.after_faults

-- nothing was said
pub record IsSilent (err : ErrorOutput) : Type 0 where
  pub out : err.after ≡ err.before
  pub faults : err.after_faults ≡ err.before_faults

-- ---- an ending

-- its status
abbrev pub status_of : Result (Unit {0}) Refusal → ℕ
status_of (Ok x) = 0
status_of (Err refusal) = (status_and_code refusal).0

-- its line: none of a command that finished
abbrev pub SaysEnding : Result (Unit {0}) Refusal → ErrorOutput → Type 0
SaysEnding (Ok x) err = IsSilent err
SaysEnding (Err refusal) err = Says (line_of refusal) err
