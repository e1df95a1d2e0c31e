-- What contracts see of an opened part, and of several.
use Rattle.std.specs.Prelude.{◌≡◌, ℕ, List, length, map, slice_get, Option, Some, IfSome}
use Rattle.oe_cell.specs.declared.cell.Cell.{Cell}
use Rattle.oe_dims.specs.Cube.{Cube}
use Rattle.oe_outside.specs.Faults.{NeverFalls, Rose}
use Rattle.oe_parts.specs.Head.{PartHead}
use Rattle.oe_parts.specs.PartFile.{IsPartFile, IsPartOf}
use Rattle.oe_parts.specs.declared.part.OpenFail.{OpenFail}
use Rattle.oe_parts.specs.declared.part.OpenFail.TheVariants.{Failed, Invalid, OutOfMemory}

-- the name of its file, what it says before its records, its bytes, where they are visible, and its fault counter
pub record PartState : Type 0 where
  pub name : List ℕ
  pub head : PartHead
  pub bytes : Option (List ℕ)
  pub faults : ℕ

-- ---- opening

-- the bytes are a part file with this head and with no other
pub record IsPartFileAlone (bytes : List ℕ) (head : PartHead) : Type 0 where
  pub is_file : IsPartFile bytes head
  pub alone : (other : PartHead) → IsPartFile bytes other → other ≡ head

-- the part that was opened has the name and the bytes, and the head of its visible bytes; no fault is forgotten
pub record Opens (name : List ℕ) (bytes : Option (List ℕ)) (faults : ℕ) (part : PartState) : Type 0 where
  pub name_is : part.name ≡ name
  pub bytes_are : part.bytes ≡ bytes
  pub head_is : IfSome bytes (λ all. IsPartFileAlone all part.head)
  pub falls : NeverFalls faults part.faults

-- what a refusal to open a store as a part says: a read failed, or the visible bytes are no part file
abbrev pub IsPartCause : {S : Type 0} → (S → Option (List ℕ)) → (S → ℕ) → S → OpenFail S → Type 0
IsPartCause bytes faults before (Failed store) =
    (bytes store ≡ bytes before) × NeverFalls (faults before) (faults store) × Rose (faults before) (faults store)
IsPartCause bytes faults before (Invalid store) =
    (bytes store ≡ bytes before) × NeverFalls (faults before) (faults store)
    × IfSome (bytes before) (λ all. (head : PartHead) → ¬ IsPartFile all head)
IsPartCause bytes faults before (OutOfMemory store) =
    (bytes store ≡ bytes before) × NeverFalls (faults before) (faults store)

-- ---- several parts

-- what they say before their records
abbrev pub heads_of : List PartState → List PartHead
heads_of parts = map (λ (part : PartState). part.head) parts

-- its bytes are visible, and are the part of this cube that its head tells
abbrev pub ShowsPartOf : Cube Cell → PartState → Type 0
ShowsPartOf cube part = (bytes : List ℕ) × (part.bytes ≡ Some bytes) × IsPartOf bytes part.head cube

-- all parts are visible parts of one cube
abbrev pub ShowPartsOf : Cube Cell → List PartState → Type 0
ShowPartsOf cube parts = (index : ℕ) (part : PartState) → slice_get parts index ≡ Some part → ShowsPartOf cube part

-- reads changed nothing of a part but its fault counter, which did not fall
pub record IsPartRead (before after : PartState) : Type 0 where
  pub name : after.name ≡ before.name
  pub head : after.head ≡ before.head
  pub bytes : after.bytes ≡ before.bytes
  pub faults : NeverFalls before.faults after.faults

-- the same of all parts
pub record ArePartsRead (before after : List PartState) : Type 0 where
  pub many : length after ≡ length before
  pub each : (index : ℕ) (old new : PartState) → slice_get before index ≡ Some old → slice_get after index ≡ Some new
      → IsPartRead old new
