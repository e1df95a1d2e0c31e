-- How a part file begins, and what it means that a store is refused.
use Rattle.std.specs.Prelude.{◌≡◌, ℕ, ◌+◌, ◌≤◌, List, ◌++◌, length, take, Option, IfSome, codes}
use Rattle.std.specs.Int.{w32, to_be_bytes}
use Rattle.oe_parts.specs.Head.{PartHead, front_bytes, most_header}
use Rattle.oe_parts.specs.PartFile.{IsPartFile}
use Rattle.oe_parts.specs.declared.part.Refusal.{Refusal}
use Rattle.oe_parts.specs.declared.part.Refusal.TheVariants.{Failed, Invalid, OutOfMemory}

-- what stands before a header of so many bytes: the version, and the length as 4 bytes, the highest first
abbrev pub start_bytes : ℕ → List ℕ
start_bytes count = codes "OEOPART1" ++ to_be_bytes w32 count

-- the bytes are the start of a file whose header has so many bytes and is not too long
abbrev pub IsStart : List ℕ → ℕ → Type 0
IsStart bytes count = (bytes ≡ start_bytes count) × (count ≤ most_header)

abbrev pub IsNoStart : List ℕ → Type 0
IsNoStart bytes = (count : ℕ) → ¬ IsStart bytes count

-- the bytes begin with this start, and have as many bytes behind it as the header needs
pub record Starts (all : List ℕ) (count : ℕ) : Type 0 where
  pub is_start : IsStart (take 12 all) count
  pub room : 12 + count ≤ length all

-- the bytes are no part file
abbrev pub IsNoFile : List ℕ → Type 0
IsNoFile all = (head : PartHead) → ¬ IsPartFile all head

-- what a refusal says of the bytes of a store, where they are visible
abbrev pub TellsNoFile : Option (List ℕ) → Refusal → Type 0
TellsNoFile store Failed = Unit {0}
TellsNoFile store Invalid = IfSome store IsNoFile
TellsNoFile store OutOfMemory = Unit {0}

-- the bytes begin as a file with this head does, and are that of no other head
pub record BeginsAlone (all : List ℕ) (head : PartHead) : Type 0 where
  pub front : take (length (front_bytes head)) all ≡ front_bytes head
  pub alone : (other : PartHead) → IsPartFile all other → other ≡ head
