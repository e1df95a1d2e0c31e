-- How a cube file begins, and what it means that a store is refused.
use Rattle.std.specs.Prelude.{◌≡◌, ℕ, ◌+◌, ◌≤◌, List, [], ◌++◌, length, take, Option, Some, None, IfSome}
use Rattle.std.specs.Int.{w32, to_be_bytes}
use Rattle.oe_sources.specs.CubeFile.{IsCubeFile}
use Rattle.oe_sources.specs.Head.{Head, front_bytes, magic, most_header}
use Rattle.oe_sources.specs.declared.file_source.Refusal.{Refusal}
use Rattle.oe_sources.specs.declared.file_source.Refusal.TheVariants.{Failed, Invalid, OutOfMemory}
use Rattle.oe_sources.specs.declared.head.Version.{Version}
use Rattle.oe_sources.specs.declared.head.Version.TheVariants.{First, Second}

-- the 8 bytes of a version
abbrev pub version_magic : Version → List ℕ
version_magic First = magic None
version_magic Second = magic (Some [])

-- what stands before a header of so many bytes: the version, and the length as 4 bytes, the highest first
abbrev pub start_bytes : Version → ℕ → List ℕ
start_bytes version count = version_magic version ++ to_be_bytes w32 count

-- the bytes are the start of a file of this version, whose header has so many bytes and is not too long
abbrev pub IsStart : List ℕ → Version × ℕ → Type 0
IsStart bytes start = (bytes ≡ start_bytes start.0 start.1) × (start.1 ≤ most_header)

abbrev pub IsNoStart : List ℕ → Type 0
IsNoStart bytes = (start : Version × ℕ) → ¬ IsStart bytes start

-- the bytes begin with this start, and have as many bytes behind it as the header needs
pub record Starts (all : List ℕ) (start : Version × ℕ) : Type 0 where
  pub is_start : IsStart (take 12 all) start
  pub room : 12 + start.1 ≤ length all

-- the bytes are no cube file
abbrev pub IsNoFile : List ℕ → Type 0
IsNoFile all = (head : Head) → ¬ IsCubeFile all head

-- what a refusal says of the bytes of a store, where they are visible
abbrev pub TellsNoFile : Option (List ℕ) → Refusal → Type 0
TellsNoFile store Failed = Unit {0}
TellsNoFile store Invalid = IfSome store IsNoFile
TellsNoFile store OutOfMemory = Unit {0}

-- the bytes begin as a file with this head does, and are that of no other head
pub record BeginsAlone (all : List ℕ) (head : Head) : Type 0 where
  pub front : take (length (front_bytes head)) all ≡ front_bytes head
  pub alone : (other : Head) → IsCubeFile all other → other ≡ head
