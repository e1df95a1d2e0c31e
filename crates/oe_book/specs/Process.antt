-- The text of a process, as a valid book holds it, of a JSON value.
use Rattle.std.specs.Prelude.{◌≡◌, ◌<◌, ◌≤◌, ℕ, List, length, true, false, ⊤}
use Rattle.serde_json.specs.Data.{Data}
use Rattle.serde_json.specs.Written.{compact_text, has_float}
use Rattle.oe_jobs.specs.Valid.{most_process}
use Rattle.oe_book.specs.declared.process.ProcessRefusal.{ProcessRefusal}
use Rattle.oe_book.specs.declared.process.ProcessRefusal.TheVariants as refusal

-- the text is the compact one of the value, whose numbers are all whole, and is not too long
pub record IsTextOf (d : Data) (text : List ℕ) : Type 0 where
  pub compact : text ≡ compact_text d
  pub whole : has_float d ≡ false
  pub short : length text ≤ most_process

-- why a value has no such text: a number in it is not whole, or the text is too long; out of memory has no cause
abbrev pub IsTextRefusal : Data → ProcessRefusal → Type 0
IsTextRefusal d refusal.NumberUnsupported = has_float d ≡ true
IsTextRefusal d refusal.ProcessTooLong = (has_float d ≡ false) × (most_process < length (compact_text d))
IsTextRefusal d refusal.OutOfMemory = ⊤
