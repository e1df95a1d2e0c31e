-- Buffers as the code has them, and one of them beside the others.
use Rattle.std.specs.Prelude.{◌≡◌, ◌-◌, ◌<◌, ℕ, nat_lt, if◌then◌else◌, List, [], length, map, slice_index_or, Vec}
use Rattle.std.specs.declared.alloc.Global.{Global}
use Rattle.oe_cell.specs.declared.cell.Cell.{Cell}

-- the cells of each buffer
abbrev pub lists_of : List (Vec Cell Global) → List (List Cell)
lists_of buffers = map (λ (buffer : Vec Cell Global). buffer.items) buffers

-- the buffer of a slot, without cells where there is no such slot
abbrev pub buffer_at : List (List Cell) → ℕ → List Cell
buffer_at buffers slot = slice_index_or buffers slot []

-- so many buffers of so many cells each
pub record AreOfSize (buffers : List (List Cell)) (count cells : ℕ) : Type 0 where
  pub as_many : length buffers ≡ count
  pub each : (slot : ℕ) → slot < count → length (buffer_at buffers slot) ≡ cells

-- that of a slot, where one buffer is taken out between those before it and those after it
abbrev pub buffer_beside : List (List Cell) → List (List Cell) → ℕ → List Cell
buffer_beside before after slot =
    if nat_lt slot (length before) then buffer_at before slot
    else buffer_at after (slot - length before - 1)
