-- The words that spell what a run is planned with.
use Rattle.std.specs.Prelude.{List, decimal, ℕ, ◌≡◌, ◌≤◌}
use Rattle.oe_window.specs.declared.grid.ChunkSize.{ChunkSize}

-- a number from low to high, spelled in decimal with no sign and no leading zero
pub record IsNumberWord (low high : ℕ) (word : List ℕ) (number : ℕ) : Type 0 where
  pub above : low ≤ number
  pub below : number ≤ high
  pub spelled : word ≡ decimal number

-- three words that spell the sides of a chunk along x, y and t, each from 1 to 4096
pub record AreSides (cx cy ct : List ℕ) (size : ChunkSize) : Type 0 where
  pub x : IsNumberWord 1 4096 cx size.x
  pub y : IsNumberWord 1 4096 cy size.y
  pub t : IsNumberWord 1 4096 ct size.t
