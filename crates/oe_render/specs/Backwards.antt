-- Texts that are written into a buffer from its end towards its front.
use Rattle.std.specs.Prelude.{◌≡◌, ℕ, ◌+◌, List, ◌++◌, length, drop}

-- the text stands in the buffer from a start up to an end, and what stood behind the end stands there still
pub record EndsAt (end : ℕ) (text before : List ℕ) (start : ℕ) (after : List ℕ) : Type 0 where
  pub reaches : start + length text ≡ end
  pub bytes : drop start after ≡ text ++ drop end before
