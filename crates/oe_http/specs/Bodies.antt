-- The body of a message, which stands behind its head.
use Rattle.std.specs.Prelude.{ℕ, List, take, drop, length}

-- the first n bytes behind the head
abbrev pub body_of : List ℕ → List ℕ → ℕ → List ℕ
body_of bytes head n = take n (drop (length head) bytes)
