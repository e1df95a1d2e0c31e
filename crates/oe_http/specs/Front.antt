-- The front of what a link gives, and the head in it: what stands up to and with the first CR LF CR LF.
use Rattle.std.specs.Prelude.{◌≡◌, ℕ, ◌+◌, ◌-◌, ◌<◌, ◌≤◌, ◌&&◌, ◌==◌, if◌then◌else◌, List, [], ◌∷◌, length, take, slice_index}

-- the most bytes that a head has, and the most line ends in it
abbrev pub most_head : ℕ
most_head = 16384

abbrev pub most_line_ends : ℕ
most_line_ends = 66

abbrev pub carriage_return : ℕ
carriage_return = 13

abbrev pub line_feed : ℕ
line_feed = 10

-- the front: the first 16384 bytes, or all where there are fewer
abbrev pub front : List ℕ → List ℕ
front bytes = take most_head bytes

-- CR LF CR LF are the last four of the first n bytes
pub record EndsAt (bytes : List ℕ) (n : ℕ) : Type 0 where
  pub within : n ≤ length bytes
  pub enough : 4 ≤ n
  pub first : slice_index bytes (n - 4) ≡ carriage_return
  pub second : slice_index bytes (n - 3) ≡ line_feed
  pub third : slice_index bytes (n - 2) ≡ carriage_return
  pub fourth : slice_index bytes (n - 1) ≡ line_feed

-- CR LF CR LF ends nowhere in the first n bytes
abbrev pub EndsNowhere : List ℕ → ℕ → Type 0
EndsNowhere bytes n = (k : ℕ) → k ≤ n → ¬ (EndsAt bytes k)

-- the bytes have no CR LF CR LF
abbrev pub HasNoHead : List ℕ → Type 0
HasNoHead bytes = (n : ℕ) → ¬ (EndsAt bytes n)

-- the first CR LF CR LF of the bytes ends their first n
pub record IsHeadEnd (bytes : List ℕ) (n : ℕ) : Type 0 where
  pub ends : EndsAt bytes n
  pub first : (k : ℕ) → k < n → ¬ (EndsAt bytes k)

-- the head of the bytes: their front up to and with its first CR LF CR LF
pub record IsHeadOf (bytes text : List ℕ) : Type 0 where
  pub end : ℕ
  pub ends : IsHeadEnd (front bytes) end
  pub is : text ≡ take end (front bytes)

-- the bytes have no head
abbrev pub IsHeadless : List ℕ → Type 0
IsHeadless bytes = HasNoHead (front bytes)

-- how often LF follows CR in the bytes, which stand behind this byte
abbrev pub line_ends_behind : ℕ → List ℕ → ℕ
line_ends_behind byte [] = 0
line_ends_behind byte (next ∷ rest) =
    (if byte == carriage_return && next == line_feed then 1 else 0) + line_ends_behind next rest

-- how often CR LF stands in the bytes
abbrev pub line_ends : List ℕ → ℕ
line_ends bytes = line_ends_behind 0 bytes
